-- A drill without faults, step by step: what its states keep, and what each reading answers.
use Rattle.std.proofs.Common.{◌≡◌, ◌≢◌, ◌<◌, ◌≤◌, ◌+◌, ◌*◌, ◌/◌, ◌%◌, ◌++◌, ◌==◌, ℕ, zero, suc, Bool, true, false, cond, List, [], ◌∷◌, length, refl, sym, ◌∙◌, ap, subst, inl, inr, arith}
use Rattle.std.specs.Prelude.{All, IsNone, IsSomeAnd, Option, Some, None, Result, Ok, Err, count_by, map, replicate, slice_set}
use Rattle.std.specs.List.{list_any, range_with_len}
use Rattle.std.proofs.lemmas.Bool.Decides.{nat_tests}
use Rattle.std.proofs.lemmas.List.Sums.{sum_by-cons}
use Rattle.std.proofs.lemmas.Bool.{cases_lt, eq-eqb, le-ltb, lt-ltb, false≢true}
use Rattle.dg_model.specs.Causes.{NoneRose}
use Rattle.dg_model.specs.Changes.{IsCramped, IsInOrder, IsLeastLostIn, Stays}
use Rattle.dg_model.specs.Homes.{home_of}
use Rattle.dg_model.specs.Lives.{all_live, place_in}
use Rattle.dg_model.specs.Marks.{is_marked}
use Rattle.dg_model.specs.Members.{MembersFall, is_lost}
use Rattle.dg_model.specs.Moves.{count_upto}
use Rattle.dg_model.specs.Runs.{Run, Trace}
use Rattle.dg_model.specs.Shapes.{IsShape}
use Rattle.dg_model.specs.States.{Counts, IsBlank, State, is_cut, place_of}
use Rattle.dg_model.specs.Steps.{Step, member_of}
use Rattle.dg_model.specs.Tables.{IsTable, Table}
use Rattle.dg_model.specs.Valid.{IsUncut}
use Rattle.dg_model.specs.Lists.{AreLines}
use Rattle.dg_model.specs.declared.events.Event.{Event}
use Rattle.dg_model.specs.declared.events.Event.TheVariants.{Array, Cat, Fail, Settle, Write}
use Rattle.dg_model.specs.declared.homes.Home.{Home}
use Rattle.dg_model.specs.declared.members.MemberState.{MemberState}
use Rattle.dg_model.specs.declared.members.MemberState.TheVariants.{Good, Out}
use Rattle.dg_model.specs.declared.phases.Phase.TheVariants.{Settled as SettledPhase}
use Rattle.dg_model.specs.declared.replies.Reply.{Reply}
use Rattle.dg_model.specs.declared.replies.Reply.TheVariants.{Already, Cut, Degraded, Done, Given, Lost, Malformed, NoSpace, Range, Refused, Settled, Unavailable}
use Rattle.dg_model.specs.declared.shapes.Shape.{Shape}
use Rattle.dg_model.specs.declared.wants.NoRoom.{NoRoom}
use Rattle.dg_model.proofs.LineLaws.{none_marked, none_unmarked, place_whole}
use Rattle.dg_model.proofs.MemberLaws.{none_back, none_front}
use Rattle.dg_model.proofs.RunLaws.{run_more, run_none, trace_more}
use Rattle.dg_model.proofs.StepLaws.{StayInUse, StaysInUse, run_keeps, step_keeps}
use Rattle.dg_promise.specs.Promises.{AreTold, FewLost, GivesAll, IsAsPromised, LosesNone, Survives, bytes_at, file_at}
use Rattle.dg_promise.specs.Steady.{FitsBlock, IsSteady}
use Rattle.ufs_model.specs.Malformations.{IsMalformed, IsSoundVolume}
use Rattle.ufs_model.specs.Paths.{cat_of}
use Rattle.ufs_model.specs.Trees.{file_of}
use Rattle.ufs_model.specs.declared.reads.PathRefusal.{PathRefusal}
use Rattle.dg_drill.proofs.HomeSteps.{home_within}
use Rattle.dg_drill.proofs.MemberSteps.{AreWhole, Do, do_stay, do_struck, first_good, good_member, good_whole, half_member, half_whole, is_lost_here, lost_member, lost_whole, none_lost, one_lost, second_good, stands_there}
use Rattle.ufs_drill.specs.Items.{file_path}
use Rattle.dg_drill.specs.Drills.{later_events, loss_events, read_event}
use Rattle.dg_drill.specs.Losses.{AreGiven, is_at, lost_homes, stands_at}
use Rattle.dg_drill.specs.Volumes.{drill_shape}
use Rattle.dg_drill.specs.Reports.{boundary_of, is_unavailable, unavailable_count}

-- ---- what steps leave

-- members only fell, the boundaries in use are those that they were, no block became cut, and where there was no copy there is none
record Advances (old new : State) : Type 0 where
  boundaries : new.boundaries ≡ old.boundaries
  live : new.live ≡ old.live
  cut : (n : ℕ) → old.cut ≡ replicate n false → new.cut ≡ replicate n false
  members : MembersFall old.counts.faults new.counts.faults old.members new.members
  copies : old.copies ≡ [] → new.copies ≡ []

advance_same : (old new : State) → new ≡ old → Advances old new
advance_same old new e = record {
  boundaries = ap (λ (s : State). s.boundaries) e;
  live = ap (λ (s : State). s.live) e;
  cut = λ n none. ap (λ (s : State). s.cut) e ∙ none;
  members = λ q. inl (ap (λ (s : State). s.members q) e);
  copies = λ none. ap (λ (s : State). s.copies) e ∙ none;
}

advance_stays : (old new : State) → Stays old new → Advances old new
advance_stays old new h = record {
  boundaries = ap (λ (s : State). s.boundaries) h.rest;
  live = ap (λ (s : State). s.live) h.rest;
  cut = λ n none. ap (λ (s : State). s.cut) h.rest ∙ none;
  members = h.goes.members;
  copies = λ none. ap (λ (s : State). s.copies) h.rest ∙ none;
}

write_advances : (old new : State) (b : ℕ) (bytes : List ℕ) (reply : Reply) → Step AreTold old (Write b bytes) reply new → Advances old new
write_advances old new b bytes Range h = advance_same old new h.1
write_advances old new b bytes Degraded h = elim h.1 [ inl was ↦ advance_same old new was.1 | inr now ↦ advance_stays old new now.3 ]
write_advances old new b bytes Done h = record {
  boundaries = ap (λ (s : State). s.boundaries) h.2.rest;
  live = ap (λ (s : State). s.live) h.2.rest;
  cut = λ n none. ap (λ (s : State). s.cut) h.2.rest ∙ ap (λ (l : List Bool). slice_set l b false) none ∙ none_unmarked n b;
  members = h.2.goes.members;
  copies = λ none. ap (λ (s : State). s.copies) h.2.rest;
}
write_advances old new b bytes reply h = absurd h

-- what a reading leaves: where files stand, too
record ReadsOn (old new : State) : Type 0 where
  on : Advances old new
  table : new.table ≡ old.table
  blocks : new.blocks ≡ old.blocks
  homes : new.homes ≡ old.homes
  copies : new.copies ≡ old.copies
  phase : new.phase ≡ old.phase

reads_stays : (old new : State) → Stays old new → ReadsOn old new
reads_stays old new h = record {
  on = advance_stays old new h;
  table = ap (λ (s : State). s.table) h.rest;
  blocks = ap (λ (s : State). s.blocks) h.rest;
  homes = ap (λ (s : State). s.homes) h.rest;
  copies = ap (λ (s : State). s.copies) h.rest;
  phase = ap (λ (s : State). s.phase) h.rest;
}

cat_reads : (old new : State) (path : List ℕ) (reply : Reply) → Step AreTold old (Cat path) reply new → ReadsOn old new
cat_reads old new path (Given lines) h = record {
  on = record {
    boundaries = ap (λ (s : State). s.boundaries) h.2.rest;
    live = ap (λ (s : State). s.live) h.2.rest;
    cut = λ n none. ap (λ (s : State). s.cut) h.2.rest ∙ none;
    members = h.2.goes.members;
    copies = λ none. ap (λ (s : State). s.copies) h.2.rest ∙ none;
  };
  table = ap (λ (s : State). s.table) h.2.rest;
  blocks = ap (λ (s : State). s.blocks) h.2.rest;
  homes = ap (λ (s : State). s.homes) h.2.rest;
  copies = ap (λ (s : State). s.copies) h.2.rest;
  phase = ap (λ (s : State). s.phase) h.2.rest;
}
cat_reads old new path (Refused refusal) h = reads_stays old new h.1
cat_reads old new path Unavailable h = reads_stays old new h.1
cat_reads old new path (Cut lines) h = reads_stays old new h.3
cat_reads old new path reply h = absurd h

-- so it leaves the blocks
pub cat_blocks : (old new : State) (path : List ℕ) (reply : Reply) → Step AreTold old (Cat path) reply new → new.blocks ≡ old.blocks
cat_blocks old new path reply step = (cat_reads old new path reply step).blocks

-- a settle that was done
record SettlesOn (old new : State) : Type 0 where
  on : Advances old new
  phase : new.phase ≡ SettledPhase

settles_on : (old new : State) → Step AreTold old Settle Settled new → SettlesOn old new
settles_on old new h = elim h.1 [
  | inl was ↦ record { on = advance_same old new was.1; phase = ap (λ (s : State). s.phase) was.1 ∙ was.0 }
  | inr now ↦ record {
    on = record {
      boundaries = ap (λ (s : State). s.boundaries) now.2.rest;
      live = ap (λ (s : State). s.live) now.2.rest;
      cut = λ n none. ap (λ (s : State). s.cut) now.2.rest ∙ none;
      members = now.2.goes.members;
      copies = λ none. ap (λ (s : State). s.copies) now.2.rest ∙ none;
    };
    phase = ap (λ (s : State). s.phase) now.2.rest;
  }
]

-- ---- what its states keep

-- the state is steady, of the drill's array, with all boundaries in use, no cut block and no copies, and its members do this
pub record IsFine (should : ℕ → MemberState) (state : State) : Type 0 where
  pub steady : IsSteady state
  pub shape : state.table.shape ≡ drill_shape
  pub boundaries : state.boundaries ≡ 4
  pub live : state.live ≡ all_live 4
  pub cut : state.cut ≡ replicate 32768 false
  pub copies : state.copies ≡ []
  pub members : Do state.members should

-- writes take no boundary out of use
writes_in_use : (bytes : ℕ → List ℕ) (blocks : List ℕ) (replies : List Reply) → StayInUse (map (λ b. Write b (bytes b)) blocks) replies
writes_in_use bytes [] replies = tt
writes_in_use bytes (b ∷ blocks) [] = tt
writes_in_use bytes (b ∷ blocks) (reply ∷ replies) = (tt, writes_in_use bytes blocks replies)

-- nor do readings
reads_in_use : (k n : ℕ) (replies : List Reply) → StayInUse (map read_event (range_with_len k n)) replies
reads_in_use k zero replies = tt
reads_in_use k (suc n) [] = tt
reads_in_use k (suc n) (reply ∷ replies) = (tt, reads_in_use (k + 1) n replies)

-- nor do losses and readings
pub ends_in_use : (seed files : ℕ) (replies : List Reply) → StayInUse (loss_events seed ++ map read_event (range_with_len 0 files)) replies
ends_in_use seed files [] = tt
ends_in_use seed files (one ∷ []) = (tt, tt)
ends_in_use seed files (one ∷ other ∷ replies) = (tt, (tt, reads_in_use 0 files replies))

-- a member has the place that its boundary's number says
member_here : (s j : ℕ) (state : State) → s < 4 → state.live ≡ all_live 4 → member_of state s j ≡ 2 * s + j
member_here s j state low live = ap (λ (p : ℕ). 2 * p + j) (ap (λ (l : List ℕ). place_in l s) live ∙ place_whole 4 s low)

-- no block that is needed was cut
none_cut : (state : State) (needs : List ℕ) (n : ℕ) → state.cut ≡ replicate n false → list_any (is_cut state) needs ≡ false
none_cut state [] n none = refl
none_cut state (b ∷ needs) n none =
    let here : is_cut state b ≡ false = ap (λ (l : List Bool). is_marked l b) none ∙ none_marked n b in
    rw here (none_cut state needs n none)

-- by the laws of single steps
module _ (kept : (old : State) (event : Event) (reply : Reply) (new : State) → FitsBlock old.table.shape.l event → IsSteady old → Step AreTold old event reply new → IsSteady new) where
  step_fine : (should : ℕ → MemberState) (old : State) (event : Event) (reply : Reply) (new : State) → FitsBlock 1024 event → AreWhole should → Advances old new → IsFine should old
      → NoneRose old.counts.faults new.counts.faults → StaysInUse event reply → Step AreTold old event reply new → IsFine should new
  step_fine should old event reply new fits whole on fine none in_use step =
      let l : old.table.shape.l ≡ 1024 = ap (λ (s : Shape). s.l) fine.shape in
      record {
        steady = kept old event reply new (subst (λ (n : ℕ). FitsBlock n event) (sym l) fits) fine.steady step;
        shape = (step_keeps AreTold old event reply new in_use step).table.shape ∙ fine.shape;
        boundaries = on.boundaries ∙ fine.boundaries;
        live = on.live ∙ fine.live;
        cut = on.cut 32768 fine.cut;
        copies = on.copies fine.copies;
        members = do_stay old.counts.faults new.counts.faults old.members new.members should none whole fine.members on.members;
      }

  writes_fine : (bytes : ℕ → List ℕ) (blocks : List ℕ) (old final : State) (replies : List Reply) → ((b : ℕ) → length (bytes b) ≤ 1024) → IsFine good_member old
      → NoneRose old.counts.faults final.counts.faults → Run AreTold old (map (λ b. Write b (bytes b)) blocks) replies final → IsFine good_member final
  writes_fine bytes [] old final replies short fine none run = subst (λ (s : State). IsFine good_member s) (sym (run_none AreTold old final replies run).1) fine
  writes_fine bytes (b ∷ blocks) old final replies short fine none run =
      let first = run_more AreTold old (Write b (bytes b)) (map (λ b. Write b (bytes b)) blocks) replies final run in
      let rises = (step_keeps AreTold old (Write b (bytes b)) first.reply first.mid tt first.step).counts.faults in
      let later = (run_keeps AreTold first.mid (map (λ b. Write b (bytes b)) blocks) first.rest final (writes_in_use bytes blocks first.rest) first.run).counts.faults in
      let here = none_front old.counts.faults first.mid.counts.faults final.counts.faults later none in
      let there = none_back old.counts.faults first.mid.counts.faults final.counts.faults rises none in
      let fits : FitsBlock 1024 (Write b (bytes b)) = λ c other e. subst (λ (x : List ℕ). length x ≤ 1024) (let same : bytes b ≡ other = cc e in same) (short b) in
      writes_fine bytes blocks first.mid final first.rest short
      (step_fine good_member old (Write b (bytes b)) first.reply first.mid fits good_whole (write_advances old first.mid b (bytes b) first.reply first.step) fine here tt first.step)
      there first.run

  -- one member fails
  fail_fine : (q s j : ℕ) (should : ℕ → MemberState) (old : State) (reply : Reply) (new : State) → q ≡ 2 * s + j → s < 4 → j < 2 → should q ≡ Good → AreWhole should → IsFine should old
      → old.phase ≡ SettledPhase → Step AreTold old (Fail s j) reply new → IsFine (λ p. cond (p == q) Out (should p)) new × (new.phase ≡ SettledPhase)
  fail_fine q s j should old Range new at low side good whole fine settled h =
      absurd (h.0 (record { boundary = subst (λ (n : ℕ). s < n) (sym fine.boundaries) low; side = side }))
  fail_fine q s j should old Already new at low side good whole fine settled h =
      absurd (was_out (sym good ∙ sym (fine.members q) ∙ ap old.members (at ∙ sym (member_here s j old low fine.live)) ∙ h.1))
    where
      was_out : Good ≡ Out → ⊥
      was_out e = cc e
  fail_fine q s j should old Done new at low side good whole fine settled h =
      let fits : FitsBlock old.table.shape.l (Fail s j) = λ b bytes e. absurd (cc e) in (
        record {
          steady = kept old (Fail s j) Done new fits fine.steady h;
          shape = ap (λ (s : State). s.table.shape) h.2.rest ∙ fine.shape;
          boundaries = ap (λ (s : State). s.boundaries) h.2.rest ∙ fine.boundaries;
          live = ap (λ (s : State). s.live) h.2.rest ∙ fine.live;
          cut = ap (λ (s : State). s.cut) h.2.rest ∙ fine.cut;
          copies = ap (λ (s : State). s.copies) h.2.rest ∙ fine.copies;
          members = subst (λ (n : ℕ). Do new.members (λ p. cond (p == n) Out (should p))) (member_here s j old low fine.live ∙ sym at)
              (do_struck (member_of old s j) old.members new.members should whole fine.members h.2.members);
        },
        ap (λ (s : State). s.phase) h.2.rest ∙ settled,
      )
  fail_fine q s j should old reply new at low side good whole fine settled h = absurd h

-- ---- the losses

-- the phase is settled, and both members of boundary s are out
record IsSpoilt (s : ℕ) (state : State) : Type 0 where
  fine : IsFine (lost_member s) state
  settled : state.phase ≡ SettledPhase

abbrev few_lost : (s : ℕ) (state : State) → s < 4 → IsSpoilt s state → FewLost state
few_lost s state low is =
    subst (λ (x : Shape). count_upto x.b (is_lost state.members) < x.m) (sym is.fine.shape) (one_lost state.members s low is.fine.members)

-- where files stand, in two states
record IsAlike (old new : State) : Type 0 where
  table : new.table ≡ old.table
  blocks : new.blocks ≡ old.blocks
  homes : new.homes ≡ old.homes

-- ---- one reading

-- the home of a file of a spoilt state
home_low : (s : ℕ) (state : State) (i h : ℕ) → IsSpoilt s state → home_of state.homes i ≡ Some h → h < 4
home_low s state i h is home =
    let order = is.fine.steady.settled is.settled in
    let low = home_within order.wants state.table state.homes state.copies i h is.fine.steady.sites order.placed home in
    subst (λ (x : Shape). h < x.b) is.fine.shape low

no_copy : (copies : List Home) (i : ℕ) (P : ℕ → Type 0) → copies ≡ [] → IsSomeAnd (home_of copies i) P → ⊥
no_copy [] i P is h = absurd h
no_copy (home ∷ homes) i P is h = absurd (cc is)

-- a file whose home is the lost boundary doesn't survive
gone_file : (s : ℕ) (state : State) (i : ℕ) → IsSpoilt s state → home_of state.homes i ≡ Some s → Survives state i → ⊥
gone_file s state i is home (inl none) = absurd (let e : IsNone (Some s) = subst (λ (o : Option ℕ). IsNone o) home none in cc e)
gone_file s state i is home (inr (inl stands)) =
    let lost = is_lost_here state.members s is.fine.members in
    let on : is_lost state.members s ≡ false = subst (λ (o : Option ℕ). IsSomeAnd o (λ t. is_lost state.members t ≡ false)) home stands in
    false≢true (sym on ∙ lost)
gone_file s state i is home (inr (inr copy)) = no_copy state.copies i (λ t. is_lost state.members t ≡ false) is.fine.copies copy

-- each other one does
kept_file : (s : ℕ) (state : State) (i : ℕ) → IsSpoilt s state → is_at s (home_of state.homes i) ≡ false → Survives state i
kept_file s state i is apart = by_home (home_of state.homes i) refl apart
  where
    by_home : (home : Option ℕ) → home_of state.homes i ≡ home → is_at s home ≡ false → Survives state i
    by_home None e none = inl (subst (λ (o : Option ℕ). IsNone o) (sym e) refl)
    by_home (Some h) e other =
        let differs : h ≢ s = λ (same : h ≡ s). false≢true (sym other ∙ eq-eqb h s same) in
        let stands = stands_there state.members s h is.fine.members (home_low s state i h is e) differs in
        inr (inl (subst (λ (o : Option ℕ). IsSomeAnd o (λ t. is_lost state.members t ≡ false)) (sym e) stands))

-- no block was cut that a file needs
uncut : (s : ℕ) (state : State) (path : List ℕ) → IsSpoilt s state → IsUncut state path
uncut s state path is = none_cut state _ 32768 is.fine.cut

-- a reading whose reply is the promised one is unavailable just where the file's home is lost
unavailable_is : (s : ℕ) (state : State) (path : List ℕ) (reply : Reply) → IsSpoilt s state → IsAsPromised state path reply
    → is_unavailable reply ≡ stands_at state s (file_at state path)
unavailable_is s state path reply is promised = by_file (file_at state path) refl
  where
    by_home : (i : ℕ) → file_at state path ≡ Ok i → (at : Bool) → is_at s (home_of state.homes i) ≡ at → is_unavailable reply ≡ at
    by_home i e true at = ap is_unavailable ((promised.unavailable i e).0 (λ served. gone_file s state i is (at_home (home_of state.homes i) at) served.0))
      where
        at_home : (home : Option ℕ) → is_at s home ≡ true → home ≡ Some s
        at_home None at = absurd (false≢true at)
        at_home (Some h) at = ap Some (let same : h ≡ s = grind (arith, nat_tests, at) in same)
    by_home i e false at = ap is_unavailable ((promised.given i e).0 (kept_file s state i is at, uncut s state path is)).reply_is

    by_file : (file : Result ℕ PathRefusal) → file_at state path ≡ file → is_unavailable reply ≡ stands_at state s file
    by_file (Ok i) e = by_home i e (is_at s (home_of state.homes i)) refl
    by_file (Err refusal) e = ap is_unavailable (promised.refused refusal e (uncut s state path is)).reply_is

-- ---- all readings

alike_same : (old new : State) → new ≡ old → IsAlike old new
alike_same old new e = record {
  table = ap (λ (s : State). s.table) e;
  blocks = ap (λ (s : State). s.blocks) e;
  homes = ap (λ (s : State). s.homes) e;
}

alike_both : (old mid new : State) → IsAlike old mid → IsAlike mid new → IsAlike old new
alike_both old mid new one other = record { table = other.table ∙ one.table; blocks = other.blocks ∙ one.blocks; homes = other.homes ∙ one.homes }

file_alike : (old new : State) (path : List ℕ) → IsAlike old new → file_at new path ≡ file_at old path
file_alike old new path a =
    ap (λ (t : Table). (file_of t.shape.l t.shape.n path new.blocks).value) a.table
    ∙ ap (λ (v : List (List ℕ)). (file_of old.table.shape.l old.table.shape.n path v).value) a.blocks

bytes_alike : (old new : State) (path : List ℕ) → IsAlike old new → bytes_at new path ≡ bytes_at old path
bytes_alike old new path a =
    ap (λ (t : Table). (cat_of t.shape.l t.shape.n path new.blocks).value) a.table
    ∙ ap (λ (v : List (List ℕ)). (cat_of old.table.shape.l old.table.shape.n path v).value) a.blocks

stands_alike : (s : ℕ) (old new : State) (path : List ℕ) → IsAlike old new → stands_at new s (file_at new path) ≡ stands_at old s (file_at old path)
stands_alike s old new path a = ap (stands_at new s) (file_alike old new path a) ∙ by_file (file_at old path)
  where
    by_file : (file : Result ℕ PathRefusal) → stands_at new s file ≡ stands_at old s file
    by_file (Ok i) = ap (λ (homes : List Home). is_at s (home_of homes i)) a.homes
    by_file (Err refusal) = refl

gives_alike : (old new : State) (path : List ℕ) (reply : Reply) → IsAlike old new → GivesAll old path reply → GivesAll new path reply
gives_alike old new path reply a h = record {
  lines = h.lines;
  reply_is = h.reply_is;
  are_lines = subst (λ (t : Table). AreLines t.shape.l h.lines) (sym a.table) h.are_lines;
  bytes = bytes_alike old new path a ∙ h.bytes;
}

-- what the readings of the files from number k on answered, told of the last state
record AreRead (s k n : ℕ) (replies : List Reply) (old final : State) : Type 0 where
  alike : IsAlike old final
  count : unavailable_count replies ≡ count_by (λ j. stands_at final s (file_at final (file_path j))) (range_with_len k n)
  given : AreGiven s final k replies

abbrev KeepSteady : Type 0
KeepSteady = (old : State) (event : Event) (reply : Reply) (new : State) → FitsBlock old.table.shape.l event → IsSteady old → Step AreTold old event reply new → IsSteady new

abbrev KeepPromise : Type 0
KeepPromise = (old : State) (path : List ℕ) (reply : Reply) (new : State) → IsTable old.table
    → All (λ block. length block ≡ old.table.shape.l) old.blocks → IsInOrder AreTold old → FewLost old → LosesNone old new
    → Step AreTold old (Cat path) reply new → IsAsPromised old path reply

abbrev LoseNone : Type 0
LoseNone = (old : State) (path : List ℕ) (reply : Reply) (new : State) → Step AreTold old (Cat path) reply new
    → NoneRose old.counts.faults new.counts.faults → LosesNone old new

module _ (kept : KeepSteady) (promise : KeepPromise) (stands : LoseNone) where
  read_spoilt : (s : ℕ) (old : State) (path : List ℕ) (reply : Reply) (new : State) → IsSpoilt s old → NoneRose old.counts.faults new.counts.faults
      → Step AreTold old (Cat path) reply new → IsSpoilt s new
  read_spoilt s old path reply new is none step =
      let on = cat_reads old new path reply step in
      let fits : FitsBlock 1024 (Cat path) = λ b bytes e. absurd (cc e) in
      record {
        fine = step_fine kept (lost_member s) old (Cat path) reply new fits (lost_whole s) on.on is.fine none tt step;
        settled = on.phase ∙ is.settled;
      }

  read_promise : (s : ℕ) (old : State) (path : List ℕ) (reply : Reply) (new : State) → s < 4 → IsSpoilt s old → NoneRose old.counts.faults new.counts.faults
      → Step AreTold old (Cat path) reply new → IsAsPromised old path reply
  read_promise s old path reply new low is none step =
      promise old path reply new is.fine.steady.sites is.fine.steady.size (is.fine.steady.settled is.settled) (few_lost s old low is) (stands old path reply new step none) step

  all_read : (s k n : ℕ) (old final : State) (replies : List Reply) → s < 4 → IsSpoilt s old → NoneRose old.counts.faults final.counts.faults
      → Run AreTold old (map read_event (range_with_len k n)) replies final → AreRead s k n replies old final
  all_read s k zero old final replies low is none run =
      let end = run_none AreTold old final replies run in
      record {
        alike = alike_same old final end.1;
        count = ap unavailable_count end.0;
        given = subst (λ (l : List Reply). AreGiven s final k l) (sym end.0) tt;
      }
  all_read s k (suc n) old final replies low is none run =
      let path = file_path k in
      let first = run_more AreTold old (read_event k) (map read_event (range_with_len (k + 1) n)) replies final run in
      let on = cat_reads old first.mid path first.reply first.step in
      let rises = (step_keeps AreTold old (read_event k) first.reply first.mid tt first.step).counts.faults in
      let later = (run_keeps AreTold first.mid (map read_event (range_with_len (k + 1) n)) first.rest final (reads_in_use (k + 1) n first.rest) first.run).counts.faults in
      let here = none_front old.counts.faults first.mid.counts.faults final.counts.faults later none in
      let there = none_back old.counts.faults first.mid.counts.faults final.counts.faults rises none in
      let promised = read_promise s old path first.reply first.mid low is here first.step in
      let rest = all_read s (k + 1) n first.mid final first.rest low (read_spoilt s old path first.reply first.mid is here first.step) there first.run in
      let alike = alike_both old first.mid final (record { table = on.table; blocks = on.blocks; homes = on.homes }) rest.alike in
      let head : is_unavailable first.reply ≡ stands_at final s (file_at final path) = unavailable_is s old path first.reply is promised ∙ sym (stands_alike s old final path alike) in
      record {
        alike = alike;
        count =
            ap unavailable_count first.is
            ∙ ap (λ (b : Bool). cond b 1 0 + unavailable_count first.rest) head
            ∙ ap (λ (m : ℕ). cond (stands_at final s (file_at final path)) 1 0 + m) rest.count
            ∙ sym (sum_by-cons (λ (j : ℕ). cond (stands_at final s (file_at final (file_path j))) 1 0) k (range_with_len (k + 1) n));
        given = subst (λ (l : List Reply). AreGiven s final k l) (sym first.is) (
          (λ i leads apart.
              let was : file_at old path ≡ Ok i = sym (file_alike old final path alike) ∙ leads in
              let home : is_at s (home_of old.homes i) ≡ false = ap (λ (homes : List Home). is_at s (home_of homes i)) (sym alike.homes) ∙ apart in
              gives_alike old final path first.reply alike ((promised.given i was).0 (kept_file s old i is home, uncut s old path is))),
          rest.given,
        );
      }

-- ---- the whole drill

-- the state in which all is written: no count rose by then, nor does one later
pub record AtWritten (before : Counts) (written final : State) : Type 0 where
  pub fine : IsFine good_member written
  pub none : NoneRose before.faults written.counts.faults
  pub later : NoneRose written.counts.faults final.counts.faults
  pub shape : final.table.shape ≡ drill_shape

record AreTwo (losses : List Reply) : Type 0 where
  first : Reply
  second : Reply
  are : losses ≡ first ∷ second ∷ []

two_of : (losses : List Reply) → length losses ≡ 2 → AreTwo losses
two_of [] e = absurd (omega (arith, e))
two_of (x ∷ []) e = absurd (omega (arith, e))
two_of (x ∷ y ∷ []) e = record { first = x; second = y; are = refl }
two_of (x ∷ y ∷ z ∷ rest) e = absurd (omega (arith, e))

shape_holds : IsShape drill_shape
shape_holds = record {
  block = inr (inl refl);
  least_blocks = omega arith;
  most_blocks = omega arith;
  least_boundaries = omega arith;
  most_boundaries = omega arith;
  least_slots = omega arith;
  most_slots = omega arith;
  room = omega arith;
  sites = omega arith;
  least_places = omega arith;
  most_places = omega arith;
}

abbrev BlankSteady : Type 0
BlankSteady = (shape : Shape) (before : Counts) (state : State) → IsShape shape → IsBlank shape before state → IsSteady state

module _ (kept : KeepSteady) (blank_steady : BlankSteady) where
  blank_fine : (before : Counts) (blank : State) → NoneRose before.faults blank.counts.faults → IsBlank drill_shape before blank → IsFine good_member blank
  blank_fine before blank none is = record {
    steady = blank_steady drill_shape before blank shape_holds is;
    shape = ap (λ (s : State). s.table.shape) is.is;
    boundaries = ap (λ (s : State). s.boundaries) is.is;
    live = ap (λ (s : State). s.live) is.is;
    cut = ap (λ (s : State). s.cut) is.is;
    copies = ap (λ (s : State). s.copies) is.is;
    members = λ q. elim (cases_lt (q / 2) 4) [
      | inl low ↦ rw (lt-ltb (q / 2) 4 low) (elim (is.members q low) [ inl good ↦ good | inr out ↦ absurd (none q out.1) ])
      | inr high ↦ rw (le-ltb (q / 2) 4 high) (is.others q high)
    ];
  }

  -- once all is written, and in the end
  pub written_fine : (before : Counts) (seed files : ℕ) (bytes : ℕ → List ℕ) (blocks : List ℕ) (writes : List Reply) (reply : Reply) (rest : List Reply) (written final : State)
      → ((b : ℕ) → length (bytes b) ≤ 1024) → Trace AreTold before (Array drill_shape ∷ map (λ b. Write b (bytes b)) blocks) writes written
      → Run AreTold written (later_events seed files) (reply ∷ rest) final → NoneRose before.faults final.counts.faults → AtWritten before written final
  written_fine before seed files bytes blocks writes reply rest written final short trace run none =
      let events = map (λ b. Write b (bytes b)) blocks in
      let first = trace_more AreTold before drill_shape events writes written trace in
      let wrote = (run_keeps AreTold first.blank events first.rest written (writes_in_use bytes blocks first.rest) first.run).counts.faults in
      let after = run_keeps AreTold written (later_events seed files) (reply ∷ rest) final (tt, ends_in_use seed files rest) run in
      let on = after.counts.faults in
      let none_written = none_front before.faults written.counts.faults final.counts.faults on none in
      let none_blank = none_front before.faults first.blank.counts.faults written.counts.faults wrote none_written in
      let begun = none_back before.faults first.blank.counts.faults written.counts.faults first.is_blank.counts.faults none_written in
      let fine = writes_fine kept bytes blocks first.blank written first.rest short (blank_fine before first.blank none_blank first.is_blank) begun first.run in
      let from_blank : (q : ℕ) → before.faults q ≤ written.counts.faults q = λ q. omega (arith, first.is_blank.counts.faults q, wrote q) in
      record {
        fine = fine;
        none = none_written;
        later = none_back before.faults written.counts.faults final.counts.faults from_blank none;
        shape = after.table.shape ∙ fine.shape;
      }

-- a settle in which no member failed finds no boundary lost
settle_keeps : (old new : State) (s : ℕ) → IsFine good_member old → NoneRose old.counts.faults new.counts.faults → Step AreTold old Settle (Lost s) new → ⊥
settle_keeps old new s fine none h =
    let act : MembersFall old.counts.faults new.counts.faults old.members new.members → Do new.members good_member =
    λ falls. do_stay old.counts.faults new.counts.faults old.members new.members good_member none good_whole fine.members falls in
    let shape = (step_keeps AreTold old Settle (Lost s) new tt h).table.shape ∙ fine.shape in
    elim h [
      | inl was ↦ lost_not old s fine.shape fine.members was.0
      | inr now ↦ elim (now.2) [
        | inl stays ↦ lost_not new s shape (act stays.goes.members) (now.0.1)
        | inr cut ↦ lost_not new s shape (act cut.1.goes.members) (now.0.1)
      ]
    ]
  where
    lost_not : (state : State) (s : ℕ) → state.table.shape ≡ drill_shape → Do state.members good_member → IsLeastLostIn state s → ⊥
    lost_not state s shape act least =
        let low : place_of state s < 4 = subst (λ (x : Shape). place_of state s < x.b) shape least.within in
        false≢true (sym (none_lost state.members (place_of state s) act low) ∙ least.lost)

-- so of a sound volume it is done, where there is room
pub settle_ends : (written settled : State) (reply : Reply) → IsFine good_member written → NoneRose written.counts.faults settled.counts.faults
    → IsSoundVolume 1024 32768 written.blocks → ((bad : NoRoom) → IsCramped AreTold written bad → ⊥) → Step AreTold written Settle reply settled → reply ≡ Settled
settle_ends written settled Settled fine none sound room h = refl
settle_ends written settled (NoSpace bad) fine none sound room h = absurd (room bad h.3)
settle_ends written settled (Lost s) fine none sound room h = absurd (settle_keeps written settled s fine none h)
settle_ends written settled (Malformed kind n) fine none sound room h =
    let least = h.2 tt in
    absurd (sound kind n (subst (λ (x : Shape). IsMalformed x.l x.n written.blocks kind n) fine.shape least.here))
settle_ends written settled reply fine none sound room h = absurd h

module _ (kept : KeepSteady) (promise : KeepPromise) (stands : LoseNone) (blank_steady : BlankSteady) where
  -- the losses and the readings
  end_read : (seed files : ℕ) (old final : State) (losses cats : List Reply) → IsFine good_member old → old.phase ≡ SettledPhase → length losses ≡ 2
      → NoneRose old.counts.faults final.counts.faults → Run AreTold old (loss_events seed ++ map read_event (range_with_len 0 files)) (losses ++ cats) final
      → (unavailable_count cats ≡ lost_homes final seed files) × AreGiven (boundary_of seed) final 0 cats
  end_read seed files old final losses cats fine settled number none run =
      let s = boundary_of seed in
      let low : seed % 4 < 4 = omega arith in
      let two = two_of losses number in
      let chain : Run AreTold old (loss_events seed ++ map read_event (range_with_len 0 files)) (two.first ∷ two.second ∷ cats) final =
      subst (λ (l : List Reply). Run AreTold old (loss_events seed ++ map read_event (range_with_len 0 files)) (l ++ cats) final) two.are run in
      let one = chain.0 in
      let both = chain.2.0 in
      let half = fail_fine kept (2 * s + 0) s 0 good_member old two.first one refl low (omega arith) (first_good s low) good_whole fine settled chain.1 in
      let spoilt = fail_fine kept (2 * s + 1) s 1 (half_member s) one two.second both refl low (omega arith) (second_good s low) (half_whole s) half.0 half.1 chain.2.1 in
      let rises = (step_keeps AreTold old (Fail s 0) two.first one tt chain.1).counts.faults in
      let more = (step_keeps AreTold one (Fail s 1) two.second both tt chain.2.1).counts.faults in
      let there = none_back one.counts.faults both.counts.faults final.counts.faults more (none_back old.counts.faults one.counts.faults final.counts.faults rises none) in
      let read = all_read kept promise stands s 0 files both final cats low (record { fine = spoilt.0; settled = spoilt.1 }) there chain.2.2 in
      (read.count, read.given)

  pub drill_read : (before : Counts) (seed files : ℕ) (bytes : ℕ → List ℕ) (blocks : List ℕ) (writes losses cats : List Reply) (written final : State)
      → ((b : ℕ) → length (bytes b) ≤ 1024) → Trace AreTold before (Array drill_shape ∷ map (λ b. Write b (bytes b)) blocks) writes written
      → Run AreTold written (later_events seed files) (Settled ∷ (losses ++ cats)) final → length losses ≡ 2 → NoneRose before.faults final.counts.faults
      → (unavailable_count cats ≡ lost_homes final seed files) × AreGiven (boundary_of seed) final 0 cats
  drill_read before seed files bytes blocks writes losses cats written final short trace run number none =
      let settled = run.0 in
      let at = written_fine kept blank_steady before seed files bytes blocks writes Settled (losses ++ cats) written final short trace run none in
      let step = run.1 in
      let more = (step_keeps AreTold written Settle Settled settled tt step).counts.faults in
      let rest = (run_keeps AreTold settled (loss_events seed ++ map read_event (range_with_len 0 files)) (losses ++ cats) final (ends_in_use seed files (losses ++ cats)) run.2).counts.faults in
      let here = none_front written.counts.faults settled.counts.faults final.counts.faults rest at.later in
      let there = none_back written.counts.faults settled.counts.faults final.counts.faults more at.later in
      let is = settles_on written settled step in
      let fits : FitsBlock 1024 Settle = λ b x e. absurd (cc e) in
      end_read seed files settled final losses cats (step_fine kept good_member written Settle Settled settled fits good_whole is.on at.fine here tt step) is.phase number there run.2
