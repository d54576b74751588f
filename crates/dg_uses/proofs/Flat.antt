-- Where no count of faults rose and no boundary was lost, the replies to writes, reads and failures are a function of them.
use Rattle.std.proofs.Common.{◌≡◌, ◌≤◌, ◌<◌, ◌+◌, ◌*◌, ◌/◌, ◌&&◌, ◌==◌, ℕ, Bool, true, false, List, [], ◌∷◌, length, refl, sym, ◌∙◌, ap, subst, arith, inl, inr}
use Rattle.std.specs.Prelude.{cond, not, nat_lt, replicate, slice_set}
use Rattle.std.proofs.lemmas.Bool.{false≢true, cases_Bool, cases_lt, cases_eq, and_left, lt-ltb, le-ltb, eq-eqb, ne_eqb, cond-true, cond-false}
use Rattle.std.proofs.lemmas.List.{length-set, length-replicate, get_or-replicate, get_or-set_same, get_or-set_other}
use Rattle.std.proofs.lemmas.List.Elements.{All-head}
use Rattle.dg_model.proofs.FirstSites.{AreBelow, IsInside, empty_inside, sited_inside}
use Rattle.dg_model.proofs.MemberLaws.{none_back, none_front, none_lost, stays_where_none, whole_from}
use Rattle.dg_model.proofs.RunLaws.{run_more, run_none, trace_more}
use Rattle.dg_model.proofs.StepLaws.{StayInUse, run_keeps, step_keeps}
use Rattle.dg_model.proofs.TrimLaws.{trimmed_written, zeros_padded}
use Rattle.dg_model.specs.Blocks.{block_in, padded, stripped, zeros}
use Rattle.dg_model.specs.Causes.{NoneRose}
use Rattle.dg_model.specs.Changes.{IsMember, LosesSites, Stays, Strikes, Writes}
use Rattle.dg_model.specs.Members.{IsStruck, MembersFall, is_filling, is_good, is_lost}
use Rattle.dg_model.specs.Runs.{Run, Trace}
use Rattle.dg_model.specs.Shapes.{IsShape}
use Rattle.dg_model.specs.Sites.{all_lost, has_site}
use Rattle.dg_model.specs.States.{Counts, IsBlank, State, has_lost, is_broken}
use Rattle.dg_model.specs.Steps.{Step, member_of}
use Rattle.dg_model.specs.Tables.{Table, sites_in}
use Rattle.dg_model.specs.declared.events.Event.{Event}
use Rattle.dg_model.specs.declared.events.Event.TheVariants.{Array, Fail, Read, Write}
use Rattle.dg_model.specs.declared.members.MemberState.{MemberState}
use Rattle.dg_model.specs.declared.members.MemberState.TheVariants.{Good, Out}
use Rattle.dg_model.specs.declared.replies.Reply.{Reply}
use Rattle.dg_model.specs.declared.replies.Reply.TheVariants.{Already, Data, Degraded, Done, Range, Unavailable}
use Rattle.dg_model.specs.declared.shapes.Shape.{Shape}
use Rattle.dg_model.specs.declared.sites.Site.{Site}
use Rattle.dg_uses.proofs.InUse.{InUse, gone_is, in_use_as, in_use_blank, in_use_stays, in_use_wrote, member_here}
use Rattle.dg_uses.specs.Answers.{StaysWhole, answers, member_by, put, struck}

-- these members are out, all boundaries are in use and none is lost, no block was cut, and these bytes were written to the blocks
pub record Fine (shape : Shape) (out : ℕ → Bool) (written : ℕ → List ℕ) (state : State) : Type 0 where
  pub within : IsInside shape state.table
  pub size : length state.blocks ≡ shape.n
  pub blocks : (b : ℕ) → b < shape.n → block_in state.blocks b ≡ padded shape.l (written b)
  pub members : (q : ℕ) → state.members q ≡ member_by shape out q
  pub in_use : InUse shape state
  pub whole : has_lost shape (member_by shape out) ≡ false

-- ---- members

never_filling : (b : Bool) → is_filling (cond b Good Out) ≡ false
never_filling true = refl
never_filling false = refl

not_filling : (shape : Shape) (out : ℕ → Bool) (members : ℕ → MemberState) → ((q : ℕ) → members q ≡ member_by shape out q) → (q : ℕ) → is_filling (members q) ≡ false
not_filling shape out members are q = ap is_filling (are q) ∙ never_filling (nat_lt (q / 2) shape.b && not (out q))

lost_same : (f g : ℕ → MemberState) (s : ℕ) → ((q : ℕ) → f q ≡ g q) → is_lost f s ≡ is_lost g s
lost_same f g s same = ap (λ (h : ℕ → MemberState). is_lost h s) (λ i q. same q i)

-- no boundary of the array is lost
stands : (shape : Shape) (out : ℕ → Bool) (members : ℕ → MemberState) → ((q : ℕ) → members q ≡ member_by shape out q) → has_lost shape (member_by shape out) ≡ false
    → (s : ℕ) → s < shape.b → is_lost members s ≡ false
stands shape out members are whole s low = lost_same members (member_by shape out) s are ∙ none_lost shape (member_by shape out) s whole low

pub sites_stand : (n : ℕ) (members : ℕ → MemberState) (sites : List Site) → ((s : ℕ) → s < n → is_lost members s ≡ false) → AreBelow n sites → (has_site sites && all_lost members sites) ≡ false
sites_stand n members [] none on = refl
sites_stand n members (x ∷ xs) none on =
    and_left (is_lost members x.boundary) (all_lost members xs) (none x.boundary (All-head (λ (site : Site). site.boundary < n) x xs on))

both : (x y : Bool) → x ≡ true → y ≡ true → (x && y) ≡ false → ⊥
both true true e f g = absurd (false≢true (sym g))
both true false e f g = absurd (false≢true f)
both false y e f g = absurd (false≢true e)

-- where no count of faults rose, members are as they were
pub stay_same : (shape : Shape) (out : ℕ → Bool) (written : ℕ → List ℕ) (old new : State) → Fine shape out written old → NoneRose old.counts.faults new.counts.faults
    → MembersFall old.counts.faults new.counts.faults old.members new.members → (q : ℕ) → new.members q ≡ member_by shape out q
stay_same shape out written old new fine none falls q =
    stays_where_none old.counts.faults new.counts.faults old.members new.members none (not_filling shape out old.members fine.members) falls q ∙ fine.members q

no_broken : (shape : Shape) (out : ℕ → Bool) (written : ℕ → List ℕ) (old : State) → Fine shape out written old → is_broken old ≡ false
no_broken shape out written old fine =
    ap (λ (s : Shape). has_lost s old.members) fine.within.numbers ∙ whole_from shape old.members (stands shape out old.members fine.members fine.whole)

keeps_site : (shape : Shape) (out : ℕ → Bool) (written : ℕ → List ℕ) (old : State) (members : ℕ → MemberState) (b : ℕ) → 0 < shape.b → b < shape.n → Fine shape out written old
    → ((q : ℕ) → members q ≡ member_by shape out q) → LosesSites old.table b members → ⊥
keeps_site shape out written old members b some below fine are h =
    let new = sited_inside shape old.table b h.sited some below fine.within h.is in
    both (has_site (sites_in h.sited b)) (all_lost members (sites_in h.sited b)) new.1 h.lost
    (sites_stand shape.b members (sites_in h.sited b) (stands shape out members are fine.whole) (new.0.sites b))

-- ---- what a step leaves

put_here : (f : ℕ → List ℕ) (b : ℕ) (bytes : List ℕ) (c : ℕ) → c ≡ b → bytes ≡ put f b bytes c
put_here f b bytes c e = sym (cond-true (c == b) bytes (f c) (eq-eqb c b e))

put_other : (f : ℕ → List ℕ) (b : ℕ) (bytes : List ℕ) (c : ℕ) → (c ≡ b → ⊥) → f c ≡ put f b bytes c
put_other f b bytes c e = sym (cond-false (c == b) bytes (f c) (ne_eqb c b e))

put_blocks : (l n : ℕ) (f : ℕ → List ℕ) (blocks : List (List ℕ)) (b : ℕ) (bytes : List ℕ) → length blocks ≡ n → ((c : ℕ) → c < n → block_in blocks c ≡ padded l (f c)) → b < n
    → (c : ℕ) → c < n → block_in (slice_set blocks b (padded l bytes)) c ≡ padded l (put f b bytes c)
put_blocks l n f blocks b bytes size were below c lt = elim (cases_eq c b) [
  | inl same ↦
      let within : b < length blocks = omega (arith, size, below) in
      ap (λ (k : ℕ). block_in (slice_set blocks b (padded l bytes)) k) same ∙ get_or-set_same blocks b (padded l bytes) [] within
      ∙ ap (λ (x : List ℕ). padded l x) (put_here f b bytes c same)
  | inr other ↦ get_or-set_other blocks b c (padded l bytes) [] other ∙ were c lt ∙ ap (λ (x : List ℕ). padded l x) (put_other f b bytes c other)
]

wrote : (Known : Type 0) (shape : Shape) (out : ℕ → Bool) (f : ℕ → List ℕ) (old new : State) (b : ℕ) (bytes : List ℕ) → 0 < shape.b → b < shape.n → Fine shape out f old
    → NoneRose old.counts.faults new.counts.faults → Writes Known old b bytes new → Fine shape out (put f b bytes) new
wrote Known shape out f old new b bytes some below fine none w =
    let blocks : new.blocks ≡ slice_set old.blocks b (padded shape.l bytes) =
    ap (λ (s : State). s.blocks) w.rest ∙ ap (λ (t : Shape). slice_set old.blocks b (padded t.l bytes)) fine.within.numbers in
    record {
      within = (sited_inside shape old.table b new.table some below fine.within w.sited).0;
      size = ap (λ (l : List (List ℕ)). length l) blocks ∙ length-set old.blocks b (padded shape.l bytes) ∙ fine.size;
      blocks = λ c lt. ap (λ (l : List (List ℕ)). block_in l c) blocks ∙ put_blocks shape.l shape.n f old.blocks b bytes fine.size fine.blocks below c lt;
      members = stay_same shape out f old new fine none w.goes.members;
      in_use = in_use_wrote shape old new fine.in_use b (ap (λ (s : State). s.boundaries) w.rest) (ap (λ (s : State). s.live) w.rest) (ap (λ (s : State). s.cut) w.rest);
      whole = fine.whole;
    }

same_state : (shape : Shape) (out : ℕ → Bool) (f : ℕ → List ℕ) (old new : State) → Fine shape out f old → new ≡ old → Fine shape out f new
same_state shape out f old new fine same = subst (λ (s : State). Fine shape out f s) (sym same) fine

stayed : (shape : Shape) (out : ℕ → Bool) (f : ℕ → List ℕ) (old new : State) → Fine shape out f old → NoneRose old.counts.faults new.counts.faults → Stays old new → Fine shape out f new
stayed shape out f old new fine none s =
    let table : new.table ≡ old.table = ap (λ (x : State). x.table) s.rest in
    let blocks : new.blocks ≡ old.blocks = ap (λ (x : State). x.blocks) s.rest in
    record {
      within = subst (λ (t : Table). IsInside shape t) (sym table) fine.within;
      size = ap (λ (l : List (List ℕ)). length l) blocks ∙ fine.size;
      blocks = λ c lt. ap (λ (l : List (List ℕ)). block_in l c) blocks ∙ fine.blocks c lt;
      members = stay_same shape out f old new fine none s.goes.members;
      in_use = in_use_stays shape old new fine.in_use s;
      whole = fine.whole;
    }

-- ---- failures

struck_here : (shape : Shape) (out : ℕ → Bool) (q p : ℕ) → p ≡ q → member_by shape (struck out q) p ≡ Out
struck_here shape out q p same = rw (eq-eqb p q same) (dead (nat_lt (p / 2) shape.b))
  where
    dead : (b : Bool) → cond (b && false) Good Out ≡ Out
    dead true = refl
    dead false = refl

struck_there : (shape : Shape) (out : ℕ → Bool) (q p : ℕ) → (p ≡ q → ⊥) → member_by shape (struck out q) p ≡ member_by shape out p
struck_there shape out q p other = rw (ne_eqb p q other) refl

strike : (shape : Shape) (out : ℕ → Bool) (old new : ℕ → MemberState) (q : ℕ) → ((p : ℕ) → old p ≡ member_by shape out p) → IsStruck q old new
    → (p : ℕ) → new p ≡ member_by shape (struck out q) p
strike shape out old new q are is p = elim (cases_eq p q) [
  | inl same ↦ ap new same ∙ is.out ∙ sym (struck_here shape out q p same)
  | inr other ↦ elim (is.others p other) [
    | inl kept ↦ kept ∙ are p ∙ sym (struck_there shape out q p other)
    | inr filled ↦ absurd (false≢true (sym (not_filling shape out old are p) ∙ filled.0))
  ]
]

struck_fine : (shape : Shape) (out : ℕ → Bool) (f : ℕ → List ℕ) (old new : State) (q : ℕ) → Fine shape out f old → has_lost shape (member_by shape (struck out q)) ≡ false
    → Strikes old q new → Fine shape (struck out q) f new
struck_fine shape out f old new q fine whole s =
    let table : new.table ≡ old.table = ap (λ (x : State). x.table) s.rest in
    let blocks : new.blocks ≡ old.blocks = ap (λ (x : State). x.blocks) s.rest in
    record {
      within = subst (λ (t : Table). IsInside shape t) (sym table) fine.within;
      size = ap (λ (l : List (List ℕ)). length l) blocks ∙ fine.size;
      blocks = λ c lt. ap (λ (l : List (List ℕ)). block_in l c) blocks ∙ fine.blocks c lt;
      members = strike shape out old.members new.members q fine.members s.members;
      in_use = in_use_as shape old new fine.in_use (ap (λ (x : State). x.boundaries) s.rest) (ap (λ (x : State). x.live) s.rest) (ap (λ (x : State). x.cut) s.rest);
      whole = whole;
    }

-- a member that was out already stays so
struck_again : (shape : Shape) (out : ℕ → Bool) (f : ℕ → List ℕ) (old : State) (q : ℕ) → Fine shape out f old → out q ≡ true → has_lost shape (member_by shape (struck out q)) ≡ false
    → Fine shape (struck out q) f old
struck_again shape out f old q fine was whole = record {
  within = fine.within;
  size = fine.size;
  blocks = fine.blocks;
  members = λ p. elim (cases_eq p q) [
    | inl same ↦ fine.members p ∙ out_is (nat_lt (p / 2) shape.b) (out p) (ap out same ∙ was) ∙ sym (struck_here shape out q p same)
    | inr other ↦ fine.members p ∙ sym (struck_there shape out q p other)
  ];
  in_use = fine.in_use;
  whole = whole;
}
  where
    out_is : (b o : Bool) → o ≡ true → cond (b && not o) Good Out ≡ Out
    out_is true true e = refl
    out_is false true e = refl
    out_is b false e = absurd (false≢true e)

-- what the member is by the marks
good_by : (shape : Shape) (out : ℕ → Bool) (q : ℕ) → q / 2 < shape.b → out q ≡ false → member_by shape out q ≡ Good
good_by shape out q low e = rw (lt-ltb (q / 2) shape.b low) (rw e refl)

out_by : (shape : Shape) (out : ℕ → Bool) (q : ℕ) → out q ≡ true → member_by shape out q ≡ Out
out_by shape out q e = dead (nat_lt (q / 2) shape.b) (out q) e
  where
    dead : (b o : Bool) → o ≡ true → cond (b && not o) Good Out ≡ Out
    dead true true e = refl
    dead false true e = refl
    dead b false e = absurd (false≢true e)

pub good_not_out : (m : MemberState) → m ≡ Good → m ≡ Out → ⊥
good_not_out m good out = false≢true (sym (ap is_good out) ∙ ap is_good good)

-- ---- one step

module _ (Known : Type 0) (told : Known) (shape : Shape) (some : 0 < shape.b) (out : ℕ → Bool) (f : ℕ → List ℕ) (old new : State) (fine : Fine shape out f old)
    (none : NoneRose old.counts.faults new.counts.faults) where
  low_n : (b : ℕ) → b < shape.n → b < old.table.shape.n
  low_n b below = subst (λ (t : Shape). b < t.n) (sym fine.within.numbers) below

  past_n : (b : ℕ) → shape.n ≤ b → old.table.shape.n ≤ b
  past_n b past = subst (λ (t : Shape). t.n ≤ b) (sym fine.within.numbers) past

  -- a write of a block of the array is done
  pub write_below : (b : ℕ) (bytes : List ℕ) (reply : Reply) → b < shape.n → Step Known old (Write b bytes) reply new → (reply ≡ Done) × Fine shape out (put f b bytes) new
  write_below b bytes Range below h = let past = h.0 in absurd (omega (arith, low_n b below, past))
  write_below b bytes Degraded below h = elim h.1 [
    | inl was ↦ absurd (false≢true (sym (no_broken shape out f old fine) ∙ was.0))
    | inr loses ↦ absurd (keeps_site shape out f old new.members b some below fine (stay_same shape out f old new fine none loses.3.goes.members) loses.1)
  ]
  write_below b bytes Done below h = (refl, wrote Known shape out f old new b bytes some below fine none h.2)
  write_below b bytes reply below h = absurd h

  pub write_past : (b : ℕ) (bytes : List ℕ) (reply : Reply) → shape.n ≤ b → Step Known old (Write b bytes) reply new → (reply ≡ Range) × Fine shape out f new
  write_past b bytes Range past h = (refl, same_state shape out f old new fine h.1)
  write_past b bytes Degraded past h = let low = h.0 in absurd (omega (arith, past_n b past, low))
  write_past b bytes Done past h = let low = h.0 in absurd (omega (arith, past_n b past, low))
  write_past b bytes reply past h = absurd h

  -- a read of a block of the array gives it
  pub read_below : (b : ℕ) (reply : Reply) → b < shape.n → Step Known old (Read b) reply new → (reply ≡ Data (stripped (f b))) × Fine shape out f new
  read_below b Range below h = let past = h.0 in absurd (omega (arith, low_n b below, past))
  read_below b Unavailable below h =
      let now = stayed shape out f old new fine none h.3 in
      absurd (false≢true (sym (sites_stand shape.b new.members (sites_in new.table b) (stands shape out new.members now.members now.whole) (now.within.sites b)) ∙ sym (gone_is shape new now.in_use b) ∙ h.1))
  read_below b (Data bytes) below h =
      (ap Data (trimmed_written shape.l bytes (block_in old.blocks b) (f b) (h.2 told) (fine.blocks b below)), stayed shape out f old new fine none h.5)
  read_below b reply below h = absurd h

  pub read_past : (b : ℕ) (reply : Reply) → shape.n ≤ b → Step Known old (Read b) reply new → (reply ≡ Range) × Fine shape out f new
  read_past b Range past h = (refl, same_state shape out f old new fine h.1)
  read_past b Unavailable past h = let low = h.0 in absurd (omega (arith, past_n b past, low))
  read_past b (Data bytes) past h = let low = h.0 in absurd (omega (arith, past_n b past, low))
  read_past b reply past h = absurd h

  is_there : (s j : ℕ) → s < shape.b → j < 2 → IsMember old s j
  is_there s j boundary side = record { boundary = subst (λ (n : ℕ). s < n) (sym fine.in_use.boundaries) boundary; side = side }

  here : (s j : ℕ) → s < shape.b → member_of old s j ≡ 2 * s + j
  here s j boundary = member_here shape old fine.in_use s j boundary

  -- a member that isn't out is made to fail
  pub fail_good : (s j : ℕ) (reply : Reply) → s < shape.b → j < 2 → out (2 * s + j) ≡ false → has_lost shape (member_by shape (struck out (2 * s + j))) ≡ false
      → Step Known old (Fail s j) reply new → (reply ≡ Done) × Fine shape (struck out (2 * s + j)) f new
  fail_good s j Range boundary side was whole h = absurd (h.0 (is_there s j boundary side))
  fail_good s j Already boundary side was whole h =
      let low : (2 * s + j) / 2 < shape.b = omega (arith, boundary, side) in
      absurd (good_not_out (old.members (2 * s + j)) (fine.members (2 * s + j) ∙ good_by shape out (2 * s + j) low was) (ap old.members (sym (here s j boundary)) ∙ h.1))
  fail_good s j Done boundary side was whole h = (refl, struck_fine shape out f old new (2 * s + j) fine whole (subst (λ (q : ℕ). Strikes old q new) (here s j boundary) h.2))
  fail_good s j reply boundary side was whole h = absurd h

  -- one that is out already
  pub fail_out : (s j : ℕ) (reply : Reply) → s < shape.b → j < 2 → out (2 * s + j) ≡ true → has_lost shape (member_by shape (struck out (2 * s + j))) ≡ false
      → Step Known old (Fail s j) reply new → (reply ≡ Already) × Fine shape (struck out (2 * s + j)) f new
  fail_out s j Range boundary side was whole h = absurd (h.0 (is_there s j boundary side))
  fail_out s j Already boundary side was whole h =
      (refl, same_state shape (struck out (2 * s + j)) f old new (struck_again shape out f old (2 * s + j) fine was whole) h.2)
  fail_out s j Done boundary side was whole h = absurd (h.1 (ap old.members (here s j boundary) ∙ fine.members (2 * s + j) ∙ out_by shape out (2 * s + j) was))
  fail_out s j reply boundary side was whole h = absurd h

-- ---- all steps

-- none of the events takes a boundary out of use
pub whole_stay : (shape : Shape) (out : ℕ → Bool) (events : List Event) (replies : List Reply) → StaysWhole shape out events → StayInUse events replies
whole_stay shape out [] replies whole = tt
whole_stay shape out (event ∷ events) [] whole = tt
whole_stay shape out (Write b bytes ∷ events) (reply ∷ replies) whole = (tt, whole_stay shape out events replies whole)
whole_stay shape out (Read b ∷ events) (reply ∷ replies) whole = (tt, whole_stay shape out events replies whole)
whole_stay shape out (Fail s j ∷ events) (reply ∷ replies) whole = (tt, whole_stay shape (struck out (2 * s + j)) events replies whole.2)
whole_stay shape out (event ∷ events) (reply ∷ replies) whole = absurd whole

-- a run of such events has the replies that are promised
pub run_answers : (Known : Type 0) (told : Known) (shape : Shape) (out : ℕ → Bool) (f : ℕ → List ℕ) (events : List Event) (old final : State) (replies : List Reply) → 0 < shape.b
    → StaysWhole shape out events → Fine shape out f old → NoneRose old.counts.faults final.counts.faults → Run Known old events replies final → replies ≡ answers shape out f events
run_answers Known told shape out f [] old final replies some whole fine none run = (run_none Known old final replies run).0
run_answers Known told shape out f (Write b bytes ∷ es) old final replies some whole fine none run =
    let m = run_more Known old (Write b bytes) es replies final run in
    let here = none_front old.counts.faults m.mid.counts.faults final.counts.faults (run_keeps Known m.mid es m.rest final (whole_stay shape out es m.rest whole) m.run).counts.faults none in
    let later = none_back old.counts.faults m.mid.counts.faults final.counts.faults (step_keeps Known old (Write b bytes) m.reply m.mid tt m.step).counts.faults none in
    elim (cases_lt b shape.n) [
      | inl below ↦
          let w = write_below Known told shape some out f old m.mid fine here b bytes m.reply below m.step in
          let rest = run_answers Known told shape out (put f b bytes) es m.mid final m.rest some whole w.1 later m.run in
          m.is ∙ ap (λ (r : Reply). r ∷ m.rest) w.0 ∙ ap (λ (l : List Reply). Done ∷ l) rest
          ∙ sym (cond-true (nat_lt b shape.n) (Done ∷ answers shape out (put f b bytes) es) (Range ∷ answers shape out f es) (lt-ltb b shape.n below))
      | inr above ↦
          let w = write_past Known told shape some out f old m.mid fine here b bytes m.reply above m.step in
          let rest = run_answers Known told shape out f es m.mid final m.rest some whole w.1 later m.run in
          m.is ∙ ap (λ (r : Reply). r ∷ m.rest) w.0 ∙ ap (λ (l : List Reply). Range ∷ l) rest
          ∙ sym (cond-false (nat_lt b shape.n) (Done ∷ answers shape out (put f b bytes) es) (Range ∷ answers shape out f es) (le-ltb b shape.n above))
    ]
run_answers Known told shape out f (Read b ∷ es) old final replies some whole fine none run =
    let m = run_more Known old (Read b) es replies final run in
    let here = none_front old.counts.faults m.mid.counts.faults final.counts.faults (run_keeps Known m.mid es m.rest final (whole_stay shape out es m.rest whole) m.run).counts.faults none in
    let later = none_back old.counts.faults m.mid.counts.faults final.counts.faults (step_keeps Known old (Read b) m.reply m.mid tt m.step).counts.faults none in
    elim (cases_lt b shape.n) [
      | inl below ↦
          let r = read_below Known told shape some out f old m.mid fine here b m.reply below m.step in
          let rest = run_answers Known told shape out f es m.mid final m.rest some whole r.1 later m.run in
          m.is ∙ ap (λ (x : Reply). x ∷ m.rest) r.0 ∙ ap (λ (l : List Reply). Data (stripped (f b)) ∷ l) rest
          ∙ ap (λ (x : Reply). x ∷ answers shape out f es) (sym (cond-true (nat_lt b shape.n) (Data (stripped (f b))) Range (lt-ltb b shape.n below)))
      | inr above ↦
          let r = read_past Known told shape some out f old m.mid fine here b m.reply above m.step in
          let rest = run_answers Known told shape out f es m.mid final m.rest some whole r.1 later m.run in
          m.is ∙ ap (λ (x : Reply). x ∷ m.rest) r.0 ∙ ap (λ (l : List Reply). Range ∷ l) rest
          ∙ ap (λ (x : Reply). x ∷ answers shape out f es) (sym (cond-false (nat_lt b shape.n) (Data (stripped (f b))) Range (le-ltb b shape.n above)))
    ]
run_answers Known told shape out f (Fail s j ∷ es) old final replies some whole fine none run =
    let m = run_more Known old (Fail s j) es replies final run in
    let here = none_front old.counts.faults m.mid.counts.faults final.counts.faults (run_keeps Known m.mid es m.rest final (whole_stay shape (struck out (2 * s + j)) es m.rest whole.2) m.run).counts.faults none in
    let later = none_back old.counts.faults m.mid.counts.faults final.counts.faults (step_keeps Known old (Fail s j) m.reply m.mid tt m.step).counts.faults none in
    let low = whole.0.boundary in
    let side = whole.0.side in
    elim (cases_Bool (out (2 * s + j))) [
      | inl was ↦
          let r = fail_out Known told shape some out f old m.mid fine here s j m.reply low side was whole.1 m.step in
          let rest = run_answers Known told shape (struck out (2 * s + j)) f es m.mid final m.rest some whole.2 r.1 later m.run in
          m.is ∙ ap (λ (x : Reply). x ∷ m.rest) r.0 ∙ ap (λ (l : List Reply). Already ∷ l) rest
          ∙ ap (λ (x : Reply). x ∷ answers shape (struck out (2 * s + j)) f es) (sym (cond-true (out (2 * s + j)) Already Done was))
      | inr good ↦
          let r = fail_good Known told shape some out f old m.mid fine here s j m.reply low side good whole.1 m.step in
          let rest = run_answers Known told shape (struck out (2 * s + j)) f es m.mid final m.rest some whole.2 r.1 later m.run in
          m.is ∙ ap (λ (x : Reply). x ∷ m.rest) r.0 ∙ ap (λ (l : List Reply). Done ∷ l) rest
          ∙ ap (λ (x : Reply). x ∷ answers shape (struck out (2 * s + j)) f es) (sym (cond-false (out (2 * s + j)) Already Done good))
    ]
run_answers Known told shape out f (event ∷ es) old final replies some whole fine none run = absurd whole

-- the blank array
pub good_all : (shape : Shape) (q : ℕ) → q / 2 < shape.b → member_by shape (λ p. false) q ≡ Good
good_all shape q low = good_by shape (λ p. false) q low refl

blank_member : (shape : Shape) (before : Counts) (state : State) → NoneRose before.faults state.counts.faults → IsBlank shape before state → (q : ℕ) → state.members q ≡ member_by shape (λ p. false) q
blank_member shape before state none blank q = elim (cases_lt (q / 2) shape.b) [
  | inl low ↦ elim (blank.members q low) [
    | inl good ↦ good ∙ sym (good_all shape q low)
    | inr fell ↦ absurd (none q fell.1)
  ]
  | inr past ↦ blank.others q past ∙ sym (rw (le-ltb (q / 2) shape.b past) refl)
]

blank_whole : (shape : Shape) → has_lost shape (member_by shape (λ p. false)) ≡ false
blank_whole shape = whole_from shape (member_by shape (λ p. false)) (λ s low.
    let here : 2 * s / 2 < shape.b = omega (arith, low) in
    rw (good_all shape (2 * s) here) refl)

pub blank_fine : (shape : Shape) (before : Counts) (state : State) → NoneRose before.faults state.counts.faults → IsBlank shape before state → Fine shape (λ p. false) (λ b. []) state
blank_fine shape before state none blank =
    let table = ap (λ (s : State). s.table) blank.is in
    let blocks : state.blocks ≡ replicate shape.n (zeros shape.l) = ap (λ (s : State). s.blocks) blank.is in
    record {
      within = subst (λ (t : Table). IsInside shape t) (sym table) (empty_inside shape);
      size = ap (λ (l : List (List ℕ)). length l) blocks ∙ length-replicate shape.n (zeros shape.l);
      blocks = λ b lt. ap (λ (l : List (List ℕ)). block_in l b) blocks ∙ get_or-replicate shape.n b (zeros shape.l) [] lt ∙ zeros_padded shape.l;
      members = blank_member shape before state none blank;
      in_use = in_use_blank shape before state blank;
      whole = blank_whole shape;
    }

-- A trace of such events has the replies that are promised, where the bytes are told and no count of faults rose.
pub trace_answers : (Known : Type 0) (told : Known) (before : Counts) (shape : Shape) (events : List Event) (replies : List Reply) (final : State) → IsShape shape
    → StaysWhole shape (λ p. false) events → NoneRose before.faults final.counts.faults → Trace Known before (Array shape ∷ events) replies final
    → replies ≡ Done ∷ answers shape (λ p. false) (λ b. []) events
trace_answers Known told before shape events replies final is whole none trace =
    let t = trace_more Known before shape events replies final trace in
    let rises = (run_keeps Known t.blank events t.rest final (whole_stay shape (λ p. false) events t.rest whole) t.run).counts.faults in
    let first = none_front before.faults t.blank.counts.faults final.counts.faults rises none in
    let later = none_back before.faults t.blank.counts.faults final.counts.faults t.is_blank.counts.faults none in
    let some : 0 < shape.b = omega (arith, is.least_boundaries) in
    t.is ∙ ap (λ (l : List Reply). Done ∷ l)
    (run_answers Known told shape (λ p. false) (λ b. []) events t.blank final t.rest some whole (blank_fine shape before t.blank first t.is_blank) later t.run)
