-- A trace that is replayed without a fault.
use Rattle.std.proofs.Common.{◌≡◌, ◌<◌, ◌*◌, ◌/◌, ◌&&◌, ℕ, Bool, true, false, List, [], ◌∷◌, length, refl, sym, ◌∙◌, ap, subst, inl, inr, arith}
use Rattle.std.specs.Prelude.{All, cond, map, nat_lt, slice_set}
use Rattle.std.proofs.lemmas.Bool.{false≢true, cases_Bool, cases_eq, and_left, lt-ltb, le-ltb, cases_lt}
use Rattle.std.proofs.lemmas.List.{length-set, length-replicate, get_or-replicate, get_or-set_same, get_or-set_other}
use Rattle.std.proofs.lemmas.List.Elements.{All-cons, All-head, All-nil, All-tail}
use Rattle.dg_model.proofs.FirstSites.{AreBelow, IsInside, empty_inside, sited_inside}
use Rattle.dg_model.proofs.MemberLaws.{none_back, none_front, stays_where_none, whole_from}
use Rattle.dg_model.proofs.RunLaws.{run_more, run_none, trace_more}
use Rattle.dg_model.proofs.StepLaws.{StayInUse, run_keeps, step_keeps}
use Rattle.dg_model.specs.Blocks.{block_in, padded, stripped, zeros}
use Rattle.dg_model.specs.Causes.{NoneRose}
use Rattle.dg_model.specs.Changes.{LosesSites, Writes}
use Rattle.dg_model.specs.Members.{MembersFall, is_filling, is_lost}
use Rattle.dg_model.specs.Runs.{Run, Trace}
use Rattle.dg_model.specs.Sites.{all_lost, has_site}
use Rattle.dg_model.specs.States.{Counts, IsBlank, State, has_lost, is_broken}
use Rattle.dg_model.specs.Steps.{Step}
use Rattle.dg_model.specs.Tables.{Table, sites_in}
use Rattle.dg_model.specs.declared.events.Event.{Event}
use Rattle.dg_model.specs.declared.events.Event.TheVariants.{Write}
use Rattle.dg_model.specs.declared.members.MemberState.{MemberState}
use Rattle.dg_model.specs.declared.members.MemberState.TheVariants.{Good, Out}
use Rattle.dg_model.specs.declared.replies.Reply.{Reply}
use Rattle.dg_model.specs.declared.replies.Reply.TheVariants.{Degraded, Done, Range}
use Rattle.dg_model.specs.declared.shapes.Shape.{Shape}
use Rattle.dg_model.specs.declared.sites.Site.{Site}
use Rattle.dg_trace.proofs.BlockLaws.{unwritten_zeros, written_block}
use Rattle.dg_trace.proofs.OrderLaws.{IsIn, trace_below, trace_has}
use Rattle.dg_trace.specs.Answers.{events_of, volume_bytes}
use Rattle.dg_trace.specs.Replays.{AreTold, IsReplayed}
use Rattle.dg_trace.specs.Volumes.{shape_for}
use Rattle.dg_trace.specs.declared.asked.Asked.{Asked}
use Rattle.ufs_build.specs.Traces.{block_in as image_block, is_written, trace_of}
use Rattle.ufs_model.specs.declared.geometries.Geometry.{Geometry}

-- ---- an array of which no member failed

-- what each member does
abbrev pub good_member : Shape → ℕ → MemberState
good_member shape q = cond (nat_lt (q / 2) shape.b) Good Out

-- each member of the array is good, and all sites are on its boundaries
pub record IsFine (shape : Shape) (state : State) : Type 0 where
  pub within : IsInside shape state.table
  pub size : length state.blocks ≡ shape.n
  pub members : (q : ℕ) → state.members q ≡ good_member shape q

never_filling : (b : Bool) → is_filling (cond b Good Out) ≡ false
never_filling true = refl
never_filling false = refl

not_filling : (shape : Shape) (members : ℕ → MemberState) → ((q : ℕ) → members q ≡ good_member shape q) → (q : ℕ) → is_filling (members q) ≡ false
not_filling shape members are q = ap is_filling (are q) ∙ never_filling (nat_lt (q / 2) shape.b)

good_at : (shape : Shape) (q : ℕ) → q / 2 < shape.b → good_member shape q ≡ Good
good_at shape q low = rw (lt-ltb (q / 2) shape.b low) refl

-- no boundary of it is lost
stands : (shape : Shape) (members : ℕ → MemberState) → ((q : ℕ) → members q ≡ good_member shape q) → (s : ℕ) → s < shape.b → is_lost members s ≡ false
stands shape members are s low =
    let here : 2 * s / 2 < shape.b = omega (arith, low) in
    let good : members (2 * s) ≡ Good = are (2 * s) ∙ good_at shape (2 * s) here in
    rw good refl

sites_stand : (n : ℕ) (members : ℕ → MemberState) (sites : List Site) → ((s : ℕ) → s < n → is_lost members s ≡ false) → AreBelow n sites
    → (has_site sites && all_lost members sites) ≡ false
sites_stand n members [] none on = refl
sites_stand n members (x ∷ xs) none on =
    and_left (is_lost members x.boundary) (all_lost members xs) (none x.boundary (All-head (λ (site : Site). site.boundary < n) x xs on))

both : (x y : Bool) → x ≡ true → y ≡ true → (x && y) ≡ false → ⊥
both true true e f g = absurd (false≢true (sym g))
both true false e f g = absurd (false≢true f)
both false y e f g = absurd (false≢true e)

stay_same : (shape : Shape) (old new : State) → IsFine shape old → NoneRose old.counts.faults new.counts.faults
    → MembersFall old.counts.faults new.counts.faults old.members new.members → (q : ℕ) → new.members q ≡ good_member shape q
stay_same shape old new fine none falls q =
    stays_where_none old.counts.faults new.counts.faults old.members new.members none (not_filling shape old.members fine.members) falls q ∙ fine.members q

no_broken : (shape : Shape) (old : State) → IsFine shape old → is_broken old ≡ false
no_broken shape old fine =
    ap (λ (s : Shape). has_lost s old.members) fine.within.numbers ∙ whole_from shape old.members (stands shape old.members fine.members)

keeps_site : (shape : Shape) (old : State) (members : ℕ → MemberState) (b : ℕ) → 0 < shape.b → b < shape.n → IsFine shape old
    → ((q : ℕ) → members q ≡ good_member shape q) → LosesSites old.table b members → ⊥
keeps_site shape old members b some below fine are h =
    let new = sited_inside shape old.table b h.sited some below fine.within h.is in
    both (has_site (sites_in h.sited b)) (all_lost members (sites_in h.sited b)) new.1 h.lost
    (sites_stand shape.b members (sites_in h.sited b) (stands shape members are) (new.0.sites b))

-- ---- one write

-- it was done, and nothing else than the block's bytes changed
pub record IsDone (shape : Shape) (old : State) (b : ℕ) (bytes : List ℕ) (reply : Reply) (new : State) : Type 0 where
  pub reply_is : reply ≡ Done
  pub fine : IsFine shape new
  pub blocks : new.blocks ≡ slice_set old.blocks b (padded shape.l bytes)

wrote : (shape : Shape) (old new : State) (b : ℕ) (bytes : List ℕ) → 0 < shape.b → b < shape.n → IsFine shape old → NoneRose old.counts.faults new.counts.faults
    → Writes AreTold old b bytes new → IsDone shape old b bytes Done new
wrote shape old new b bytes some below fine none w =
    let blocks : new.blocks ≡ slice_set old.blocks b (padded shape.l bytes) =
    ap (λ (s : State). s.blocks) w.rest ∙ ap (λ (t : Shape). slice_set old.blocks b (padded t.l bytes)) fine.within.numbers in
    record {
      reply_is = refl;
      fine = record {
        within = (sited_inside shape old.table b new.table some below fine.within w.sited).0;
        size = ap (λ (l : List (List ℕ)). length l) blocks ∙ length-set old.blocks b (padded shape.l bytes) ∙ fine.size;
        members = stay_same shape old new fine none w.goes.members;
      };
      blocks = blocks;
    }

write_done : (shape : Shape) (old new : State) (b : ℕ) (bytes : List ℕ) (reply : Reply) → 0 < shape.b → b < shape.n → IsFine shape old
    → NoneRose old.counts.faults new.counts.faults → Step AreTold old (Write b bytes) reply new → IsDone shape old b bytes reply new
write_done shape old new b bytes Range some below fine none h =
    let past = h.0 in
    let low : b < old.table.shape.n = subst (λ (t : Shape). b < t.n) (sym fine.within.numbers) below in
    absurd (omega (arith, low, past))
write_done shape old new b bytes Degraded some below fine none h = elim h.1 [
  | inl was ↦ absurd (false≢true (sym (no_broken shape old fine) ∙ was.0))
  | inr loses ↦ absurd (keeps_site shape old new.members b some below fine (stay_same shape old new fine none loses.3.goes.members) loses.1)
]
write_done shape old new b bytes Done some below fine none h = wrote shape old new b bytes some below fine none h.2
write_done shape old new b bytes reply some below fine none h = absurd h

-- ---- all writes

-- The writes were done. A block that had its value has it still, and each that was written has it.
pub record AreDone (shape : Shape) (value : ℕ → List ℕ) (written : List ℕ) (old : State) (replies : List Reply) (new : State) : Type 0 where
  pub done : All (λ reply. reply ≡ Done) replies
  pub fine : IsFine shape new
  pub kept : (c : ℕ) → block_in old.blocks c ≡ value c → block_in new.blocks c ≡ value c
  pub has : (c : ℕ) → IsIn c written → block_in new.blocks c ≡ value c

-- the block of a write has its value, and others are as they were
set_here : (l : ℕ) (value : ℕ → List ℕ) (blocks new : List (List ℕ)) (b : ℕ) (bytes : List ℕ) → b < length blocks → new ≡ slice_set blocks b (padded l bytes)
    → padded l bytes ≡ value b → (c : ℕ) → c ≡ b → block_in new c ≡ value c
set_here l value blocks new b bytes low is right c same =
    ap (λ (x : List (List ℕ)). block_in x c) is ∙ ap (λ (k : ℕ). block_in (slice_set blocks b (padded l bytes)) k) same
    ∙ get_or-set_same blocks b (padded l bytes) [] low ∙ right ∙ ap value (sym same)

set_value : (l : ℕ) (value : ℕ → List ℕ) (blocks new : List (List ℕ)) (b : ℕ) (bytes : List ℕ) → b < length blocks → new ≡ slice_set blocks b (padded l bytes)
    → padded l bytes ≡ value b → (c : ℕ) → block_in blocks c ≡ value c → block_in new c ≡ value c
set_value l value blocks new b bytes low is right c had = elim (cases_eq c b) [
  | inl same ↦ set_here l value blocks new b bytes low is right c same
  | inr other ↦ ap (λ (x : List (List ℕ)). block_in x c) is ∙ get_or-set_other blocks b c (padded l bytes) [] other ∙ had
]

-- a write takes no boundary out of use
writes_stay : (bytes : ℕ → List ℕ) (written : List ℕ) (replies : List Reply) → StayInUse (map (λ b. Write b (bytes b)) written) replies
writes_stay bytes [] [] = tt
writes_stay bytes [] (reply ∷ replies) = tt
writes_stay bytes (b ∷ bs) [] = tt
writes_stay bytes (b ∷ bs) (reply ∷ replies) = (tt, writes_stay bytes bs replies)

pub writes_done : (shape : Shape) (value bytes : ℕ → List ℕ) (written : List ℕ) (old final : State) (replies : List Reply) → 0 < shape.b
    → All (λ b. b < shape.n) written → ((b : ℕ) → b < shape.n → padded shape.l (bytes b) ≡ value b) → IsFine shape old
    → NoneRose old.counts.faults final.counts.faults → Run AreTold old (map (λ b. Write b (bytes b)) written) replies final
    → AreDone shape value written old replies final
writes_done shape value bytes [] old final replies some below right fine none run =
    let end = run_none AreTold old final replies run in
    record {
      done = subst (λ (l : List Reply). All (λ reply. reply ≡ Done) l) (sym end.0) (All-nil (λ (reply : Reply). reply ≡ Done));
      fine = subst (λ (s : State). IsFine shape s) (sym end.1) fine;
      kept = λ c had. ap (λ (s : State). block_in s.blocks c) end.1 ∙ had;
      has = λ c h. absurd h;
    }
writes_done shape value bytes (b ∷ bs) old final replies some below right fine none run =
    let events : List Event = map (λ x. Write x (bytes x)) bs in
    let m = run_more AreTold old (Write b (bytes b)) events replies final run in
    let here = none_front old.counts.faults m.mid.counts.faults final.counts.faults (run_keeps AreTold m.mid events m.rest final (writes_stay bytes bs m.rest) m.run).counts.faults none in
    let later = none_back old.counts.faults m.mid.counts.faults final.counts.faults (step_keeps AreTold old (Write b (bytes b)) m.reply m.mid tt m.step).counts.faults none in
    let low : b < shape.n = All-head (λ (x : ℕ). x < shape.n) b bs below in
    let one = write_done shape old m.mid b (bytes b) m.reply some low fine here m.step in
    let rest = writes_done shape value bytes bs m.mid final m.rest some (All-tail (λ (x : ℕ). x < shape.n) b bs below) right one.fine later m.run in
    let there : b < length old.blocks = omega (arith, low, fine.size) in
    record {
      done = subst (λ (l : List Reply). All (λ reply. reply ≡ Done) l) (sym m.is) (All-cons (λ (reply : Reply). reply ≡ Done) m.reply m.rest one.reply_is rest.done);
      fine = rest.fine;
      kept = λ c had. rest.kept c (set_value shape.l value old.blocks m.mid.blocks b (bytes b) there one.blocks (right b low) c had);
      has = λ c h. elim h [
        | inl first ↦ rest.kept c (set_here shape.l value old.blocks m.mid.blocks b (bytes b) there one.blocks (right b low) c first)
        | inr more ↦ rest.has c more
      ];
    }

-- ---- from nothing

blank_fine : (shape : Shape) (before : Counts) (state : State) → NoneRose before.faults state.counts.faults → IsBlank shape before state → IsFine shape state
blank_fine shape before state none blank =
    let table = ap (λ (s : State). s.table) blank.is in
    record {
      within = subst (λ (t : Table). IsInside shape t) (sym table) (empty_inside shape);
      size = ap (λ (s : State). length s.blocks) blank.is ∙ length-replicate shape.n (zeros shape.l);
      members = λ q. elim (cases_lt (q / 2) shape.b) [
        | inl low ↦ elim (blank.members q low) [
          | inl good ↦ good ∙ sym (good_at shape q low)
          | inr fell ↦ absurd (none q fell.1)
        ]
        | inr past ↦ blank.others q past ∙ sym (rw (le-ltb (q / 2) shape.b past) refl)
      ];
    }

blank_zeros : (shape : Shape) (before : Counts) (state : State) (b : ℕ) → IsBlank shape before state → b < shape.n → block_in state.blocks b ≡ zeros shape.l
blank_zeros shape before state b blank low =
    ap (λ (s : State). block_in s.blocks b) blank.is ∙ get_or-replicate shape.n b (zeros shape.l) [] low

pub replayed : (asked : Asked) (image : List ℕ) (g : Geometry) (before : Counts) (replies : List Reply) (final : State) → 0 < asked.b
    → length (volume_bytes g image) ≡ g.size * g.fsize → Trace AreTold before (events_of asked image g) replies final → NoneRose before.faults final.counts.faults
    → IsReplayed g image replies final
replayed asked image g before replies final some size trace none =
    let shape = shape_for asked g in
    let volume = volume_bytes g image in
    let value : ℕ → List ℕ = λ b. image_block g.fsize (volume_bytes g image) b in
    let bytes : ℕ → List ℕ = λ b. stripped (image_block g.fsize (volume_bytes g image) b) in
    let written = trace_of asked.order g (volume_bytes g image) in
    let events : List Event = map (λ b. Write b (stripped (image_block g.fsize (volume_bytes g image) b))) (trace_of asked.order g (volume_bytes g image)) in
    let t = trace_more AreTold before (shape_for asked g) events replies final trace in
    let rises = (run_keeps AreTold t.blank events t.rest final (writes_stay bytes written t.rest) t.run).counts.faults in
    let first = none_front before.faults t.blank.counts.faults final.counts.faults rises none in
    let later = none_back before.faults t.blank.counts.faults final.counts.faults t.is_blank.counts.faults none in
    let all = writes_done (shape_for asked g) value bytes (trace_of asked.order g (volume_bytes g image)) t.blank final t.rest some
    (trace_below asked.order g (volume_bytes g image)) (λ b low. written_block g.fsize g.size b (volume_bytes g image) size low)
    (blank_fine (shape_for asked g) before t.blank first t.is_blank) later t.run in
    record {
      done = subst (λ (l : List Reply). All (λ reply. reply ≡ Done) l) (sym t.is) (All-cons (λ (reply : Reply). reply ≡ Done) Done t.rest refl all.done);
      holds = record {
        count = all.fine.size;
        each = λ b low. elim (cases_Bool (is_written g.fsize (volume_bytes g image) b)) [
          | inl held ↦ all.has b (trace_has asked.order g (volume_bytes g image) b low held)
          | inr bare ↦ all.kept b (blank_zeros (shape_for asked g) before t.blank b t.is_blank low ∙ unwritten_zeros g.fsize g.size b (volume_bytes g image) size low bare)
        ];
      };
    }
