-- Where the members of an array are along a run, whichever boundaries are in use.
use Rattle.std.proofs.Common.{◌≡◌, ◌≤◌, ◌<◌, ◌+◌, ◌*◌, ◌/◌, ◌&&◌, ◌||◌, ◌∙◌, inl, inr, ℕ, Bool, true, false, not, List, [], ◌∷◌, length, refl, sym, ap, subst, arith}
use Rattle.std.specs.Prelude.{◌≢◌, if◌then◌else◌, nat_lt, filter, slice_index, Option, Some, None}
use Rattle.std.specs.Option.{option_map}
use Rattle.std.specs.List.{range_with_len}
use Rattle.std.proofs.lemmas.Bool.{and_parts, cases_eq, cases_lt, cond-false, false≢true, le-ltb, ltb-true, or_cases, or_right}
use Rattle.std.proofs.lemmas.List.{length-map}
use Rattle.std.proofs.lemmas.List.FromFn.{length-range_with_len}
use Rattle.dg_model.proofs.StepLaws.{StayInUse, StaysInUse, step_keeps}
use Rattle.dg_model.specs.Lives.{left_of}
use Rattle.dg_model.specs.Changes.{Goes, Passes, Stays}
use Rattle.dg_model.specs.Members.{IsStruck, MembersFall, OthersFall, is_good, is_lost}
use Rattle.dg_model.specs.Regroups.{Regroups, label_left, left_in, member_before, without_lost}
use Rattle.dg_model.specs.Runs.{Run}
use Rattle.dg_model.specs.Seals.{LastLabel, forgotten, label_after}
use Rattle.dg_model.specs.States.{Counts, IsBlank, State, place_of}
use Rattle.dg_model.specs.Steps.{Handles, IsLostIn, Step, member_of}
use Rattle.dg_model.specs.declared.events.Event.{Event}
use Rattle.dg_model.specs.declared.events.Event.TheVariants.{Write, Read, Fail, Replace, Rebuild, Settle, Tend, Diffuse, Who, Pending, Cat, Ls, Tree, Home, Save, Regroup, LostFiles, Audit, DropDisk, MendDisk}
use Rattle.dg_model.specs.declared.members.MemberState.{MemberState}
use Rattle.dg_model.specs.declared.members.MemberState.TheVariants.{Filling, Out}
use Rattle.dg_model.specs.declared.replies.Reply.{Reply}
use Rattle.dg_model.specs.declared.replies.Reply.TheVariants.{Done, Range, Degraded, Unavailable, Already, Lost, NotOut, Failed, NotFilling, Copied, Settled, Malformed, NoSpace, Tended, Diffused, NotSettled, Verdict, Blocks, Data, Given, Cut, Listed, ListedCut, Nodes, NodesCut, Refused, HomeAt, NoHome, Saved, NotSaved, Whole, TooFew, Regrouped, LostFiles as LostFilesReply, LostFilesCut, Audited, NotParity, Mended}
use Rattle.dg_model.specs.declared.shapes.Shape.{Shape}

-- whether member q keeps the last label, or has its body
abbrev pub marks_label : Option LastLabel → ℕ → Bool
marks_label None q = false
marks_label (Some last) q = last.keepers q || last.bodies q

-- As many boundaries are in use as the array's numbers say, and no more than its first line has, at most 16; no member behind theirs does anything,
-- or has to do with the last label.
pub record IsSeated (s : State) : Type 0 where
  pub size : s.table.shape.b ≡ length s.live
  pub few : length s.live ≤ s.boundaries
  pub most : s.boundaries ≤ 16
  pub out : (q : ℕ) → s.table.shape.b ≤ q / 2 → s.members q ≡ Out
  pub kept : (q : ℕ) → marks_label s.label q ≡ true → q / 2 < s.table.shape.b

-- a step after which the same boundaries are in use
pub record Sits (old new : State) : Type 0 where
  pub live : new.live ≡ old.live
  pub boundaries : new.boundaries ≡ old.boundaries
  pub seated : IsSeated new

-- ---- members

-- a member that is out falls no more
falls_out : (before now : ℕ → ℕ) (old new : ℕ → MemberState) (q : ℕ) → MembersFall before now old new → old q ≡ Out → new q ≡ Out
falls_out before now old new q falls out = elim (falls q) [ inl same ↦ same ∙ out | inr fell ↦ fell.out ]

others_out : (p : ℕ) (before now : ℕ → ℕ) (old new : ℕ → MemberState) (q : ℕ) → OthersFall p before now old new → q ≢ p → old q ≡ Out → new q ≡ Out
others_out p before now old new q falls apart out = elim (falls q apart) [ inl same ↦ same ∙ out | inr fell ↦ fell.out ]

struck_out : (p : ℕ) (old new : ℕ → MemberState) (q : ℕ) → IsStruck p old new → old q ≡ Out → new q ≡ Out
struck_out p old new q struck out = elim (cases_eq q p) [
  | inl here ↦ ap new here ∙ struck.out
  | inr apart ↦ elim (struck.others q apart) [ inl same ↦ same ∙ out | inr left ↦ left.1 ]
]

-- a good member is of a boundary, where none behind them does anything
good_below : (b : ℕ) (members : ℕ → MemberState) → ((q : ℕ) → b ≤ q / 2 → members q ≡ Out) → (q : ℕ) → is_good (members q) ≡ true → q / 2 < b
good_below b members out q good = elim (cases_lt (q / 2) b) [
  | inl low ↦ low
  | inr past ↦ absurd (false≢true (sym (ap is_good (out q past)) ∙ good))
]

-- a boundary behind them is lost
lost_behind : (b : ℕ) (members : ℕ → MemberState) → ((q : ℕ) → b ≤ q / 2 → members q ≡ Out) → (s : ℕ) → b ≤ s → is_lost members s ≡ true
lost_behind b members out s past =
    let first = out (2 * s) (omega (arith, past)) in
    let second = out (2 * s + 1) (omega (arith, past)) in
    ap (λ (m : MemberState). not (is_good m) && not (is_good (members (2 * s + 1)))) first ∙ ap (λ (m : MemberState). not (is_good m)) second

-- ---- labels

module _ (b : ℕ) (old new : ℕ → MemberState) (out : (q : ℕ) → b ≤ q / 2 → new q ≡ Out) where
  kept_if : (stays : Bool) (last : LastLabel) → ((q : ℕ) → (last.keepers q || last.bodies q) ≡ true → q / 2 < b) → (q : ℕ)
      → marks_label (Some (if stays then last else record last { sealed = false; keepers = λ p. (last.sealed || last.keepers p) && (is_good (old p) && is_good (new p)) })) q ≡ true
      → q / 2 < b
  kept_if true last was q h = was q h
  kept_if false last was q h = elim (or_cases ((last.sealed || last.keepers q) && (is_good (old q) && is_good (new q))) (last.bodies q) h) [
    | inl keeps ↦
        let parts = and_parts (last.sealed || last.keepers q) (is_good (old q) && is_good (new q)) keeps in
        good_below b new out q (and_parts (is_good (old q)) (is_good (new q)) parts.1).1
    | inr body ↦ was q (or_right (last.keepers q) (last.bodies q) body)
  ]

  kept_after : (opens : Bool) (label : Option LastLabel) → ((q : ℕ) → marks_label label q ≡ true → q / 2 < b) → (q : ℕ)
      → marks_label (label_after opens old new label) q ≡ true → q / 2 < b
  kept_after opens None was q h = absurd (false≢true h)
  kept_after opens (Some last) was q h = kept_if (last.sealed && not opens) last was q h

forgotten_none : (b : ℕ) (label : Option LastLabel) (q : ℕ) → marks_label (option_map forgotten label) q ≡ true → q / 2 < b
forgotten_none b None q h = absurd (false≢true h)
forgotten_none b (Some last) q h = absurd (false≢true h)

left_kept : (left : List ℕ) (label : Option LastLabel) (q : ℕ) → marks_label (option_map (label_left left) label) q ≡ true → q / 2 < length left
left_kept left None q h = absurd (false≢true h)
left_kept left (Some last) q h = elim (or_cases ((label_left left last).keepers q) ((label_left left last).bodies q) h) [
  | inl keeps ↦ ltb-true (q / 2) (length left) (and_parts (nat_lt (q / 2) (length left)) (last.keepers (member_before left q)) keeps).0
  | inr body ↦ ltb-true (q / 2) (length left) (and_parts (nat_lt (q / 2) (length left)) (last.bodies (member_before left q)) body).0
]

-- ---- steps

module _ (old new : State) (was : IsSeated old) (shape : new.table.shape ≡ old.table.shape) where
  abbrev Outs : Type 0
  Outs = (q : ℕ) → old.table.shape.b ≤ q / 2 → new.members q ≡ Out

  abbrev Keeps : Type 0
  Keeps = (q : ℕ) → marks_label new.label q ≡ true → q / 2 < old.table.shape.b

  seated_by : new.live ≡ old.live → new.boundaries ≡ old.boundaries → Outs → Keeps → IsSeated new
  seated_by live boundaries out kept = record {
    size = ap (λ (s : Shape). s.b) shape ∙ was.size ∙ ap (λ (l : List ℕ). length l) (sym live);
    few = subst (λ (n : ℕ). length new.live ≤ n) (sym boundaries) (subst (λ (l : List ℕ). length l ≤ old.boundaries) (sym live) was.few);
    most = subst (λ (n : ℕ). n ≤ 16) (sym boundaries) was.most;
    out = λ q past. out q (subst (λ (s : Shape). s.b ≤ q / 2) shape past);
    kept = λ q keeps. subst (λ (s : Shape). q / 2 < s.b) (sym shape) (kept q keeps);
  }

  seat : new.live ≡ old.live → new.boundaries ≡ old.boundaries → Outs → Keeps → Sits old new
  seat live boundaries out kept = record { live = live; boundaries = boundaries; seated = seated_by live boundaries out kept }

  same : new ≡ old → Sits old new
  same e = record { live = ap (λ (s : State). s.live) e; boundaries = ap (λ (s : State). s.boundaries) e; seated = subst IsSeated (sym e) was }

  by : (x : State) → new ≡ x → x.live ≡ old.live → x.boundaries ≡ old.boundaries → Outs → Keeps → Sits old new
  by x e live boundaries out kept = seat (ap (λ (s : State). s.live) e ∙ live) (ap (λ (s : State). s.boundaries) e ∙ boundaries) out kept

  label_by : (opens : Bool) → Outs → new.label ≡ label_after opens old.members new.members old.label → Keeps
  label_by opens out is q keeps =
      kept_after old.table.shape.b old.members new.members out opens old.label was.kept q (subst (λ (l : Option LastLabel). marks_label l q ≡ true) is keeps)

  goes_out : Goes old new → Outs
  goes_out h q past = falls_out old.counts.faults new.counts.faults old.members new.members q h.members (was.out q past)

  by_goes : (x : State) → new ≡ x → x.live ≡ old.live → x.boundaries ≡ old.boundaries → Goes old new → Sits old new
  by_goes x e live boundaries h = by x e live boundaries (goes_out h) (label_by h.passes.label.opens (goes_out h) h.passes.label.is)

  by_passes : (x : State) → new ≡ x → x.live ≡ old.live → x.boundaries ≡ old.boundaries → Passes old new → Outs → Sits old new
  by_passes x e live boundaries h out = by x e live boundaries out (label_by h.label.opens out h.label.is)

  stays : Stays old new → Sits old new
  stays h = by_goes _ h.rest refl refl h.goes

  falls : MembersFall old.counts.faults new.counts.faults old.members new.members → Outs
  falls h q past = falls_out old.counts.faults new.counts.faults old.members new.members q h (was.out q past)

  -- of a member that isn't out all others fall
  others : (p : ℕ) → (old.table.shape.b ≤ p / 2 → ⊥) → OthersFall p old.counts.faults new.counts.faults old.members new.members → Outs
  others p here h q past = elim (cases_eq q p) [
    | inl same ↦ absurd (here (subst (λ (k : ℕ). old.table.shape.b ≤ k / 2) same past))
    | inr apart ↦ others_out p old.counts.faults new.counts.faults old.members new.members q h apart (was.out q past)
  ]

  filling_here : (p have : ℕ) → old.members p ≡ Filling have → old.table.shape.b ≤ p / 2 → ⊥
  filling_here p have fills past = cc (fills, was.out p past)

  -- a member of a boundary that isn't lost is there
  pub found_here : (s j : ℕ) → j < 2 → (IsLostIn old s → ⊥) → old.table.shape.b ≤ member_of old s j / 2 → ⊥
  found_here s j side found past =
      let behind : old.table.shape.b ≤ place_of old s = omega (arith, past, side) in
      found (lost_behind old.table.shape.b old.members was.out (place_of old s) behind)

  handles : (s : ℕ) → Handles old s new → Sits old new
  handles s h = by _ h.rest refl refl out (label_by false out (ap (λ (x : State). x.label) h.rest))
    where
      out : Outs
      out q past = elim h.members [
        | inl same ↦ ap (λ (f : ℕ → MemberState). f q) same ∙ was.out q past
        | inr struck ↦ struck_out (member_of old s 0) old.members new.members q struck (was.out q past)
      ]

pub seated_next : (Known : Type 0) (old : State) (event : Event) (reply : Reply) (new : State) → IsSeated old → new.table.shape ≡ old.table.shape → StaysInUse event reply
    → Step Known old event reply new → Sits old new
seated_next Known old (Write b bytes) Range new was s u h = same old new was s h.1
seated_next Known old (Write b bytes) Degraded new was s u h = elim h.1 [ inl still ↦ same old new was s still.1 | inr now ↦ stays old new was s now.3 ]
seated_next Known old (Write b bytes) Done new was s u h = by_goes old new was s _ h.2.rest refl refl h.2.goes
seated_next Known old (Read b) Range new was s u h = same old new was s h.1
seated_next Known old (Read b) Unavailable new was s u h = stays old new was s h.3
seated_next Known old (Read b) (Data bytes) new was s u h = stays old new was s h.5
seated_next Known old (Fail t j) Range new was s u h = same old new was s h.1
seated_next Known old (Fail t j) Already new was s u h = same old new was s h.2
seated_next Known old (Fail t j) Done new was s u h =
    let out : Outs old new was s = λ q past. struck_out (member_of old t j) old.members new.members q h.2.members (was.out q past) in
    by old new was s _ h.2.rest refl refl out (label_by old new was s false out (ap (λ (x : State). x.label) h.2.rest))
seated_next Known old (Replace t j) Range new was s u h = same old new was s h.1
seated_next Known old (Replace t j) (Lost x) new was s u h = elim h.3 [ inl still ↦ same old new was s still.1 | inr now ↦ stays old new was s now.2 ]
seated_next Known old (Replace t j) NotOut new was s u h = same old new was s h.2
seated_next Known old (Replace t j) Failed new was s u h = by_passes old new was s _ h.3.rest refl refl h.3.passes (falls old new was s h.3.members)
seated_next Known old (Replace t j) Done new was s u h =
    by_passes old new was s _ h.3.rest refl refl h.3.passes
    (others old new was s (member_of old t j) (found_here old new was s t j h.0.side h.2) h.3.others)
seated_next Known old (Rebuild t n) Range new was s u h = same old new was s h.1
seated_next Known old (Rebuild t n) (Lost x) new was s u h = elim h.2 [
  | inl still ↦ same old new was s still.1
  | inr now ↦ by_passes old new was s _ now.2.slots.rest refl refl now.2.slots.passes (falls old new was s now.2.members)
]
seated_next Known old (Rebuild t n) NotFilling new was s u h = same old new was s h.3
seated_next Known old (Rebuild t n) Failed new was s u h = by_passes old new was s _ h.3.slots.rest refl refl h.3.slots.passes (falls old new was s h.3.members)
seated_next Known old (Rebuild t n) (Copied d l) new was s u h =
    by_passes old new was s _ h.2.slots.rest refl refl h.2.slots.passes (others old new was s h.2.q (filling_here old new was s h.2.q h.2.low h.2.filling.1) h.2.others)
seated_next Known old Settle (Lost t) new was s u h = elim h [
  | inl still ↦ same old new was s still.1
  | inr now ↦ elim now.2 [ inl still ↦ stays old new was s still | inr cut ↦ by_goes old new was s _ cut.1.rest refl refl cut.1.goes ]
]
seated_next Known old Settle Settled new was s u h =
    elim h.1 [ inl still ↦ same old new was s still.1 | inr now ↦ by_goes old new was s _ now.2.rest refl refl now.2.goes ]
seated_next Known old Settle (Malformed kind n) new was s u h = stays old new was s h.3.stays
seated_next Known old Settle (NoSpace bad) new was s u h = stays old new was s h.4.stays
seated_next Known old (Tend n) (Lost t) new was s u h = elim h [
  | inl still ↦ same old new was s still.1
  | inr now ↦ elim now.2 [ inl still ↦ stays old new was s still | inr cut ↦ by_goes old new was s _ cut.rest refl refl cut.goes ]
]
seated_next Known old (Tend n) (Tended m l) new was s u h =
    elim h.1 [ inl still ↦ same old new was s still.3 | inr now ↦ by_goes old new was s _ now.2.rest refl refl now.2.goes ]
seated_next Known old (Tend n) (NoSpace bad) new was s u h = stays old new was s h.3.stays
seated_next Known old Diffuse NotSettled new was s u h = same old new was s h.1
seated_next Known old Diffuse (Lost t) new was s u h =
    elim h.1 [ inl still ↦ same old new was s still.1 | inr now ↦ by_goes old new was s _ now.1.2.rest refl refl now.1.2.goes ]
seated_next Known old Diffuse (Diffused gained) new was s u h = by_goes old new was s _ h.3.rest refl refl h.3.goes
seated_next Known old (Who b) Range new was s u h = same old new was s h.1
seated_next Known old (Who b) Unavailable new was s u h = same old new was s h.2
seated_next Known old (Who b) (Verdict who) new was s u h = same old new was s h.3
seated_next Known old Pending (Blocks blocks) new was s u h = same old new was s h.1
seated_next Known old (Cat path) (Given lines) new was s u h = by_goes old new was s _ h.2.rest refl refl h.2.goes
seated_next Known old (Cat path) (Refused refusal) new was s u h = stays old new was s h.1
seated_next Known old (Cat path) Unavailable new was s u h = stays old new was s h.1
seated_next Known old (Cat path) (Cut lines) new was s u h = stays old new was s h.3
seated_next Known old (Ls path) (Listed entries) new was s u h = stays old new was s h.1
seated_next Known old (Ls path) (Refused refusal) new was s u h = stays old new was s h.1
seated_next Known old (Ls path) Unavailable new was s u h = stays old new was s h.1
seated_next Known old (Ls path) (ListedCut entries) new was s u h = stays old new was s h.2
seated_next Known old Tree NotSettled new was s u h = same old new was s h.1
seated_next Known old Tree (Nodes entries) new was s u h = stays old new was s h.2
seated_next Known old Tree (Refused refusal) new was s u h = stays old new was s h.2
seated_next Known old Tree Unavailable new was s u h = stays old new was s h.2
seated_next Known old Tree (NodesCut entries) new was s u h = stays old new was s h.3
seated_next Known old (Home path) NotSettled new was s u h = same old new was s h.1
seated_next Known old (Home path) (HomeAt t copy) new was s u h = stays old new was s h.2
seated_next Known old (Home path) NoHome new was s u h = stays old new was s h.2
seated_next Known old (Home path) (Refused refusal) new was s u h = stays old new was s h.2
seated_next Known old (Home path) Unavailable new was s u h = stays old new was s h.2
seated_next Known old Save (Lost t) new was s u h =
    by old new was s _ h.1.rest refl refl (falls old new was s h.1.passes.members)
    (λ q keeps. forgotten_none old.table.shape.b old.label q (subst (λ (l : Option LastLabel). marks_label l q ≡ true) (ap (λ (x : State). x.label) h.1.rest) keeps))
seated_next Known old Save (Saved number) new was s u h =
    let out : Outs old new was s = falls old new was s h.passes.members in
    by old new was s _ h.rest refl refl out
    (λ q keeps. elim (or_cases (is_good (new.members q)) (is_good (new.members q)) (subst (λ (l : Option LastLabel). marks_label l q ≡ true) (ap (λ (x : State). x.label) h.rest) keeps)) [
      | inl good ↦ good_below old.table.shape.b new.members out q good
      | inr good ↦ good_below old.table.shape.b new.members out q good
    ])
seated_next Known old Save NotSaved new was s u h = same old new was s h.1
seated_next Known old Regroup Whole new was s u h = same old new was s h.1
seated_next Known old Regroup TooFew new was s u h = stays old new was s h.3
seated_next Known old Regroup (Regrouped r c) new was s u h = absurd u
seated_next Known old LostFiles NotSettled new was s u h = same old new was s h.1
seated_next Known old LostFiles (LostFilesReply lost) new was s u h = stays old new was s h.2
seated_next Known old LostFiles (Refused refusal) new was s u h = stays old new was s h.2
seated_next Known old LostFiles Unavailable new was s u h = stays old new was s h.2
seated_next Known old LostFiles (LostFilesCut lost) new was s u h = stays old new was s h.3
seated_next Known old Audit (Audited findings) new was s u h = stays old new was s h.1
seated_next Known old Audit Unavailable new was s u h = stays old new was s h.1
seated_next Known old (DropDisk t j) NotParity new was s u h = same old new was s h
seated_next Known old (DropDisk t j) Range new was s u h = same old new was s h
seated_next Known old (DropDisk t j) Already new was s u h = same old new was s h
seated_next Known old (DropDisk t j) Done new was s u h = handles old new was s t h.1
seated_next Known old (MendDisk t j) NotParity new was s u h = same old new was s h
seated_next Known old (MendDisk t j) Range new was s u h = same old new was s h
seated_next Known old (MendDisk t j) (Lost x) new was s u h = elim h.2 [ inl still ↦ same old new was s still.1 | inr now ↦ handles old new was s t now.2 ]
seated_next Known old (MendDisk t j) NotOut new was s u h = same old new was s h.1
seated_next Known old (MendDisk t j) Failed new was s u h = handles old new was s t h.2
seated_next Known old (MendDisk t j) (Mended c) new was s u h = handles old new was s t h.2
seated_next Known old event reply new was s u h = absurd h

-- ---- boundaries that are taken out of use

shorter : (keep : ℕ → Bool) (xs : List ℕ) → length (filter keep xs) ≤ length xs
shorter keep [] = omega arith
shorter keep (x ∷ xs) = by (keep x) (shorter keep xs)
  where
    by : (here : Bool) → length (filter keep xs) ≤ length xs → length (if here then x ∷ filter keep xs else filter keep xs) ≤ length (x ∷ xs)
    by true less = omega (arith, less)
    by false less = omega (arith, less)

left_few : (shape : Shape) (members : ℕ → MemberState) → length (left_of shape members) ≤ shape.b
left_few shape members =
    omega (arith, shorter (λ x. not (is_lost members x)) (range_with_len 0 shape.b), length-range_with_len 0 shape.b)

left_seated : (mid : State) (counts : Counts) → IsSeated mid → IsSeated (without_lost mid counts)
left_seated mid counts was =
    let left = left_in mid in
    record {
      size = sym (length-map left (λ x. slice_index mid.live x));
      few =
          let count : length (without_lost mid counts).live ≡ length left = length-map left (λ x. slice_index mid.live x) in
          let few = left_few mid.table.shape mid.members in
          omega (arith, count, few, was.size, was.few);
      most = was.most;
      out = λ q past. cond-false (nat_lt (q / 2) (length left)) _ Out (le-ltb (q / 2) (length left) past);
      kept = λ q keeps. left_kept left mid.label q keeps;
    }

regroups_seated : (Known : Type 0) (old : State) (r c : ℕ) (new : State) → IsSeated old → Regroups Known old r c new → IsSeated new
regroups_seated Known old r c new was h =
    let mid = (stays old h.mid was (ap (λ (s : State). s.table.shape) h.opened.rest) h.opened).seated in
    (by_goes (without_lost h.mid h.counts) new (left_seated h.mid h.counts mid) (ap (λ (s : State). s.table.shape) h.rest) _ h.rest refl refl h.goes).seated

regroup_seated : (Known : Type 0) (old : State) (reply : Reply) (new : State) → IsSeated old → Step Known old Regroup reply new → IsSeated new
regroup_seated Known old Whole new was h = subst IsSeated (sym h.1) was
regroup_seated Known old TooFew new was h = (stays old new was (ap (λ (s : State). s.table.shape) h.3.rest) h.3).seated
regroup_seated Known old (Regrouped r c) new was h = regroups_seated Known old r c new was h.1
regroup_seated Known old reply new was h = absurd h

-- ---- runs

-- the shape is that of before, where the same boundaries are in use
pub sits_next : (Known : Type 0) (old : State) (event : Event) (reply : Reply) (new : State) → IsSeated old → StaysInUse event reply → Step Known old event reply new → Sits old new
sits_next Known old event reply new was stay step =
    seated_next Known old event reply new was (step_keeps Known old event reply new stay step).table.shape stay step

pub run_sits : (Known : Type 0) (old : State) (events : List Event) (replies : List Reply) (new : State) → IsSeated old → StayInUse events replies
    → Run Known old events replies new → Sits old new
run_sits Known old [] [] new was stay run = record {
  live = ap (λ (s : State). s.live) run;
  boundaries = ap (λ (s : State). s.boundaries) run;
  seated = subst IsSeated (sym run) was;
}
run_sits Known old [] (reply ∷ replies) new was stay run = absurd run
run_sits Known old (event ∷ events) [] new was stay run = absurd run
run_sits Known old (event ∷ events) (reply ∷ replies) new was stay run =
    let one = sits_next Known old event reply run.0 was stay.0 run.1 in
    let rest = run_sits Known run.0 events replies new one.seated stay.1 run.2 in
    record { live = rest.live ∙ one.live; boundaries = rest.boundaries ∙ one.boundaries; seated = rest.seated }

-- whichever the events are
pub step_seated : (Known : Type 0) (old : State) (event : Event) (reply : Reply) (new : State) → IsSeated old → Step Known old event reply new → IsSeated new
step_seated Known old Regroup reply new was step = regroup_seated Known old reply new was step
step_seated Known old event reply new was step = (sits_next Known old event reply new was tt step).seated

pub run_seated : (Known : Type 0) (old : State) (events : List Event) (replies : List Reply) (new : State) → IsSeated old → Run Known old events replies new → IsSeated new
run_seated Known old [] [] new was run = subst IsSeated (sym run) was
run_seated Known old [] (reply ∷ replies) new was run = absurd run
run_seated Known old (event ∷ events) [] new was run = absurd run
run_seated Known old (event ∷ events) (reply ∷ replies) new was run =
    run_seated Known run.0 events replies new (step_seated Known old event reply run.0 was run.1) run.2

pub blank_seated : (shape : Shape) (before : Counts) (state : State) → shape.b ≤ 16 → IsBlank shape before state → IsSeated state
blank_seated shape before state most blank =
    let live : length state.live ≡ shape.b = ap (λ (s : State). length s.live) blank.is ∙ length-range_with_len 0 shape.b in
    let size : state.table.shape.b ≡ shape.b = ap (λ (s : State). s.table.shape.b) blank.is in
    let boundaries : state.boundaries ≡ shape.b = ap (λ (s : State). s.boundaries) blank.is in
    record {
      size = size ∙ sym live;
      few = omega (arith, live, boundaries);
      most = omega (arith, most, boundaries);
      out = λ q past. blank.others q (omega (arith, size, past));
      kept = λ q keeps. absurd (false≢true (sym (ap (λ (s : State). marks_label s.label q) blank.is) ∙ keeps));
    }
