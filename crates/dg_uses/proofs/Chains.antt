-- A trace in which no count of faults rises, where bytes are told, is a chain of views, and such a chain is one.
use Rattle.std.proofs.Common.{◌≡◌, ◌/◌, ℕ, false, List, [], ◌∷◌, refl, sym, ◌∙◌, ap, subst, arith, inl, inr}
use Rattle.std.specs.Prelude.{All, nat_lt}
use Rattle.std.proofs.lemmas.Bool.{cases_lt, lt-ltb, le-ltb, cond-true, cond-false}
use Rattle.std.proofs.lemmas.List.Elements.{All-head, All-tail}
use Rattle.dg_model.specs.Causes.{NoneRose}
use Rattle.dg_model.specs.Members.{is_filling}
use Rattle.dg_model.specs.Runs.{Run, Trace}
use Rattle.dg_model.specs.Shapes.{IsShape}
use Rattle.dg_model.specs.States.{Counts, IsBlank, State}
use Rattle.dg_model.specs.declared.shapes.Shape.{Shape}
use Rattle.dg_model.specs.declared.members.MemberState.TheVariants.{Good, Out}
use Rattle.dg_model.specs.declared.events.Event.{Event}
use Rattle.dg_model.specs.declared.events.Event.TheVariants.{Array}
use Rattle.dg_model.specs.declared.replies.Reply.{Reply}
use Rattle.dg_model.specs.declared.replies.Reply.TheVariants.{Done}
use Rattle.dg_model.proofs.FirstSites.{empty_inside}
use Rattle.dg_model.proofs.MemberLaws.{none_back, none_front}
use Rattle.dg_model.proofs.RunLaws.{trace_more}
use Rattle.dg_model.proofs.StepLaws.{run_keeps, step_keeps}
use Rattle.dg_uses.specs.Views.{Core, Views, blank_core, core_of}
use Rattle.dg_uses.proofs.Cores.{Sound, core_is}
use Rattle.dg_uses.proofs.InUse.{InUse, IsViewed, in_use_blank, in_use_next, viewed_stay, viewed_stays}
use Rattle.dg_uses.proofs.OneView.{view_same, view_sound}
use Rattle.dg_uses.proofs.StepViews.{view_of}

-- ---- chains

pub views_same : (shape : Shape) (events : List Event) (c x y : Core) (r q : List Reply) → Sound shape c → Views c events r x → Views c events q y
    → (r ≡ q) × (x ≡ y)
views_same shape [] c x y [] [] sound u v = (refl, u ∙ sym v)
views_same shape [] c x y [] (reply ∷ q) sound u v = absurd v
views_same shape [] c x y (reply ∷ r) q sound u v = absurd u
views_same shape (event ∷ events) c x y [] q sound u v = absurd u
views_same shape (event ∷ events) c x y (reply ∷ r) [] sound u v = absurd v
views_same shape (event ∷ events) c x y (reply ∷ r) (other ∷ q) sound u v =
    let one = view_same shape c event reply other u.0 v.0 sound u.1 v.1 in
    let after : Views u.0 events q y = subst (λ (m : Core). Views m events q y) (sym one.1) v.2 in
    let rest = views_same shape events u.0 x y r q (view_sound shape c event reply u.0 sound u.1) u.2 after in
    (ap (λ (z : Reply). z ∷ r) one.0 ∙ ap (λ (l : List Reply). other ∷ l) rest.0, rest.1)

-- ---- runs

module _ (Known : Type 0) (known : Known) (shape : Shape) where
  pub run_views : (events : List Event) (old new : State) (replies : List Reply) → All IsViewed events → Sound shape (core_of old) → InUse shape old
      → NoneRose old.counts.faults new.counts.faults → Run Known old events replies new → Views (core_of old) events replies (core_of new)
  run_views [] old new [] served sound in_use none run = ap (λ (s : State). core_of s) run
  run_views [] old new (reply ∷ replies) served sound in_use none run = absurd run
  run_views (event ∷ events) old new [] served sound in_use none run = absurd run
  run_views (event ∷ events) old new (reply ∷ replies) served sound in_use none run =
      let mid = run.0 in
      let viewed = All-head IsViewed event events served in
      let others = All-tail IsViewed event events served in
      let front = none_front old.counts.faults mid.counts.faults new.counts.faults (run_keeps Known mid events replies new (viewed_stay events replies others) run.2).counts.faults none in
      let back = none_back old.counts.faults mid.counts.faults new.counts.faults (step_keeps Known old event reply mid (viewed_stays event reply viewed) run.1).counts.faults none in
      let view = view_of Known known shape old mid sound in_use front event reply viewed run.1 in
      let after = in_use_next shape old mid in_use Known event reply viewed run.1 in
      let rest = run_views events mid new replies others (view_sound shape (core_of old) event reply (core_of mid) sound view) after back run.2 in
      (core_of mid, view, rest)

-- ---- traces

pub blank_at : (shape : Shape) (before : Counts) (s : State) → NoneRose before.faults s.counts.faults → IsBlank shape before s
    → (q : ℕ) → s.members q ≡ (blank_core shape).members q
blank_at shape before s none blank q = elim (cases_lt (q / 2) shape.b) [
  | inl low ↦ elim (blank.members q low) [
    | inl good ↦ good ∙ sym (cond-true (nat_lt (q / 2) shape.b) Good Out (lt-ltb (q / 2) shape.b low))
    | inr out ↦ absurd (none q out.1)
  ]
  | inr high ↦ blank.others q high ∙ sym (cond-false (nat_lt (q / 2) shape.b) Good Out (le-ltb (q / 2) shape.b high))
]

blank_is : (shape : Shape) (before : Counts) (s : State) → NoneRose before.faults s.counts.faults → IsBlank shape before s → core_of s ≡ blank_core shape
blank_is shape before s none blank =
    core_is (core_of s) (blank_core shape) (ap (λ (t : State). t.table) blank.is) (ap (λ (t : State). t.blocks) blank.is)
    (λ i q. blank_at shape before s none blank q i)

pub blank_whole : (shape : Shape) (q : ℕ) → is_filling ((blank_core shape).members q) ≡ false
blank_whole shape q = elim (cases_lt (q / 2) shape.b) [
  | inl low ↦ ap is_filling (cond-true (nat_lt (q / 2) shape.b) Good Out (lt-ltb (q / 2) shape.b low))
  | inr high ↦ ap is_filling (cond-false (nat_lt (q / 2) shape.b) Good Out (le-ltb (q / 2) shape.b high))
]

pub blank_sound : (shape : Shape) → IsShape shape → Sound shape (blank_core shape)
blank_sound shape is = record {
  inside = empty_inside shape;
  whole = blank_whole shape;
  boundaries = omega (arith, is.least_boundaries);
  bytes = omega (arith, is.block);
}

-- the replies behind the first one, and the chain that they are of
pub record IsChain (shape : Shape) (events : List Event) (replies : List Reply) (new : Core) : Type 0 where
  pub rest : List Reply
  pub is : replies ≡ Done ∷ rest
  pub views : Views (blank_core shape) events rest new

pub trace_chain : (Known : Type 0) → Known → (shape : Shape) (events : List Event) (before : Counts) (replies : List Reply) (final : State) → IsShape shape
    → All IsViewed events → NoneRose before.faults final.counts.faults → Trace Known before (Array shape ∷ events) replies final
    → IsChain shape events replies (core_of final)
trace_chain Known known shape events before replies final is served none trace =
    let t = trace_more Known before shape events replies final trace in
    let front = none_front before.faults t.blank.counts.faults final.counts.faults (run_keeps Known t.blank events t.rest final (viewed_stay events t.rest served) t.run).counts.faults none in
    let back = none_back before.faults t.blank.counts.faults final.counts.faults t.is_blank.counts.faults none in
    let same = blank_is shape before t.blank front t.is_blank in
    let sound : Sound shape (core_of t.blank) = subst (λ (c : Core). Sound shape c) (sym same) (blank_sound shape is) in
    let views = run_views Known known shape events t.blank final t.rest served sound (in_use_blank shape before t.blank t.is_blank) back t.run in
    record { rest = t.rest; is = t.is; views = subst (λ (c : Core). Views c events t.rest (core_of final)) same views }

-- any trace in which no count of faults rises, where bytes are told, has the replies of a chain that a client writes down
pub trace_views : (Known : Type 0) → Known → (shape : Shape) (events : List Event) (before : Counts) (replies chain : List Reply) (final : State) (end : Core)
    → IsShape shape → All IsViewed events → NoneRose before.faults final.counts.faults → Trace Known before (Array shape ∷ events) replies final
    → Views (blank_core shape) events chain end → replies ≡ Done ∷ chain
trace_views Known known shape events before replies chain final end is served none trace views =
    let found = trace_chain Known known shape events before replies final is served none trace in
    found.is ∙ ap (λ (l : List Reply). Done ∷ l) (views_same shape events (blank_core shape) (core_of final) end found.rest chain (blank_sound shape is) found.views views).0
