-- A state that was settled is in order.
use Rattle.std.proofs.Common.{◌≡◌, ◌≢◌, ◌∙◌, ◌==◌, ℕ, ◌<◌, ◌≤◌, inl, inr, Bool, true, false, List, [], Option, Some, None, Ok, refl, sym, ap, subst, arith}
use Rattle.std.specs.Prelude.{is_some, option_to_list}
use Rattle.std.specs.List.{list_any}
use Rattle.std.proofs.lemmas.Bool.{cases_Bool, cases_lt}
use Rattle.std.proofs.lemmas.List.{append-nil}
use Rattle.dg_model.specs.Changes.{IsInOrder, Settles}
use Rattle.dg_model.specs.Homes.{Ascend, home_of}
use Rattle.dg_model.specs.Moves.{AreTargets, moved}
use Rattle.dg_model.specs.Placed.{IsPlaced}
use Rattle.dg_model.specs.Plans.{Plan, count_of, places_of, plan, targets_by, targets_of}
use Rattle.dg_model.specs.Shapes.{IsShape}
use Rattle.dg_model.specs.Sites.{has_site}
use Rattle.dg_model.specs.States.{State}
use Rattle.dg_model.specs.Steps.{Step}
use Rattle.dg_model.specs.Tables.{IsTable, Table, is_on, sites_in}
use Rattle.dg_model.specs.Wants.{FitWants, want_of}
use Rattle.dg_model.specs.declared.events.Event.TheVariants.{Settle}
use Rattle.dg_model.specs.declared.homes.Home.{Home}
use Rattle.dg_model.specs.declared.parents.Parent.{Parent}
use Rattle.dg_model.specs.declared.phases.Phase.TheVariants.{Settled}
use Rattle.dg_model.specs.declared.replies.Reply.TheVariants.{Settled as SettledReply}
use Rattle.dg_model.specs.declared.shapes.Shape.{Shape}
use Rattle.dg_model.specs.declared.wants.Want.{Want}
use Rattle.dg_model.specs.declared.wants.Want.TheVariants.{File, Kept}
use Rattle.dg_promise.proofs.GoneLaws.{stands_site}
use Rattle.dg_promise.proofs.MoveLaws.{IsMoved, all_moved}
use Rattle.dg_promise.proofs.PlanLaws.{good_plan}
use Rattle.dg_promise.proofs.WantLaws.{some_block, want_inside}

-- what every plan gives meets the conditions of moves
abbrev pub PlansAreTargets : Type 0
PlansAreTargets = (table : Table) (wants : List (Option Want)) (parents : List Parent) (homes : List Home) (found : Plan) → IsShape table.shape →
    FitWants table wants → plan table.shape wants parents homes ≡ Ok found → AreTargets (targets_of table.shape wants found) table

-- a block stands on boundaries of the array alone
pub on_inside : (table : Table) → IsTable table → (b s : ℕ) → table.shape.b ≤ s → is_on table b s ≡ false
on_inside table ok b s past = elim (cases_Bool (is_on table b s)) [
  | inl on ↦ let site = stands_site (sites_in table b) s on in let low = ok.boundaries b s site.0 site.1 in absurd (omega arith)
  | inr off ↦ off
]

target_inside : (targets : ℕ → ℕ → Bool) (table : Table) → AreTargets targets table → (b s : ℕ) → table.shape.b ≤ s → targets b s ≡ false
target_inside targets table are b s past = elim (cases_Bool (targets b s)) [
  | inl wanted ↦ let low = are.within b s wanted in absurd (omega arith)
  | inr other ↦ other
]

some_home : (home : Option ℕ) (s : ℕ) → list_any (λ t. t == s) (option_to_list home) ≡ true → is_some home ≡ true
some_home None s on = on
some_home (Some t) s on = refl

module _ (shape : Shape) (wants : List (Option Want)) (found : Plan) where
  target_is : (b s : ℕ) (want : Option Want) → want_of wants b ≡ want → targets_of shape wants found b s ≡ list_any (λ t. t == s) (targets_by shape found b want)
  unfolding targets_of
  target_is b s want is = rw is refl

module _ (old : Table) (wants : List (Option Want)) (parents : List Parent) (homes : List Home) (found : Plan) (ok : IsTable old) (fit : FitWants old wants) (up : Ascend homes)
    (is : plan old.shape wants parents homes ≡ Ok found) (are : AreTargets (targets_of old.shape wants found) old) (new : Table) (all : IsMoved (targets_of old.shape wants found) old new) where
  stands : (b s : ℕ) (want : Want) → want_of wants b ≡ Some want → is_on new b s ≡ list_any (λ t. t == s) (targets_by old.shape found b (Some want))
  stands b s want there =
      let low = want_inside wants b want there in
      let size = fit.size in
      let inside : b < new.shape.n = subst (λ (x : Shape). b < x.n) (sym all.leaves.shape) (omega arith) in
      elim (cases_lt s old.shape.b) [
        | inl lt ↦ all.at b s inside (subst (λ (x : Shape). s < x.b) (sym all.leaves.shape) lt) ∙ target_is old.shape wants found b s (Some want) there
        | inr ge ↦
            on_inside new all.leaves.ok b s (subst (λ (x : Shape). x.b ≤ s) (sym all.leaves.shape) ge)
            ∙ sym (target_inside (targets_of old.shape wants found) old are b s ge)
            ∙ target_is old.shape wants found b s (Some want) there
      ]

  housed : (i : ℕ) → 0 < count_of wants i → is_some (home_of found.homes i) ≡ true
  housed i some =
      let block = some_block wants i some in
      let low = want_inside wants block.0 (File i) block.1 in
      let size = fit.size in
      let written : has_site (sites_in old block.0) ≡ true = sym (fit.written block.0) ∙ ap is_some block.1 in
      let target = are.some block.0 (omega arith) written in
      some_home (home_of found.homes i) target.0 (sym (target_is old.shape wants found block.0 target.0 (Some (File i)) block.1) ∙ target.2)

  placed : IsPlaced wants new found.homes []
  placed =
      let good = good_plan old.shape wants parents homes found up is in
      record {
        kept = λ b there s. stands b s Kept there ∙ ap (λ (x : Shape). list_any (λ t. t == s) (places_of x b)) (sym all.leaves.shape);
        file = λ b i there s. stands b s (File i) there ∙ ap (list_any (λ t. t == s)) (sym (append-nil (option_to_list (home_of found.homes i))));
        homes_are = λ i. (good.0 i, housed i);
        copies_are = λ i t (none : None ≡ Some t). cc;
        homes_ascend = good.1;
        copies_ascend = λ k low. absurd (omega arith);
      }

  fits_now : FitWants new wants
  fits_now = record {
    size = fit.size ∙ ap (λ (x : Shape). x.n) (sym all.leaves.shape);
    written = λ b. fit.written b ∙ sym (all.leaves.written b);
  }

pub settles : PlansAreTargets → (Known : Type 0) (old new : State) → IsTable old.table → Ascend old.homes → old.copies ≡ [] → Settles Known old new → IsInOrder Known new
settles plans Known old new ok up none h =
    let planned = h.planned in
    let fit = planned.sees_wants.fit in
    let are = plans old.table h.wants planned.parents old.homes h.found ok.shape fit planned.is in
    let all = all_moved (targets_of old.table.shape h.wants h.found) old.table ok are in
    let now = moved (targets_of old.table.shape h.wants h.found) None old.table in
    let shape = all.leaves.shape in
    subst (IsInOrder Known) (sym h.rest) (record {
      wants = h.wants;
      seen = record {
        fit = fits_now old.table h.wants planned.parents old.homes h.found ok fit up planned.is are (moved (targets_of old.table.shape h.wants h.found) None old.table) all;
        are = λ told. rw shape (planned.sees_wants.are told);
      };
      placed = subst (λ (copies : List Home). IsPlaced h.wants (moved (targets_of old.table.shape h.wants h.found) None old.table) h.found.homes copies) (sym none)
          (placed old.table h.wants planned.parents old.homes h.found ok fit up planned.is are (moved (targets_of old.table.shape h.wants h.found) None old.table) all);
      sound = λ told. rw shape (h.sound told);
    })

-- the table is still a table
pub settled_table : PlansAreTargets → (Known : Type 0) (old new : State) → IsTable old.table → Settles Known old new → IsTable new.table
settled_table plans Known old new ok h =
    let planned = h.planned in
    let are = plans old.table h.wants planned.parents old.homes h.found ok.shape planned.sees_wants.fit planned.is in
    let all = all_moved (targets_of old.table.shape h.wants h.found) old.table ok are in
    subst (λ (state : State). IsTable state.table) (sym h.rest) all.leaves.ok

pub settled_order : PlansAreTargets → (Known : Type 0) (old new : State) → IsTable old.table → Ascend old.homes → old.copies ≡ [] → old.phase ≢ Settled → Step Known old Settle SettledReply new
    → IsInOrder Known new
settled_order plans Known old new ok up none unsettled (whole, inl (settled, same)) = absurd (unsettled settled)
settled_order plans Known old new ok up none unsettled (whole, inr (other, still, h)) = settles plans Known old new ok up none h
