use Rattle.std.proofs.Common.{◌≡◌, ◌∙◌, ◌+◌, ◌*◌, ℕ, sym, ap, subst, arith}
use Rattle.dg_pair.specs.Boundaries.{members_of, unfilled}
use Rattle.dg_model.specs.declared.members.MemberState.TheVariants.{Out}
use Rattle.dg_store.proofs.Calls.{row_stands}
use Rattle.dg_store.proofs.Rows.{there, set_changed}
use Rattle.dg_store.proofs.Struck.{struck}
use Rattle.dg_store.proofs.boundaries.fail_side.Goals as goal

pub returns-clause-stands : goal.returns-clause-stands
returns-clause-stands c =
    row_stands _ _ _ _ _ _ c.requires.within (there _ _ _ c.requires.within c.index_mut.ensures.value) c.requires.stands
    c.fail.ensures.keeps

pub returns-clause-already : goal.returns-clause-already
returns-clause-already c =
    let was = there _ _ _ c.requires.within c.index_mut.ensures.value in
    let changed = set_changed c.args.row.now.items c.args.boundary c.index_mut.result.now c.fail.new.self c.requires.within was in
    let number = (c.requires.stands _ _ was).number_is in
    let place = 2 * c.args.boundary + c.args.side in
    let same : Rattle.dg_store.specs.Rows.members_in c.args.row.now.items place ≡ members_of c.index_mut.result.now (2 * Rattle.dg_pair.specs.Boundaries.number_of c.index_mut.result.now + c.args.side) =
    changed.was place (omega (arith, c.requires.side)) ∙ ap (λ (n : ℕ). members_of c.index_mut.result.now (2 * n + c.args.side)) (sym number) in
    (λ h. same ∙ c.fail.ensures.already.0 h, λ h. c.fail.ensures.already.1 (sym same ∙ h))

pub returns-clause-struck : goal.returns-clause-struck
returns-clause-struck c =
    let was = there _ _ _ c.requires.within c.index_mut.ensures.value in
    let changed = set_changed c.args.row.now.items c.args.boundary c.index_mut.result.now c.fail.new.self c.requires.within was in
    let number = (c.requires.stands _ _ was).number_is in
    struck c.args.boundary c.args.side _ _ _ _ c.requires.side changed
    (subst (λ (n : ℕ). members_of c.fail.new.self (2 * n + c.args.side) ≡ Out) number c.fail.ensures.out)
    (subst (λ (n : ℕ). (p : ℕ) → (p ≡ (2 * n + c.args.side) → ⊥) → members_of c.fail.new.self p ≡ unfilled (members_of c.index_mut.result.now p)) number c.fail.ensures.others)
