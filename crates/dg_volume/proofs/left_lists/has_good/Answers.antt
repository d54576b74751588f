use Rattle.std.proofs.Common.{◌≡◌, ◌∙◌, ◌*◌, ℕ, inl, inr, sym, ap, arith}
use Rattle.std.proofs.lemmas.Bool.{cases_eq, cases_lt}
use Rattle.dg_model.specs.Members.{is_good}
use Rattle.dg_model.specs.declared.shapes.Shape.{Shape}
use Rattle.dg_store.specs.Stores.{members_of, shape_of}
use Rattle.dg_volume.proofs.left_lists.has_good.Goals as goal

pub loop-member-preserved : goal.loop-member-preserved
loop-member-preserved g c = λ q low. elim (cases_eq q c.loop-member.member) [
  | inl same ↦ ap (λ (n : ℕ). is_good (members_of c.args.store.now n)) same ∙ sym c.is_good.ensures ∙ c.if-is_good.false
  | inr apart ↦ c.loop-member.invariant q (omega (arith, low, apart))
]

pub returns-clause-none : goal.returns-clause-none
returns-clause-none g c = λ e q.
    let b = ap (λ (sh : Shape). sh.b) c.shape.ensures in
    let all : c.loop-member.member ≡ 2 * (shape_of c.args.store.now).b = omega (arith, b) in
    elim (cases_lt q c.loop-member.member) [
      | inl low ↦ c.loop-member.invariant q low
      | inr high ↦ ap is_good (c.requires.others q (omega (arith, all, high)))
    ]
