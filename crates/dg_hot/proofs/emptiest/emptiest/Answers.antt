use Rattle.std.proofs.Common.{◌≡◌, ◌≢◌, ◌∙◌, ℕ, sym, ap, subst, arith}
use Rattle.std.specs.Prelude.{IfSome, Option}
use Rattle.dg_model.specs.Copies.{emptiest_of}
use Rattle.dg_model.specs.declared.shapes.Shape.{Shape}
use Rattle.dg_model.proofs.EmptiestLaws.{never_home}
use Rattle.dg_store.specs.Stores.{shape_of, table_of}
use Rattle.dg_hot.proofs.SpreadLaws.{emptiest_is}
use Rattle.dg_hot.proofs.emptiest.emptiest.Goals as goal

pub returns-clause-emptiest : goal.returns-clause-emptiest
returns-clause-emptiest g c =
    let b = ap (λ (sh : Shape). sh.b) c.shape.ensures in
    let end : c.loop-boundary.boundary ≡ (shape_of c.args.store.now).b = omega (arith, b, c.loop-boundary-test.false, c.loop-boundary.auto.boundary-end) in
    c.loop-boundary.invariant.best ∙ ap (emptiest_of (table_of c.args.store.now) c.args.home) end ∙ sym (emptiest_is (table_of c.args.store.now) c.args.home)

pub returns-clause-other : goal.returns-clause-other
returns-clause-other g c =
    subst (λ (o : Option ℕ). IfSome o (λ s. s ≢ c.args.home)) (sym c.loop-boundary.invariant.best)
    (never_home (table_of c.args.store.now) c.args.home c.loop-boundary.boundary)
