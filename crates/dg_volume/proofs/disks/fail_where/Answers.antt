use Rattle.std.proofs.Common.{◌≡◌, ◌+◌, ◌*◌, ℕ, Bool, arith, subst, sym}
use Rattle.dg_model.specs.Members.{IsStruck}
use Rattle.dg_store.specs.Stores.{members_of}
use Rattle.dg_volume.proofs.disks.fail_where.Goals as goal
use Rattle.dg_volume.specs.Disks.{FailsWhere}

pub returns-then-lost-clause-members : goal.returns-then-lost-clause-members
returns-then-lost-clause-members g c =
    let first : 2 * c.args.place + 0 ≡ 2 * c.args.place = omega arith in
    subst (λ (lost : Bool). FailsWhere lost c.args.place (members_of c.args.store.now) (members_of c.fail.new.self)) (sym c.if-lost.true)
    (subst (λ (q : ℕ). IsStruck q (members_of c.args.store.now) (members_of c.fail.new.self)) first c.fail.ensures.struck)
