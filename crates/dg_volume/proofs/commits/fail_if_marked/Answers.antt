use Rattle.std.proofs.Common.{◌≡◌, ◌+◌, ◌*◌, ◌/◌, ◌%◌, ℕ, arith, subst}
use Rattle.dg_model.specs.Members.{IsStruck}
use Rattle.dg_store.specs.Stores.{members_of}
use Rattle.dg_volume.proofs.commits.fail_if_marked.Goals as goal

pub returns-then-is_marked-clause-marked : goal.returns-then-is_marked-clause-marked
returns-then-is_marked-clause-marked g c is =
    let same : 2 * (c.args.member / 2) + c.args.member % 2 ≡ c.args.member = omega arith in
    subst (λ (q : ℕ). IsStruck q (members_of c.args.store.now) (members_of c.fail.new.self)) same c.fail.ensures.struck
