use Rattle.std.proofs.Common.{◌≡◌, ◌+◌, ap, not, sym, true}
use Rattle.ufs_build.specs.Placements.{is_used}
use Rattle.ufs_build.proofs.BelowLaws.{false_at}
use Rattle.ufs_build.proofs.spaces.are_free.Goals as goal

pub returns-then-is_used : goal.returns-then-is_used
returns-then-is_used c =
    let used : is_used c.args.used.now (c.args.a + c.loop-i.i) ≡ true =
    sym (rw (c.from.ensures, c.from-in-loop-i.ensures) at (let told : true ≡ is_used c.args.used.now (c.from.result + c.from-in-loop-i.result) = c.if-is_used.ensures in told)) in
    sym (false_at (λ i. not (is_used c.args.used.now (c.args.a + i))) c.args.k c.loop-i.i c.loop-i-test.true (ap not used))
