use Rattle.std.proofs.Common.{sym}
use Rattle.ufs_check.proofs.limits.read_limit.Goals as goal

pub returns-clause-found : goal.returns-clause-found
returns-clause-found g c = λ told v stands has.
    c.limit_of.ensures.limit v c.args.f (c.in-Some.ensures.reaches v has) (sym (c.in_ok-inode.ensures.found told v stands))
