use Rattle.std.proofs.Common.{◌+◌, ◌*◌, ◌%◌, ◌<◌, arith}
use Rattle.ufs_inode.proofs.SpanLaws.{some_left, ceil_some}
use Rattle.ufs_inode.proofs.slots.span.Goals as goal

pub returns-clause-some : goal.returns-clause-some
returns-clause-some c =
    let size = c.args.inode.now.size in
    let b = c.from-block.result in
    let low : c.args.slot * b < size = grind arith in
    let high : size < c.args.slot * b + b = grind arith in
    let left = some_left c.args.slot b size low high in
    let some = ceil_some (size % b) c.args.g.now.fsize left (omega arith) in
    grind (arith, some)
