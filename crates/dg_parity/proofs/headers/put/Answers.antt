use Rattle.std.proofs.Common.{arith, length, ◌+◌, ◌-◌}
use Rattle.dg_parity.proofs.PageLemmas.{put_padded}
use Rattle.dg_parity.proofs.headers.put.Goals as goal

pub returns-clause-bytes : goal.returns-clause-bytes
returns-clause-bytes c done at is =
    rw c.copy_from_slice.ensures.after (put_padded done c.args.bytes.now c.args.page.now c.args.at (c.args.at + length c.args.bytes.now - c.args.at) at (omega arith) (omega (arith, c.requires)) is)
