use Rattle.ufs_super.proofs.SuperLaws.{geometry_on}
use Rattle.ufs_super.proofs.superblocks.read_super.Goals as goal

pub returns-clause-ok : goal.returns-clause-ok
returns-clause-ok c =
    geometry_on c.args.bytes.now c.args.l c.args.n c.geometry_in.result c.geometry_in.ensures (c.accepted_superblocks.ensures c.args.bytes.now c.args.l c.args.n)
