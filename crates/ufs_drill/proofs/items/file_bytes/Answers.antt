use Rattle.ufs_drill.proofs.ItemLaws.{given_more}
use Rattle.ufs_drill.specs.Items.{byte_of}
use Rattle.ufs_drill.proofs.items.file_bytes.Goals as goal

pub loop-o-preserved : goal.loop-o-preserved
loop-o-preserved c = given_more (byte_of c.args.k) c.loop-o.o _ _ _ c.loop-o.invariant c.byte_of.ensures c.in_ok-push_byte.ensures
