use Rattle.std.proofs.Common.{◌∙◌, ap, refl}
use Rattle.dg_claims.specs.Scans.{stored_fragments}
use Rattle.dg_infer.proofs.FetchedLaws.{on_ok_map}
use Rattle.dg_infer.proofs.TargetLaws.{stored_target}
use Rattle.dg_infer.proofs.inodes.move_number.Goals as goal

pub returns-clause-slots : goal.returns-clause-slots
returns-clause-slots c =
    on_ok_map c.move_inode.result (λ slots two v has slot.
    slots slot
    ∙ ap (λ o. stored_fragments c.args.claims.now.geometry c.args.number o slot) c.inode_at.ensures
    ∙ stored_target c.args.g.now c.args.claims.now.geometry v c.args.number slot _ c.place_of-byte.result.1 c.args.bytes.now c.requires.table two c.requires.inside refl
    c.place_of-byte.ensures.byte has) c.move_inode.ensures.slots
