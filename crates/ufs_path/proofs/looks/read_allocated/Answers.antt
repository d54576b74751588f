use Rattle.ufs_path.proofs.ConsultLaws.{consults_once}
use Rattle.ufs_path.proofs.NeedLaws.{inode_needed}
use Rattle.ufs_pointer.specs.KindLaws.{loses_once}
use Rattle.std.proofs.Common.{◌<◌, refl, arith}
use Rattle.ufs_path.proofs.looks.read_allocated.Goals as goal

pub returns-then-not-read_aside-clause-consults : goal.returns-then-not-read_aside-clause-consults
returns-then-not-read_aside-clause-consults g c =
    let inside : c.place_of-block.result.0 < g.V.View.count c.args.view.now = let low = c.place_of-block.ensures.inside in let most = c.requires.geometry.size in omega arith in
    consults_once g.V.View c.place_of-block.result.0 _ _ (λ v. inode_needed c.args.g.now c.args.number c.place_of-block.result.0 v c.place_of-block.ensures.block)
    (λ h. loses_once _ inside (c.if-not-read_aside.ensures.gone refl) (λ v holds. inode_needed c.args.g.now c.args.number c.place_of-block.result.0 v c.place_of-block.ensures.block))
    c.if-not-read_aside.ensures.once

pub returns-clause-consults : goal.returns-clause-consults
returns-clause-consults g c =
    consults_once g.V.View c.place_of-block.result.0 _ _ (λ v. inode_needed c.args.g.now c.args.number c.place_of-block.result.0 v c.place_of-block.ensures.block)
    (λ h. absurd (c.allocated_at.ensures.read h)) c.read_aside.ensures.once
