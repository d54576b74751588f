use Rattle.std.proofs.Common.{◌<◌, arith, refl}
use Rattle.ufs_model.specs.Metadata.{IsMetadataBy}
use Rattle.ufs_check.proofs.InodeLaws.{one_block}
use Rattle.ufs_pointer.specs.KindLaws.{loses_once, only_once}
use Rattle.ufs_check.proofs.PassLaws.{read_value}
use Rattle.dg_claims.specs.ThereLaws.{not_before, there_one}
use Rattle.ufs_check.proofs.inodes.hold_inodes.Goals as goal

pub returns-clause-holds : goal.returns-clause-holds
returns-clause-holds g c = λ could told v stands before.
    rw c.requires.geometry.fsize (read_value c.read_aside.result _ (rw one_block at c.read_aside.ensures.rule) could told v stands)

pub returns-clause-gone : goal.returns-clause-gone
returns-clause-gone g c = λ missed.
    let inside : c.args.block < g.V.View.count c.args.view.now = let low = c.requires.inside in let high = c.requires.geometry.size in omega arith in
    loses_once (IsMetadataBy c.args.g.now) inside (c.read_aside.ensures.gone missed) (λ v stands. c.requires.metadata v)

pub returns-clause-fetched : goal.returns-clause-fetched
returns-clause-fetched g c = only_once (IsMetadataBy c.args.g.now) (λ v stands. c.requires.metadata v) c.read_aside.ensures.once

pub returns-clause-there : goal.returns-clause-there
returns-clause-there g c = λ could before grows told v stands had.
    not_before before (g.V.View.is_gone c.args.view.now) c.args.block grows
    ((there_one (g.V.View.size c.args.view.now) c.args.block c.read_aside.result _ c.read_aside.ensures.rule could).each told v stands c.args.block refl)
