use Rattle.std.proofs.Common.{true, subst}
use Rattle.dg_model.specs.Blocks.{zeros}
use Rattle.ufs_model.specs.Geometries.{IsGeometryOn}
use Rattle.std.specs.Prelude.{IfSome}
use Rattle.dg_infer.proofs.ReapLaws.{reaped_stands}
use Rattle.dg_infer.proofs.VerdictLaws.{dead_data, dead_unclaimed}
use Rattle.dg_infer.specs.Meanings.{KeptInference}
use Rattle.dg_infer.proofs.inferences.Inference.reaped.Goals as goal

pub returns-clause-stands : goal.returns-clause-stands
returns-clause-stands c = λ table v fits stands dead.
    reaped_stands c.needed_blocks_are_used.ensures.structure c.same_metadata.ensures c.args.self.now v c.args.block (zeros c.args.self.now.l)
    (subst (λ (k : KeptInference). IfSome k.geometry (IsGeometryOn k.l k.n)) c.self.view_is c.self.invariant.on) stands
    (dead_data c.args.self.now table v c.args.block true fits stands dead) (dead_unclaimed c.args.self.now table v c.args.block true fits stands dead)
