use Rattle.std.proofs.Common.{Bool, subst, sym}
use Rattle.std.specs.Bool.{Decides}
use Rattle.dg_infer.proofs.FileLaws.{sole_cases}
use Rattle.dg_infer.specs.Files.{IsSoleSource}
use Rattle.dg_infer.proofs.files.has_one_claim.Goals as goal

pub returns : goal.returns
returns c = λ source claim.
    subst (λ (b : Bool). Decides b (IsSoleSource c.args.claims.now source c.args.fragment)) (sym c.is_some.ensures)
    (sole_cases c.args.claims.now c.args.fragment c.only_claim.result c.only_claim.ensures.only c.only_claim.ensures.none source claim)
