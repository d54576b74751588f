use Rattle.std.proofs.Common.{◌∙◌, arith}
use Rattle.dg_claims.proofs.KeptLaws.{empty_kept}
use Rattle.dg_claims.proofs.claims.Claims.new.Goals as goal

pub invariant_of-result : goal.invariant_of-result
invariant_of-result c =
    empty_kept c.args.g _ _ c.requires (let fits = c.size_in.type_inv in omega (arith, fits, c.size_in.ensures)) (c.in_ok-marks.ensures.room ∙ c.size_in.ensures) c.new-2.ensures c.in_ok-marks.ensures.sound c.in_ok-marks.ensures.none
