use Rattle.std.proofs.Common.{◌≡◌, ◌<◌, ℕ, false}
use Rattle.dg_claims.specs.Kept.{table_of}
use Rattle.ufs_audit.specs.Losses.{IsClaimPart}
use Rattle.ufs_audit.proofs.losses.claims_have_gone.Given as goal

abbrev pub invariant-loop-f : goal.invariant-loop-f
invariant-loop-f g l = (b : ℕ) → b < l.f → IsClaimPart (table_of l.claims) l.marks b → g.V.View.is_gone l.view b ≡ false
