use Rattle.std.proofs.Common.{ℕ, ◌<◌, ◌↔◌, Contains}
use Rattle.dg_claims.specs.Kept.{table_of}
use Rattle.ufs_model.specs.Claims.{IsClaimedAt}
use Rattle.dg_claims.specs.Tables.{TableClaims}
use Rattle.dg_claims.proofs.claims.Claims.fragments_at.Given as goal

abbrev pub invariant-loop-fragment : goal.invariant-loop-fragment
invariant-loop-fragment l = (fragment : ℕ) → Contains l.fragments.items fragment ↔ ((fragment < l.fragment) × IsClaimedAt (TableClaims (table_of l.self)) l.level fragment)
