use Rattle.std.proofs.Common.{◌<◌, ℕ}
use Rattle.dg_claims.specs.Kept.{table_of}
use Rattle.ufs_audit.proofs.HolderLaws.{IsNoHolder}
use Rattle.ufs_audit.proofs.holders.is_held.Given as goal

abbrev pub invariant-loop-i : goal.invariant-loop-i
invariant-loop-i l = (j : ℕ) → j < l.i → IsNoHolder (table_of l.claims) l.directories l.above l.level l.f j
