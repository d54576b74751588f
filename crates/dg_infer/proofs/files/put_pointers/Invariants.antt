use Rattle.std.proofs.Common.{◌<◌, ℕ}
use Rattle.ufs_model.specs.declared.claims.ClaimSource.TheVariants.{Pointer}
use Rattle.dg_infer.specs.Files.{Gains, IsSoleSource}
use Rattle.dg_infer.proofs.files.put_pointers.Given as goal

abbrev pub invariant-loop-at : goal.invariant-loop-at
invariant-loop-at l = record {
  gains : Gains l.fn.list.items l.list.items (λ f. (at : ℕ) × (at < l.at) × IsSoleSource l.claims (Pointer l.fragment l.level at) f);
}
