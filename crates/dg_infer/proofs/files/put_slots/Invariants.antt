use Rattle.std.proofs.Common.{◌≡◌, ◌<◌, ℕ}
use Rattle.ufs_model.specs.Claims.{level_of}
use Rattle.ufs_model.specs.declared.claims.ClaimSource.TheVariants.{Slot}
use Rattle.dg_infer.specs.Files.{Gains, IsSoleSource}
use Rattle.dg_infer.proofs.files.put_slots.Given as goal

abbrev pub invariant-loop-slot : goal.invariant-loop-slot
invariant-loop-slot l = record {
  gains : Gains l.fn.list.items l.list.items
      (λ f. (slot : ℕ) × (slot < l.slot) × ((level_of (Slot l.inode slot) ≡ l.level) × IsSoleSource l.claims (Slot l.inode slot) f));
}
