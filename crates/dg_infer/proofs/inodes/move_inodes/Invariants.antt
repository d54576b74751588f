use Rattle.std.proofs.Common.{◌≡◌, ◌<◌, ◌≤◌, ℕ}
use Rattle.ufs_model.specs.Blocks.{Volume, block_at}
use Rattle.ufs_model.specs.Claims.{source_fragments}
use Rattle.ufs_model.specs.declared.claims.ClaimSource.{ClaimSource}
use Rattle.ufs_model.specs.declared.claims.ClaimSource.TheVariants.{Slot}
use Rattle.dg_claims.specs.Kept.{claimed_by}
use Rattle.dg_infer.specs.Claimed.{StandsIn}
use Rattle.dg_infer.specs.Watches.{Grows, KeepsWatch}
use Rattle.dg_infer.proofs.inodes.move_inodes.Given as goal

abbrev pub invariant-loop-number : goal.invariant-loop-number
invariant-loop-number l = record {
  grows : Grows l.fn.watch l.watch;
  geometry : l.claims.geometry ≡ l.fn.claims.geometry;
  slots : (v : Volume) → l.bytes ≡ block_at l.g.fsize v l.block
      → (i slot : ℕ) → 2 ≤ i → l.first ≤ i → i < l.number → claimed_by l.claims.runs (Slot i slot) ≡ source_fragments l.g v (Slot i slot);
  others : (source : ClaimSource) → ((i slot : ℕ) → StandsIn l.g i l.block → source ≡ Slot i slot → ⊥) → claimed_by l.claims.runs source ≡ claimed_by l.fn.claims.runs source;
  watched : KeepsWatch (claimed_by l.fn.claims.runs) l.fn.watch (claimed_by l.claims.runs) l.watch;
}
