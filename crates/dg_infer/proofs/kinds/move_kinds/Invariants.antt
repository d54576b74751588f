use Rattle.std.proofs.Common.{◌≡◌, ◌<◌, ◌≤◌, ℕ}
use Rattle.ufs_model.specs.Blocks.{Volume, block_at}
use Rattle.dg_infer.specs.Claimed.{StandsIn}
use Rattle.dg_infer.specs.Meanings.{kind_at, kind_by}
use Rattle.dg_infer.proofs.kinds.move_kinds.Given as goal

abbrev pub invariant-loop-number : goal.invariant-loop-number
invariant-loop-number l = record {
  here : (v : Volume) → l.bytes ≡ block_at l.g.fsize v l.block → (i : ℕ) → 2 ≤ i → l.first ≤ i → i < l.number → kind_at l.kinds.entries i ≡ kind_by l.g v i;
  others : (i : ℕ) → (StandsIn l.g i l.block → ⊥) → kind_at l.kinds.entries i ≡ kind_at l.fn.kinds.entries i;
}
