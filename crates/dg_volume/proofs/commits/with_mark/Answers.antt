use Rattle.std.proofs.Common.{ℕ, ap, w32}
use Rattle.std.specs.Prelude.{◌==◌}
use Rattle.std.proofs.lemmas.Nat.Bits.{bit_at_set_other, bit_at_set_same}
use Rattle.dg_volume.proofs.commits.with_mark.Goals as goal

pub returns : goal.returns
returns c = record {
  here = ap (λ (n : ℕ). n == 1) (bit_at_set_same w32 _ _ c.requires);
  others = λ q apart. ap (λ (n : ℕ). n == 1) (bit_at_set_other w32 _ _ c.requires q apart);
}
