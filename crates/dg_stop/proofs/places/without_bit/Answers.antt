use Rattle.std.proofs.Common.{w8}
use Rattle.std.proofs.lemmas.Nat.Bits.{bit_at_clear_other, bit_at_clear_same}
use Rattle.dg_stop.proofs.places.without_bit.Goals as goal

pub returns : goal.returns
returns c = record { here = bit_at_clear_same w8 _ _ c.requires; others = bit_at_clear_other w8 _ _ c.requires }
