use Rattle.std.proofs.Common.{w8}
use Rattle.std.proofs.lemmas.Nat.Bits.{bit_at_set_other, bit_at_set_same}
use Rattle.dg_stop.proofs.places.with_bit.Goals as goal

pub returns : goal.returns
returns c = record { here = bit_at_set_same w8 _ _ c.requires; others = bit_at_set_other w8 _ _ c.requires }
