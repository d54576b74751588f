use Rattle.std.proofs.Common.{refl}
use Rattle.dg_map.proofs.BitLemmas.{inserted}
use Rattle.dg_map.proofs.bits.Bits.insert.Goals as goal

pub returns : goal.returns
returns c = inserted c.args.self.now _ c.args.number c.requires.sound refl c.requires.within c.set_bit.ensures c.set_bit-2.ensures c.set_bit-3.ensures
