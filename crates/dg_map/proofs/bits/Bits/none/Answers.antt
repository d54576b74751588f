use Rattle.std.proofs.Common.{◌==◌, ap}
use Rattle.dg_map.proofs.BitLemmas.{bits_none, none_in}
use Rattle.dg_map.proofs.bits.Bits.none.Goals as goal

pub returns-clause-sound : goal.returns-clause-sound
returns-clause-sound c =
    bits_none _ c.requires c.in_ok-zeros.ensures.count c.in_ok-zeros-2.ensures.count c.in_ok-zeros-3.ensures.count c.in_ok-zeros.ensures.words c.in_ok-zeros-2.ensures.words c.in_ok-zeros-3.ensures.words

pub returns-clause-empty : goal.returns-clause-empty
returns-clause-empty c k = ap (λ n. n == 1) (none_in c.in_ok-zeros.field-0.items c.in_ok-zeros.ensures.words k)
