use Rattle.std.proofs.Common.{◌<◌, arith}
use Rattle.dg_store.specs.Rows.{members_in}
use Rattle.dg_store.proofs.Bits.{bit_is, bits_fit}
use Rattle.dg_store.proofs.boundaries.lost_bits_of.Goals as goal

pub overflow_add-bits : goal.overflow_add-bits
overflow_add-bits c =
    let s = c.loop-boundary.boundary in
    let below : s < 16 = omega (arith, c.loop-boundary-test.true, c.requires.shape.most_boundaries) in
    omega (arith, bits_fit (members_in c.args.row.now.items) s below, bit_is s below, c.loop-boundary.invariant)
