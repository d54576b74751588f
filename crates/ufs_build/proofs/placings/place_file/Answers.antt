use Rattle.std.proofs.Common.{◌≡◌, ◌<◌, ◌*◌, None, length, arith}
use Rattle.ufs_build.specs.Placements.{blocks_of, no_addresses, placed_file, with_block_or_hole}
use Rattle.ufs_build.specs.Placings.{file_of, placed_in}
use Rattle.ufs_build.proofs.PlacingLaws.{block_start, no_room}
use Rattle.ufs_build.proofs.placings.place_file.Goals as goal

pub place_unless_hole-requires-clause-start : goal.place_unless_hole-requires-clause-start
place_unless_hole-requires-clause-start c =
    let low : c.loop-n.n < blocks_of c.args.g.now (file_of c.args.node.now) = rw (← c.blocks_of-blocks.ensures) c.loop-n-test.true in
    let start : c.loop-n.n * c.args.g.now.bsize < length c.args.node.now.bytes.now = block_start c.args.g.now (file_of c.args.node.now) c.loop-n.n c.requires.geometry low in
    omega (arith, c.args.node.now.short)

pub returns-then-not-place_unless_hole-clause-placed : goal.returns-then-not-place_unless_hole-clause-placed
unfolding placed_file
returns-then-not-place_unless_hole-clause-placed c =
    let none : with_block_or_hole c.args.g.now (file_of c.args.node.now) c.loop-n.n (placed_in c.loop-n.space c.loop-n.addresses) ≡ None = c.if-not-place_unless_hole.ensures.placed in
    let stuck = no_room c.args.g.now (file_of c.args.node.now) c.loop-n.n c.blocks_of-blocks.result (placed_in c.args.space.now c.in_ok-addresses.addresses)
    (placed_in c.loop-n.space c.loop-n.addresses) c.loop-n.invariant.placed none c.loop-n-test.true in
    let blank : c.in_ok-addresses.addresses ≡ no_addresses c.args.g.now c.blocks_of-blocks.result = c.in_ok-addresses.ensures in
    rw (← c.blocks_of-blocks.ensures, ← blank) stuck
