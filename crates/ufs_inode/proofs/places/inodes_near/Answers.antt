use Rattle.std.proofs.Common.{arith, refl}
use Rattle.ufs_inode.proofs.NearLaws.{IsSpot, back, last_fits, near}
use Rattle.ufs_inode.proofs.places.inodes_near.Goals as goal

pub returns-then-g-block-clause-all : goal.returns-then-g-block-clause-all
returns-then-g-block-clause-all c = λ inode low here.
    let at = near c.args.g.now inode c.args.block _ _ _ _ c.requires low here (record { group = refl; start = refl; after = refl; inodes = refl }) in
    let inside = at.inside in
    absurd (omega (arith, inside, c.if-g-block.true))

pub returns-then-block-start-clause-all : goal.returns-then-block-start-clause-all
returns-then-block-start-clause-all c = λ inode low here.
    let spot : IsSpot c.args.g.now c.args.block c.group_of-c.result c.cgstart-start.result _ _ =
    record { group = c.group_of-c.ensures.value; start = c.cgstart-start.ensures.value; after = refl; inodes = refl } in
    let at = near c.args.g.now inode c.args.block c.group_of-c.result c.cgstart-start.result _ _ c.requires low here spot in
    let after = at.after in
    absurd (omega (arith, after, c.if-block-start.true))

pub returns-then-from-before-clause-all : goal.returns-then-from-before-clause-all
returns-then-from-before-clause-all c = λ inode low here.
    let spot : IsSpot c.args.g.now c.args.block c.group_of-c.result c.cgstart-start.result c.from.result c.from-2.result =
    record { group = c.group_of-c.ensures.value; start = c.cgstart-start.ensures.value; after = c.from.ensures; inodes = c.from-2.ensures } in
    let at = near c.args.g.now inode c.args.block _ _ _ _ c.requires low here spot in
    let below = at.below in
    absurd (omega (arith, below, c.if-from-before.true, c.from-3.ensures))

pub overflow_add-first : goal.overflow_add-first
overflow_add-first c =
    let fits = last_fits c.args.g.now c.group_of-c.result c.from.result c.from-2.result c.requires c.group_of-c.ensures.group c.from-2.ensures (omega (arith, c.if-from-before.false, c.from-3.ensures)) in
    omega (arith, fits.0, fits.1)

pub overflow_add-result : goal.overflow_add-result
overflow_add-result c =
    let fits = last_fits c.args.g.now c.group_of-c.result c.from.result c.from-2.result c.requires c.group_of-c.ensures.group c.from-2.ensures (omega (arith, c.if-from-before.false, c.from-3.ensures)) in
    omega (arith, fits.0, fits.1, c.from-2.ensures)

pub returns-clause-all : goal.returns-clause-all
returns-clause-all c = λ inode low here.
    let spot : IsSpot c.args.g.now c.args.block c.group_of-c.result c.cgstart-start.result c.from.result c.from-2.result =
    record { group = c.group_of-c.ensures.value; start = c.cgstart-start.ensures.value; after = c.from.ensures; inodes = c.from-2.ensures } in
    let at = near c.args.g.now inode c.args.block _ _ _ _ c.requires low here spot in
    let high = at.high in
    (at.low, omega (arith, high, c.from-2.ensures))

pub returns-clause-each : goal.returns-clause-each
returns-clause-each c = λ inode low high.
    let spot : IsSpot c.args.g.now c.args.block c.group_of-c.result c.cgstart-start.result c.from.result c.from-2.result =
    record { group = c.group_of-c.ensures.value; start = c.cgstart-start.ensures.value; after = c.from.ensures; inodes = c.from-2.ensures } in
    back c.args.g.now inode c.args.block _ _ _ _ c.requires spot c.group_of-c.ensures.group (omega (arith, c.if-block-start.false)) (omega (arith, c.if-from-before.false, c.from-3.ensures))
    low (omega (arith, high, c.from-2.ensures))

pub returns-clause-inside : goal.returns-clause-inside
returns-clause-inside c =
    let fits = last_fits c.args.g.now c.group_of-c.result c.from.result c.from-2.result c.requires c.group_of-c.ensures.group c.from-2.ensures (omega (arith, c.if-from-before.false, c.from-3.ensures)) in
    omega (arith, fits.0, c.from-2.ensures)
