use Rattle.std.proofs.Common.{refl, sym, ◌∙◌, arith}
use Rattle.dg_pair.specs.Boundaries.{members_of, number_of}
use Rattle.dg_store.proofs.Calls.{part_room, part_stand, part_holds, row_good, row_keeps, row_lost, row_other, row_kept}
use Rattle.dg_store.proofs.Quiet.{goods_most, goods_none, still_good}
use Rattle.dg_store.proofs.Rows.{there}
use Rattle.dg_store.proofs.boundaries.read_slot.Goals as goal

pub read-requires-clause-well : goal.read-requires-clause-well
read-requires-clause-well g c = (c.requires.row.stands _ _ (there _ _ _ c.requires.within c.index_mut.ensures.value)).well

pub read-requires-clause-size : goal.read-requires-clause-size
read-requires-clause-size g c = c.requires.size ∙ sym (c.requires.row.stands _ _ (there _ _ _ c.requires.within c.index_mut.ensures.value)).size_is

pub read-requires-clause-slot : goal.read-requires-clause-slot
read-requires-clause-slot g c = let h = (c.requires.row.stands _ _ (there _ _ _ c.requires.within c.index_mut.ensures.value)).slots_is in omega (arith, h)

pub read-requires-clause-room : goal.read-requires-clause-room
read-requires-clause-room g c = part_room _ _ _ _ _ c.index_mut.result.now c.requires.within (there _ _ _ c.requires.within c.index_mut.ensures.value) c.requires.row.stands c.args.shape.now _ refl refl c.requires.row.long

pub read-requires-clause-stand : goal.read-requires-clause-stand
read-requires-clause-stand g c = part_stand _ _ _ _ _ c.index_mut.result.now c.requires.within (there _ _ _ c.requires.within c.index_mut.ensures.value) c.requires.row.stands _ c.requires.row.stand

pub returns-clause-keeps : goal.returns-clause-keeps
returns-clause-keeps g c =
    row_keeps g.R.Rack c.args.shape.now _ _ _ _ _ _ c.requires.within (there _ _ _ c.requires.within c.index_mut.ensures.value) c.requires.row g.met.R.Rack.after c.read.ensures.leaves c.read.ensures.made c.read.ensures.beside

pub returns-clause-lost : goal.returns-clause-lost
returns-clause-lost g c =
    let lost = row_lost _ _ _ _ _ c.read.new.self c.requires.within (there _ _ _ c.requires.within c.index_mut.ensures.value) c.requires.row.stands in
    (λ h. lost ∙ c.read.ensures.lost.0 h, λ h. c.read.ensures.lost.1 (sym lost ∙ h))

pub returns-clause-got : goal.returns-clause-got
returns-clause-got g c got v had told =
    let was = there _ _ _ c.requires.within c.index_mut.ensures.value in
    c.read.ensures.got got v
    (part_holds _ _ _ _ _ c.read.new.self c.requires.within was c.requires.row.stands _ _ _ had)
    (λ q good. let at = row_good _ _ _ _ _ _ c.requires.within was c.requires.row.stands c.read.ensures.leaves.pair.own q good in told q at.0 at.1)

pub returns-clause-kept : goal.returns-clause-kept
returns-clause-kept g c =
    row_kept _ _ _ _ _ _ c.requires.within (there _ _ _ c.requires.within c.index_mut.ensures.value) c.requires.row.stands
    _ _ (λ q _. c.read.ensures.same q) c.read.ensures.kept

pub returns-clause-others : goal.returns-clause-others
returns-clause-others g c q off = row_other _ _ _ _ _ _ c.requires.within (there _ _ _ c.requires.within c.index_mut.ensures.value) c.requires.row.stands q off

-- how many calls were made

pub returns-clause-most : goal.returns-clause-most
returns-clause-most g c = omega (arith, c.read.ensures.most, goods_most (members_of c.index_mut.result.now) (number_of c.index_mut.result.now))

pub returns-clause-once : goal.returns-clause-once
returns-clause-once g c none =
    let was = there _ _ _ c.requires.within c.index_mut.ensures.value in
    c.read.ensures.once (still_good g.R.Rack c.args.shape.now _ _ _ c.read.new.self _ _ c.requires.within was c.requires.row none c.read.ensures.leaves)

pub returns-clause-quiet : goal.returns-clause-quiet
returns-clause-quiet g c none lost =
    let was = there _ _ _ c.requires.within c.index_mut.ensures.value in
    let x = c.index_mut.result.now in
    let still = still_good g.R.Rack c.args.shape.now _ _ _ c.read.new.self _ _ c.requires.within was c.requires.row none c.read.ensures.leaves in
    omega (arith, c.read.ensures.most, still, goods_none (members_of c.read.new.self) (number_of x) (c.read.ensures.lost.0 lost))
