use Rattle.std.proofs.Common.{◌≡◌, ◌<◌, ◌+◌, ◌∙◌, length, refl, get_or, take, sym, ap, subst, arith}
use Rattle.dg_model.specs.Moves.{all_done, copy_to, done}
use Rattle.dg_model.specs.Tables.{Table, count_on, sites_in, used_in}
use Rattle.dg_model.specs.declared.shapes.Shape.{Shape}
use Rattle.dg_store.specs.Stores.{members_of, shape_of, table_of}
use Rattle.dg_hot.specs.Copied.{CanGiveUp, give_ups_on}
use Rattle.dg_hot.specs.Spreads.{copy_calls}
use Rattle.dg_hot.proofs.CallLaws.{calls_both, calls_none, calls_same, calls_within}
use Rattle.dg_hot.proofs.CopyLaws.{given_back}
use Rattle.dg_hot.proofs.ApartLaws.{apart_take}
use Rattle.dg_hot.proofs.StoreLaws.{can_give_up, can_take, lost_on, moved_both, moved_none, next_done, next_none, next_used, next_within}
use Rattle.dg_hot.proofs.copies.copy_all.Goals as goal

pub copy_block-requires-clause-range : goal.copy_block-requires-clause-range
copy_block-requires-clause-range g c =
    subst (λ (t : Table). get_or c.args.blocks.now c.loop-place.place 0 < t.shape.n) (sym c.loop-place.invariant.table)
    (next_within (table_of c.args.store.now) c.args.boundary c.requires.sound.table c.args.blocks.now c.loop-place.place c.requires.apart c.requires.can c.loop-place-test.true)

pub copy_block-requires-clause-none : goal.copy_block-requires-clause-none
copy_block-requires-clause-none g c =
    subst (λ (t : Table). count_on c.args.boundary (sites_in t (get_or c.args.blocks.now c.loop-place.place 0)) ≡ 0) (sym c.loop-place.invariant.table)
    (next_none (table_of c.args.store.now) c.args.boundary c.requires.sound.table c.args.blocks.now c.loop-place.place c.requires.apart c.requires.can c.loop-place-test.true)

pub copy_block-requires-clause-room : goal.copy_block-requires-clause-room
copy_block-requires-clause-room g c =
    let used = ap (λ (t : Table). used_in t c.args.boundary) c.loop-place.invariant.table
    ∙ next_used (table_of c.args.store.now) c.args.boundary c.requires.sound.table c.args.blocks.now c.loop-place.place c.requires.apart c.requires.can c.loop-place-test.true
    in
    let k = ap (λ (sh : Shape). sh.k) c.loop-place.invariant.moved.leaves.keeps.shape in
    omega (arith, used, k, c.requires.room, c.loop-place-test.true)

pub loop-place-preserved : goal.loop-place-preserved
loop-place-preserved g c = record {
  moved = moved_both g.R.Rack _ _ _ c.loop-place.invariant.moved c.copy_block.ensures.moved;
  table = next_done (table_of c.args.store.now) c.args.boundary c.requires.sound.table c.args.blocks.now c.loop-place.place c.requires.apart c.requires.can
      c.loop-place-test.true (table_of c.copy_block.new.store)
      (c.in-Ok-true.ensures.copied c.in-Ok-true.field-0-test
      ∙ ap (λ (t : Table). done t (copy_to (get_or c.args.blocks.now c.loop-place.place 0) c.args.boundary)) c.loop-place.invariant.table);
  most = calls_both g.R.Rack c.args.store.now c.loop-place.store c.copy_block.new.store c.loop-place.place 1 (c.loop-place.place + 1) refl
      c.loop-place.invariant.moved.leaves.keeps.shape c.loop-place.invariant.most c.copy_block.ensures.most;
}

-- a boundary is lost

pub give_up-requires-clause-apart : goal.give_up-requires-clause-apart
give_up-requires-clause-apart g c = apart_take c.loop-place.place c.args.blocks.now c.requires.apart

pub give_up-requires-clause-can : goal.give_up-requires-clause-can
give_up-requires-clause-can g c =
    let front = take c.loop-place.place c.args.blocks.now in
    subst (λ (t : Table). CanGiveUp t c.args.boundary front) (sym (c.in-Ok-false.ensures.same c.in-Ok-false.field-0-test ∙ c.loop-place.invariant.table))
    (can_give_up (table_of c.args.store.now) c.args.boundary c.requires.sound.table front (apart_take c.loop-place.place c.args.blocks.now c.requires.apart)
    (can_take (table_of c.args.store.now) c.args.boundary c.requires.sound.table c.args.blocks.now c.loop-place.place c.requires.can))

pub returns-in-Ok-false-clause-moved : goal.returns-in-Ok-false-clause-moved
returns-in-Ok-false-clause-moved g c =
    moved_both g.R.Rack _ _ _ c.loop-place.invariant.moved (moved_both g.R.Rack _ _ _ c.copy_block.ensures.moved c.give_up.ensures.moved)

pub returns-in-Ok-false-clause-lost : goal.returns-in-Ok-false-clause-lost
returns-in-Ok-false-clause-lost g c e =
    lost_on (shape_of c.give_up.new.store) (shape_of c.copy_block.new.store) (members_of c.give_up.new.store) (members_of c.copy_block.new.store)
    c.give_up.ensures.moved.leaves.keeps.shape c.give_up.ensures.members (c.in-Ok-false.ensures.lost c.in-Ok-false.field-0-test)

pub returns-in-Ok-false-clause-same : goal.returns-in-Ok-false-clause-same
returns-in-Ok-false-clause-same g c e =
    let front = take c.loop-place.place c.args.blocks.now in
    let can = can_take (table_of c.args.store.now) c.args.boundary c.requires.sound.table c.args.blocks.now c.loop-place.place c.requires.can in
    c.give_up.ensures.table
    ∙ ap (λ (t : Table). all_done t (give_ups_on c.args.boundary front)) (c.in-Ok-false.ensures.same c.in-Ok-false.field-0-test ∙ c.loop-place.invariant.table)
    ∙ given_back c.args.boundary (table_of c.args.store.now) front (apart_take c.loop-place.place c.args.blocks.now c.requires.apart) can.none

-- no memory

pub give_up-requires-in-Err-clause-apart : goal.give_up-requires-in-Err-clause-apart
give_up-requires-in-Err-clause-apart g c = apart_take c.loop-place.place c.args.blocks.now c.requires.apart

pub give_up-requires-in-Err-clause-can : goal.give_up-requires-in-Err-clause-can
give_up-requires-in-Err-clause-can g c =
    let front = take c.loop-place.place c.args.blocks.now in
    subst (λ (t : Table). CanGiveUp t c.args.boundary front) (sym (c.in-Err.ensures.err ∙ c.loop-place.invariant.table))
    (can_give_up (table_of c.args.store.now) c.args.boundary c.requires.sound.table front (apart_take c.loop-place.place c.args.blocks.now c.requires.apart)
    (can_take (table_of c.args.store.now) c.args.boundary c.requires.sound.table c.args.blocks.now c.loop-place.place c.requires.can))

pub returns-in-Err-clause-moved : goal.returns-in-Err-clause-moved
returns-in-Err-clause-moved g c =
    moved_both g.R.Rack _ _ _ c.loop-place.invariant.moved (moved_both g.R.Rack _ _ _ c.copy_block.ensures.moved c.give_up-in-Err.ensures.moved)

pub returns-in-Err-clause-err : goal.returns-in-Err-clause-err
returns-in-Err-clause-err g c =
    let front = take c.loop-place.place c.args.blocks.now in
    let can = can_take (table_of c.args.store.now) c.args.boundary c.requires.sound.table c.args.blocks.now c.loop-place.place c.requires.can in
    c.give_up-in-Err.ensures.table
    ∙ ap (λ (t : Table). all_done t (give_ups_on c.args.boundary front)) (c.in-Err.ensures.err ∙ c.loop-place.invariant.table)
    ∙ given_back c.args.boundary (table_of c.args.store.now) front (apart_take c.loop-place.place c.args.blocks.now c.requires.apart) can.none

pub returns-in-Ok-false-clause-most : goal.returns-in-Ok-false-clause-most
returns-in-Ok-false-clause-most g c =
    let so_far = calls_both g.R.Rack c.args.store.now c.loop-place.store c.copy_block.new.store c.loop-place.place 1 (c.loop-place.place + 1) refl
    c.loop-place.invariant.moved.leaves.keeps.shape c.loop-place.invariant.most c.copy_block.ensures.most in
    calls_same g.R.Rack c.args.store.now c.copy_block.new.store c.give_up.new.store (copy_calls (table_of c.args.store.now) (length c.args.blocks.now))
    (calls_within g.R.Rack c.args.store.now c.copy_block.new.store (c.loop-place.place + 1) (length c.args.blocks.now)
    (let low = c.loop-place-test.true in omega (arith, low)) so_far) c.give_up.ensures.rack

pub returns-in-Err-clause-most : goal.returns-in-Err-clause-most
returns-in-Err-clause-most g c =
    let so_far = calls_both g.R.Rack c.args.store.now c.loop-place.store c.copy_block.new.store c.loop-place.place 1 (c.loop-place.place + 1) refl
    c.loop-place.invariant.moved.leaves.keeps.shape c.loop-place.invariant.most c.copy_block.ensures.most in
    calls_same g.R.Rack c.args.store.now c.copy_block.new.store c.give_up-in-Err.new.store (copy_calls (table_of c.args.store.now) (length c.args.blocks.now))
    (calls_within g.R.Rack c.args.store.now c.copy_block.new.store (c.loop-place.place + 1) (length c.args.blocks.now)
    (let low = c.loop-place-test.true in omega (arith, low)) so_far) c.give_up-in-Err.ensures.rack

pub returns-clause-most : goal.returns-clause-most
returns-clause-most g c =
    calls_within g.R.Rack c.args.store.now c.loop-place.store c.loop-place.place (length c.args.blocks.now)
    (let end = c.loop-place.auto.place-end in omega (arith, end)) c.loop-place.invariant.most

pub loop-place-init : goal.loop-place-init
loop-place-init g c = record {
  moved = moved_none g.R.Rack c.args.store.now c.requires.sound;
  table = refl;
  most = calls_none g.R.Rack c.args.store.now c.args.store.now (copy_calls (table_of c.args.store.now) 0) refl;
}
