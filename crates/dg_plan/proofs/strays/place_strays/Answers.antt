use Rattle.std.proofs.Common.{◌≡◌, ◌<◌, ◌-◌, ◌*◌, ◌^◌, ◌%◌, ℕ, length, get_or, set, ap, sym, ◌∙◌, arith}
use Rattle.std.proofs.lemmas.List.{get_or_read}
use Rattle.dg_model.specs.Plans.{less_room, roomiest}
use Rattle.dg_plan.proofs.EachLaws.{bit_is, seat_none, seat_passes, seat_stops, seat_takes}
use Rattle.dg_plan.proofs.strays.place_strays.Goals as goal
use Rattle.dg_plan.proofs.strays.place_strays.Goals.{then-has_one_place+else-left-eq0, else-has_one_place}

pub loop-block-init : goal.loop-block-init
loop-block-init c = seat_none c.args.wants.now c.args.rooms.now.items c.args.marks.now.items

pub returns-then-left-eq0-clause-none : goal.returns-then-left-eq0-clause-none
returns-then-left-eq0-clause-none c =
    let rooms = c.loop-block.rooms.items in
    let at : c.index-left.result.now ≡ get_or rooms c.roomiest-boundary.result 0 = get_or_read rooms c.roomiest-boundary.result c.index-left.result.now c.roomiest-boundary.ensures.within c.index-left.ensures 0 in
    λ _. seat_stops c.args.wants.now c.loop-block.block c.args.rooms.now.items rooms c.args.marks.now.items c.loop-block.marks.items c.loop-block.invariant c.loop-block-test.true (sym c.has_one_place.ensures ∙ c.if-has_one_place.true)
    (ap (λ (s : ℕ). get_or rooms s 0) (sym c.roomiest-boundary.ensures.best) ∙ sym at ∙ c.if-left-eq0.true)

pub loop-block-preserved : goal.loop-block-preserved
loop-block-preserved c =
    let rooms = c.loop-block.rooms.items in
    let marks = c.loop-block.marks.items in
    let wants = c.args.wants.now in
    let k = c.loop-block.block in
    let inv = c.loop-block.invariant in
    elim c.if-has_one_place.branch [
      | then-has_one_place+else-left-eq0 w ↦
          let s = w.roomiest-boundary.result in
          let best = w.roomiest-boundary.ensures.best in
          let at : w.index-left.result.now ≡ get_or rooms s 0 = get_or_read rooms s w.index-left.result.now w.roomiest-boundary.ensures.within w.index-left.ensures 0 in
          let same : get_or rooms s 0 ≡ get_or rooms (roomiest rooms) 0 = ap (λ (i : ℕ). get_or rooms i 0) best in
          let low : s < 16 = let within = w.roomiest-boundary.ensures.within in let number = inv.number in omega (arith, within, number, c.requires.few) in
          let inside : k < length marks = let size = inv.size in omega (arith, size, c.requires.blocks, c.loop-block-test.true) in
          let taken : set rooms s (w.index-left.result.now - 1) ≡ less_room (roomiest rooms) 1 rooms =
          ap (λ (v : ℕ). set rooms s (v - 1)) (at ∙ same) ∙ ap (λ (i : ℕ). set rooms i (get_or rooms (roomiest rooms) 0 - 1)) best in
          let marked : set marks k (1 * 2 ^ s % 65536) ≡ set marks k (2 ^ roomiest rooms) = ap (λ (v : ℕ). set marks k v) (bit_is s low ∙ ap (λ (i : ℕ). 2 ^ i) best) in
          seat_takes wants k c.args.rooms.now.items rooms c.args.marks.now.items marks inv c.loop-block-test.true c.if-has_one_place.rooms.items c.if-has_one_place.marks.items (sym c.has_one_place.ensures ∙ w.if-has_one_place.true)
          (omega (arith, at, same, w.if-left-eq0.false)) inside (ap (λ v. v.items) w.rooms-is ∙ taken) (ap (λ v. v.items) w.marks-is ∙ marked)
      | else-has_one_place w ↦
          rw (w.rooms-is, w.marks-is) (seat_passes wants k c.args.rooms.now.items rooms c.args.marks.now.items marks inv c.loop-block-test.true (sym c.has_one_place.ensures ∙ w.if-has_one_place.false))
    ]
