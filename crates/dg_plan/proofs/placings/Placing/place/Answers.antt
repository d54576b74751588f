use Rattle.std.proofs.Common.{Option, ap, sym, ◌∙◌}
use Rattle.std.specs.Prelude.{Ok, Result}
use Rattle.dg_plan.specs.Placings.{homes_in, placed_of}
use Rattle.dg_model.specs.Plans.{Placed, boundary_for}
use Rattle.dg_model.specs.declared.homes.Home.{Home}
use Rattle.dg_model.specs.declared.wants.NoRoom.{NoRoom}
use Rattle.dg_plan.proofs.BesideLaws.{beside_is, place_goes, place_stops}
use Rattle.dg_plan.proofs.placings.Placing.place.Goals as goal

pub returns-then-not-has_room-clause-goes : goal.returns-then-not-has_room-clause-goes
returns-then-not-has_room-clause-goes c parents table least =
    let old = c.args.self.now in
    let inside = c.copied-directory.ensures ∙ c.get.ensures.value ∙ table c.args.inode in
    let at = c.boundary_for-boundary.ensures ∙ ap (λ (o : Option Home). boundary_for c.args.count o old.rooms.items) (sym (beside_is parents old.least c.copied-directory.result c.args.inode (homes_in old.homes.entries) least inside)) in
    place_stops c.args.count c.args.inode c.boundary_for-boundary.result parents (placed_of old) at (sym c.has_room.ensures ∙ c.if-not-has_room.true)

pub returns-clause-stands : goal.returns-clause-stands
returns-clause-stands c = λ _. record { boundary = c.boundary_for-boundary.result; placed = c.in_ok-put.ensures.placed }

pub returns-clause-goes : goal.returns-clause-goes
returns-clause-goes c parents table least =
    let old = c.args.self.now in
    let inside = c.copied-directory.ensures ∙ c.get.ensures.value ∙ table c.args.inode in
    let at = c.boundary_for-boundary.ensures ∙ ap (λ (o : Option Home). boundary_for c.args.count o old.rooms.items) (sym (beside_is parents old.least c.copied-directory.result c.args.inode (homes_in old.homes.entries) least inside)) in
    let ok : Placed → Result Placed NoRoom = λ p. Ok p in
    (place_goes c.args.count c.args.inode c.boundary_for-boundary.result parents (placed_of old) at (sym c.has_room.ensures ∙ c.if-not-has_room.false) ∙ ap ok (sym c.in_ok-put.ensures.placed), c.in_ok-put.ensures.least parents inside least)
