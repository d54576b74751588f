use Rattle.std.proofs.Common.{◌≡◌, ◌-◌, ℕ, List, get_or, set, Ok, ap, sym, ◌∙◌, arith}
use Rattle.std.specs.Prelude.{Result}
use Rattle.std.proofs.lemmas.List.{get_or_read}
use Rattle.dg_model.specs.declared.wants.NoRoom.{NoRoom}
use Rattle.dg_plan.proofs.EachLaws.{take_no, take_yes}
use Rattle.dg_plan.proofs.kept.take_room.Goals as goal

pub returns-then-left-eq0-clause-none : goal.returns-then-left-eq0-clause-none
returns-then-left-eq0-clause-none c =
    let rooms = c.args.rooms.now.items in
    let at : c.index-left.result.now ≡ get_or rooms c.args.boundary 0 = get_or_read rooms c.args.boundary c.index-left.result.now c.requires c.index-left.ensures 0 in
    λ _. take_no c.args.boundary rooms (sym at ∙ c.if-left-eq0.true)

pub returns-clause-taken : goal.returns-clause-taken
returns-clause-taken c =
    let rooms = c.args.rooms.now.items in
    let at : c.index-left.result.now ≡ get_or rooms c.args.boundary 0 = get_or_read rooms c.args.boundary c.index-left.result.now c.requires c.index-left.ensures 0 in
    let ok_with : ℕ → Result (List ℕ) NoRoom = λ k. Ok (set rooms c.args.boundary (k - 1)) in
    λ _. take_yes c.args.boundary rooms (omega (arith, at, c.if-left-eq0.false))
    ∙ ap ok_with (sym at)
