use Rattle.std.proofs.Common.{◌≡◌, length, ap, ◌∙◌, arith}
use Rattle.dg_model.specs.Plans.{roomiest_of, roomiest}
use Rattle.dg_plan.proofs.strays.roomiest.Goals as goal

pub returns-clause-best : goal.returns-clause-best
unfolding roomiest
returns-clause-best c =
    let rooms = c.args.rooms.now.items in
    let ended : c.loop-s.s ≡ length rooms = let e = c.loop-s.auto.s-end in let ok = c.args.rooms.now.ok in omega (arith, e, c.loop-s-test.false, c.len-s-end.ensures, ok) in
    c.loop-s.invariant.best ∙ ap (roomiest_of rooms) ended
