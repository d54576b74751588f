use Rattle.std.proofs.Common.{inr, subst, sym}
use Rattle.dg_open.specs.Reopenings.{AnswersReopen}
use Rattle.dg_open.specs.declared.reopens.ReopenAnswer.{ReopenAnswer}
use Rattle.dg_volume.proofs.BesideSteps.{finds_unfit, opens_kept}
use Rattle.dg_volume.specs.Besides.{CannotOpen, FindsUnfit, IsEnough}
use Rattle.dg_store.specs.Stores.{shape_of, table_of}
use Rattle.std.specs.Prelude.{Option}
use Rattle.std.proofs.Common.{ℕ}
use Rattle.dg_volume.proofs.opens.open_with.Goals as goal

pub returns-then-not-can_open : goal.returns-then-not-can_open
returns-then-not-can_open g c =
    let found = subst (λ (answer : ReopenAnswer g.row.R.Denot). AnswersReopen g.R.Rack c.args.rack answer) c.in-Found.is c.in_ok-rack.ensures in
    let store = c.in-Found.reopened.store in
    let room = g.R.Checkpoint.room_of c.args.rack in
    let cannot = subst (λ (r : Option ℕ). CannotOpen (table_of store) r c.args.kept) c.room-room.ensures (c.can_open.ensures.none c.if-not-can_open.true) in
    inr (subst (λ now. FindsUnfit g.R.Rack room c.args.kept c.args.rack now) (sym c.into_rack.ensures) (finds_unfit g.R.Rack c.args.rack room c.args.kept c.in-Found.reopened found cannot))

pub returns-in_ok-volume-in-Found : goal.returns-in_ok-volume-in-Found
returns-in_ok-volume-in-Found g c =
    let found = subst (λ (answer : ReopenAnswer g.row.R.Denot). AnswersReopen g.R.Rack c.args.rack answer) c.in-Found.is c.in_ok-rack.ensures in
    let store = c.in-Found.reopened.store in
    let enough = subst (λ (r : Option ℕ). IsEnough (shape_of store).n r) c.room-room.ensures (c.can_open.ensures.enough c.if-not-can_open.false) in
    opens_kept g.R.Rack c.blocks_have_one_owner.ensures.one c.blocks_have_one_owner.ensures.system c.args.rack c.in-Found.reopened c.in_ok-volume-in-Found.volume
    c.in_ok-volume-in-Found.hot found c.in_ok-volume-in-Found.ensures.made (g.R.Checkpoint.room_of c.args.rack) c.args.kept enough c.in_ok-volume-in-Found.ensures.in_use
