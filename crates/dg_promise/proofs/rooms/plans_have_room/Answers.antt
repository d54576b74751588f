use Rattle.dg_promise.proofs.RoomLaws.{plan_room}
use Rattle.dg_promise.proofs.rooms.plans_have_room.Goals as goal

pub returns : goal.returns
returns c = λ shape wants parents homes kept most up room. plan_room shape wants parents homes kept most up room
