use Rattle.dg_save.proofs.RoomLemmas.{room_enough}
use Rattle.dg_save.proofs.laws.bodies_have_room.Goals as goal

pub returns : goal.returns
returns c = room_enough
