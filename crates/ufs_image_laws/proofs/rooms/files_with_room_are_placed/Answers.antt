use Rattle.std.proofs.Common.{refl}
use Rattle.ufs_image_laws.proofs.RoomLaws.{all_placed}
use Rattle.ufs_image_laws.proofs.rooms.files_with_room_are_placed.Goals as goal

pub returns : goal.returns
returns c = λ g nodes blocks eight near inside left. let placed = all_placed g nodes blocks eight near inside left in rw (placed.1) refl
