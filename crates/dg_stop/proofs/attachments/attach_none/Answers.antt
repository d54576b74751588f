use Rattle.std.proofs.Common.{refl}
use Rattle.dg_stop.proofs.attachments.attach_none.Goals as goal

pub returns : goal.returns
returns c = record {
  current = c.in_ok-memory.ensures.count;
  stands = c.in_ok-memory.ensures.stands;
  fell = refl;
  known_is = refl;
  room = c.in_ok-memory.ensures.room_is;
  commit = c.in_ok-memory.ensures.commit;
  top_is = refl;
}
