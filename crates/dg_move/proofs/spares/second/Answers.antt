use Rattle.std.proofs.Common.{refl, get_or}
use Rattle.dg_move.proofs.MeetLaws.{second_of}
use Rattle.dg_move.proofs.spares.second.Goals as goal

pub returns-then-sites-gt1 : goal.returns-then-sites-gt1
returns-then-sites-gt1 c =
    let s = second_of c.args.sites.now (record { boundary = 0; slot = 0 }) c.if-sites-gt1.true in
    (get_or c.args.sites.now 1 (record { boundary = 0; slot = 0 }), s.0, s.1, refl)
