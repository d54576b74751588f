use Rattle.dg_io.specs.Racks.{member_in}
use Rattle.dg_uses.proofs.Headers.{headers_without}
use Rattle.dg_uses.proofs.TakenAway.{taken_away}
use Rattle.dg_uses.proofs.removals.take_away.Goals as goal

pub returns-clause-away : goal.returns-clause-away
returns-clause-away c = λ save last held away other.
    let e = c.remove.ensures in
    taken_away c.blank_members_are_older.ensures.empty save last held (member_in c.args.rack.now) (member_in c.remove.new.self) c.args.member e.bytes e.others away other

pub returns-clause-headers : goal.returns-clause-headers
returns-clause-headers c = λ none.
    let e = c.remove.ensures in
    headers_without (member_in c.args.rack.now) (member_in c.remove.new.self) c.args.member e.bytes e.others none
