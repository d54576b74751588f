use Rattle.dg_store.proofs.SitesGivenUp.{gave_before}
use Rattle.dg_store.proofs.EvictionSteps.{first_left}
use Rattle.dg_store.proofs.sites.give_first.Goals as goal

pub returns-in-Ok-clause-up : goal.returns-in-Ok-clause-up
returns-in-Ok-clause-up c =
    rw (first_left c.args.map.now c.make_room.new.map c.take.new.self c.args.block c.in-Ok.site c.requires.none c.requires.within c.make_room.ensures.table c.make_room.ensures.others c.in-Ok.ensures.taken.taken)
    c.in_ok-boundary.ensures.up

pub returns-in-Ok-clause-others : goal.returns-in-Ok-clause-others
returns-in-Ok-clause-others c =
    rw (first_left c.args.map.now c.make_room.new.map c.take.new.self c.args.block c.in-Ok.site c.requires.none c.requires.within c.make_room.ensures.table c.make_room.ensures.others c.in-Ok.ensures.taken.taken)
    c.make_room.ensures.others

pub returns-in-Ok-clause-before : goal.returns-in-Ok-clause-before
returns-in-Ok-clause-before c =
    rw (first_left c.args.map.now c.make_room.new.map c.take.new.self c.args.block c.in-Ok.site c.requires.none c.requires.within c.make_room.ensures.table c.make_room.ensures.others c.in-Ok.ensures.taken.taken)
    (gave_before c.make_room.new.given_up.items c.args.map.now c.make_room.new.map c.requires.table c.in_ok-boundary.ensures.up)
