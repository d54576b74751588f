use Rattle.std.proofs.Common.{refl, ◌∙◌}
use Rattle.dg_model.specs.declared.homes.Home.{Home}
use Rattle.dg_plan.proofs.StayLaws.{stay_begins, stay_ends, stay_none, stay_step}
use Rattle.dg_plan.proofs.placings.stay_all.Goals as goal

abbrev no_home : Home
no_home = record { inode = 0; boundary = 0 }

pub loop-home-init : goal.loop-home-init
loop-home-init c = stay_begins c.args.files.now c.args.directories.now c.args.rooms.items c.args.homes.now _ refl c.new.ensures.empty c.new-2.ensures.empty

pub stay-requires-clause-none : goal.stay-requires-clause-none
stay-requires-clause-none c =
    stay_none c.args.files.now c.args.directories.now c.args.rooms.items c.args.homes.now c.loop-home.home-index c.loop-home.placing _ no_home c.loop-home.invariant c.loop-home-test.true refl

pub loop-home-preserved : goal.loop-home-preserved
loop-home-preserved c =
    stay_step c.args.files.now c.args.directories.now c.args.rooms.items c.args.homes.now c.loop-home.home-index c.loop-home.placing c.stay.new.self _ no_home c.copied-directory.result c.requires c.loop-home.invariant
    c.loop-home-test.true refl (c.copied-directory.ensures ∙ c.get.ensures.value) c.in_ok-stay.ensures.placed c.in_ok-stay.ensures.least

pub returns-clause-stayed : goal.returns-clause-stayed
returns-clause-stayed c = stay_ends c.args.files.now c.args.directories.now c.args.rooms.items c.args.homes.now c.loop-home.home-index c.loop-home.placing c.loop-home-test.false c.loop-home.invariant
