use Rattle.dg_store.proofs.EvictionSteps.{evicted_empty, evicted_end, evicted_fewer, evicted_more, evicted_thinned, evicted_within}
use Rattle.dg_store.proofs.sites.make_room.Goals as goal

pub first_boundary-requires : goal.first_boundary-requires
first_boundary-requires c = evicted_within c.args.map.now c.loop-boundary.map c.loop-boundary.given_up.items c.args.block c.requires.table c.loop-boundary.invariant c.requires.within

pub returns-in-Some-clause-evicted : goal.returns-in-Some-clause-evicted
returns-in-Some-clause-evicted c = evicted_end c.args.map.now c.loop-boundary.map c.loop-boundary.given_up.items c.args.block c.in-Some.boundary c.loop-boundary.invariant c.in-Some.ensures.first

pub returns-in-Some-clause-others : goal.returns-in-Some-clause-others
returns-in-Some-clause-others c = evicted_thinned c.args.map.now c.loop-boundary.map c.loop-boundary.given_up.items c.requires.table c.loop-boundary.invariant

pub evict_one-requires-clause-within : goal.evict_one-requires-clause-within
evict_one-requires-clause-within c = evicted_within c.args.map.now c.loop-boundary.map c.loop-boundary.given_up.items c.args.block c.requires.table c.loop-boundary.invariant c.requires.within

pub evict_one-requires-clause-none : goal.evict_one-requires-clause-none
evict_one-requires-clause-none c = evicted_empty c.args.map.now c.loop-boundary.map c.loop-boundary.given_up.items c.args.block c.requires.table c.loop-boundary.invariant c.requires.none

pub loop-boundary-smaller : goal.loop-boundary-smaller
loop-boundary-smaller c = evicted_fewer c.loop-boundary.map c.evict_one.new.map c.loop-boundary.given_up.items c.evict_one.new.given_up.items c.loop-boundary.invariant.table c.in_ok-evict_one.ensures.evicted

pub loop-boundary-preserved : goal.loop-boundary-preserved
loop-boundary-preserved c =
    evicted_more c.args.map.now c.loop-boundary.map c.evict_one.new.map c.loop-boundary.given_up.items c.evict_one.new.given_up.items c.loop-boundary.invariant
    c.in_default.ensures.first c.in_ok-evict_one.ensures.evicted c.evict_one.ensures.table

pub returns-in_err-evict_one-clause-others : goal.returns-in_err-evict_one-clause-others
returns-in_err-evict_one-clause-others c =
    rw c.in_err-evict_one.ensures.refused
    (evicted_thinned c.args.map.now c.loop-boundary.map c.loop-boundary.given_up.items c.requires.table c.loop-boundary.invariant)
