use Rattle.std.proofs.Common.{subst, sym}
use Rattle.dg_store.specs.Evictions.{IsThinned}
use Rattle.dg_store.proofs.SitesGivenUp.{can_retake, gave_thinned, on_err, retaken, single_within}
use Rattle.dg_store.proofs.sites.take_back.Goals as goal

pub drop_site-requires-clause-boundary : goal.drop_site-requires-clause-boundary
drop_site-requires-clause-boundary g c = single_within c.args.map.now c.args.block c.args.site c.requires.0 c.requires.1.1.1.0

pub retake-requires-clause-block : goal.retake-requires-clause-block
retake-requires-clause-block g c = (can_retake c.loop-given.given_up.items c.pop.new.self.items c.in-Some.given g.before c.loop-given.map c.requires.1.0 c.loop-given.invariant.1 c.in-Some.ensures.items).block

pub retake-requires-clause-boundary : goal.retake-requires-clause-boundary
retake-requires-clause-boundary g c = (can_retake c.loop-given.given_up.items c.pop.new.self.items c.in-Some.given g.before c.loop-given.map c.requires.1.0 c.loop-given.invariant.1 c.in-Some.ensures.items).boundary

pub retake-requires-clause-slot : goal.retake-requires-clause-slot
retake-requires-clause-slot g c = (can_retake c.loop-given.given_up.items c.pop.new.self.items c.in-Some.given g.before c.loop-given.map c.requires.1.0 c.loop-given.invariant.1 c.in-Some.ensures.items).slot

pub retake-requires-clause-free : goal.retake-requires-clause-free
retake-requires-clause-free g c = (can_retake c.loop-given.given_up.items c.pop.new.self.items c.in-Some.given g.before c.loop-given.map c.requires.1.0 c.loop-given.invariant.1 c.in-Some.ensures.items).free

pub retake-requires-clause-none : goal.retake-requires-clause-none
retake-requires-clause-none g c = (can_retake c.loop-given.given_up.items c.pop.new.self.items c.in-Some.given g.before c.loop-given.map c.requires.1.0 c.loop-given.invariant.1 c.in-Some.ensures.items).none

pub loop-given-preserved : goal.loop-given-preserved
loop-given-preserved g c = (
  c.retake.ensures.table,
  retaken c.loop-given.given_up.items c.pop.new.self.items c.in-Some.given g.before c.loop-given.map c.requires.1.0 c.loop-given.invariant.1 c.in-Some.ensures.items c.retake.new.self c.in_ok-retake.ensures.undone,
)

pub returns-in_err-retake-clause-err : goal.returns-in_err-retake-clause-err
returns-in_err-retake-clause-err g c =
    on_err c.from_residual.result (IsThinned g.before c.retake.new.self)
    (subst (IsThinned g.before) (sym c.in_err-retake.ensures.refused)
    (gave_thinned c.loop-given.given_up.items g.before c.loop-given.map c.requires.1.0 c.loop-given.invariant.1))
