use Rattle.std.proofs.Common.{refl}
use Rattle.dg_claims.proofs.KeptLaws.{added_back, none_marked, run_put, run_within, same_kept}
use Rattle.dg_claims.proofs.claims.Claims.put.Goals as goal

pub mark-requires-clause-inside : goal.mark-requires-clause-inside
mark-requires-clause-inside c = run_within c.self.inside c.args.self.now c.args.run c.self.view_is c.self.invariant c.requires.run

pub mark-requires-clause-fresh : goal.mark-requires-clause-fresh
mark-requires-clause-fresh c = none_marked c.self.inside c.args.self.now c.args.place c.self.view_is c.self.invariant c.requires.none

pub invariant_of-self : goal.invariant_of-self
invariant_of-self c = same_kept c.self.inside _ _ c.self.invariant refl c.in_err-mark.ensures.sound c.in_err-mark.ensures.marked

pub invariant_of-self-in-Ok : goal.invariant_of-self-in-Ok
invariant_of-self-in-Ok c =
    run_put c.self.inside c.args.self.now _ _ c.args.place c.args.run c.self.view_is c.self.invariant c.requires.place c.requires.run c.requires.none c.in_ok-mark.ensures.sound
    c.in_ok-mark.ensures.marked c.in-Ok.ensures.place c.in-Ok.ensures.others

pub invariant_of-self-in-Err : goal.invariant_of-self-in-Err
invariant_of-self-in-Err c =
    same_kept c.self.inside _ _ c.self.invariant c.in-Err.ensures.refused c.unmark.ensures.sound
    (added_back c.self.inside.marks c.mark.new.marks _ c.args.place _ _ (none_marked c.self.inside c.args.self.now c.args.place c.self.view_is c.self.invariant c.requires.none) c.in_ok-mark.ensures.marked
    c.unmark.ensures.unmarked)
