use Rattle.std.proofs.Common.{sym}
use Rattle.dg_claims.proofs.KeptLaws.{cleared}
use Rattle.dg_claims.proofs.claims.Claims.clear.Goals as goal

pub invariant_of-self : goal.invariant_of-self
invariant_of-self c =
    cleared c.self.inside _ _ c.args.place _ c.self.invariant (sym c.in-Some.ensures) c.unmark.ensures.sound c.unmark.ensures.unmarked c.remove.ensures.place c.remove.ensures.others
