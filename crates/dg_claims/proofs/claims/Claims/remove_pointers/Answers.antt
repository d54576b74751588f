use Rattle.std.proofs.Common.{sym}
use Rattle.dg_claims.proofs.SourceLaws.{other_pointers, removed_pointers}
use Rattle.dg_claims.proofs.claims.Claims.remove_pointers.Goals as goal

pub returns-clause-pointers : goal.returns-clause-pointers
returns-clause-pointers c =
    removed_pointers c.args.self.now c.in-Some.g c.args.fragment c.args.level c.clear_pointers.new.self.runs c.in-Some.ensures.sources (sym c.in-Some.ensures.value) c.clear_pointers.ensures.cleared

pub returns-clause-others : goal.returns-clause-others
returns-clause-others c =
    other_pointers c.args.fragment c.args.level c.args.self.now.runs c.clear_pointers.new.self.runs (λ place off. c.clear_pointers.ensures.cleared.others place (λ k lt e. off k e))
