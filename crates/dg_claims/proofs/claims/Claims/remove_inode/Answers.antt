use Rattle.dg_claims.proofs.SourceLaws.{other_slots, removed_slots}
use Rattle.dg_claims.proofs.claims.Claims.remove_inode.Goals as goal

pub returns-clause-slots : goal.returns-clause-slots
returns-clause-slots c = removed_slots c.args.self.now c.args.number c.clear_slots.new.self.runs c.known.ensures.sources c.clear_slots.ensures.cleared

pub returns-clause-others : goal.returns-clause-others
returns-clause-others c =
    other_slots c.args.number c.args.self.now.runs c.clear_slots.new.self.runs (λ place off. c.clear_slots.ensures.cleared.others place (λ k lt e. off k e))
