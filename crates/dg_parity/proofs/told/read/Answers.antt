use Rattle.std.proofs.Common.{inl, inr, sym, ◌∙◌}
use Rattle.std.proofs.lemmas.Bool.{false≢true}
use Rattle.dg_parity.proofs.told.read.Goals as goal

pub returns-clause-quiet : goal.returns-clause-quiet
returns-clause-quiet g c none = elim c.if-not-read_told.ensures.steady [
  | inl still ↦ still.1
  | inr fell ↦ absurd (false≢true (sym (none fell.disk fell.before) ∙ fell.now))
]

pub returns-clause-telling : goal.returns-clause-telling
returns-clause-telling g c told alive = c.read_told.ensures.leaves.later.telling told alive

pub returns-then-not-read_told-clause-telling : goal.returns-then-not-read_told-clause-telling
returns-then-not-read_told-clause-telling g c told alive = c.read_told.ensures.leaves.later.telling told alive
