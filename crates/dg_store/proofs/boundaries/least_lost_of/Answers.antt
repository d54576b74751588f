use Rattle.std.proofs.Common.{inl, inr, sym, ◌∙◌, ap, arith}
use Rattle.std.proofs.lemmas.Bool.{cases_eq}
use Rattle.dg_model.specs.Members.{is_lost}
use Rattle.dg_store.specs.Rows.{members_in}
use Rattle.dg_store.proofs.TableLemmas.{none_lost}
use Rattle.dg_store.proofs.boundaries.least_lost_of.Goals as goal

pub loop-number-preserved : goal.loop-number-preserved
loop-number-preserved c t below = elim (cases_eq t c.loop-number.number) [
  | inl same ↦ ap (is_lost (members_in c.args.row.now.items)) same ∙ sym c.is_lost_at.ensures ∙ c.if-is_lost_at.false
  | inr other ↦ c.loop-number.invariant t (omega arith)
]

pub returns : goal.returns
returns c = none_lost c.args.shape.now (members_in c.args.row.now.items) (λ t below. c.loop-number.invariant t (let past = c.loop-number-test.false in omega arith))
