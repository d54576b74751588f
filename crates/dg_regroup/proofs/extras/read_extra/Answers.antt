use Rattle.std.proofs.Common.{◌∙◌, sym, subst}
use Rattle.std.specs.List.Sorted.{IsStrictlyIncreasing}
use Rattle.std.proofs.lemmas.Bool.{false≢true}
use Rattle.dg_regroup.proofs.ReadLemmas.{no_front, no_numbers, not_ascending, not_live}
use Rattle.dg_regroup.proofs.extras.read_extra.Goals as goal

pub returns-in_default : goal.returns-in_default
returns-in_default c = no_front c.args.bytes.now (rw c.in_default.is at c.read_front.ensures)

pub returns-then-not-are_live : goal.returns-then-not-are_live
returns-then-not-are_live c = not_live c.args.bytes.now _ _ _ _ c.in-Some.ensures (λ may. false≢true (sym c.if-not-are_live.true ∙ c.are_live.ensures.1 may))

pub returns-in_default-2 : goal.returns-in_default-2
returns-in_default-2 c = no_numbers c.args.bytes.now _ _ _ _ c.in-Some.ensures (rw c.in_default-2.is at c.in_ok-cut.ensures)

pub returns-then-not-ascend : goal.returns-then-not-ascend
returns-then-not-ascend c =
    not_ascending c.args.bytes.now _ _ _ _ c.in-Some.ensures c.in-Some-2.cut.items (rw c.in-Some-2.is at c.in_ok-cut.ensures)
    (λ rise. false≢true (sym c.if-not-ascend.true ∙ c.ascend.ensures.1 (subst IsStrictlyIncreasing (sym c.deref.ensures.value) rise)))
