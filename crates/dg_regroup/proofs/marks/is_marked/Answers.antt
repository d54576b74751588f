use Rattle.std.proofs.Common.{◌≡◌, nat_lt, false, sym, ◌∙◌, arith}
use Rattle.std.proofs.lemmas.Bool.Decides.{nat_tests}
use Rattle.dg_regroup.proofs.MarkLemmas.{high_unmarked}
use Rattle.dg_regroup.proofs.marks.is_marked.Goals as goal

pub returns-else-member-lt-MARKS : goal.returns-else-member-lt-MARKS
returns-else-member-lt-MARKS c =
    let high : nat_lt c.args.member 32 ≡ false = grind (arith, nat_tests) in
    high ∙ sym (high_unmarked c.args.marks c.args.member (omega arith) (omega arith))
