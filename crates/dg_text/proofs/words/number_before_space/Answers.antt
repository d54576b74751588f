use Rattle.std.proofs.Common.{◌<◌, ◌^◌, ℕ, arith}
use Rattle.std.specs.Prelude.{Contains}
use Rattle.std.specs.Fmt.{decimal}
use Rattle.dg_text.proofs.Cuts.{not-from_Lacks}
use Rattle.dg_text.proofs.Numbers.{decimal_lacks}
use Rattle.dg_text.proofs.words.number_before_space.Goals as goal

no_space : (n : ℕ) → n < 2 ^ 32 → Contains (decimal n) 32 → ⊥
no_space n small = not-from_Lacks 32 (decimal n) (decimal_lacks 32 n (omega arith) (omega arith))

pub returns-in_err-word-clause-exact : goal.returns-in_err-word-clause-exact
returns-in_err-word-clause-exact c n rest small is =
    absurd (c.in_err-word.ensures.exact (decimal n) rest (no_space n small) is)

pub returns-in_err-n-clause-exact : goal.returns-in_err-n-clause-exact
returns-in_err-n-clause-exact c n rest small is =
    let cut = c.in_ok-word.ensures.exact (decimal n) rest (no_space n small) is in
    let found = c.in_err-n.ensures.exact n small cut.0 in
    absurd (cc found)

pub returns-clause-exact : goal.returns-clause-exact
returns-clause-exact c n rest small is =
    let cut = c.in_ok-word.ensures.exact (decimal n) rest (no_space n small) is in
    let found = c.in_ok-n.ensures.exact n small cut.0 in
    (cc found, cut.1)
