use Rattle.std.proofs.Common.{◌≡◌, ℕ, sym, ◌∙◌, ap, arith}
use Rattle.std.specs.Fmt.{decimal}
use Rattle.std.proofs.lemmas.Bool.{false≢true}
use Rattle.std.proofs.lemmas.Fmt.{parse-decimal}
use Rattle.std.proofs.lemmas.Slice.Eq.{bytes_eq-Decides}
use Rattle.std.specs.Prelude.{Ok, Err, Some, Result}
use Rattle.std.specs.declared.num.ParseIntError.{ParseIntError}
use Rattle.dg_words.proofs.numbers.long_number.Goals as goal

pub returns-in_default-clause-exact : goal.returns-in_default-clause-exact
returns-in_default-clause-exact c n small is =
    let refused : Result ℕ ParseIntError = Err c.in_default.field-0 in
    let r = parse-decimal 64 n c.args.word.now refused small (omega arith) is c.in_default.ensures.value.0 in cc r

pub returns-then-eq-clause-exact : goal.returns-then-eq-clause-exact
returns-then-eq-clause-exact c n small is =
    let found : Result ℕ ParseIntError = Ok c.in-Ok.n in
    let r = parse-decimal 64 n c.args.word.now found small (omega arith) is c.in-Ok.ensures.value.0 in
    let same : c.in-Ok.n ≡ n = cc r in
    ap Some same

pub returns-else-eq-clause-exact : goal.returns-else-eq-clause-exact
returns-else-eq-clause-exact c n small is =
    let found : Result ℕ ParseIntError = Ok c.in-Ok.n in
    let r = parse-decimal 64 n c.args.word.now found small (omega arith) is c.in-Ok.ensures.value.0 in
    let same : c.in-Ok.n ≡ n = cc r in
    let text : c.format.result.now ≡ c.args.word.now = c.format.ensures.text ∙ ap (λ (k : ℕ). decimal k) same ∙ sym is in
    let eq = (bytes_eq-Decides c.format.result.now c.args.word.now).1 text in
    absurd (false≢true (sym c.if-eq.false ∙ c.eq.ensures ∙ eq))
