use Rattle.std.proofs.Common.{◌≡◌, ◌∙◌, ℕ, List, sym, ap, subst, arith}
use Rattle.std.specs.Prelude.{Ok, Err, Some, Result}
use Rattle.std.specs.Fmt.{decimal}
use Rattle.std.specs.Str.{IsUtf8}
use Rattle.std.specs.Str.Parse.{ParsesUnsigned}
use Rattle.std.specs.declared.num.ParseIntError.{ParseIntError}
use Rattle.std.proofs.lemmas.Fmt.{IsAscii-decimal, parse-decimal}
use Rattle.std.proofs.lemmas.Str.{IsUtf8-from_ascii}
use Rattle.dg_text.proofs.Numbers.{not_padded, number_is}
use Rattle.dg_text.proofs.words.whole_number.Goals as goal

pub returns-then-is_padded-clause-exact : goal.returns-then-is_padded-clause-exact
returns-then-is_padded-clause-exact c n small is = absurd (not_padded c.args.text.now n small is (c.is_padded.ensures.0 c.if-is_padded.true))

pub returns-then-is_padded-clause-none : goal.returns-then-is_padded-clause-none
returns-then-is_padded-clause-none c h = cc (returns-then-is_padded-clause-exact c h.0 h.1 h.2)

pub returns-in_default-clause-exact : goal.returns-in_default-clause-exact
returns-in_default-clause-exact c n small is =
    absurd (c.in_default.ensures.cases.0 (subst IsUtf8 (sym is) (IsUtf8-from_ascii (decimal n) (IsAscii-decimal n (omega arith)))))

pub returns-in_default-clause-none : goal.returns-in_default-clause-none
returns-in_default-clause-none c h = cc (returns-in_default-clause-exact c h.0 h.1 h.2)

pub returns-in-Ok-parse-clause-found : goal.returns-in-Ok-parse-clause-found
returns-in-Ok-parse-clause-found c =
    let parses = subst (λ (l : List ℕ). ParsesUnsigned {E = ParseIntError} 32 10 l (Ok c.in-Ok-parse.n)) c.in-Ok.ensures.cases.0 c.in-Ok-parse.ensures.value.0 in
    number_is ParseIntError c.args.text.now c.in-Ok-parse.n parses (λ padded. let yes = c.is_padded.ensures.1 padded in cc (yes, c.if-is_padded.false))

pub returns-in-Ok-parse-clause-exact : goal.returns-in-Ok-parse-clause-exact
returns-in-Ok-parse-clause-exact c n small is =
    let text : c.in-Ok.digits.now ≡ decimal n = c.in-Ok.ensures.cases.0 ∙ is in
    let found : Result ℕ ParseIntError = Ok c.in-Ok-parse.n in
    let r = parse-decimal 32 n c.in-Ok.digits.now found small (omega arith) text c.in-Ok-parse.ensures.value.0 in
    let same : c.in-Ok-parse.n ≡ n = cc r in
    ap Some same

pub returns-in-Err-clause-exact : goal.returns-in-Err-clause-exact
returns-in-Err-clause-exact c n small is =
    let text : c.in-Ok.digits.now ≡ decimal n = c.in-Ok.ensures.cases.0 ∙ is in
    let refused : Result ℕ ParseIntError = Err c.in-Err.field-0 in
    let r = parse-decimal 32 n c.in-Ok.digits.now refused small (omega arith) text c.in-Err.ensures.value.0 in
    cc r

pub returns-in-Err-clause-none : goal.returns-in-Err-clause-none
returns-in-Err-clause-none c h = cc (returns-in-Err-clause-exact c h.0 h.1 h.2)
