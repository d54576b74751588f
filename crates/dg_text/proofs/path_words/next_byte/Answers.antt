use Rattle.std.proofs.Common.{◌∙◌, sym, arith, length, refl, slice_index}
use Rattle.std.proofs.lemmas.Bool.{eqb-true}
use Rattle.dg_text.specs.Lines.{is_plain}
use Rattle.dg_text.proofs.PathWords.{front_tells, plain_found, plain_exact, escaped_exact, spelled_some, nonempty}
use Rattle.dg_text.proofs.path_words.next_byte.Goals as goal

pub returns-then-is_empty-clause-exact : goal.returns-then-is_empty-clause-exact
returns-then-is_empty-clause-exact c x rest small is =
    let some = spelled_some c.args.word.now x rest is in
    let none = eqb-true (length c.args.word.now) 0 (sym c.is_empty.ensures ∙ c.if-is_empty.true) in
    omega arith

pub returns-then-is_plain-clause-found : goal.returns-then-is_plain-clause-found
returns-then-is_plain-clause-found c =
    let some = nonempty c.args.word.now (sym c.is_empty.ensures ∙ c.if-is_empty.false) in
    let plain = sym c.is_plain.ensures ∙ c.if-is_plain.true in
    (plain_found c.args.word.now (slice_index c.args.word.now 0) some refl plain, omega arith, omega arith, omega (arith, c.type_inv.word 0))

pub returns-then-is_plain-clause-exact : goal.returns-then-is_plain-clause-exact
returns-then-is_plain-clause-exact c x rest small is =
    let tells = front_tells c.args.word.now x rest (is_plain x) refl is in
    plain_exact c.args.word.now x rest (sym tells ∙ sym c.is_plain.ensures ∙ c.if-is_plain.true) is

pub returns-in_err-byte-clause-exact : goal.returns-in_err-byte-clause-exact
returns-in_err-byte-clause-exact c x rest small is =
    let tells = front_tells c.args.word.now x rest (is_plain x) refl is in
    let escaped = sym tells ∙ sym c.is_plain.ensures ∙ c.if-is_plain.false in
    absurd (cc (c.in_err-byte.ensures.exact x rest small escaped is))

pub returns-clause-exact : goal.returns-clause-exact
returns-clause-exact c x rest small is =
    let tells = front_tells c.args.word.now x rest (is_plain x) refl is in
    let escaped = sym tells ∙ sym c.is_plain.ensures ∙ c.if-is_plain.false in
    let read = c.in_ok-byte.ensures.exact x rest small escaped is in
    let tail = escaped_exact c.args.word.now x rest escaped is in
    (cc read, tail.1)
