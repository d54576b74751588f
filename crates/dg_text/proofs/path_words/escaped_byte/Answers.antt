use Rattle.std.proofs.Common.{false, ◌≡◌, ◌++◌, ◌∷◌, [], ◌∙◌, sym, ap, arith, length}
use Rattle.hex.specs.Hex.{encode_lower}
use Rattle.std.specs.Prelude.{Some}
use Rattle.dg_text.proofs.HexWords.{byte_same}
use Rattle.dg_text.proofs.PathWords.{escaped_found, escaped_exact, two_digits, two_front}
use Rattle.dg_text.specs.Lines.{is_plain}
use Rattle.dg_text.proofs.path_words.escaped_byte.Goals as goal

pub returns-in_err-digits-clause-exact : goal.returns-in_err-digits-clause-exact
returns-in_err-digits-clause-exact c x rest small escaped is =
    let begins = escaped_exact c.args.word.now x rest escaped is in
    absurd (c.in_err-digits.ensures.exact (encode_lower (x ∷ []) ++ rest) begins.0)

pub returns-then-digits-lt2-clause-exact : goal.returns-then-digits-lt2-clause-exact
returns-then-digits-lt2-clause-exact c x rest small escaped is =
    let begins = escaped_exact c.args.word.now x rest escaped is in
    let digits = c.in_ok-digits.ensures.exact (encode_lower (x ∷ []) ++ rest) begins.0 in
    let two = two_digits c.in_ok-digits.digits.now x rest digits in
    absurd (omega arith)

pub returns-in_err-byte-clause-exact : goal.returns-in_err-byte-clause-exact
returns-in_err-byte-clause-exact c x rest small escaped is =
    let begins = escaped_exact c.args.word.now x rest escaped is in
    let digits = c.in_ok-digits.ensures.exact (encode_lower (x ∷ []) ++ rest) begins.0 in
    let two = two_digits c.in_ok-digits.digits.now x rest digits in
    let front = two_front c.in_ok-digits.digits.now two.1 in
    absurd (c.in_err-byte.ensures.none x small (sym two.0 ∙ front))

pub returns-then-is_plain-clause-exact : goal.returns-then-is_plain-clause-exact
returns-then-is_plain-clause-exact c x rest small escaped is =
    let begins = escaped_exact c.args.word.now x rest escaped is in
    let digits = c.in_ok-digits.ensures.exact (encode_lower (x ∷ []) ++ rest) begins.0 in
    let two = two_digits c.in_ok-digits.digits.now x rest digits in
    let front = two_front c.in_ok-digits.digits.now two.1 in
    let same = byte_same c.in_ok-byte.byte x c.in_ok-byte.ensures.found.0 small (c.in_ok-byte.ensures.found.1 ∙ sym front ∙ two.0) in
    let test = ap is_plain same in
    absurd (cc (test, escaped, c.is_plain.ensures, c.if-is_plain.true))

pub returns-clause-found : goal.returns-clause-found
returns-clause-found c =
    let escaped : is_plain c.in_ok-byte.byte ≡ false = sym c.is_plain.ensures ∙ c.if-is_plain.false in
    let size = ap length c.in_ok-digits.ensures.found in
    let front = two_front c.in_ok-digits.digits.now (omega arith) in
    (escaped_found c.args.word.now c.in_ok-digits.digits.now c.in_ok-byte.byte c.in_ok-digits.ensures.found (front ∙ sym c.in_ok-byte.ensures.found.1) escaped, omega arith)

pub returns-clause-exact : goal.returns-clause-exact
returns-clause-exact c x rest small escaped is =
    let begins = escaped_exact c.args.word.now x rest escaped is in
    let digits = c.in_ok-digits.ensures.exact (encode_lower (x ∷ []) ++ rest) begins.0 in
    let two = two_digits c.in_ok-digits.digits.now x rest digits in
    let front = two_front c.in_ok-digits.digits.now two.1 in
    ap Some (byte_same c.in_ok-byte.byte x c.in_ok-byte.ensures.found.0 small (c.in_ok-byte.ensures.found.1 ∙ sym front ∙ two.0))
