use Rattle.std.proofs.Common.{false, ◌≡◌, ◌≢◌, ◌≤◌, ◌∙◌, ℕ, List, length, drop, sym, ap, subst, arith}
use Rattle.std.specs.Prelude.{codes, nat_eq}
use Rattle.std.specs.Cmp.Lexicographic.{pointwise}
use Rattle.std.proofs.lemmas.Bool.Decides.{Decides-eqb}
use Rattle.std.proofs.lemmas.Slice.Eq.{slice_eq-Decides}
use Rattle.std.proofs.lemmas.Bool.{eqb-true}
use Rattle.std.proofs.lemmas.List.{take_at}
use Rattle.hex.proofs.HexLemmas.{length-encode_with}
use Rattle.hex.specs.Hex.{lower_digits}
use Rattle.dg_text.specs.Lines.{AreBytes, hex_word}
use Rattle.dg_text.proofs.HexWords.{hex_word_nonempty, hex_word_of_some, spelled_twice}
use Rattle.dg_text.proofs.PathWords.{nonempty}
use Rattle.dg_text.proofs.hex_words.read_hex.Goals as goal

other : (word dash : List ℕ) → false ≡ pointwise nat_eq word dash → dash ≡ codes "-" → word ≢ codes "-"
other word dash test is e =
    let t = (slice_eq-Decides Decides-eqb word dash false test).1 (e ∙ sym is) in
    cc t

pub returns-then-is_empty-clause-none : goal.returns-then-is_empty-clause-none
returns-then-is_empty-clause-none c h =
    let some = hex_word_nonempty h.0 in
    let size = ap length h.3 in
    let none = eqb-true (length c.args.word.now) 0 (sym c.is_empty.ensures ∙ c.if-is_empty.true) in
    absurd (omega arith)

pub returns-then-word-count-clause-none : goal.returns-then-word-count-clause-none
returns-then-word-count-clause-none c h =
    let size = spelled_twice c.args.word.now h.0 (other c.args.word.now c.as_slice.result.now c.if-eq.ensures c.as_slice.ensures) h.3 in
    absurd (omega (arith, size, c.if-word-count.true))

pub returns-then-count-most-clause-none : goal.returns-then-count-most-clause-none
returns-then-count-most-clause-none c h =
    let size = spelled_twice c.args.word.now h.0 (other c.args.word.now c.as_slice.result.now c.if-eq.ensures c.as_slice.ensures) h.3 in
    let fits = h.1 in
    absurd (omega arith)

pub returns-clause-found : goal.returns-clause-found
returns-clause-found c =
    let bytes = c.decode.new.bytes in
    let size : length bytes ≡ c.in-Ok.bytes.len = omega (arith, c.decode.auto.bytes, c.deref_mut.ensures.len) in
    let made : c.new-2.result ≡ bytes = c.new-2.ensures ∙ take_at bytes (drop (length bytes) c.in-Ok.bytes.items) c.in-Ok.bytes.len size in
    let some = nonempty c.args.word.now (sym c.is_empty.ensures ∙ c.if-is_empty.false) in
    let read = c.decode.ensures.found c.if-not-decode.false in
    let twice = ap length read.0 ∙ length-encode_with lower_digits bytes in
    let P : List ℕ → Type 0 = λ l. (c.args.word.now ≡ hex_word l) × (length l ≤ c.args.most) × AreBytes l in
    subst P (sym made) (read.0 ∙ hex_word_of_some bytes (omega arith), omega arith, read.1)
