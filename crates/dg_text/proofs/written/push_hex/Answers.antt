use Rattle.std.proofs.Common.{◌≡◌, ◌∙◌, ◌++◌, ℕ, List, take, ap, sym, arith}
use Rattle.std.specs.List.{flat_map}
use Rattle.std.proofs.lemmas.List.{take_all}
use Rattle.dg_text.specs.Lines.{hex_word}
use Rattle.dg_text.proofs.FileLines.{all_digits, digits_of}
use Rattle.dg_text.proofs.HexWords.{hex_word_of_some}
use Rattle.dg_text.proofs.PathWords.{nonempty}
use Rattle.dg_text.proofs.written.push_hex.Goals as goal

pub returns : goal.returns
returns c =
    let i = c.loop-byte.byte-index in
    let bytes = c.args.bytes.now in
    let whole : flat_map digits_of (take i bytes) ≡ flat_map digits_of bytes = ap (λ (l : List ℕ). flat_map digits_of l) (take_all i bytes (omega (arith, c.loop-byte-test.false))) in
    let word : flat_map digits_of (take i bytes) ≡ hex_word bytes = whole ∙ all_digits bytes ∙ hex_word_of_some bytes (nonempty bytes (sym c.is_empty.ensures ∙ c.if-is_empty.false)) in
    c.loop-byte.invariant ∙ ap (λ (l : List ℕ). c.args.line.now.items ++ l) word
