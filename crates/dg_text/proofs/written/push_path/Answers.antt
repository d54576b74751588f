use Rattle.std.proofs.Common.{◌≡◌, ◌∙◌, ◌++◌, ◌∷◌, ℕ, List, take, ap, arith}
use Rattle.std.specs.List.{flat_map}
use Rattle.std.proofs.lemmas.List.{take_all}
use Rattle.dg_text.specs.Lines.{spelled_byte}
use Rattle.dg_text.proofs.FileLines.{all_bytes}
use Rattle.dg_text.proofs.written.push_path.Goals as goal

pub returns : goal.returns
returns c =
    let i = c.loop-byte.byte-index in
    let path = c.args.path.now in
    let whole : flat_map spelled_byte (take i path) ≡ flat_map spelled_byte path = ap (λ (l : List ℕ). flat_map spelled_byte l) (take_all i path (omega (arith, c.loop-byte-test.false))) in
    c.loop-byte.invariant ∙ ap (λ (l : List ℕ). c.args.line.now.items ++ 32 ∷ l) (whole ∙ all_bytes path)
