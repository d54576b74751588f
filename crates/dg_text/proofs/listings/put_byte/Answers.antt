use Rattle.std.proofs.Common.{◌++◌, ◌∷◌, [], ◌∙◌, sym, ap, append_assoc, take, ℕ, List}
use Rattle.std.specs.Prelude.{codes}
use Rattle.hex.specs.Hex.{encode_lower}
use Rattle.dg_text.proofs.PathWords.{plain_is, escaped_is}
use Rattle.dg_text.proofs.listings.put_byte.Goals as goal

pub returns-then-is_plain-clause-text : goal.returns-then-is_plain-clause-text
returns-then-is_plain-clause-text c =
    let plain = plain_is c.args.byte (sym c.is_plain.ensures ∙ c.if-is_plain.true) in
    c.put.ensures.text ∙ ap (λ (l : List ℕ). take c.args.at c.args.line.now ++ l) (sym plain)

pub returns-clause-text : goal.returns-clause-text
returns-clause-text c =
    let digits = encode_lower (c.args.byte ∷ []) in
    let escaped = escaped_is c.args.byte (sym c.is_plain.ensures ∙ c.if-is_plain.false) in
    c.put_hex.ensures.text ∙ ap (λ (l : List ℕ). l ++ digits) c.put-digits.ensures.text
    ∙ append_assoc (take c.args.at c.args.line.now) (codes "\\x") digits
    ∙ ap (λ (l : List ℕ). take c.args.at c.args.line.now ++ l) (sym escaped)
