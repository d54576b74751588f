use Rattle.std.proofs.Common.{◌≡◌, ◌∙◌, ◌∷◌, ◌+◌, List, ℕ, ap, arith, drop, get_or, refl, sym}
use Rattle.std.proofs.lemmas.List.{drop_all, drop_more}
use Rattle.dg_drill.specs.Comparisons.{next_bytes}
use Rattle.dg_drill.specs.declared.comparers.Comparer.{Comparer}
use Rattle.dg_drill.proofs.comparers.ComparerPieces.piece.Goals as goal

pub loop-byte-init : goal.loop-byte-init
loop-byte-init c = refl

pub loop-byte-preserved : goal.loop-byte-preserved
loop-byte-preserved c =
    let i = c.loop-byte.byte-index in
    let bytes = c.args.bytes.now in
    let split : drop i bytes ≡ get_or bytes i 0 ∷ drop (i + 1) bytes = drop_more bytes i 0 c.loop-byte-test.true in
    ap (λ (s : Comparer). next_bytes s (drop (c.loop-byte.byte-index + 1) c.args.bytes.now)) c.next_byte.ensures
    ∙ ap (λ (l : List ℕ). next_bytes c.loop-byte.self l) (sym split)
    ∙ c.loop-byte.invariant

pub returns-clause-ok : goal.returns-clause-ok
returns-clause-ok c =
    let none = drop_all c.loop-byte.byte-index c.args.bytes.now (omega (arith, c.loop-byte-test.false)) in
    ap (λ (l : List ℕ). next_bytes c.loop-byte.self l) (sym none) ∙ c.loop-byte.invariant
