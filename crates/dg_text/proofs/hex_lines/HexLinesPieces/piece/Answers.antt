use Rattle.std.proofs.Common.{◌≡◌, ◌+◌, ◌++◌, ◌∙◌, ap, sym, subst, arith, take, ℕ, List, take-append-drop}
use Rattle.std.proofs.Math.Seq.{take-add}
use Rattle.dg_text.specs.HexLines.{TookBytes, TookBytesPart}
use Rattle.dg_text.specs.HexLineLaws.{took_then, took_then_part}
use Rattle.dg_text.specs.ToldSteps.{on_err}
use Rattle.dg_text.proofs.hex_lines.HexLinesPieces.piece.Goals as goal

pub returns-in_err-count-clause-err : goal.returns-in_err-count-clause-err
returns-in_err-count-clause-err g c =
    let at = c.loop-at.at in
    let bytes = c.args.bytes.now in
    let whole : take at bytes ++ c.split_at.result.1.now ≡ bytes = ap (λ (s : List ℕ). take at bytes ++ s) c.split_at.ensures.back ∙ take-append-drop at bytes in
    let P : List ℕ → Type 0 = λ s. TookBytesPart g.K.Sink c.args.self.now s c.fill.new.self in
    on_err c.from_residual.result
    (subst P whole (took_then_part g.K.Sink c.args.self.now c.loop-at.self c.fill.new.self (take at bytes) c.split_at.result.1.now c.loop-at.invariant.took c.in_err-count.ensures.err))

pub loop-at-preserved : goal.loop-at-preserved
loop-at-preserved g c =
    let at = c.loop-at.at in
    let n = c.in_ok-count.count in
    let bytes = c.args.bytes.now in
    let whole : take at bytes ++ take n c.split_at.result.1.now ≡ take (at + n) bytes =
    ap (λ (s : List ℕ). take at bytes ++ take n s) c.split_at.ensures.back ∙ sym (take-add at n bytes) in
    let P : List ℕ → Type 0 = λ s. TookBytes g.K.Sink c.args.self.now s c.fill.new.self in
    record {
      within = omega (arith, c.in_ok-count.ensures.within, c.split_at.ensures.back_len);
      took = subst P whole (took_then g.K.Sink c.args.self.now c.loop-at.self c.fill.new.self (take at bytes) (take n c.split_at.result.1.now) c.loop-at.invariant.took c.in_ok-count.ensures.ok);
      kept = c.in_ok-count.ensures.cause.kept ∙ c.loop-at.invariant.kept;
    }
