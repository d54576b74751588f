use Rattle.std.proofs.Common.{◌≡◌, ◌∙◌, ℕ, List, ap, arith, get_or, refl, rules, subst, sym, take}
use Rattle.std.specs.List.{flat_map}
use Rattle.std.proofs.lemmas.List.{take_all}
use Rattle.dg_io.specs.SinkLines.{lines_both, lines_none}
use Rattle.dg_io.specs.Told.{Told, Took, TookPart}
use Rattle.dg_text.specs.Lines.{line_of}
use Rattle.dg_text.specs.ToldSteps.{on_err}
use Rattle.dg_trace.specs.Traces.{write_of}
use Rattle.dg_trace.proofs.LineSteps.{item_is, lines_are, took_line_more, took_part_of_lines}
use Rattle.dg_trace.proofs.lines.write_blocks.Goals as goal

pub returns-in_err-write_block-clause-part : goal.returns-in_err-write_block-clause-part
returns-in_err-write_block-clause-part g c =
    let i = c.loop-b.b-index in
    let blocks = c.args.blocks.now in
    let line : ℕ → List ℕ = λ b. line_of (write_of c.args.g.now.fsize c.args.volume.now b) in
    let P : List ℕ → Type 0 = λ l. Told (TookPart l) (g.K.Sink.taken c.args.sink.now) (g.K.Sink.taken c.write_block.new.sink) in
    on_err c.from_residual.result
    (subst P (sym (lines_are (write_of c.args.g.now.fsize c.args.volume.now) c.args.blocks.now))
    (took_part_of_lines line c.args.blocks.now c.loop-b.b-index (get_or c.args.blocks.now c.loop-b.b-index 0) c.loop-b-test.true
    (item_is c.args.blocks.now c.loop-b.b-index 0 c.loop-b-test.true) _ _ _ c.loop-b.invariant.told c.in_err-write_block.ensures.part))

pub returns-clause-ok : goal.returns-clause-ok
returns-clause-ok g c =
    let line : ℕ → List ℕ = λ b. line_of (write_of c.args.g.now.fsize c.args.volume.now b) in
    let P : List ℕ → Type 0 = λ l. Told (Took l) (g.K.Sink.taken c.args.sink.now) (g.K.Sink.taken c.loop-b.sink) in
    let whole : flat_map line (take c.loop-b.b-index c.args.blocks.now) ≡ flat_map line c.args.blocks.now =
    ap (λ (l : List ℕ). flat_map line l) (take_all c.loop-b.b-index c.args.blocks.now (omega (arith, c.loop-b-test.false))) in
    subst P (whole ∙ sym (lines_are (write_of c.args.g.now.fsize c.args.volume.now) c.args.blocks.now)) c.loop-b.invariant.told

pub loop-b-init : goal.loop-b-init
loop-b-init g c = record {
  told = search rules;
  lines = lines_none 255 g.K.Sink.whole g.K.Sink.calls g.K.Sink.taken c.args.sink.now;
  kept = refl;
}

pub loop-b-preserved : goal.loop-b-preserved
loop-b-preserved g c =
    let i = c.loop-b.b-index in
    let blocks = c.args.blocks.now in
    let line : ℕ → List ℕ = λ b. line_of (write_of c.args.g.now.fsize c.args.volume.now b) in
    record {
      told = took_line_more line blocks i (get_or blocks i 0) c.loop-b-test.true (item_is blocks i 0 c.loop-b-test.true) _ _ _ c.loop-b.invariant.told c.in_ok-write_block.ensures.ok;
      lines = lines_both 255 g.K.Sink.whole g.K.Sink.calls g.K.Sink.taken _ _ _ c.loop-b.invariant.lines (c.in_ok-write_block.ensures.lines (search rules));
      kept = search rules;
    }

pub returns-in_err-write_block-clause-lines : goal.returns-in_err-write_block-clause-lines
returns-in_err-write_block-clause-lines g c = λ other.
    lines_both 255 g.K.Sink.whole g.K.Sink.calls g.K.Sink.taken _ _ _ c.loop-b.invariant.lines (c.in_err-write_block.ensures.lines (search (rules, other)))

pub returns-clause-lines : goal.returns-clause-lines
returns-clause-lines g c = λ other. c.loop-b.invariant.lines
