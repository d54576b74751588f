use Rattle.std.proofs.Common.{◌≡◌, ◌++◌, ◌∙◌, [], ap, refl, sym, arith, length, take, ℕ, List, length-append}
use Rattle.std.proofs.lemmas.List.{length-take}
use Rattle.std.proofs.lemmas.List.Elements.{All-nil}
use Rattle.dg_io.specs.SinkLines.{lines_none}
use Rattle.dg_text.specs.HexLines.{waiting}
use Rattle.dg_text.specs.SinkCallSteps.{leaves_none}
use Rattle.dg_text.specs.ToldSteps.{on_err, took_none}
use Rattle.dg_text.proofs.HexLineSteps.{line_written, line_part, one_call}
use Rattle.dg_text.proofs.hex_lines.HexLines.fill.Goals as goal

pub returns-in_err-write_bytes_line-clause-err : goal.returns-in_err-write_bytes_line-clause-err
returns-in_err-write_bytes_line-clause-err g c =
    let old = c.args.self.now in
    let text = c.put-end.ensures.text ∙ ap (λ (s : List ℕ). waiting old ++ s) c.split_at.ensures.front in
    let sizes = length-append (take old.used old.line) c.split_at.result.0.now in
    let before = length-take old.used old.line in
    let same = ap length c.put-end.ensures.text in
    let full : length (take c.put-end.result c.put-end.new.line) ≡ old.l = omega (arith, c.split_at.ensures.front_len, c.put-end.ensures.end) in
    on_err c.from_residual.result
    (line_part g.K.Sink old _ c.args.bytes.now (take c.put-end.result c.put-end.new.line) c.min-count.result refl refl text full c.in_err-write_bytes_line.ensures.err
    (one_call g.K.Sink _ _ _ (omega (arith, full, old.longest)) c.in_err-write_bytes_line.ensures.calls))

pub returns-clause-ok : goal.returns-clause-ok
returns-clause-ok g c =
    let old = c.args.self.now in
    let text = c.put-end.ensures.text ∙ ap (λ (s : List ℕ). waiting old ++ s) c.split_at.ensures.front in
    let sizes = length-append (take old.used old.line) c.split_at.result.0.now in
    let before = length-take old.used old.line in
    let same = ap length c.put-end.ensures.text in
    let full : length (take c.put-end.result c.put-end.new.line) ≡ old.l = omega (arith, c.split_at.ensures.front_len, c.put-end.ensures.end) in
    line_written g.K.Sink old _ (take c.min-count.result c.args.bytes.now) (take c.put-end.result c.put-end.new.line) refl refl refl text full c.in_ok-write_bytes_line.ensures.ok
    (one_call g.K.Sink _ _ _ (omega (arith, full, old.longest)) c.in_ok-write_bytes_line.ensures.calls)

pub returns-then-end-self-clause-ok : goal.returns-then-end-self-clause-ok
returns-then-end-self-clause-ok g c =
    let old = c.args.self.now in
    let sink = old.sink.now in
    let text = c.put-end.ensures.text ∙ ap (λ (s : List ℕ). waiting old ++ s) c.split_at.ensures.front in
    record {
      lines = [];
      l = refl;
      same = refl;
      split = record { full = All-nil (λ (line : List ℕ). length line ≡ old.l); whole = sym text };
      short = omega (arith, length-take c.put-end.result c.put-end.new.line, c.if-end-self.true);
      told = took_none (g.K.Sink.taken sink);
      calls = leaves_none g.K.Sink.whole g.K.Sink.calls sink;
      few_lines = lines_none 255 g.K.Sink.whole g.K.Sink.calls g.K.Sink.taken sink;
    }
