use Rattle.std.proofs.Common.{◌<◌, ℕ, List, length, sym, subst, arith}
use Rattle.std.proofs.lemmas.List.{length-take}
use Rattle.std.proofs.lemmas.Result.{on_ok_weaker, on_err_weaker}
use Rattle.dg_io.specs.Told.{Told, Took, TookPart}
use Rattle.dg_text.specs.HexLines.{waiting}
use Rattle.dg_text.proofs.HexLineSteps.{rest_calls, rest_text_some}
use Rattle.dg_text.proofs.hex_lines.HexLines.flush.Goals as goal

pub returns-clause-ok : goal.returns-clause-ok
returns-clause-ok g c =
    let old = c.args.self.now in
    let size = length-take old.used old.line in
    let some : 0 < length (waiting old) = omega arith in
    let P : List ℕ → Type 0 = λ s. Told (Took s) (g.K.Sink.taken old.sink.now) (g.K.Sink.taken c.write_bytes_line.new.sink) in
    on_ok_weaker c.write_bytes_line.result (λ told. subst P (sym (rest_text_some (waiting old) some)) told) c.write_bytes_line.ensures.ok

pub returns-clause-err : goal.returns-clause-err
returns-clause-err g c =
    let old = c.args.self.now in
    let size = length-take old.used old.line in
    let some : 0 < length (waiting old) = omega arith in
    let P : List ℕ → Type 0 = λ s. Told (TookPart s) (g.K.Sink.taken old.sink.now) (g.K.Sink.taken c.write_bytes_line.new.sink) in
    on_err_weaker c.write_bytes_line.result (λ told. subst P (sym (rest_text_some (waiting old) some)) told) c.write_bytes_line.ensures.err

pub returns-clause-calls : goal.returns-clause-calls
returns-clause-calls g c =
    let old = c.args.self.now in
    let size = length-take old.used old.line in
    rest_calls g.K.Sink (waiting old) _ _ (omega arith) (omega (arith, size, old.within, old.longest)) c.write_bytes_line.ensures.calls
