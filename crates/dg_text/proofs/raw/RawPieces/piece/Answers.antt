use Rattle.std.proofs.Common.{arith, length, refl}
use Rattle.std.proofs.lemmas.Result.{on_err_weaker, on_ok_weaker}
use Rattle.dg_io.specs.SinkLines.{lines_of_text}
use Rattle.dg_text.specs.SinkCallSteps.{leaves_each}
use Rattle.dg_text.proofs.raw.RawPieces.piece.Goals as goal

pub returns-clause-ok : goal.returns-clause-ok
returns-clause-ok g c =
    let size = length c.args.bytes.now in
    let calls = leaves_each g.K.Sink.whole g.K.Sink.calls 1 size _ _ c.write_all.ensures.calls in
    on_ok_weaker c.write_all.result
    (λ told. record {
      same = refl;
      told = told;
      calls = calls;
      few_lines = lines_of_text 1 g.K.Sink.whole g.K.Sink.calls g.K.Sink.taken size size c.args.bytes.now _ _ (omega arith) calls told;
    })
    c.write_all.ensures.ok

pub returns-clause-err : goal.returns-clause-err
returns-clause-err g c =
    let size = length c.args.bytes.now in
    on_err_weaker c.write_all.result
    (λ told. record { same = refl; told = told; calls = leaves_each g.K.Sink.whole g.K.Sink.calls 1 size _ _ c.write_all.ensures.calls })
    c.write_all.ensures.err
