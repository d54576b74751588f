use Rattle.std.proofs.Common.{◌∙◌, ◌≡◌, ℕ, List, ◌+◌, ap, length}
use Rattle.dg_model.specs.Paths.{PathOf}
use Rattle.dg_text.specs.Replies.{lost_line}
use Rattle.dg_text.specs.ToldSteps.{on_err}
use Rattle.dg_text.specs.LineCalls.{path_calls, pieces}
use Rattle.dg_text.proofs.CallSums.{calls_more, calls_within}
use Rattle.dg_text.proofs.FileLines.{took_line_more, took_part_of_lines}
use Rattle.dg_text.proofs.lost_files.write_files.Goals as goal

-- the line of what the file says of itself
own_line : (file : PathOf) (inode : ℕ) (path : List ℕ) → inode ≡ file.inode → path ≡ file.path → lost_line (record { inode = inode; path = path }) ≡ lost_line file
own_line file inode path a b = λ i. lost_line (record { inode = a i; path = b i })

pub returns-in_err-write_lost_line-clause-err : goal.returns-in_err-write_lost_line-clause-err
returns-in_err-write_lost_line-clause-err g c =
    let file = c.file-item.result in
    on_err c.from_residual.result
    (took_part_of_lines lost_line c.args.files.now c.loop-file.file-index file _ c.loop-file-test.true c.file-item.is
    (own_line file c.inode.result c.path.result.now c.inode.ensures c.path.ensures) _ _ _ c.loop-file.invariant.told c.in_err-write_lost_line.ensures.err)

pub loop-file-preserved : goal.loop-file-preserved
loop-file-preserved g c =
    let file = c.file-item.result in
    record {
      told = took_line_more lost_line c.args.files.now c.loop-file.file-index file _ c.loop-file-test.true c.file-item.is
          (own_line file c.inode.result c.path.result.now c.inode.ensures c.path.ensures) _ _ _ c.loop-file.invariant.told c.in_ok-write_lost_line.ensures.ok;
      calls = calls_more g.K.Sink.whole g.K.Sink.calls lost_line path_calls c.args.files.now c.loop-file.file-index file _ _ _ _ _ c.loop-file-test.true c.file-item.is
          (own_line file c.inode.result c.path.result.now c.inode.ensures c.path.ensures) (ap (λ (path : List ℕ). pieces 1023 (length path)) c.path.ensures)
          c.loop-file.invariant.calls c.in_ok-write_lost_line.ensures.calls;
      kept = c.in_ok-write_lost_line.ensures.cause.kept ∙ c.loop-file.invariant.kept;
    }

pub returns-in_err-write_lost_line-clause-calls : goal.returns-in_err-write_lost_line-clause-calls
returns-in_err-write_lost_line-clause-calls g c =
    let file = c.file-item.result in
    calls_within g.K.Sink.whole g.K.Sink.calls lost_line path_calls c.args.files.now (c.loop-file.file-index + 1) _ _
    (calls_more g.K.Sink.whole g.K.Sink.calls lost_line path_calls c.args.files.now c.loop-file.file-index file _ _ _ _ _ c.loop-file-test.true c.file-item.is
    (own_line file c.inode.result c.path.result.now c.inode.ensures c.path.ensures) (ap (λ (path : List ℕ). pieces 1023 (length path)) c.path.ensures)
    c.loop-file.invariant.calls c.in_err-write_lost_line.ensures.calls)

pub returns-clause-calls : goal.returns-clause-calls
returns-clause-calls g c = calls_within g.K.Sink.whole g.K.Sink.calls lost_line path_calls c.args.files.now c.loop-file.file-index _ _ c.loop-file.invariant.calls
