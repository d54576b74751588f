use Rattle.std.proofs.Common.{refl, rules, arith, ◌∙◌}
use Rattle.dg_io.specs.SinkLines.{lines_both, lines_none}
use Rattle.dg_io.specs.SourceReads.{reads_both, reads_none}
use Rattle.dg_run.proofs.Breaks.{lines_broke_off, lines_cut, lines_ran_out_at}
use Rattle.dg_run.proofs.Laters.{continues_none, continues_then, told_line}
use Rattle.dg_run.proofs.Inputs.{line_some}
use Rattle.dg_run.proofs.Runs.{so_far_none, so_far_more, turned_served, lines_end, lines_refused}
use Rattle.dg_run.proofs.lines.serve_lines.Goals as goal

pub loop-passed-init : goal.loop-passed-init
loop-passed-init g c = record {
  goes = continues_none g.R.Rack g.met.R.Rack.made_none g.met.R.Rack.made_both g.met.R.Rack.after c.args.array.now c.requires.ready;
  size = c.requires.size;
  budget = c.requires.first;
  number = omega arith;
  so_far = so_far_none g.R.Rack _ c.args.first c.args.from _ _ _;
  lines = lines_none 255 g.K.Sink.whole g.K.Sink.calls g.K.Sink.taken c.args.sink.now;
  reads = reads_none g.S.Source.calls g.S.Source.left c.args.source.now;
  source_kept = refl;
  sink_kept = refl;
}

pub loop-passed-preserved : goal.loop-passed-preserved
loop-passed-preserved g c =
    let source_kept = c.in_ok-bytes.ensures.source_kept (λ is. cc is) in
    let sink_kept = c.in_ok-bytes.ensures.sink_kept (λ is. cc is) in
    let lines = c.in_ok-bytes.ensures.lines (λ is. cc is) in
    let reads = rw c.in-Served.is at c.in_ok-bytes.ensures.turn_reads in
    let inv = c.loop-passed.invariant in
    let e = rw c.shape.ensures at c.in_ok-bytes.ensures in
    let line = turned_served g.R.Rack _ _ c.in-Served.bytes _ _ _ _ _ _ _ c.in-Served.is e.turned in
    let some = line_some line.event in
    let told = told_line g.R.Rack g.met.R.Rack.made_none g.met.R.Rack.made_both g.met.R.Rack.after c.loop-passed.array c.serve_next.new.array e.goes in
    record {
      goes = continues_then g.R.Rack g.met.R.Rack.made_none g.met.R.Rack.made_both g.met.R.Rack.after c.args.array.now c.loop-passed.array c.serve_next.new.array inv.goes e.goes;
      size = search (rules, inv.size);
      budget = omega (arith, line.within, inv.budget);
      number = omega (arith, line.size, inv.number);
      so_far = so_far_more g.R.Rack _ c.args.first c.args.from _ _ _ c.in-Served.bytes _ _ _ _ _ _ _ _ _ inv.so_far line told;
      lines = lines_both 255 g.K.Sink.whole g.K.Sink.calls g.K.Sink.taken c.args.sink.now c.loop-passed.sink c.serve_next.new.sink inv.lines lines;
      reads = reads_both g.S.Source.calls g.S.Source.left 0 0 c.args.source.now c.loop-passed.source c.serve_next.new.source inv.reads reads;
      source_kept = source_kept ∙ inv.source_kept;
      sink_kept = sink_kept ∙ inv.sink_kept;
    }

pub loop-passed-smaller : goal.loop-passed-smaller
loop-passed-smaller g c =
    let line = turned_served g.R.Rack _ _ c.in-Served.bytes _ _ _ _ _ _ _ c.in-Served.is c.in_ok-bytes.ensures.turned in
    let some = line_some line.event in
    omega (arith, line.within, line.size, some)

pub returns-in-End-clause-end : goal.returns-in-End-clause-end
returns-in-End-clause-end g c =
    let inv = c.loop-passed.invariant in
    let e = rw c.shape.ensures at c.in_ok-bytes.ensures in
    lines_end g.R.Rack _ c.args.first c.args.from _ _ _ _ _ _ _ _ _ _ _ _ _ c.in-End.is e.turned inv.budget inv.so_far

pub returns-in-Refused-clause-end : goal.returns-in-Refused-clause-end
returns-in-Refused-clause-end g c =
    let inv = c.loop-passed.invariant in
    let e = rw c.shape.ensures at c.in_ok-bytes.ensures in
    lines_refused g.R.Rack _ c.args.first c.args.from _ _ c.in-Refused.kind _ _ _ _ _ _ _ _ _ _ c.in-Refused.is e.turned inv.budget inv.so_far

pub returns-in_err-bytes-clause-broken : goal.returns-in_err-bytes-clause-broken
returns-in_err-bytes-clause-broken g c = λ is.
    let inv = c.loop-passed.invariant in
    let broken = c.in_err-bytes.ensures.broken (search rules) in
    lines_broke_off g.R.Rack _ c.args.first c.args.from _ _ _ _ _ _ _ _ _ _ _ inv.budget inv.so_far broken.0 broken.1 broken.2

pub returns-in_err-bytes-clause-part : goal.returns-in_err-bytes-clause-part
returns-in_err-bytes-clause-part g c = λ is.
    let inv = c.loop-passed.invariant in
    let e = rw c.shape.ensures at c.in_err-bytes.ensures in
    let part = e.part (search rules) in
    lines_cut g.R.Rack _ c.args.first c.args.from _ _ _ _ _ _ _ _ _ _ _ inv.budget inv.so_far part
    (told_line g.R.Rack g.met.R.Rack.made_none g.met.R.Rack.made_both g.met.R.Rack.after c.loop-passed.array c.serve_next.new.array e.goes)

pub returns-in_err-bytes-clause-wanting : goal.returns-in_err-bytes-clause-wanting
returns-in_err-bytes-clause-wanting g c = λ is.
    let inv = c.loop-passed.invariant in
    let e = rw c.shape.ensures at c.in_err-bytes.ensures in
    let wanting = e.wanting (search rules) in
    lines_ran_out_at g.R.Rack _ c.args.first c.args.from _ _ _ _ _ _ _ _ _ _ _ inv.budget inv.so_far wanting e.goes.boundaries
    (told_line g.R.Rack g.met.R.Rack.made_none g.met.R.Rack.made_both g.met.R.Rack.after c.loop-passed.array c.serve_next.new.array e.goes)

pub returns-in_err-bytes-clause-goes : goal.returns-in_err-bytes-clause-goes
returns-in_err-bytes-clause-goes g c =
    continues_then g.R.Rack g.met.R.Rack.made_none g.met.R.Rack.made_both g.met.R.Rack.after c.args.array.now c.loop-passed.array c.serve_next.new.array c.loop-passed.invariant.goes c.in_err-bytes.ensures.goes

pub returns-in_err-bytes-clause-lines : goal.returns-in_err-bytes-clause-lines
returns-in_err-bytes-clause-lines g c none =
    lines_both 255 g.K.Sink.whole g.K.Sink.calls g.K.Sink.taken c.args.sink.now c.loop-passed.sink c.serve_next.new.sink c.loop-passed.invariant.lines (c.in_err-bytes.ensures.lines (λ at. none (search (rules, at))))
