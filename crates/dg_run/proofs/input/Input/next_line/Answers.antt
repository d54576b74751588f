use Rattle.std.proofs.Common.{◌∙◌, arith, refl, rules, subst, sym, ℕ}
use Rattle.dg_io.specs.SourceReads.{LeavesSource, reads_both, reads_more, reads_none}
use Rattle.dg_run.proofs.input.Input.next_line.Goals as goal

pub loop-step-init : goal.loop-step-init
loop-step-init g c = record {
  seen = search rules;
  none = search rules;
  same = search rules;
  reads = reads_none g.S.Source.calls g.S.Source.left c.args.source.now;
  kept = refl;
}

pub loop-step-preserved : goal.loop-step-preserved
loop-step-preserved g c =
    let inv = c.loop-step.invariant in
    record {
      seen = search rules;
      none = search rules;
      same = search rules;
      reads = reads_both g.S.Source.calls g.S.Source.left 0 0 c.args.source.now c.loop-step.source c.fill.new.source inv.reads (c.in_ok-fill.ensures.gave_some (omega arith));
      kept = c.in_ok-fill.ensures.cause.kept ∙ inv.kept;
    }

pub returns-in-Some-clause-reads : goal.returns-in-Some-clause-reads
returns-in-Some-clause-reads g c = reads_more g.S.Source.calls g.S.Source.left 0 1 c.args.source.now c.loop-step.source (omega arith) c.loop-step.invariant.reads

pub returns-in-Some-clause-step_reads : goal.returns-in-Some-clause-step_reads
returns-in-Some-clause-step_reads g c =
    subst (λ (n : ℕ). LeavesSource g.S.Source.calls g.S.Source.left n c.args.source.now c.loop-step.source) (sym c.in-Some.ensures.there) c.loop-step.invariant.reads

pub returns-in_err-fill-clause-reads : goal.returns-in_err-fill-clause-reads
returns-in_err-fill-clause-reads g c = reads_both g.S.Source.calls g.S.Source.left 0 1 c.args.source.now c.loop-step.source c.fill.new.source c.loop-step.invariant.reads c.fill.ensures.reads

pub returns-then-seen-eq0-clause-reads : goal.returns-then-seen-eq0-clause-reads
returns-then-seen-eq0-clause-reads g c = reads_both g.S.Source.calls g.S.Source.left 0 1 c.args.source.now c.loop-step.source c.fill.new.source c.loop-step.invariant.reads c.fill.ensures.reads

pub returns-then-seen-eq0-clause-step_reads : goal.returns-then-seen-eq0-clause-step_reads
returns-then-seen-eq0-clause-step_reads g c = reads_both g.S.Source.calls g.S.Source.left 0 1 c.args.source.now c.loop-step.source c.fill.new.source c.loop-step.invariant.reads c.fill.ensures.reads

pub returns-else-seen-eq0-clause-reads : goal.returns-else-seen-eq0-clause-reads
returns-else-seen-eq0-clause-reads g c = reads_both g.S.Source.calls g.S.Source.left 0 1 c.args.source.now c.loop-step.source c.fill.new.source c.loop-step.invariant.reads c.fill.ensures.reads

pub returns-else-seen-eq0-clause-step_reads : goal.returns-else-seen-eq0-clause-step_reads
returns-else-seen-eq0-clause-step_reads g c = reads_both g.S.Source.calls g.S.Source.left 0 1 c.args.source.now c.loop-step.source c.fill.new.source c.loop-step.invariant.reads c.fill.ensures.reads
