use Rattle.std.proofs.Common.{◌<◌, ◌-◌, ap, sym, ◌∙◌, arith}
use Rattle.dg_model.specs.Wants.{want_of}
use Rattle.dg_plan.specs.Files.{add_want}
use Rattle.dg_plan.proofs.FileLaws.{run_files_to}
use Rattle.dg_plan.proofs.files.files_of.Goals as goal

pub loop-end-preserved : goal.loop-end-preserved
loop-end-preserved c =
    let wants = c.args.wants.now in
    let first = c.run_start-first.result in
    let end = c.loop-end.end in
    let before : first < end = c.run_start-first.ensures.before in
    let all = c.loop-end.invariant.within in
    record {
      within = omega (arith, before, all);
      entries =
          c.in_ok-add_want.ensures.entries
          ∙ ap (add_want (end - first) (want_of wants first)) c.loop-end.invariant.entries
          ∙ sym (run_files_to wants (want_of wants first) (end - first) first end (omega arith) (omega arith) all c.run_start-first.ensures.same);
      counts = λ i. let more = c.in_ok-add_want.ensures.counts i in let so_far = c.loop-end.invariant.counts i in omega (arith, more, so_far, before);
    }
