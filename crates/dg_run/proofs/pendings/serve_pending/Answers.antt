use Rattle.std.proofs.Common.{sym}
use Rattle.std.specs.Prelude.{codes}
use Rattle.dg_model.specs.Marks.{marked}
use Rattle.dg_model.specs.declared.events.Event.TheVariants.{Pending}
use Rattle.dg_model.specs.declared.replies.Reply.TheVariants.{Blocks}
use Rattle.dg_run.proofs.ArraySteps.{pending_steps, weaker_steps}
use Rattle.dg_run.proofs.FileParts.{part_end, part_lines, part_of_lines, told_end, told_lines}
use Rattle.dg_text.specs.HexLines.{last_line}
use Rattle.dg_text.specs.Replies.{blocks_text}
use Rattle.dg_volume.specs.Volumes.{any_phase, marks_of}
use Rattle.dg_run.proofs.pendings.serve_pending.Goals as goal

pub returns-in_default-clause-part : goal.returns-in_default-clause-part
returns-in_default-clause-part g c = λ is.
    let marks = marks_of any_phase c.args.array.now.volume in
    record {
      reply = Blocks (marked marks);
      steps = weaker_steps g.R.Rack c.args.array.now c.args.array.now Pending (Blocks (marked marks)) (pending_steps g.R.Rack c.args.array.now);
      output = part_of_lines (blocks_text (marked marks)) (codes "end ") (marked marks) _ _ c.in_default.ensures.err;
    }

pub returns-in-Ok-write_blocks_end-clause-answered : goal.returns-in-Ok-write_blocks_end-clause-answered
returns-in-Ok-write_blocks_end-clause-answered g c =
    let marks = marks_of any_phase c.args.array.now.volume in
    record {
      reply = Blocks (marked marks);
      steps = pending_steps g.R.Rack c.args.array.now;
      output = told_lines (blocks_text (marked marks)) (codes "end ") (marked marks) c.in-Ok.count _ _ (sym c.in-Ok.ensures.count)
          (told_end (blocks_text (marked marks)) (last_line (codes "end ") c.in-Ok.count) _ _ _ c.in-Ok.ensures.ok c.in-Ok-write_blocks_end.ensures.ok);
    }

pub returns-in-Err-clause-part : goal.returns-in-Err-clause-part
returns-in-Err-clause-part g c = λ is.
    let marks = marks_of any_phase c.args.array.now.volume in
    record {
      reply = Blocks (marked marks);
      steps = weaker_steps g.R.Rack c.args.array.now c.args.array.now Pending (Blocks (marked marks)) (pending_steps g.R.Rack c.args.array.now);
      output = part_lines (blocks_text (marked marks)) (codes "end ") (marked marks) c.in-Ok.count _ _ (sym c.in-Ok.ensures.count)
          (part_end (blocks_text (marked marks)) (last_line (codes "end ") c.in-Ok.count) _ _ _ c.in-Ok.ensures.ok c.in-Err.ensures.err);
    }
