use Rattle.std.proofs.Common.{◌∙◌, ap, sym}
use Rattle.std.specs.Prelude.{Option}
use Rattle.dg_infer.specs.Meanings.{KeptInference}
use Rattle.dg_volume.specs.Volumes.{marks_by}
use Rattle.dg_volume.proofs.regroups.take_marks.Goals as goal

pub returns-in_default-clause-marks : goal.returns-in_default-clause-marks
returns-in_default-clause-marks c =
    sym (ap (λ (k : Option KeptInference). marks_by k c.args.pending.now.items) (rw c.in_default.is at c.take_inference.ensures.kept))

pub returns-clause-marks : goal.returns-clause-marks
returns-clause-marks c =
    c.into_marks.ensures.marks ∙ sym (ap (λ (k : Option KeptInference). marks_by k c.args.pending.now.items) (rw c.in-Some.is at c.take_inference.ensures.kept))
