use Rattle.std.proofs.Common.{Option, Some, subst, sym}
use Rattle.dg_label.specs.Labels.{NotesLong}
use Rattle.dg_label.specs.declared.labels.KeptLabel.{KeptLabel}
use Rattle.dg_label.proofs.LengthLaws.{notes_long}
use Rattle.dg_label.proofs.labels.note_long.Goals as goal

pub returns-in-Some : goal.returns-in-Some
returns-in-Some c =
    let q = c.args.member in
    let kept = c.in-Some.kept in
    let bits = c.with_bit.result in
    subst (λ (before : Option KeptLabel). NotesLong q before (Some (record kept { long = bits }))) (sym c.in-Some.is)
    (notes_long q bits kept c.with_bit.ensures.here c.with_bit.ensures.others)
