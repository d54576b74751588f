use Rattle.std.proofs.Common.{Option, Some, subst, sym}
use Rattle.dg_io.specs.Reduced.{places_left}
use Rattle.dg_label.specs.Lefts.{KeepsLeft}
use Rattle.dg_label.specs.declared.labels.KeptLabel.{KeptLabel}
use Rattle.dg_label.proofs.PlaceLaws.{keeps_bits}
use Rattle.dg_label.proofs.places.keep_left.Goals as goal

pub returns-in-Some : goal.returns-in-Some
returns-in-Some c =
    let left = places_left c.args.lost c.args.boundaries in
    let kept = c.in-Some.kept in
    let bits = c.bits_left.result in
    subst (λ (before : Option KeptLabel). KeepsLeft left before (Some (record kept { long = bits }))) (sym c.in-Some.is)
    (keeps_bits left kept bits c.bits_left.ensures)
