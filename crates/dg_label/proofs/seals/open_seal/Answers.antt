use Rattle.std.proofs.Common.{◌≡◌, ◌∙◌, Option, Some, ap, false, subst, sym, true}
use Rattle.dg_label.specs.Labels.{AreNumbers, HasOwnSeal, is_sealed}
use Rattle.dg_label.specs.Seals.{OpensSeal}
use Rattle.dg_label.specs.declared.labels.KeptLabel.{KeptLabel}
use Rattle.dg_store.specs.Stores.{shape_of}
use Rattle.dg_label.proofs.LabelLaws.{flipped, opens_none, opens_seal, unflipped}
use Rattle.dg_label.proofs.seals.open_seal.Goals as goal

pub returns : goal.returns
returns g c =
    let a = c.args.store.now in
    let b = c.write_labels.new.store in
    let kept = c.in-Some.kept in
    let sealed : kept.sealed ≡ true = flipped kept.sealed c.if-not-kept.false in
    let numbers : AreNumbers (shape_of a) kept = subst (λ (label : Option KeptLabel). HasOwnSeal (shape_of a) label) c.in-Some.is c.requires.seal sealed in
    subst (λ (label : Option KeptLabel). OpensSeal g.R.Rack a b label (Some (record kept { sealed = false }))) (sym c.in-Some.is)
    (opens_seal g.R.Rack a b c.requires.sound kept sealed numbers c.write_labels.ensures.passes c.write_labels.ensures.fallen c.write_labels.ensures.wrote)

pub returns-in_default : goal.returns-in_default
returns-in_default g c = opens_none g.R.Rack c.args.store.now c.args.label.now c.requires.sound (ap is_sealed c.in_default.is)

pub returns-then-not-kept : goal.returns-then-not-kept
returns-then-not-kept g c =
    opens_none g.R.Rack c.args.store.now c.args.label.now c.requires.sound (ap is_sealed c.in-Some.is ∙ unflipped c.in-Some.kept.sealed c.if-not-kept.true)
