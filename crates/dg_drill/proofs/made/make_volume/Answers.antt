use Rattle.std.proofs.Common.{◌≡◌, ◌∙◌, List, ap, sym}
use Rattle.std.specs.Prelude.{None, Ok, Some}
use Rattle.dg_drill.proofs.MadeLaws.{built_length, spec_numbers}
use Rattle.ufs_build.specs.Builds.{built}
use Rattle.ufs_build.specs.Volumes.{volume_of_spec}
use Rattle.ufs_build.specs.declared.items.Item.{Item}
use Rattle.ufs_build.specs.declared.volumes.Spec.{Spec}
use Rattle.ufs_drill.specs.Items.{drill_items}
use Rattle.ufs_drill.specs.Volumes.{drill_spec}
use Rattle.dg_drill.proofs.made.make_volume.Goals as goal

pub unreachable-requires : goal.unreachable-requires
unreachable-requires c =
    let none : volume_of_spec drill_spec ≡ None = ap volume_of_spec (sym c.drill_spec-spec.ensures) ∙ sym c.volume_of_spec.ensures.value ∙ c.in_default.is in
    cc (sym c.drills_have_volumes.ensures.numbers ∙ none)

pub returns-in-Ok-clause-bytes : goal.returns-in-Ok-clause-bytes
returns-in-Ok-clause-bytes c =
    let found : volume_of_spec drill_spec ≡ Some c.in-Some.geometry = ap volume_of_spec (sym c.drill_spec-spec.ensures) ∙ sym c.volume_of_spec.ensures.value ∙ c.in-Some.is in
    let made : built drill_spec (drill_items c.args.seed c.args.files) ≡ Ok c.in-Ok.image.items =
    ap (λ (s : Spec). built s (drill_items c.args.seed c.args.files)) (sym c.drill_spec-spec.ensures)
    ∙ ap (λ (l : List Item). built c.drill_spec-spec.result l) (sym c.in_ok-items.ensures) ∙ c.in-Ok.ensures.answer in
    built_length drill_spec (drill_items c.args.seed c.args.files) c.in-Some.geometry c.in-Ok.image.items found made

pub returns-in-Ok-clause-fits : goal.returns-in-Ok-clause-fits
returns-in-Ok-clause-fits c =
    let found : volume_of_spec drill_spec ≡ Some c.in-Some.geometry = ap volume_of_spec (sym c.drill_spec-spec.ensures) ∙ sym c.volume_of_spec.ensures.value ∙ c.in-Some.is in
    (spec_numbers c.accepted_superblocks.ensures drill_spec c.in-Some.geometry found).fsize

pub returns-in-Ok-clause-inside : goal.returns-in-Ok-clause-inside
returns-in-Ok-clause-inside c =
    let found : volume_of_spec drill_spec ≡ Some c.in-Some.geometry = ap volume_of_spec (sym c.drill_spec-spec.ensures) ∙ sym c.volume_of_spec.ensures.value ∙ c.in-Some.is in
    (spec_numbers c.accepted_superblocks.ensures drill_spec c.in-Some.geometry found).size
