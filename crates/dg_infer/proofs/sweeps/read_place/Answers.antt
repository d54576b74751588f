use Rattle.std.proofs.Common.{◌∙◌, ℕ, sym, ap, arith}
use Rattle.ufs_model.specs.Blocks.{block_at}
use Rattle.ufs_pointer.specs.KindLaws.{loses_once}
use Rattle.ufs_model.specs.Metadata.{IsMetadataBy}
use Rattle.dg_infer.proofs.SweepLaws.{area_is_metadata, marks_skip}
use Rattle.dg_infer.proofs.sweeps.read_place.Goals as goal

pub returns-then-not-has_area-clause-marks : goal.returns-then-not-has_area-clause-marks
returns-then-not-has_area-clause-marks g c = λ got is v holds has before.
    marks_skip c.args.g.now v c.args.place c.args.sweep.now.free.items c.args.sweep.now.group.items c.requires.geometry.tests (c.has_area.ensures.groups c.if-not-has_area.true) before

pub returns-then-not-read_fragment-clause-lost : goal.returns-then-not-read_fragment-clause-lost
returns-then-not-read_fragment-clause-lost g c = λ missed.
    loses_once (IsMetadataBy c.args.g.now) (let most = c.requires.geometry.size in omega (arith, most, c.requires.inside)) (c.read_fragment.ensures.gone c.if-not-read_fragment.true)
    (λ v holds. area_is_metadata c.args.g.now v (c.has_area.ensures.area c.if-not-has_area.false v))

pub returns-clause-slots : goal.returns-clause-slots
returns-clause-slots g c = λ got is v holds has before.
    let here = c.aside.ensures ∙ c.read_fragment.ensures.bytes c.if-not-read_fragment.false is v holds ∙ ap (λ (l : ℕ). block_at l v c.args.place) (sym c.requires.geometry.fsize) in
    c.in_ok-take_place-2.ensures.slots v here before

pub returns-clause-kinds : goal.returns-clause-kinds
returns-clause-kinds g c = λ got is v holds has before.
    let here = c.aside.ensures ∙ c.read_fragment.ensures.bytes c.if-not-read_fragment.false is v holds ∙ ap (λ (l : ℕ). block_at l v c.args.place) (sym c.requires.geometry.fsize) in
    c.in_ok-take_place-2.ensures.kinds v here before

pub returns-clause-marks : goal.returns-clause-marks
returns-clause-marks g c = λ got is v holds has before.
    let here = c.aside.ensures ∙ c.read_fragment.ensures.bytes c.if-not-read_fragment.false is v holds ∙ ap (λ (l : ℕ). block_at l v c.args.place) (sym c.requires.geometry.fsize) in
    c.in_ok-take_place-2.ensures.marks v here before
