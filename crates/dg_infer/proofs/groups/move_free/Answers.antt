use Rattle.std.proofs.Common.{ℕ, refl, subst}
use Rattle.std.specs.Prelude.{slice_set}
use Rattle.ufs_pointer.specs.KindLaws.{loses_along}
use Rattle.dg_infer.proofs.FetchedLaws.{group_fetched}
use Rattle.dg_infer.proofs.GroupLaws.{free_kept, free_moved, group_read}
use Rattle.dg_infer.proofs.SweepLaws.{area_is_metadata, group_area}
use Rattle.dg_infer.proofs.TargetLaws.{this_block}
use Rattle.dg_infer.specs.Areas.{IsFrom}
use Rattle.dg_infer.proofs.groups.move_free.Goals as goal

pub returns-in_default-clause-marks : goal.returns-in_default-clause-marks
returns-in_default-clause-marks g c = λ got is v inside holds was f.
    free_kept c.args.g.now v c.args.block c.args.bytes.now c.args.free.now c.requires.geometry.tests c.in_default.ensures.none was f

pub returns-in_err-area-clause-fetched : goal.returns-in_err-area-clause-fetched
returns-in_err-area-clause-fetched g c =
    group_fetched g.V.View.fetched c.args.g.now c.in-Some.c _ c.args.block c.args.view.now c.read_rest.new.view c.in-Some.ensures.within c.in-Some.ensures.inside c.group_block-first.ensures.value
    c.read_rest.ensures.fetched

pub returns-in-None-clause-lost : goal.returns-in-None-clause-lost
returns-in-None-clause-lost g c = λ missed.
    loses_along refl (λ b h. h) (λ h. h) (λ is v holds. (
      holds,
      λ b from. area_is_metadata c.args.g.now v (group_area c.args.g.now v c.in-Some.c b c.in-Some.ensures.within
          (subst (λ (a : ℕ). IsFrom a c.args.g.now.frag b) c.group_block-first.ensures.value from)),
    )) (rw c.in-None.is at c.in_ok-area.ensures.lost)

pub returns-in-None-clause-fetched : goal.returns-in-None-clause-fetched
returns-in-None-clause-fetched g c =
    group_fetched g.V.View.fetched c.args.g.now c.in-Some.c _ c.args.block c.args.view.now c.read_rest.new.view c.in-Some.ensures.within c.in-Some.ensures.inside c.group_block-first.ensures.value
    c.read_rest.ensures.fetched

pub returns-in-Some-2-clause-marks : goal.returns-in-Some-2-clause-marks
returns-in-Some-2-clause-marks g c = λ got is v inside holds was.
    let w = slice_set v c.args.block c.args.bytes.now in
    let read = rw c.in-Some-2.is at c.in_ok-area.ensures.area in
    free_moved c.args.g.now v c.args.block c.args.bytes.now c.in-Some-2.area.items c.in-Some.c c.args.free.now c.mark_group.new.free c.requires.geometry.tests c.in-Some.ensures.within
    c.in-Some.ensures.inside
    (group_read c.args.g.now w c.in-Some.c (g.V.View.size c.args.view.now) c.group_block-first.result c.in-Some-2.area.items c.requires.geometry.fsize c.group_block-first.ensures.value
    (read is w holds (this_block (g.V.View.size c.args.view.now) v c.args.block c.args.bytes.now inside)))
    (rw c.deref.ensures.value at c.mark_group.ensures.inside) c.mark_group.ensures.others was

pub returns-in-Some-2-clause-fetched : goal.returns-in-Some-2-clause-fetched
returns-in-Some-2-clause-fetched g c =
    group_fetched g.V.View.fetched c.args.g.now c.in-Some.c _ c.args.block c.args.view.now c.read_rest.new.view c.in-Some.ensures.within c.in-Some.ensures.inside c.group_block-first.ensures.value
    c.read_rest.ensures.fetched
