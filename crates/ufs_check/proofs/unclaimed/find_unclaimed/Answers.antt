use Rattle.std.proofs.Common.{◌≡◌, ◌∙◌, ◌/◌, [], rules}
use Rattle.dg_io.specs.ViewLaws.{keeps_both, keeps_same}
use Rattle.ufs_model.specs.Audits.{IsUnclaimed}
use Rattle.ufs_model.specs.Blocks.{Volume}
use Rattle.ufs_model.specs.GroupMaps.{group_bytes}
use Rattle.ufs_model.specs.Metadata.{IsMetadataBy}
use Rattle.ufs_check.proofs.NoteLaws.{all_noted}
use Rattle.ufs_check.proofs.PassLaws.{lost_later, only_both}
use Rattle.ufs_check.proofs.UnclaimedLaws.{unclaimed_all, unclaimed_none}
use Rattle.ufs_pointer.specs.KindLaws.{only_none}
use Rattle.ufs_check.proofs.unclaimed.find_unclaimed.Goals as goal

pub loop-f-init : goal.loop-f-init
loop-f-init g c = record {
  keeps = keeps_same c.args.view.now c.requires.sound (g.met.V.View.unchanged c.args.view.now);
  levels = c.requires.levels;
  room_group = tt;
  holds_group = λ told v stands. tt;
  found = λ told v claimed.
      let none : c.new-unclaimed.result.items ≡ [] = search rules in unclaimed_none c.args.g.now v _ none;
  fetched = only_none (IsMetadataBy c.args.g.now) c.args.view.now (g.met.V.View.fetched_none c.args.view.now);
}

pub loop-f-preserved : goal.loop-f-preserved
loop-f-preserved g c =
    let invariant = c.loop-f.invariant in
    let so_far = invariant.keeps in
    let first = c.hold_group.ensures.keeps in
    let holds : (told : g.V.View.tells c.hold_group.new.view) (v : Volume) (stands : g.V.View.stands_for c.args.view.now v) → c.hold_group.new.levels.block ≡ (group_bytes c.args.g.now (c.loop-f.f / c.args.g.now.fpg) v).value =
    λ told v stands. rw (← c.group_of.ensures.value) (c.hold_group.ensures.holds c.if-not-hold_group.false told v (so_far.stands v stands) (invariant.holds_group (first.told told) v stands)) in
    record {
      keeps = keeps_both g.met.V.View.further c.args.view.now c.loop-f.view c.hold_group.new.view so_far first;
      levels = c.hold_group.ensures.levels ∙ invariant.levels;
      room_group = rw c.hold_group.ensures.held c.hold_group.ensures.room;
      holds_group = λ told v stands. rw (c.hold_group.ensures.held, c.group_of.ensures.value) (holds told v stands);
      found = λ told v claimed.
          all_noted (IsUnclaimed c.args.g.now v) c.loop-f.f _ _ _ c.in_ok-note.ensures
          (c.is_unclaimed.ensures v (claimed.1) (c.block.ensures ∙ holds told v (claimed.0)))
          (invariant.found (first.told told) v claimed);
      fetched = only_both g.met.V.View.fetched_both so_far.stands first.told invariant.fetched c.hold_group.ensures.fetched;
    }

pub returns-clause-found : goal.returns-clause-found
returns-clause-found g c = λ told v claimed.
    unclaimed_all c.args.g.now v c.loop-f.f _ c.loop-f-test.false (c.loop-f.invariant.found told v claimed)

pub returns-then-not-hold_group-clause-gone : goal.returns-then-not-hold_group-clause-gone
returns-then-not-hold_group-clause-gone g c =
    let so_far = c.loop-f.invariant.keeps in
    lost_later so_far.blocks so_far.stands (c.hold_group.ensures.gone c.if-not-hold_group.true)

pub returns-then-not-hold_group-clause-fetched : goal.returns-then-not-hold_group-clause-fetched
returns-then-not-hold_group-clause-fetched g c =
    only_both g.met.V.View.fetched_both c.loop-f.invariant.keeps.stands c.hold_group.ensures.keeps.told c.loop-f.invariant.fetched c.hold_group.ensures.fetched

pub returns-in_err-note-clause-fetched : goal.returns-in_err-note-clause-fetched
returns-in_err-note-clause-fetched g c =
    only_both g.met.V.View.fetched_both c.loop-f.invariant.keeps.stands c.hold_group.ensures.keeps.told c.loop-f.invariant.fetched c.hold_group.ensures.fetched

pub returns-then-not-hold_group-clause-keeps : goal.returns-then-not-hold_group-clause-keeps
returns-then-not-hold_group-clause-keeps g c =
    keeps_both g.met.V.View.further c.args.view.now c.loop-f.view c.hold_group.new.view c.loop-f.invariant.keeps c.hold_group.ensures.keeps

pub returns-in_err-note-clause-keeps : goal.returns-in_err-note-clause-keeps
returns-in_err-note-clause-keeps g c =
    keeps_both g.met.V.View.further c.args.view.now c.loop-f.view c.hold_group.new.view c.loop-f.invariant.keeps c.hold_group.ensures.keeps
