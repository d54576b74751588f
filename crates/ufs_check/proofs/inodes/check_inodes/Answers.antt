use Rattle.std.proofs.Common.{◌≡◌, ◌∙◌, ◌/◌, arith, false, inl, inr, subst, sym}
use Rattle.std.proofs.lemmas.Bool.{cases_eq}
use Rattle.dg_io.specs.ViewLaws.{keeps_both}
use Rattle.ufs_model.specs.Blocks.{Volume, block_at}
use Rattle.ufs_model.specs.GroupMaps.{group_bytes}
use Rattle.ufs_model.specs.Inodes.{inode_block}
use Rattle.ufs_model.specs.Metadata.IsMetadataBy.{of_inode}
use Rattle.dg_claims.specs.ThereLaws.{all_blocks}
use Rattle.ufs_check.proofs.InodeLaws.{inode_there, inodes_all, marked_there}
use Rattle.ufs_check.proofs.PassLaws.{lost_later, only_both}
use Rattle.ufs_check.proofs.inodes.check_inodes.Goals as goal

pub returns-then-not-hold_group-clause-fetched : goal.returns-then-not-hold_group-clause-fetched
returns-then-not-hold_group-clause-fetched g c =
    let so_far = c.loop-i.invariant.keeps in
    only_both g.met.V.View.fetched_both so_far.stands c.hold_group.ensures.keeps.told c.loop-i.invariant.fetched c.hold_group.ensures.fetched

pub hold_inodes-requires-clause-metadata : goal.hold_inodes-requires-clause-metadata
hold_inodes-requires-clause-metadata g c = λ v. of_inode c.loop-i.i c.loop-i-test.true c.place_of-block.ensures.block

pub returns-then-not-hold_inodes-clause-fetched : goal.returns-then-not-hold_inodes-clause-fetched
returns-then-not-hold_inodes-clause-fetched g c =
    let so_far = c.loop-i.invariant.keeps in
    let first = c.hold_group.ensures.keeps in
    let second = c.hold_inodes.ensures.keeps in
    only_both g.met.V.View.fetched_both so_far.stands (λ told. first.told (second.told told)) c.loop-i.invariant.fetched
    (only_both g.met.V.View.fetched_both first.stands second.told c.hold_group.ensures.fetched c.hold_inodes.ensures.fetched)

pub loop-i-preserved : goal.loop-i-preserved
loop-i-preserved g c =
    let invariant = c.loop-i.invariant in
    let so_far = invariant.keeps in
    let first = c.hold_group.ensures.keeps in
    let second = c.hold_inodes.ensures.keeps in
    let two = keeps_both g.met.V.View.further c.loop-i.view c.hold_group.new.view c.hold_inodes.new.view first second in
    let holds_group : (told : g.V.View.tells c.hold_inodes.new.view) (v : Volume) (stands : g.V.View.stands_for c.args.view.now v) → c.hold_inodes.new.levels.block ≡ (group_bytes c.args.g.now (c.loop-i.i / c.args.g.now.ipg) v).value =
    λ told v stands. c.hold_inodes.ensures.group ∙ c.hold_group.ensures.holds c.if-not-hold_group.false (second.told told) v (so_far.stands v stands)
    (invariant.holds_group (two.told told) v stands) in
    let holds_inodes : (told : g.V.View.tells c.hold_inodes.new.view) (v : Volume) (stands : g.V.View.stands_for c.args.view.now v) → c.hold_inodes.new.levels.aside ≡ block_at c.args.g.now.fsize v (inode_block c.args.g.now c.loop-i.i) =
    λ told v stands. rw (← c.place_of-block.ensures.block) (c.hold_inodes.ensures.holds c.if-not-hold_inodes.false told v (first.stands v (so_far.stands v stands))
    (rw c.hold_group.ensures.aside (invariant.holds_inodes (two.told told) v stands))) in
    let there : (told : g.V.View.tells c.hold_inodes.new.view) (v : Volume) (stands : g.V.View.stands_for c.args.view.now v) → g.V.View.is_gone c.args.view.now (inode_block c.args.g.now c.loop-i.i) ≡ false =
    λ told v stands. rw (← c.place_of-block.ensures.block) (c.hold_inodes.ensures.there c.if-not-hold_inodes.false (g.V.View.is_gone c.args.view.now) (λ b h. first.stays b (so_far.stays b h)) told v
    (first.stands v (so_far.stands v stands)) (invariant.held_there (two.told told) v stands)) in
    record {
      keeps = keeps_both g.met.V.View.further c.args.view.now c.loop-i.view c.hold_inodes.new.view so_far two;
      levels = c.hold_inodes.ensures.levels ∙ c.hold_group.ensures.levels ∙ invariant.levels;
      room_group = rw (c.hold_group.ensures.held, c.hold_inodes.ensures.group) c.hold_group.ensures.room;
      room_inodes = rw c.hold_inodes.ensures.held c.hold_inodes.ensures.room;
      holds_group = λ told v stands. rw c.hold_group.ensures.held (holds_group told v stands);
      holds_inodes = λ told v stands. rw (c.hold_inodes.ensures.held, c.place_of-block.ensures.block) (holds_inodes told v stands);
      found = λ told v stands. c.in_ok-note_inode.ensures v
          (inode_there c.args.g.now v c.loop-i.i _ _ c.loop-i.auto.i c.loop-i-test.true c.place_of-block.ensures.byte (c.aside.ensures ∙ holds_inodes told v stands) ∙ sym c.inode_at-inode.ensures)
          (marked_there c.args.g.now v c.loop-i.i _ (c.block.ensures ∙ holds_group told v stands) ∙ sym c.is_marked_unused-unused.ensures)
          (invariant.found (two.told told) v stands);
      held_there = λ told v stands. rw (c.hold_inodes.ensures.held, c.place_of-block.ensures.block) (there told v stands);
      there = λ told v stands m low high. elim (cases_eq m c.loop-i.i) [
        | inl same ↦ subst (λ k. g.V.View.is_gone c.args.view.now (inode_block c.args.g.now k) ≡ false) (sym same) (there told v stands)
        | inr apart ↦ invariant.there (two.told told) v stands m low (omega (arith, high, apart))
      ];
      fetched = only_both g.met.V.View.fetched_both so_far.stands (λ told. first.told (second.told told)) invariant.fetched
          (only_both g.met.V.View.fetched_both first.stands second.told c.hold_group.ensures.fetched c.hold_inodes.ensures.fetched);
    }

pub returns-then-not-hold_group-clause-gone : goal.returns-then-not-hold_group-clause-gone
returns-then-not-hold_group-clause-gone g c =
    let so_far = c.loop-i.invariant.keeps in
    lost_later so_far.blocks so_far.stands (c.hold_group.ensures.gone c.if-not-hold_group.true)

pub returns-then-not-hold_inodes-clause-gone : goal.returns-then-not-hold_inodes-clause-gone
returns-then-not-hold_inodes-clause-gone g c =
    let so_far = c.loop-i.invariant.keeps in
    let first = c.hold_group.ensures.keeps in
    lost_later (first.blocks ∙ so_far.blocks) (λ v stands. first.stands v (so_far.stands v stands)) (c.hold_inodes.ensures.gone c.if-not-hold_inodes.true)

pub returns-in_err-note_inode-clause-fetched : goal.returns-in_err-note_inode-clause-fetched
returns-in_err-note_inode-clause-fetched g c =
    let so_far = c.loop-i.invariant.keeps in
    let first = c.hold_group.ensures.keeps in
    let second = c.hold_inodes.ensures.keeps in
    only_both g.met.V.View.fetched_both so_far.stands (λ told. first.told (second.told told)) c.loop-i.invariant.fetched
    (only_both g.met.V.View.fetched_both first.stands second.told c.hold_group.ensures.fetched c.hold_inodes.ensures.fetched)

pub returns-clause-found : goal.returns-clause-found
returns-clause-found g c = λ told v stands. inodes_all c.args.g.now v c.loop-i.i c.loop-i.faults c.loop-i-test.false (c.loop-i.invariant.found told v stands)

pub returns-then-not-hold_group-clause-keeps : goal.returns-then-not-hold_group-clause-keeps
returns-then-not-hold_group-clause-keeps g c =
    keeps_both g.met.V.View.further c.args.view.now c.loop-i.view c.hold_group.new.view c.loop-i.invariant.keeps c.hold_group.ensures.keeps

pub returns-then-not-hold_inodes-clause-keeps : goal.returns-then-not-hold_inodes-clause-keeps
returns-then-not-hold_inodes-clause-keeps g c =
    keeps_both g.met.V.View.further c.args.view.now c.hold_group.new.view c.hold_inodes.new.view
    (keeps_both g.met.V.View.further c.args.view.now c.loop-i.view c.hold_group.new.view c.loop-i.invariant.keeps c.hold_group.ensures.keeps) c.hold_inodes.ensures.keeps

pub returns-in_err-note_inode-clause-keeps : goal.returns-in_err-note_inode-clause-keeps
returns-in_err-note_inode-clause-keeps g c =
    keeps_both g.met.V.View.further c.args.view.now c.hold_group.new.view c.hold_inodes.new.view
    (keeps_both g.met.V.View.further c.args.view.now c.loop-i.view c.hold_group.new.view c.loop-i.invariant.keeps c.hold_group.ensures.keeps) c.hold_inodes.ensures.keeps

pub returns-clause-there : goal.returns-clause-there
returns-clause-there g c = record {
  each = λ told v stands b has.
      subst (λ x. g.V.View.is_gone c.args.view.now x ≡ false) (sym (has.2))
      (all_blocks c.args.g.now (λ x. g.V.View.is_gone c.args.view.now x ≡ false) c.requires.geometry.tests
      (λ i low high. c.loop-i.invariant.there told v stands i low (omega (arith, high, c.loop-i-test.false))) (has.0) (has.1));
}
