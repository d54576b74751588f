use Rattle.std.proofs.Common.{◌≡◌, ◌∙◌, ◌/◌, add-one}
use Rattle.dg_io.specs.ViewLaws.{keeps_both}
use Rattle.ufs_model.specs.Blocks.{Volume}
use Rattle.ufs_model.specs.GroupMaps.{group_bytes}
use Rattle.dg_claims.specs.Kept.{table_of}
use Rattle.dg_claims.specs.ThereLaws.{not_before}
use Rattle.ufs_check.proofs.ClaimLaws.{loses_fewer}
use Rattle.ufs_check.proofs.NeedLaws.{indirects_there, uppers_there}
use Rattle.ufs_check.proofs.PassLaws.{lost_later, only_both}
use Rattle.ufs_check.proofs.PointerLaws.{faults_all, uppers_all, uppers_more}
use Rattle.ufs_check.proofs.fragments.check_fragments.Goals as goal

pub returns-then-not-hold_group-clause-fetched : goal.returns-then-not-hold_group-clause-fetched
returns-then-not-hold_group-clause-fetched g c =
    let so_far = c.loop-f.invariant.keeps in
    only_both g.met.V.View.fetched_both (λ v claimed. so_far.stands v (claimed.0)) c.hold_group.ensures.keeps.told c.loop-f.invariant.fetched c.hold_group.ensures.fetched

pub returns-then-not-branch-clause-fetched : goal.returns-then-not-branch-clause-fetched
returns-then-not-branch-clause-fetched g c =
    let so_far = c.loop-f.invariant.keeps in
    let first = c.hold_group.ensures.keeps in
    let second = c.check_pointers.ensures.keeps in
    only_both g.met.V.View.fetched_both (λ v claimed. (first.stands v (so_far.stands v (claimed.0)), claimed.1)) second.told
    (only_both g.met.V.View.fetched_both (λ v claimed. so_far.stands v (claimed.0)) first.told c.loop-f.invariant.fetched c.hold_group.ensures.fetched)
    c.check_pointers.ensures.fetched

pub loop-f-preserved : goal.loop-f-preserved
loop-f-preserved g c =
    let invariant = c.loop-f.invariant in
    let so_far = invariant.keeps in
    let first = c.hold_group.ensures.keeps in
    let second = c.check_pointers.ensures.keeps in
    let two = keeps_both g.met.V.View.further c.loop-f.view c.hold_group.new.view c.check_pointers.new.view first second in
    let holds : (told : g.V.View.tells c.check_pointers.new.view) (v : Volume) (stands : g.V.View.stands_for c.args.view.now v) → c.hold_group.new.levels.block ≡ (group_bytes c.args.g.now (c.loop-f.f / c.args.g.now.fpg) v).value =
    λ told v stands. rw (← c.group_of.ensures.value) (c.hold_group.ensures.holds c.if-not-hold_group.false (second.told told) v (so_far.stands v stands) (invariant.holds_group (two.told told) v stands)) in
    record {
      keeps = keeps_both g.met.V.View.further c.args.view.now c.loop-f.view c.check_pointers.new.view so_far two;
      levels = c.check_pointers.ensures.levels ∙ c.hold_group.ensures.levels ∙ invariant.levels;
      room_group = rw (c.hold_group.ensures.held, c.check_pointers.ensures.block) c.hold_group.ensures.room;
      holds_group = λ told v stands. rw (c.hold_group.ensures.held, c.check_pointers.ensures.block, c.group_of.ensures.value) (holds told v stands);
      found = λ told v claimed.
          let before = invariant.found (two.told told) v claimed in
          let stands = first.stands v (so_far.stands v (claimed.0)) in
          let own = c.in_ok-note_claims.ensures.claimed v (claimed.1) (c.block.ensures ∙ holds told v (claimed.0)) before.claimed in
          record {
            claimed = record { twice = rw c.check_pointers.ensures.twice own.twice; free = rw c.check_pointers.ensures.free own.free };
            pointers = c.in_ok-check_pointers.ensures.found c.if-not-branch.false told v (stands, claimed.1)
                (record {
                  wild_in = rw c.note_claims.ensures.wild_in before.pointers.wild_in;
                  align_in = rw c.note_claims.ensures.align_in before.pointers.align_in;
                  past_in = rw c.note_claims.ensures.past_in before.pointers.past_in;
                });
          };
      whole = λ told v stands. rw add-one (uppers_more c.args.g.now (table_of c.args.claims.now) v c.loop-f.f (invariant.whole (two.told told) v stands)
          (c.in_ok-check_pointers.ensures.whole c.if-not-branch.false told v (first.stands v (so_far.stands v stands))));
      there = λ told v stands. rw add-one (uppers_there (table_of c.args.claims.now) (g.V.View.is_gone c.args.view.now) c.loop-f.f (invariant.there (two.told told) v stands)
          (λ upper. not_before (g.V.View.is_gone c.args.view.now) (g.V.View.is_gone c.hold_group.new.view) c.loop-f.f (λ b h. first.stays b (so_far.stays b h))
          (c.in_ok-check_pointers.ensures.there c.if-not-branch.false told v (first.stands v (so_far.stands v stands)) upper)));
      fetched = only_both g.met.V.View.fetched_both (λ v claimed. (first.stands v (so_far.stands v (claimed.0)), claimed.1)) second.told
          (only_both g.met.V.View.fetched_both (λ v claimed. so_far.stands v (claimed.0)) first.told invariant.fetched c.hold_group.ensures.fetched)
          c.check_pointers.ensures.fetched;
    }

pub returns-clause-found : goal.returns-clause-found
returns-clause-found g c = λ told v claimed.
    faults_all c.args.g.now (table_of c.args.claims.now) v c.loop-f.f c.loop-f.faults (claimed.1) c.requires.table c.claims_inside.ensures.inside c.loop-f-test.false
    (c.loop-f.invariant.found told v claimed)

pub returns-clause-whole : goal.returns-clause-whole
returns-clause-whole g c = λ told v claimed.
    uppers_all c.args.g.now (table_of c.args.claims.now) v c.loop-f.f (claimed.1) c.requires.table c.claims_inside.ensures.inside c.loop-f-test.false
    (c.loop-f.invariant.whole told v (claimed.0))

pub returns-then-not-hold_group-clause-gone : goal.returns-then-not-hold_group-clause-gone
returns-then-not-hold_group-clause-gone g c =
    let so_far = c.loop-f.invariant.keeps in
    loses_fewer c.args.g.now (table_of c.args.claims.now) so_far.blocks so_far.stands (c.hold_group.ensures.gone c.if-not-hold_group.true)

pub returns-then-not-branch-clause-gone : goal.returns-then-not-branch-clause-gone
returns-then-not-branch-clause-gone g c =
    let so_far = c.loop-f.invariant.keeps in
    let first = c.hold_group.ensures.keeps in
    lost_later (first.blocks ∙ so_far.blocks) (λ v claimed. (first.stands v (so_far.stands v (claimed.0)), claimed.1)) (c.in_ok-check_pointers.ensures.gone c.if-not-branch.true)

pub returns-in_err-note_claims-clause-fetched : goal.returns-in_err-note_claims-clause-fetched
returns-in_err-note_claims-clause-fetched g c =
    let so_far = c.loop-f.invariant.keeps in
    only_both g.met.V.View.fetched_both (λ v claimed. so_far.stands v (claimed.0)) c.hold_group.ensures.keeps.told c.loop-f.invariant.fetched c.hold_group.ensures.fetched

pub returns-in_err-check_pointers-clause-fetched : goal.returns-in_err-check_pointers-clause-fetched
returns-in_err-check_pointers-clause-fetched g c =
    let so_far = c.loop-f.invariant.keeps in
    let first = c.hold_group.ensures.keeps in
    let second = c.check_pointers.ensures.keeps in
    only_both g.met.V.View.fetched_both (λ v claimed. (first.stands v (so_far.stands v (claimed.0)), claimed.1)) second.told
    (only_both g.met.V.View.fetched_both (λ v claimed. so_far.stands v (claimed.0)) first.told c.loop-f.invariant.fetched c.hold_group.ensures.fetched)
    c.check_pointers.ensures.fetched

pub returns-then-not-hold_group-clause-keeps : goal.returns-then-not-hold_group-clause-keeps
returns-then-not-hold_group-clause-keeps g c =
    keeps_both g.met.V.View.further c.args.view.now c.loop-f.view c.hold_group.new.view c.loop-f.invariant.keeps c.hold_group.ensures.keeps

pub returns-in_err-note_claims-clause-keeps : goal.returns-in_err-note_claims-clause-keeps
returns-in_err-note_claims-clause-keeps g c =
    keeps_both g.met.V.View.further c.args.view.now c.loop-f.view c.hold_group.new.view c.loop-f.invariant.keeps c.hold_group.ensures.keeps

pub returns-in_err-check_pointers-clause-keeps : goal.returns-in_err-check_pointers-clause-keeps
returns-in_err-check_pointers-clause-keeps g c =
    keeps_both g.met.V.View.further c.args.view.now c.hold_group.new.view c.check_pointers.new.view
    (keeps_both g.met.V.View.further c.args.view.now c.loop-f.view c.hold_group.new.view c.loop-f.invariant.keeps c.hold_group.ensures.keeps) c.check_pointers.ensures.keeps

pub returns-then-not-branch-clause-keeps : goal.returns-then-not-branch-clause-keeps
returns-then-not-branch-clause-keeps g c =
    keeps_both g.met.V.View.further c.args.view.now c.hold_group.new.view c.check_pointers.new.view
    (keeps_both g.met.V.View.further c.args.view.now c.loop-f.view c.hold_group.new.view c.loop-f.invariant.keeps c.hold_group.ensures.keeps) c.check_pointers.ensures.keeps

pub returns-clause-there : goal.returns-clause-there
returns-clause-there g c = record {
  each = λ told v claimed. indirects_there c.args.g.now (table_of c.args.claims.now) v (g.V.View.is_gone c.args.view.now) c.loop-f.f (claimed.1) c.requires.table c.claims_inside.ensures.inside
      c.loop-f-test.false (c.loop-f.invariant.there told v (claimed.0));
}
