use Rattle.std.proofs.Common.{◌∙◌, ◌+◌, ◌≤◌, arith, inl, inr, subst, sym}
use Rattle.std.specs.Prelude.{Contains}
use Rattle.std.proofs.lemmas.Bool.{cases_eq}
use Rattle.dg_io.specs.ViewLaws.{keeps_both}
use Rattle.ufs_model.specs.GroupMaps.{group_bytes}
use Rattle.ufs_model.specs.Metadata.{IsMetadataBy}
use Rattle.dg_claims.specs.ThereLaws.{not_before, there_could}
use Rattle.ufs_check.proofs.GroupLaws.{group_area, group_need, groups_all}
use Rattle.ufs_check.proofs.PassLaws.{area_lost, lost_later, only_both, only_needs}
use Rattle.ufs_check.proofs.groups.check_groups.Goals as goal

pub returns-then-not-read_block-clause-gone : goal.returns-then-not-read_block-clause-gone
returns-then-not-read_block-clause-gone g c =
    let so_far = c.loop-c.invariant.keeps in
    let inside : c.group_block.result + c.args.g.now.frag ≤ g.V.View.count c.loop-c.view =
    let low = c.group_block.ensures.inside in let high = c.requires.geometry.size in let same = so_far.blocks in omega arith in
    lost_later so_far.blocks so_far.stands
    (area_lost (IsMetadataBy c.args.g.now) (g.V.View.size c.loop-c.view) c.group_block.result c.args.g.now.frag c.read_block.result inside
    (group_need c.args.g.now c.loop-c.c _ _ c.loop-c-test.true (c.requires.geometry.fsize ∙ sym so_far.bytes) c.group_block.ensures.value) c.if-not-read_block.true c.read_block.ensures.area)

pub returns-then-not-read_block-clause-fetched : goal.returns-then-not-read_block-clause-fetched
returns-then-not-read_block-clause-fetched g c =
    let so_far = c.loop-c.invariant.keeps in
    only_both g.met.V.View.fetched_both so_far.stands c.read_block.ensures.keeps.told c.loop-c.invariant.fetched
    (only_needs (IsMetadataBy c.args.g.now) (group_need c.args.g.now c.loop-c.c _ _ c.loop-c-test.true (c.requires.geometry.fsize ∙ sym so_far.bytes) c.group_block.ensures.value)
    c.if-not-read_block.ensures.fetched)

pub loop-c-preserved : goal.loop-c-preserved
loop-c-preserved g c =
    let so_far = c.loop-c.invariant.keeps in
    let area = group_area c.args.g.now c.loop-c.c _ _ (c.requires.geometry.fsize ∙ sym so_far.bytes) c.group_block.ensures.value in
    let read = rw area at c.if-not-read_block.ensures.rule in record {
      keeps = keeps_both g.met.V.View.further c.args.view.now c.loop-c.view c.read_block.new.view so_far c.read_block.ensures.keeps;
      levels = c.read_block.ensures.fragment ∙ c.loop-c.invariant.levels;
      found = λ told v stands. c.in_ok-note_group.ensures v (c.block.ensures ∙ (read.rule told v (so_far.stands v stands)).answer)
          (c.loop-c.invariant.found (c.read_block.ensures.keeps.told told) v stands);
      there = λ told v stands m b low needs. elim (cases_eq m c.loop-c.c) [
        | inl same ↦ not_before (g.V.View.is_gone c.args.view.now) (g.V.View.is_gone c.loop-c.view) b so_far.stays
            ((there_could c.read_block.result _ (rw area at c.read_block.ensures.rule) c.if-not-read_block.false).each told v (so_far.stands v stands) b
            (subst (λ k. Contains ((group_bytes c.args.g.now k v).needs) b) same needs))
        | inr apart ↦ c.loop-c.invariant.there (c.read_block.ensures.keeps.told told) v stands m b (omega (arith, low, apart)) needs
      ];
      fetched = only_both g.met.V.View.fetched_both so_far.stands c.read_block.ensures.keeps.told c.loop-c.invariant.fetched
          (only_needs (IsMetadataBy c.args.g.now) (group_need c.args.g.now c.loop-c.c _ _ c.loop-c-test.true (c.requires.geometry.fsize ∙ sym so_far.bytes) c.group_block.ensures.value)
          c.if-not-read_block.ensures.fetched);
    }

pub returns-in_err-note_group-clause-fetched : goal.returns-in_err-note_group-clause-fetched
returns-in_err-note_group-clause-fetched g c =
    let so_far = c.loop-c.invariant.keeps in
    only_both g.met.V.View.fetched_both so_far.stands c.read_block.ensures.keeps.told c.loop-c.invariant.fetched
    (only_needs (IsMetadataBy c.args.g.now) (group_need c.args.g.now c.loop-c.c _ _ c.loop-c-test.true (c.requires.geometry.fsize ∙ sym so_far.bytes) c.group_block.ensures.value)
    c.if-not-read_block.ensures.fetched)

pub returns-clause-found : goal.returns-clause-found
returns-clause-found g c = λ told v stands. groups_all c.args.g.now v c.loop-c.c c.loop-c.faults c.loop-c-test.false (c.loop-c.invariant.found told v stands)

pub returns-clause-there : goal.returns-clause-there
returns-clause-there g c = record {
  each = λ told v stands b of. c.loop-c.invariant.there told v stands (of.0) b (omega (arith, of.1, c.loop-c-test.false)) (of.2);
}
