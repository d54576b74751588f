use Rattle.std.proofs.Common.{◌∙◌, ap, refl, sym}
use Rattle.std.specs.Prelude.{slice_set}
use Rattle.dg_claims.proofs.MarkLaws.{drop_by, dropped_first, dropped_more, not_by}
use Rattle.dg_claims.proofs.marks.Marks.remove.Goals as goal

pub returns-then-is_first-clause-sound : goal.returns-then-is_first-clause-sound
returns-then-is_first-clause-sound c =
    (dropped_first c.args.self.now _ c.args.fragment c.args.place c.take_more.result c.requires.sound c.requires.within (sym c.first_at.ensures ∙ c.is_first.ensures.0 c.if-is_first.true)
    c.take_more.ensures.some c.take_more.ensures.none c.take_more.ensures.elsewhere (ap (slice_set c.args.self.now.first.items c.args.fragment) c.unmarked.ensures)).0

pub returns-then-is_first-clause-dropped : goal.returns-then-is_first-clause-dropped
returns-then-is_first-clause-dropped c =
    (dropped_first c.args.self.now _ c.args.fragment c.args.place c.take_more.result c.requires.sound c.requires.within (sym c.first_at.ensures ∙ c.is_first.ensures.0 c.if-is_first.true)
    c.take_more.ensures.some c.take_more.ensures.none c.take_more.ensures.elsewhere (ap (slice_set c.args.self.now.first.items c.args.fragment) c.unmarked.ensures)).1

pub returns-else-is_first-clause-sound : goal.returns-else-is_first-clause-sound
returns-else-is_first-clause-sound c =
    (dropped_more c.args.self.now _ c.args.fragment c.args.place c.requires.sound (λ e. not_by c.is_first.result c.is_first.ensures c.if-is_first.false (c.first_at.ensures ∙ e)) refl
    (drop_by c.args.self.now.more c.drop_more.new.more c.args.fragment _ c.args.place c.mark_of.ensures c.drop_more.ensures)).0

pub returns-else-is_first-clause-dropped : goal.returns-else-is_first-clause-dropped
returns-else-is_first-clause-dropped c =
    (dropped_more c.args.self.now _ c.args.fragment c.args.place c.requires.sound (λ e. not_by c.is_first.result c.is_first.ensures c.if-is_first.false (c.first_at.ensures ∙ e)) refl
    (drop_by c.args.self.now.more c.drop_more.new.more c.args.fragment _ c.args.place c.mark_of.ensures c.drop_more.ensures)).1
