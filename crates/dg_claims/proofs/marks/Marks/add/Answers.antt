use Rattle.std.proofs.Common.{◌∙◌, refl, sym}
use Rattle.dg_claims.proofs.MarkLaws.{added_behind, added_first, added_front, added_nothing, before_by, not_by, put_by, room_left, same_by, sets_by}
use Rattle.dg_claims.proofs.marks.Marks.add.Goals as goal

pub returns-in_default-clause-sound : goal.returns-in_default-clause-sound
returns-in_default-clause-sound c = (added_first c.args.self.now _ c.args.fragment c.args.place c.requires.sound c.requires.within (sym c.first_at.ensures ∙ c.in_default.is) refl refl).0

pub returns-in_default-clause-added : goal.returns-in_default-clause-added
returns-in_default-clause-added c = (added_first c.args.self.now _ c.args.fragment c.args.place c.requires.sound c.requires.within (sym c.first_at.ensures ∙ c.in_default.is) refl refl).1

pub returns-then-is_before-clause-sound : goal.returns-then-is_before-clause-sound
returns-then-is_before-clause-sound c =
    (added_behind c.put_more.result c.args.self.now _ c.args.fragment c.in-Some.first c.args.place c.requires.sound (sym c.first_at.ensures ∙ c.in-Some.is)
    ((before_by _ _ c.in-Some.first c.args.place _ c.mark_of.ensures c.mark_of-2.ensures c.is_before.ensures).0 c.if-is_before.true)
    (room_left c.args.self.now c.args.fragment c.count.result c.requires.sound c.count.ensures c.if-count.false) refl
    (put_by c.put_more.result c.args.self.now.more c.put_more.new.more c.args.fragment _ c.args.place c.mark_of-then-is_before.ensures c.put_more.ensures.put) c.put_more.ensures.ordered).0

pub returns-then-is_before-clause-added : goal.returns-then-is_before-clause-added
returns-then-is_before-clause-added c =
    (added_behind c.put_more.result c.args.self.now _ c.args.fragment c.in-Some.first c.args.place c.requires.sound (sym c.first_at.ensures ∙ c.in-Some.is)
    ((before_by _ _ c.in-Some.first c.args.place _ c.mark_of.ensures c.mark_of-2.ensures c.is_before.ensures).0 c.if-is_before.true)
    (room_left c.args.self.now c.args.fragment c.count.result c.requires.sound c.count.ensures c.if-count.false) refl
    (put_by c.put_more.result c.args.self.now.more c.put_more.new.more c.args.fragment _ c.args.place c.mark_of-then-is_before.ensures c.put_more.ensures.put) c.put_more.ensures.ordered).1

pub returns-in_err-put_more-clause-sound : goal.returns-in_err-put_more-clause-sound
returns-in_err-put_more-clause-sound c = (added_nothing c.args.self.now _ c.requires.sound refl c.in_err-put_more.ensures.put).0

pub returns-in_err-put_more-clause-added : goal.returns-in_err-put_more-clause-added
returns-in_err-put_more-clause-added c = same_by _ c.from_residual.result c.from_residual.ensures.0 (added_nothing c.args.self.now _ c.requires.sound refl c.in_err-put_more.ensures.put).1

pub returns-clause-sound : goal.returns-clause-sound
returns-clause-sound c =
    (added_front c.args.self.now _ c.args.fragment c.in-Some.first c.args.place c.requires.sound c.requires.within (sym c.first_at.ensures ∙ c.in-Some.is) c.requires.fresh
    (not_by c.is_before.result (before_by _ _ c.in-Some.first c.args.place _ c.mark_of.ensures c.mark_of-2.ensures c.is_before.ensures) c.if-is_before.false)
    (room_left c.args.self.now c.args.fragment c.count.result c.requires.sound c.count.ensures c.if-count.false) refl
    (sets_by c.args.self.now.more c.put_more-2.new.more c.args.fragment _ c.in-Some.first c.mark_of-3.ensures c.in_ok-put_more.ensures.put) c.in_ok-put_more.ensures.ordered).0

pub returns-clause-added : goal.returns-clause-added
returns-clause-added c =
    (added_front c.args.self.now _ c.args.fragment c.in-Some.first c.args.place c.requires.sound c.requires.within (sym c.first_at.ensures ∙ c.in-Some.is) c.requires.fresh
    (not_by c.is_before.result (before_by _ _ c.in-Some.first c.args.place _ c.mark_of.ensures c.mark_of-2.ensures c.is_before.ensures) c.if-is_before.false)
    (room_left c.args.self.now c.args.fragment c.count.result c.requires.sound c.count.ensures c.if-count.false) refl
    (sets_by c.args.self.now.more c.put_more-2.new.more c.args.fragment _ c.in-Some.first c.mark_of-3.ensures c.in_ok-put_more.ensures.put) c.in_ok-put_more.ensures.ordered).1
