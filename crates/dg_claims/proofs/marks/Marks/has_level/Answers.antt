use Rattle.std.proofs.Common.{◌∙◌, sym}
use Rattle.dg_claims.proofs.MarkLaws.{level_behind}
use Rattle.dg_claims.proofs.marks.Marks.has_level.Goals as goal

pub returns-else-mark_of-level : goal.returns-else-mark_of-level
returns-else-mark_of-level c =
    c.more_has_level.ensures
    ∙ level_behind c.args.self.now c.args.fragment c.args.level c.in-Some.place c.mark_of.result c.requires (sym c.first_at.ensures ∙ c.in-Some.is) c.mark_of.ensures c.if-mark_of-level.false
