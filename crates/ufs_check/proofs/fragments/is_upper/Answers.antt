use Rattle.std.proofs.Common.{◌≡◌, ◌∙◌, true, false, sym}
use Rattle.dg_claims.specs.Kept.{table_of}
use Rattle.ufs_check.proofs.ClaimLaws.{upper_last}
use Rattle.ufs_check.proofs.fragments.is_upper.Goals.{then-has_level, else-has_level}
use Rattle.ufs_check.proofs.fragments.is_upper.Goals as goal

pub returns-else-has_level-2 : goal.returns-else-has_level-2
returns-else-has_level-2 c = elim c.if-has_level.branch [
  | then-has_level w ↦ let no : true ≡ false = sym w.if-has_level.true ∙ sym w.value-is ∙ c.if-has_level-2.false in cc
  | else-has_level w ↦ upper_last (table_of c.args.claims.now) c.args.f _ _ _ (c.claims_inside.ensures.levels c.args.f) c.has_level.ensures w.if-has_level.false
      w.has_level-else-has_level.ensures (sym w.value-is ∙ c.if-has_level-2.false) c.has_level-else-has_level-2.ensures
]
