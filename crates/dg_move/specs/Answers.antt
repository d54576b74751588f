-- What a call that moves blocks answers.
use Rattle.std.specs.Prelude.{◌≡◌, ◌+◌, ℕ, Bool, false, Some, min}
use Rattle.dg_model.specs.Moves.{IsAtTargets, IsCutByLoss, missing_in, moved}
use Rattle.dg_model.specs.States.{IsLeastLost, has_lost}
use Rattle.dg_model.specs.Tables.{Table}
use Rattle.dg_model.specs.declared.members.MemberState.{MemberState}
use Rattle.dg_model.specs.declared.shapes.Shape.{Shape}
use Rattle.dg_move.specs.declared.tends.TendAnswer.{TendAnswer}
use Rattle.dg_move.specs.declared.tends.TendAnswer.TheVariants.{Tended, Lost}

-- All moves within the limit were made: m placements were met, and l are left. Where none is left, each block stands on just its targets.
pub record IsTended (targets : ℕ → ℕ → Bool) (limit : ℕ) (old new : Table) (m l : ℕ) : Type 0 where
  pub table : new ≡ moved targets (Some limit) old
  pub met : m ≡ min limit (missing_in targets old)
  pub whole : m + l ≡ missing_in targets old
  pub left : l ≡ missing_in targets new
  pub placed : l ≡ 0 → IsAtTargets targets new

-- what became of the table
abbrev pub MovesTo : (ℕ → ℕ → Bool) → ℕ → Table → Table → (ℕ → MemberState) → TendAnswer → Type 0
MovesTo targets limit old new members (Tended m l) = IsTended targets limit old new m l
MovesTo targets limit old new members (Lost s) = IsCutByLoss targets (Some limit) old new members

-- the answer names the least lost boundary, exactly where one is lost
abbrev pub NamesLoss : Shape → (ℕ → MemberState) → TendAnswer → Type 0
NamesLoss shape members (Tended m l) = has_lost shape members ≡ false
NamesLoss shape members (Lost s) = IsLeastLost shape members s
