-- What is told of what is seen of an array that keeps a checkpoint.
use Rattle.std.proofs.Common.{◌/◌, ℕ, List, inl, inr, length, refl, subst, sym}
use Rattle.std.specs.Prelude.{IsSome, Option}
use Rattle.std.proofs.lemmas.Bool.{cases_lt}
use Rattle.dg_run.specs.Finds.{Sees, live_said, member_seen}
use Rattle.dg_saved.specs.Calls.{Facts as SavedFacts}
use Rattle.dg_uses.specs.Answers.{TellsEach}

-- where the members of the rack are told, so is what is seen of them
pub seen_told : (tells : ℕ → Type 0) (facts seen : SavedFacts) → Sees tells facts seen → TellsEach facts.bytes → TellsEach seen.bytes
seen_told tells facts seen sees told q = elim (cases_lt (q / 2) (length (live_said sees.said))) [
  | inl here ↦ sees.told q here (told (member_seen sees.said q))
  | inr past ↦ subst (λ (o : Option (List ℕ)). IsSome o) (sym (sees.gone q past)) refl
]
