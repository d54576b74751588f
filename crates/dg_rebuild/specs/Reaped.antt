-- Which blocks are reaped while the slots of a boundary are passed, and what is left of the blocks then.
use Rattle.std.specs.Prelude.{◌≡◌, ◌↔◌, ◌+◌, ◌==◌, ◌<◌, ◌≤◌, ℕ, Bool, true, List, [], ◌∷◌, slice_set}
use Rattle.std.specs.List.{list_any}
use Rattle.ufs_model.specs.Blocks.{Volume}
use Rattle.dg_model.specs.Blocks.{zeros}
use Rattle.dg_model.specs.Marks.{is_marked}
use Rattle.dg_model.specs.Refills.{StandsBetween}
use Rattle.dg_model.specs.Tables.{StandsIn, Table}

-- whether block b is one of these
abbrev pub is_among : List ℕ → ℕ → Bool
is_among blocks b = list_any (λ c. c == b) blocks

-- these blocks stand in slots of boundary s from one to before another, in the order of the slots
abbrev pub StandInOrder : Table → ℕ → ℕ → ℕ → List ℕ → Type 0
StandInOrder table s low high [] = Unit {0}
StandInOrder table s low high (b ∷ more) =
    (slot : ℕ) × (low ≤ slot) × (slot < high) × StandsIn table b s slot × StandInOrder table s (slot + 1) high more

-- these are the marked blocks in slots of boundary s from one to before another, in the order of the slots
pub record AreMarkedBetween (table : Table) (marks : List Bool) (s low high : ℕ) (blocks : List ℕ) : Type 0 where
  pub order : StandInOrder table s low high blocks
  pub each : (b : ℕ) → (is_among blocks b ≡ true) ↔ ((is_marked marks b ≡ true) × StandsBetween table b s low high)

-- the blocks of a volume once these became zeros of l bytes
abbrev pub zeroed : ℕ → List ℕ → Volume → Volume
zeroed l [] V = V
zeroed l (b ∷ more) V = zeroed l more (slice_set V b (zeros l))
