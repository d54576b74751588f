-- Which fragments had a claim at a level before a write, as far as that may have changed.
use Rattle.std.specs.Prelude.{◌≡◌, ◌↔◌, ◌≤◌, ◌<◌, ℕ, List, false, length, slice_index_or}
use Rattle.std.specs.Bool.{Decides}
use Rattle.ufs_model.specs.declared.claims.ClaimSource.{ClaimSource}
use Rattle.dg_infer.specs.Claimed.{IsClaimedBy}
use Rattle.dg_infer.specs.declared.watches.Touch.{Touch}

-- number k in a list of touches
abbrev pub touch_at : List Touch → ℕ → Touch
touch_at touches k = slice_index_or touches k (record { fragment = 0; level = 0; was = false })

-- the fragment stands in the list at the level
pub record IsTouched (touches : List Touch) (level fragment : ℕ) : Type 0 where
  pub index : ℕ
  pub inside : index < length touches
  pub at : (touch_at touches index).fragment ≡ fragment
  pub on : (touch_at touches index).level ≡ level

-- no fragment stands there twice at a level
pub record IsDistinct (touches : List Touch) : Type 0 where
  pub apart : (j k : ℕ) → j < k → k < length touches → (touch_at touches j).fragment ≡ (touch_at touches k).fragment
      → (touch_at touches j).level ≡ (touch_at touches k).level → ⊥

-- the second list begins with the first
pub record Grows (old new : List Touch) : Type 0 where
  pub longer : length old ≤ length new
  pub same : (k : ℕ) → k < length old → touch_at new k ≡ touch_at old k

-- Each in the list says whether its fragment had a claim at its level before. Every other fragment has one at a level now where it had
-- one.
pub record IsWatched (before now : ClaimSource → List ℕ) (touches : List Touch) : Type 0 where
  pub known : (k : ℕ) → k < length touches → Decides ((touch_at touches k).was) (IsClaimedBy before ((touch_at touches k).level) ((touch_at touches k).fragment))
  pub others : (level fragment : ℕ) → (IsTouched touches level fragment → ⊥) → IsClaimedBy now level fragment ↔ IsClaimedBy before level fragment

-- While a table changes, and more is touched, the list stays right.
abbrev pub KeepsWatch : (ClaimSource → List ℕ) → List Touch → (ClaimSource → List ℕ) → List Touch → Type 0
KeepsWatch old touches new more = (before : ClaimSource → List ℕ) → IsWatched before old touches → IsWatched before new more
