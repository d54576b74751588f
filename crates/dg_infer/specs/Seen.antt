-- How touched fragments are kept.
use Rattle.std.specs.Prelude.{◌≡◌, ℕ, None}
use Rattle.dg_infer.specs.Spots.{spot_at}
use Rattle.dg_infer.specs.Watches.{IsDistinct, IsTouched}
use Rattle.dg_infer.specs.declared.watches.Watch.TheInside.{Inside}

-- just the touched fragments are seen, each once at a level
pub record IsWatch (inside : Inside) : Type 0 where
  pub distinct : IsDistinct inside.touches.items
  pub fresh : (level fragment : ℕ) → spot_at inside.seen.map.entries (record { level = level; fragment = fragment }) ≡ None → IsTouched inside.touches.items level fragment → ⊥
  pub seen : (level fragment : ℕ) → (spot_at inside.seen.map.entries (record { level = level; fragment = fragment }) ≡ None → ⊥) → IsTouched inside.touches.items level fragment
