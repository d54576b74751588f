-- What an inference stands for after a write, once its marks of pending blocks have moved too.
use Rattle.std.specs.Prelude.{◌≡◌, ℕ, Bool, true, List, Option, Some, None}
use Rattle.ufs_model.specs.Blocks.{Volume}
use Rattle.ufs_model.specs.declared.claims.ClaimSource.{ClaimSource}
use Rattle.dg_model.specs.Marks.{IsKnown, is_marked}
use Rattle.dg_claims.specs.Kept.{table_of}
use Rattle.dg_infer.specs.Known.{HasClaim, is_system_by}
use Rattle.dg_infer.specs.Meanings.{KeptInference, StandsFor}
use Rattle.dg_infer.specs.Watches.{IsWatched}
use Rattle.dg_infer.specs.declared.watches.Touch.{Touch}

-- an inference with other marks of pending blocks
abbrev pub with_pending : KeptInference → List Bool → KeptInference
with_pending kept marks = record {
  l = kept.l;
  n = kept.n;
  geometry = kept.geometry;
  claims = kept.claims;
  kinds = kept.kinds;
  pending = marks;
  free = kept.free;
}

-- The geometry stayed: no marked block was known before, and what was touched tells which fragments may be claimed only now.
pub record IsMovedBy (kept : KeptInference) (touches : List Touch) : Type 0 where
  pub before : ClaimSource → List ℕ
  pub watched : IsWatched before ((table_of kept.claims).claimed) touches
  pub bare : (b : ℕ) → is_marked kept.pending b ≡ true → HasClaim before b → ⊥
  pub own : (b : ℕ) → is_marked kept.pending b ≡ true → is_system_by kept.geometry b ≡ true → ⊥

-- what was touched, where not all was read anew
abbrev pub AreMoved : KeptInference → Option (List Touch) → Type 0
AreMoved kept None = Unit {0}
AreMoved kept (Some touches) = IsMovedBy kept touches

-- The inference follows a write of a block that made this volume: with marks of none but unknown blocks it stands for it. What was touched
-- tells which marks are left.
pub record Follows (kept : KeptInference) (moved : Option (List Touch)) (w : Volume) : Type 0 where
  pub stands : (marks : List Bool) → ((b : ℕ) → is_marked marks b ≡ true → IsKnown kept.l kept.n w b → ⊥) → StandsFor (with_pending kept marks) w
  pub tells : AreMoved kept moved
