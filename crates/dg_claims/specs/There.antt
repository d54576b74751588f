-- Which blocks weren't gone when a call began. It is the other direction of `LosesOne`: where an answer is given, no block that it needs was gone.
use Rattle.std.specs.Prelude.{◌≡◌, ℕ, Bool, false, Option, IfSome}
use Rattle.ufs_model.specs.Blocks.{Volume}
use Rattle.ufs_model.specs.Readings.{Grows}
use Rattle.dg_io.specs.declared.views.View.{Ghosts}

-- No block of a kind is gone, on each volume that a view stands for, where it tells its blocks in the end.
pub record WasThere (stands : Volume → Type 0) (tells : Type 0) (kind : Volume → ℕ → Type 0) (gone : ℕ → Bool) : Type 0 where
  pub each : tells → (v : Volume) → stands v → (b : ℕ) → kind v b → gone b ≡ false

-- ---- The same of a view, in one word for a clause. The record of a view's members is the first argument, and then the view before and after.

-- no block of a kind was gone before
abbrev pub HadKind : {S : Type 0} → Ghosts S → S → S → (Volume → ℕ → Type 0) → Type 0
HadKind view old new kind = WasThere (view.stands_for old) (view.tells new) kind (view.is_gone old)

-- on some volumes, no block of a kind was gone before
abbrev pub HadOn : {S : Type 0} → Ghosts S → S → S → (Volume → Type 0) → (Volume → ℕ → Type 0) → Type 0
HadOn view old new some kind = WasThere some (view.tells new) kind (view.is_gone old)

-- A block wasn't gone at an earlier moment, if the one that is held wasn't. By `before` a block was gone then.
abbrev pub HadThen : {S : Type 0} → Ghosts S → S → S → Option ℕ → ℕ → Type 0
HadThen view old new held block = (before : ℕ → Bool) → Grows before (view.is_gone old) → view.tells new → (v : Volume) → view.stands_for old v
    → IfSome held (λ b. before b ≡ false) → before block ≡ false
