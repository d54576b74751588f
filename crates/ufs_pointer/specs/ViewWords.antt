-- What readers of a view say, in one word for a clause. The record of a view's members is the first argument, and then the view before and after.
use Rattle.std.specs.Prelude.{ℕ, Bool, Option}
use Rattle.ufs_model.specs.Blocks.{Volume, Reading}
use Rattle.dg_io.specs.declared.views.View.{Ghosts}
use Rattle.ufs_pointer.specs.Fetches.{Fetches, FetchesArea, FetchesOnly, IsNeeded, LosesOne}

-- just the blocks that the reading consults were fetched for this result
abbrev pub FetchesFor : {S A : Type 0} → Ghosts S → S → S → Reading A → Option A → Type 0
FetchesFor view old new reading result = Fetches view.fetched (view.stands_for old) (view.tells new) reading result old new

-- just blocks from a on were fetched, k of them where they could be
abbrev pub FetchesFrom : {S : Type 0} → Ghosts S → S → S → ℕ → ℕ → Bool → Type 0
FetchesFrom view old new a k could = FetchesArea view.fetched (view.is_gone new) a k could old new

-- only blocks of a kind were fetched
abbrev pub FetchesKind : {S : Type 0} → Ghosts S → S → S → (Volume → ℕ → Type 0) → Type 0
FetchesKind view old new kind = FetchesOnly view.fetched (view.stands_for old) (view.tells new) kind old new

-- some block of a kind is gone
abbrev pub LosesKind : {S : Type 0} → Ghosts S → S → S → (Volume → ℕ → Type 0) → Type 0
LosesKind view old new kind = LosesOne (view.stands_for old) (view.tells new) (view.count old) kind (view.is_gone new)

-- some block that the reading consults is gone
abbrev pub LosesNeeded : {S A : Type 0} → Ghosts S → S → S → Reading A → Type 0
LosesNeeded view old new reading = LosesKind view old new (IsNeeded reading)
