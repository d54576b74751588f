-- Which blocks of a view a reader fetched, and which it lost.
use Rattle.std.specs.Prelude.{◌≡◌, ◌+◌, ◌-◌, ◌<◌, ◌≤◌, ◌++◌, ℕ, List, Bool, true, false, Option, Some, None}
use Rattle.std.specs.List.{All, Contains, range_with_len}
use Rattle.ufs_model.specs.Blocks.{Volume, Consulted, Reading}

-- the list begins with these blocks
pub record BeginsWith (list blocks : List ℕ) : Type 0 where
  pub rest : List ℕ
  pub whole : list ≡ blocks ++ rest

-- These are the blocks that are consulted for an answer, in order. Where there is none, they are the first of those.
abbrev pub IsConsulted : {A : Type 0} → Consulted A → Option A → List ℕ → Type 0
IsConsulted d (Some answer) blocks = blocks ≡ d.needs
IsConsulted d None blocks = BeginsWith (d.needs) blocks

-- Just the blocks that the reading consults were fetched, in order and each so often: all of them where there is an answer, and
-- else a front of them. It is a word on the volumes that a view stands for, where it tells its blocks in the end.
pub record Fetches {S A : Type 0} (fetched : S → List ℕ → S → Type 0) (stands : Volume → Type 0) (tells : Type 0) (d : Reading A) (result : Option A) (old new : S) : Type 0 where
  pub blocks : List ℕ
  pub were : fetched old blocks new
  pub consulted : tells → (v : Volume) → stands v → IsConsulted (d v) result blocks

-- The first of k blocks from a on were fetched, in order: all of them where the answer is that they could be, and else up to one
-- that is gone.
pub record FetchesArea {S : Type 0} (fetched : S → List ℕ → S → Type 0) (gone : ℕ → Bool) (a k : ℕ) (could : Bool) (old new : S) : Type 0 where
  pub number : ℕ
  pub most : number ≤ k
  pub all : could ≡ true → number ≡ k
  pub cut : could ≡ false → (1 ≤ number) × (gone (a + (number - 1)) ≡ true)
  pub were : fetched old (range_with_len a number) new

-- ---- blocks of a kind

-- a block is consulted for a reading
abbrev pub IsNeeded : {A : Type 0} → Reading A → Volume → ℕ → Type 0
IsNeeded d v b = Contains ((d v).needs) b

-- the one block
abbrev pub IsJust : ℕ → Volume → ℕ → Type 0
IsJust block v b = b ≡ block

-- Just these blocks were fetched, one after another, and all of them are of a kind, on each volume that a view stands for, where it tells its blocks in the end.
pub record FetchesOnly {S : Type 0} (fetched : S → List ℕ → S → Type 0) (stands : Volume → Type 0) (tells : Type 0) (kind : Volume → ℕ → Type 0) (old new : S) : Type 0 where
  pub blocks : List ℕ
  pub were : fetched old blocks new
  pub only : tells → (v : Volume) → stands v → All (kind v) blocks

-- Some block below the count is gone; it is of a kind on each volume that a view stands for, where it tells its blocks in the end.
pub record LosesOne (stands : Volume → Type 0) (tells : Type 0) (count : ℕ) (kind : Volume → ℕ → Type 0) (gone : ℕ → Bool) : Type 0 where
  pub block : ℕ
  pub within : block < count
  pub lost : gone block ≡ true
  pub of_kind : tells → (v : Volume) → stands v → kind v block
