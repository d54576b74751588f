-- Bytes that may be told or not, and what a call does to them.
use Rattle.std.specs.Prelude.{◌≡◌, ◌≢◌, ◌⊎◌, ◌+◌, ◌-◌, ◌≤◌, ℕ, List, [], ◌++◌, length, take, drop, slice_range, replicate, Option, Some, None, IsSome}

-- what is told after a call was told before it, and was changed by this step
abbrev pub Told : (List ℕ → List ℕ → Type 0) → Option (List ℕ) → Option (List ℕ) → Type 0
Told step old None = Unit {0}
Told step None (Some after) = ⊥
Told step (Some before) (Some after) = step before after

-- the bytes with this piece at a place
abbrev pub patch : List ℕ → ℕ → List ℕ → List ℕ
patch bytes place piece = take place bytes ++ piece ++ drop (place + length piece) bytes

abbrev pub Patched : ℕ → List ℕ → List ℕ → List ℕ → Type 0
Patched place piece before after = after ≡ patch before place piece

-- any bytes in the range, the rest as it was
pub record Torn (place n : ℕ) (before after : List ℕ) : Type 0 where
  pub size : length after ≡ length before
  pub front : take place after ≡ take place before
  pub back : drop (place + n) after ≡ drop (place + n) before

-- nothing has changed, and this stands at the place
pub record Reads (place : ℕ) (piece before after : List ℕ) : Type 0 where
  pub same : after ≡ before
  pub there : piece ≡ slice_range before place (place + length piece)

abbrev pub IsSame : List ℕ → List ℕ → Type 0
IsSame before after = after ≡ before

abbrev pub IsZeros : ℕ → List ℕ → List ℕ → Type 0
IsZeros n before after = after ≡ replicate n 0

-- any bytes, and any number of them
abbrev pub AreAny : List ℕ → List ℕ → Type 0
AreAny before after = Unit {0}

-- the bytes are no more than so many
abbrev pub FitsIn : ℕ → List ℕ → Type 0
FitsIn n all = length all ≤ n

-- there are so many bytes, and nothing has changed
pub record Measures (n : ℕ) (before after : List ℕ) : Type 0 where
  pub same : after ≡ before
  pub size : length before ≡ n

-- there is no byte, and nothing has changed
pub record IsEmpty (before after : List ℕ) : Type 0 where
  pub same : after ≡ before
  pub none : before ≡ []

-- zeros were put at the end, up to so many bytes
abbrev pub Extended : ℕ → List ℕ → List ℕ → Type 0
Extended n before after = after ≡ before ++ replicate (n - length before) 0

-- the bytes begin with those that stood there
abbrev pub KeepsFront : List ℕ → List ℕ → Type 0
KeepsFront before after = take (length before) after ≡ before

-- the piece is one of the first two pages of 512 bytes, whole
pub record IsHeader (place : ℕ) (piece : List ℕ) : Type 0 where
  pub size : length piece ≡ 512
  pub where_is : (place ≡ 0) ⊎ (place ≡ 512)

-- the piece stands there whole, or nothing has changed
abbrev pub OldOrNew : ℕ → List ℕ → List ℕ → List ℕ → Type 0
OldOrNew place piece before after = (after ≡ before) ⊎ Patched place piece before after

-- a source gave these bytes from its front
abbrev pub Gave : List ℕ → List ℕ → List ℕ → Type 0
Gave piece before after = before ≡ piece ++ after

-- a sink took these bytes at its end
abbrev pub Took : List ℕ → List ℕ → List ℕ → Type 0
Took piece before after = after ≡ before ++ piece

-- a sink took a part of the piece, from its front
abbrev pub TookPart : List ℕ → List ℕ → List ℕ → Type 0
TookPart piece before after = (n : ℕ) × (after ≡ before ++ take n piece)

-- what is told at the end was told at the start
abbrev pub StillTold : (ℕ → Option (List ℕ)) → (ℕ → Option (List ℕ)) → Type 0
StillTold old new = (q : ℕ) → IsSome (new q) → IsSome (old q)

-- each other member's bytes are as they were, where they are told
abbrev pub OthersSame : ℕ → (ℕ → Option (List ℕ)) → (ℕ → Option (List ℕ)) → Type 0
OthersSame member old new = (q : ℕ) → q ≢ member → Told IsSame (old q) (new q)
