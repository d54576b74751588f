-- A kept checkpoint: what a rack gives back when it is opened again.
use Rattle.std.specs.Prelude.{◌≡◌, ◌≢◌, ◌⊎◌, ◌==◌, ℕ, Bool, true, List, [], Option, Some, None, IsSome, if◌then◌else◌}

-- the bytes or none of each member, and the extra bytes
pub record Kept : Type 0 where
  pub entries : ℕ → Option (List ℕ)
  pub extra : List ℕ

-- without this member's entry
abbrev pub without : ℕ → Kept → Kept
without member kept = record { entries = λ q. if q == member then None else kept.entries q; extra = kept.extra }

-- some other member that stands has an entry
pub record HasAnother (stands : ℕ → Bool) (member : ℕ) (kept : Kept) : Type 0 where
  pub other : ℕ
  pub differs : other ≢ member
  pub stand : stands other ≡ true
  pub entry : IsSome (kept.entries other)

-- nothing is kept
pub record IsNothing (kept : Kept) : Type 0 where
  pub entries : (q : ℕ) → kept.entries q ≡ None
  pub extra : kept.extra ≡ []

-- what is kept stays, told or not
abbrev pub KeepsOn : {S : Type 0} → (S → Option Kept → Type 0) → S → S → Type 0
KeepsOn keeps old new = (kept : Option Kept) → keeps old kept → keeps new kept

-- A blank of a member: what is kept stays but for this member's entry, where another member that stands has one, or nothing was kept; else
-- it isn't told.
pub record KeepsRest {S : Type 0} (keeps : S → Option Kept → Type 0) (stands : S → ℕ → Bool) (member : ℕ) (old new : S) : Type 0 where
  pub rest : (kept : Kept) → keeps old (Some kept) → HasAnother (stands old) member kept ⊎ IsNothing kept → keeps new (Some (without member kept))
  pub any : (kept : Option Kept) → keeps old kept → keeps new None
