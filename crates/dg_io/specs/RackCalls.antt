-- The calls that are made of a rack, by their kinds.
use Rattle.std.specs.Prelude.{◌≢◌, ◌/◌, ℕ, List, [], ◌∷◌}

-- a call that looks for member q, one that makes it anew, one that reads or writes it, or one that extends it
pub data RackCall : Type 0 where
  looks : ℕ → RackCall
  blanks : ℕ → RackCall
  calls : ℕ → RackCall
  extends : ℕ → RackCall

-- the member that is called
abbrev pub member_of : RackCall → ℕ
member_of (looks q) = q
member_of (blanks q) = q
member_of (calls q) = q
member_of (extends q) = q

-- each of these calls is such a one
abbrev pub Each : (RackCall → Type 0) → List RackCall → Type 0
Each may [] = Unit {0}
Each may (call ∷ rest) = may call × Each may rest

-- it isn't a call on member q
abbrev pub IsNotOn : ℕ → RackCall → Type 0
IsNotOn q call = member_of call ≢ q

-- it is on neither member of boundary s
abbrev pub IsNotAt : ℕ → RackCall → Type 0
IsNotAt s call = member_of call / 2 ≢ s

-- it reads or writes
abbrev pub IsReadOrWrite : RackCall → Type 0
IsReadOrWrite (looks q) = ⊥
IsReadOrWrite (blanks q) = ⊥
IsReadOrWrite (calls q) = Unit {0}
IsReadOrWrite (extends q) = ⊥

-- it makes no member anew
abbrev pub IsNoBlank : RackCall → Type 0
IsNoBlank (looks q) = Unit {0}
IsNoBlank (blanks q) = ⊥
IsNoBlank (calls q) = Unit {0}
IsNoBlank (extends q) = Unit {0}

-- it makes no member of boundary s anew
abbrev pub IsNoBlankAt : ℕ → RackCall → Type 0
IsNoBlankAt s (looks q) = Unit {0}
IsNoBlankAt s (blanks q) = q / 2 ≢ s
IsNoBlankAt s (calls q) = Unit {0}
IsNoBlankAt s (extends q) = Unit {0}
