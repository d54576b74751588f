-- What a comparer of a file was handed.
use Rattle.std.proofs.Common.{◌≡◌, ◌∙◌, ap}
use Rattle.std.specs.Prelude.{ℕ, ◌+◌, ◌==◌, ◌&&◌, nat_lt, Bool, true, false, List, [], ◌∷◌, ◌++◌, if◌then◌else◌, refl}
use Rattle.ufs_drill.specs.Items.{byte_of}
use Rattle.dg_drill.specs.declared.comparers.Comparer.{Comparer}

-- nothing yet, of file k, which has so many bytes
abbrev pub fresh : ℕ → ℕ → Comparer
fresh k size = record { k = k; size = size; at = 0; same = true }

-- one byte more: it is the file's next one, or another
abbrev pub next_byte : Comparer → ℕ → Comparer
next_byte s byte =
    if s.same && (nat_lt s.at s.size && (byte == byte_of s.k s.at)) then record s { at = s.at + 1 } else record s { same = false }

abbrev pub next_bytes : Comparer → List ℕ → Comparer
next_bytes s [] = s
next_bytes s (byte ∷ bytes) = next_bytes (next_byte s byte) bytes

-- all bytes of the file, and no others
abbrev pub is_whole : Comparer → Bool
is_whole s = s.same && (s.at == s.size)

-- it was handed these bytes
abbrev pub Compared : Comparer → List ℕ → Comparer → Type 0
Compared old bytes new = new ≡ next_bytes old bytes

-- it never fails at any
abbrev pub ComparedPart : Comparer → List ℕ → Comparer → Type 0
ComparedPart old bytes new = ⊥

compared_again : (s : Comparer) (x y : List ℕ) → next_bytes (next_bytes s x) y ≡ next_bytes s (x ++ y)
compared_again s [] y = refl
compared_again s (byte ∷ x) y = compared_again (next_byte s byte) x y

pub compared_none : (s : Comparer) → Compared s [] s
compared_none s = refl

pub compared_then : (a b c : Comparer) (x y : List ℕ) → Compared a x b → Compared b y c → Compared a (x ++ y) c
compared_then a b c x y first second = second ∙ ap (λ (s : Comparer). next_bytes s y) first ∙ compared_again a x y

pub compared_then_part : (a b c : Comparer) (x y : List ℕ) → Compared a x b → ComparedPart b y c → ComparedPart a (x ++ y) c
compared_then_part a b c x y first second = absurd second

pub compared_part : (a b : Comparer) (x y : List ℕ) → ComparedPart a x b → ComparedPart a (x ++ y) b
compared_part a b x y first = absurd first
