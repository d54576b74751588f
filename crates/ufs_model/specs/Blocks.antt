-- The blocks of a volume, and what is read from them. A volume is a list of blocks of l bytes.
use Rattle.std.specs.Prelude.{ℕ, zero, suc, ◌+◌, ◌-◌, ◌*◌, min, List, [], ◌∷◌, ◌++◌, slice_index_or, replicate}

-- A volume's content: its blocks, each a list of bytes.
abbrev pub Volume : Type 0
Volume = List (List ℕ)

-- a block of l bytes; past the volume's end it is zeros
abbrev pub block_at : ℕ → Volume → ℕ → List ℕ
block_at l v b = slice_index_or v b (replicate l 0)

-- An answer, and the blocks that were consulted for it, in order.
pub record Consulted (A : Type 0) : Type 0 where
  pub value : A
  pub needs : List ℕ

-- What is read from a volume: the answer, and what it takes to know it.
abbrev pub Reading : Type 0 → Type 0
Reading A = Volume → Consulted A

-- an answer for which no block is consulted
abbrev pub known : {A : Type 0} → A → Reading A
known a v = record { value = a; needs = [] }

-- one block of l bytes
abbrev pub consult : ℕ → ℕ → Reading (List ℕ)
consult l b v = record { value = block_at l v b; needs = b ∷ [] }

-- the one, and then what follows from its answer
unfoldable pub bind : {A B : Type 0} → Reading A → (A → Reading B) → Reading B
bind d f v = record { value = (f ((d v).value) v).value; needs = (d v).needs ++ (f ((d v).value) v).needs }

infixl 10 ◌>>=◌
abbrev pub ◌>>=◌ : {A B : Type 0} → Reading A → (A → Reading B) → Reading B
◌>>=◌ = bind

-- the bytes of k blocks from a on, end to end
unfoldable pub area_of : ℕ → ℕ → ℕ → Reading (List ℕ)
area_of l a zero = known []
area_of l a (suc k) = area_of l a k >>= λ front. consult l (a + k) >>= λ last. known (front ++ last)

-- the same of a volume of n blocks; past its last block the bytes are zeros
unfoldable pub area_within : ℕ → ℕ → ℕ → ℕ → Reading (List ℕ)
area_within l n a k = area_of l a (min k (n - a)) >>= λ bytes. known (bytes ++ replicate ((k - min k (n - a)) * l) 0)
