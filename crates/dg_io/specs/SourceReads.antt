-- How often a source is read: each read but so many takes a byte.
use Rattle.std.proofs.Common.{◌≤◌, ◌+◌, ℕ, List, length, arith}
use Rattle.std.specs.Prelude.{Option, Some, None}
use Rattle.dg_io.specs.Told.{Told}

-- What reads of a source leave: no more were made than bytes were taken, and so many more.
abbrev pub LeavesSource : {S : Type 0} → (S → ℕ) → (S → Option (List ℕ)) → ℕ → S → S → Type 0
LeavesSource calls left more old new = Told (λ before after. calls new + length after ≤ calls old + length before + more) (left old) (left new)

-- ---- one after another

no_read : (n : ℕ) (told : Option (List ℕ)) → Told (λ before after. n + length after ≤ n + length before + 0) told told
no_read n None = tt
no_read n (Some bytes) = omega arith

two_reads : (m k x y z : ℕ) (a b c : Option (List ℕ)) → Told (λ before after. y + length after ≤ x + length before + m) a b
    → Told (λ before after. z + length after ≤ y + length before + k) b c → Told (λ before after. z + length after ≤ x + length before + (m + k)) a c
two_reads m k x y z a b None first second = tt
two_reads m k x y z a None (Some t) first second = absurd second
two_reads m k x y z None (Some s) (Some t) first second = absurd first
two_reads m k x y z (Some r) (Some s) (Some t) first second = omega (arith, first, second)

more_reads : (m k x y : ℕ) (a b : Option (List ℕ)) → m ≤ k → Told (λ before after. y + length after ≤ x + length before + m) a b
    → Told (λ before after. y + length after ≤ x + length before + k) a b
more_reads m k x y a None wider leaves = tt
more_reads m k x y None (Some s) wider leaves = absurd leaves
more_reads m k x y (Some r) (Some s) wider leaves = omega (arith, wider, leaves)

module _ {S : Type 0} (calls : S → ℕ) (left : S → Option (List ℕ)) where
  -- no read
  pub reads_none : (a : S) → LeavesSource calls left 0 a a
  reads_none a = no_read (calls a) (left a)

  -- reads, and then others
  pub reads_both : (m k : ℕ) (a b c : S) → LeavesSource calls left m a b → LeavesSource calls left k b c → LeavesSource calls left (m + k) a c
  reads_both m k a b c first second = two_reads m k (calls a) (calls b) (calls c) (left a) (left b) (left c) first second

  -- as many at most as a greater number
  pub reads_more : (m k : ℕ) (a b : S) → m ≤ k → LeavesSource calls left m a b → LeavesSource calls left k a b
  reads_more m k a b wider leaves = more_reads m k (calls a) (calls b) (left a) (left b) wider leaves
