-- What a read of a source leaves, by its bytes.
use Rattle.std.proofs.Common.{◌≡◌, ◌≤◌, ◌<◌, ◌+◌, ◌++◌, ℕ, List, length, take, arith, ap, length-append, length-take-le}
use Rattle.std.specs.Prelude.{Option, Result, Ok, Err, IfOk, OnErr}
use Rattle.dg_io.specs.SourceReads.{LeavesSource}
use Rattle.dg_io.specs.Told.{Told, Gave, IsSame}
use Rattle.dg_run.proofs.ToldSteps.{Told-each}

module _ {S E : Type 0} (calls : S → ℕ) (left : S → Option (List ℕ)) (buf : List ℕ) (a b : S) (once : calls b ≤ calls a + 1) where
  -- whatever it answered
  pub reads_any : (result : Result ℕ E) → IfOk result (λ n. Told (Gave (take n buf)) (left a) (left b)) → OnErr result (Told IsSame (left a) (left b))
      → LeavesSource calls left 1 a b
  reads_any (Ok n) gave same =
      Told-each (Gave (take n buf)) _ (λ x y is. let size : length x ≡ length (take n buf ++ y) = ap length is in omega (arith, size, length-append (take n buf) y, once)) (left a) (left b) gave
  reads_any (Err e) gave same = Told-each IsSame _ (λ x y is. let size : length y ≡ length x = ap length is in omega (arith, size, once)) (left a) (left b) same

  -- it gave a byte
  pub reads_some : (result : Result ℕ E) → IfOk result (λ n. n ≤ length buf) → IfOk result (λ n. Told (Gave (take n buf)) (left a) (left b))
      → IfOk result (λ n. 0 < n → LeavesSource calls left 0 a b)
  reads_some (Ok n) within gave = λ some.
      Told-each (Gave (take n buf)) _ (λ x y is. let size : length x ≡ length (take n buf ++ y) = ap length is in omega (arith, size, length-append (take n buf) y, length-take-le n buf within, some, once)) (left a) (left b) gave
  reads_some (Err e) within gave = tt
