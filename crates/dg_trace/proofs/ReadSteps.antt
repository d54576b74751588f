-- How often a source is read.
use Rattle.std.proofs.Common.{◌≡◌, ◌≤◌, ◌<◌, ◌+◌, ℕ, List, ◌++◌, length, take, length-append, ap, arith}
use Rattle.std.specs.Prelude.{IfOk, OnErr, Option, Some, None, Result, Ok, Err}
use Rattle.std.proofs.lemmas.List.{length-take-le}
use Rattle.dg_io.specs.Told.{Gave, IsSame, Told}

-- a read that gave some bytes took as many
took_some : (x y : ℕ) (piece : List ℕ) (a b : Option (List ℕ)) → y ≤ x + 1 → 0 < length piece → Told (Gave piece) a b
    → Told (λ before after. y + length after ≤ x + length before + 0) a b
took_some x y piece a None once some gave = tt
took_some x y piece None (Some t) once some gave = absurd gave
took_some x y piece (Some s) (Some t) once some gave =
    let size : length s ≡ length (piece ++ t) = ap length gave in
    omega (arith, once, some, size, length-append piece t)

-- any read is one more at most
took_any : (x y : ℕ) (piece : List ℕ) (a b : Option (List ℕ)) → y ≤ x + 1 → Told (Gave piece) a b → Told (λ before after. y + length after ≤ x + length before + 1) a b
took_any x y piece a None once gave = tt
took_any x y piece None (Some t) once gave = absurd gave
took_any x y piece (Some s) (Some t) once gave =
    let size : length s ≡ length (piece ++ t) = ap length gave in
    omega (arith, once, size, length-append piece t)

took_none : (x y : ℕ) (a b : Option (List ℕ)) → y ≤ x + 1 → Told IsSame a b → Told (λ before after. y + length after ≤ x + length before + 1) a b
took_none x y a None once same = tt
took_none x y None (Some t) once same = absurd same
took_none x y (Some s) (Some t) once same =
    let size : length t ≡ length s = ap length same in
    omega (arith, once, size)

-- by what a read answers
pub read_some : {E : Type 0} (result : Result ℕ E) (bytes : List ℕ) (x y : ℕ) (a b : Option (List ℕ)) → y ≤ x + 1 → IfOk result (λ n. n ≤ length bytes)
    → IfOk result (λ n. Told (Gave (take n bytes)) a b) → IfOk result (λ n. 0 < n → Told (λ before after. y + length after ≤ x + length before + 0) a b)
read_some (Ok n) bytes x y a b once within gave = λ some.
    let size : length (take n bytes) ≡ n = length-take-le n bytes within in
    took_some x y (take n bytes) a b once (omega (arith, size, some)) gave
read_some (Err error) bytes x y a b once within gave = tt

pub read_any : {E : Type 0} (result : Result ℕ E) (bytes : List ℕ) (x y : ℕ) (a b : Option (List ℕ)) → y ≤ x + 1
    → IfOk result (λ n. Told (Gave (take n bytes)) a b) → OnErr result (Told IsSame a b) → Told (λ before after. y + length after ≤ x + length before + 1) a b
read_any (Ok n) bytes x y a b once gave same = took_any x y (take n bytes) a b once gave
read_any (Err error) bytes x y a b once gave same = took_none x y a b once same
