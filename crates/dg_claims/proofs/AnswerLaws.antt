-- The clauses of a callee's answer, mapped.
use Rattle.std.proofs.Common.{Option, Some, None, Result, Ok, Err, IfOk, IfSome, IfNone}

pub ok_map : {A E : Type 0} (r : Result A E) (P Q : A → Type 0) → ((a : A) → P a → Q a) → IfOk r P → IfOk r Q
ok_map (Ok a) P Q f h = f a h
ok_map (Err e) P Q f h = tt

pub ok_some : {A E : Type 0} (r : Result (Option A) E) (P Q R : A → Type 0) → ((a : A) → P a → Q a → R a) → IfOk r (λ s. IfSome s P) → IfOk r (λ s. IfSome s Q) → IfOk r (λ s. IfSome s R)
ok_some (Ok (Some a)) P Q R f p q = f a p q
ok_some (Ok None) P Q R f p q = tt
ok_some (Err e) P Q R f p q = tt

pub ok_none : {A E : Type 0} (r : Result (Option A) E) (P Q : Type 0) → (P → Q) → IfOk r (λ s. IfNone s P) → IfOk r (λ s. IfNone s Q)
ok_none (Ok (Some a)) P Q f p = tt
ok_none (Ok None) P Q f p = f p
ok_none (Err e) P Q f p = tt
