-- What holds of bytes that are told, or may be.
use Rattle.std.proofs.Common.{◌≡◌, ℕ, List, refl, sym, subst}
use Rattle.std.specs.Prelude.{IfSome, IsSome, IsSomeAnd, Option, Some, None}
use Rattle.std.proofs.lemmas.Bool.{false≢true}

pub some_and : (P : List ℕ → Type 0) (o : Option (List ℕ)) → IsSomeAnd o P → (all : List ℕ) × (o ≡ Some all) × P all
some_and P None h = absurd h
some_and P (Some all) h = (all, refl, h)

pub some_from : (P : List ℕ → Type 0) (o : Option (List ℕ)) (all : List ℕ) → o ≡ Some all → P all → IsSomeAnd o P
some_from P o all e h = subst (λ (x : Option (List ℕ)). IsSomeAnd x P) (sym e) h

pub some_if : (P : List ℕ → Type 0) (o : Option (List ℕ)) (all : List ℕ) → o ≡ Some all → IfSome o P → P all
some_if P o all e h = subst (λ (x : Option (List ℕ)). IfSome x P) e h

pub if_from : (P : List ℕ → Type 0) (o : Option (List ℕ)) (all : List ℕ) → o ≡ Some all → P all → IfSome o P
if_from P o all e h = subst (λ (x : Option (List ℕ)). IfSome x P) (sym e) h

pub told_of : (o : Option (List ℕ)) (all : List ℕ) → o ≡ Some all → IsSome o
told_of o all e = subst (λ (x : Option (List ℕ)). IsSome x) (sym e) refl

pub told_from : (P : List ℕ → Type 0) (o : Option (List ℕ)) → IsSome o → IfSome o P → IsSomeAnd o P
told_from P None told h = absurd (false≢true told)
told_from P (Some all) told h = h

pub some_more : (P Q : List ℕ → Type 0) (o : Option (List ℕ)) → ((all : List ℕ) → P all → Q all) → IsSomeAnd o P → IsSomeAnd o Q
some_more P Q None f h = absurd h
some_more P Q (Some all) f h = f all h
