-- What clauses say of answers that came from another call.
use Rattle.std.proofs.Common.{◌≡◌, ◌⊎◌, inl, inr, false, Option, Some, None, Result, Ok, Err, sym, subst, ap}
use Rattle.std.specs.Prelude.{IfOk, IfSome, IsErr}
use Rattle.std.specs.Option.{option_map}
use Rattle.std.specs.Result.{is_ok}
use Rattle.std.proofs.lemmas.Bool.{false≢true}
use Rattle.ufs_model.specs.declared.reads.BadRead.{BadRead}
use Rattle.ufs_model.specs.declared.reads.PathRefusal.{PathRefusal}
use Rattle.ufs_path.specs.Answers.{refusal_of}
use Rattle.ufs_path.specs.Consults.{IsUnavailable}
use Rattle.ufs_path.specs.declared.faults.LookFault.{LookFault}
use Rattle.ufs_path.specs.declared.faults.LookFault.TheVariants.{NotFound, NotDirectory, Bad, Unavailable}

-- an error is no answer
pub not_ok : {A E : Type 0} (r : Result A E) (a : A) → IsErr r → r ≡ Ok a → ⊥
not_ok (Ok b) a is e = absurd (false≢true is)
not_ok (Err b) a is e = cc

pub map_some : {A E : Type 0} (r : Result (Option A) E) (P Q : A → Type 0) → ((a : A) → P a → Q a) → IfOk r (λ o. IfSome o P) → IfOk r (λ o. IfSome o Q)
map_some (Ok (Some a)) P Q f h = f a h
map_some (Ok None) P Q f h = tt
map_some (Err e) P Q f h = tt

pub map_ok : {A E : Type 0} (r : Result A E) (P Q : A → Type 0) → ((a : A) → P a → Q a) → IfOk r P → IfOk r Q
map_ok (Ok a) P Q f h = f a h
map_ok (Err e) P Q f h = tt

-- a fault that is no want of a block
abbrev pub IsRefusal : LookFault → Type 0
IsRefusal fault = (fault ≡ NotFound) ⊎ (fault ≡ NotDirectory) ⊎ ((bad : BadRead) × (fault ≡ Bad bad))

refused_not : (fault : LookFault) → IsRefusal fault → IsUnavailable fault → ⊥
refused_not NotFound is h = absurd h
refused_not NotDirectory is h = absurd h
refused_not (Bad bad) is h = absurd h
refused_not Unavailable (inl e) h = cc
refused_not Unavailable (inr (inl e)) h = cc
refused_not Unavailable (inr (inr (bad, e))) h = cc

pub not_gone : (fault : LookFault) → IsRefusal fault → IsUnavailable fault → ⊥
not_gone fault is h = refused_not fault is h

-- what is read is refused then
pub refused_said : {A : Type 0} (fault : LookFault) (value : Result A PathRefusal) → IsRefusal fault → IfSome (option_map Err (refusal_of fault)) (λ a. a ≡ value) → is_ok value ≡ false
refused_said NotFound value is said = sym (ap (λ r. is_ok r) said)
refused_said NotDirectory value is said = sym (ap (λ r. is_ok r) said)
refused_said (Bad bad) value is said = sym (ap (λ r. is_ok r) said)
refused_said Unavailable value is said = absurd (not_gone Unavailable is tt)

pub at_some : {A : Type 0} (o : Option A) (P : A → Type 0) (a : A) → o ≡ Some a → IfSome o P → P a
at_some o P a is h = subst (λ x. IfSome x P) is h
