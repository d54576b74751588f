-- What the answers of the readers by path say of what is read, and of what was handed on.
use Rattle.std.specs.Prelude.{◌≡◌, ℕ, List, ◌++◌, length, Option, Some, None, Result, Ok, Err}
use Rattle.dg_model.specs.Causes.{Rose}
use Rattle.ufs_model.specs.declared.reads.PathRefusal.{PathRefusal}
use Rattle.ufs_model.specs.declared.reads.PathRefusal.TheVariants.{NotFound as RefusedNotFound, NotDirectory as RefusedNotDirectory, NotRegular as RefusedNotRegular, Bad as RefusedBad}
use Rattle.ufs_path.specs.declared.faults.LookFault.{LookFault}
use Rattle.ufs_path.specs.declared.faults.LookFault.TheVariants.{NotFound as FaultNotFound, NotDirectory as FaultNotDirectory, Bad as FaultBad, Unavailable as FaultUnavailable}
use Rattle.ufs_path.specs.declared.faults.CatAnswer.{CatAnswer}
use Rattle.ufs_path.specs.declared.faults.CatAnswer.TheVariants.{Given, NotFound, NotDirectory, Bad, Unavailable, NotRegular, Cut, SinkFault}

-- what a fault says of a reading: nothing where a block is gone
abbrev pub refusal_of : LookFault → Option PathRefusal
refusal_of FaultNotFound = Some RefusedNotFound
refusal_of FaultNotDirectory = Some RefusedNotDirectory
refusal_of (FaultBad bad) = Some (RefusedBad bad)
refusal_of FaultUnavailable = None

-- the answer of `cat` and `ls` at a refusal, and at a fault
abbrev pub answer_at : PathRefusal → CatAnswer
answer_at RefusedNotFound = NotFound
answer_at RefusedNotDirectory = NotDirectory
answer_at RefusedNotRegular = NotRegular
answer_at (RefusedBad bad) = Bad bad

abbrev pub refused_answer : LookFault → CatAnswer
refused_answer FaultNotFound = NotFound
refused_answer FaultNotDirectory = NotDirectory
refused_answer (FaultBad bad) = Bad bad
refused_answer FaultUnavailable = Unavailable

-- What an answer of `cat` or `ls` says of the reading of the file's bytes, or the directory's
-- entries, by `reads`, and of what the receiver took. `reads` is the reading rule: `reads (Some r)`
-- says that r is the definition's answer and that no block that it needs was gone before, `reads
-- None` that such a block is gone after. A refusal hands nothing on; what is cut, or fails, handed
-- on a front of the items.
abbrev pub IsAnswer : {S A : Type 0} → (S → List A → S → Type 0) → (S → List A → S → Type 0) → (S → ℕ) → S → S → (Option (Result (List A) PathRefusal) → Type 0)
    → CatAnswer → Type 0
IsAnswer {S} {A} took took_part faults old new reads (Given n) = (items : List A) × (length items ≡ n) × took old items new × reads (Some (Ok items))
IsAnswer {S} {A} took took_part faults old new reads NotFound = (new ≡ old) × reads (Some (Err RefusedNotFound))
IsAnswer {S} {A} took took_part faults old new reads NotDirectory = (new ≡ old) × reads (Some (Err RefusedNotDirectory))
IsAnswer {S} {A} took took_part faults old new reads (Bad bad) = (new ≡ old) × reads (Some (Err (RefusedBad bad)))
IsAnswer {S} {A} took took_part faults old new reads Unavailable = (new ≡ old) × reads None
IsAnswer {S} {A} took took_part faults old new reads NotRegular = (new ≡ old) × reads (Some (Err RefusedNotRegular))
IsAnswer {S} {A} took took_part faults old new reads (Cut n) =
    (front : List A) × (rest : List A) × (length front ≡ n) × took old front new × reads (Some (Ok (front ++ rest))) × reads None
IsAnswer {S} {A} took took_part faults old new reads SinkFault =
    (items : List A) × took_part old items new × reads (Some (Ok items)) × Rose (faults old) (faults new)
