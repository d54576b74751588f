-- Answers of `cat` and `ls`.
use Rattle.std.proofs.Common.{◌≡◌, ℕ, List, Some, Err, Result, Option, refl}
use Rattle.std.specs.Option.{option_map}
use Rattle.ufs_model.specs.declared.reads.PathRefusal.{PathRefusal}
use Rattle.ufs_model.specs.declared.reads.PathRefusal.TheVariants.{NotFound as RefusedNotFound, NotDirectory as RefusedNotDirectory, NotRegular as RefusedNotRegular, Bad as RefusedBad}
use Rattle.ufs_path.specs.Answers.{IsAnswer, answer_at, refusal_of, refused_answer}
use Rattle.ufs_path.specs.Consults.{IsUnanswered, IsUnavailable, StaysUnlessFailed}
use Rattle.ufs_path.specs.declared.faults.LookFault.{LookFault}
use Rattle.ufs_path.specs.declared.faults.LookFault.TheVariants.{NotFound as FaultNotFound, NotDirectory as FaultNotDirectory, Bad as FaultBad, Unavailable as FaultUnavailable}
use Rattle.ufs_path.specs.declared.faults.CatAnswer.{CatAnswer}
use Rattle.ufs_path.specs.declared.faults.CatAnswer.TheVariants.{Given, NotFound, NotDirectory, Bad, Unavailable, NotRegular, Cut, SinkFault}

-- what an answer says of one reading it says of another
pub map_answer : {S A : Type 0} (took took_part : S → List A → S → Type 0) (faults : S → ℕ) (old new : S) {one two : Option (Result (List A) PathRefusal) → Type 0} (answer : CatAnswer)
    → ((r : Option (Result (List A) PathRefusal)) → one r → two r) → IsAnswer took took_part faults old new one answer → IsAnswer took took_part faults old new two answer
map_answer took took_part faults old new (Given n) go is = (is.0, is.1, is.2, go _ is.3)
map_answer took took_part faults old new NotFound go is = (is.0, go _ is.1)
map_answer took took_part faults old new NotDirectory go is = (is.0, go _ is.1)
map_answer took took_part faults old new (Bad bad) go is = (is.0, go _ is.1)
map_answer took took_part faults old new Unavailable go is = (is.0, go _ is.1)
map_answer took took_part faults old new NotRegular go is = (is.0, go _ is.1)
map_answer took took_part faults old new (Cut n) go is = (is.0, is.1, is.2, is.3, go _ is.4, go _ is.5)
map_answer took took_part faults old new SinkFault go is = (is.0, is.1, go _ is.2, is.3)

-- nothing is handed on at a fault
pub at_fault : {S A : Type 0} (took took_part : S → List A → S → Type 0) (faults : S → ℕ) (old new : S) (reads : Option (Result (List A) PathRefusal) → Type 0) (fault : LookFault)
    → new ≡ old → reads (option_map Err (refusal_of fault)) → IsAnswer took took_part faults old new reads (refused_answer fault)
at_fault took took_part faults old new reads FaultNotFound same is = (same, is)
at_fault took took_part faults old new reads FaultNotDirectory same is = (same, is)
at_fault took took_part faults old new reads (FaultBad bad) same is = (same, is)
at_fault took took_part faults old new reads FaultUnavailable same is = (same, is)

-- nor at a refusal
pub at_refusal : {S A : Type 0} (took took_part : S → List A → S → Type 0) (faults : S → ℕ) (old new : S) (reads : Option (Result (List A) PathRefusal) → Type 0) (refusal : PathRefusal)
    → new ≡ old → reads (Some (Err refusal)) → IsAnswer took took_part faults old new reads (answer_at refusal)
at_refusal took took_part faults old new reads RefusedNotFound same is = (same, is)
at_refusal took took_part faults old new reads RefusedNotDirectory same is = (same, is)
at_refusal took took_part faults old new reads RefusedNotRegular same is = (same, is)
at_refusal took took_part faults old new reads (RefusedBad bad) same is = (same, is)

-- ---- want of a block, and faults of the receiver

pub refused_unanswered : (fault : LookFault) → IsUnanswered (refused_answer fault) → IsUnavailable fault
refused_unanswered FaultNotFound h = h
refused_unanswered FaultNotDirectory h = h
refused_unanswered (FaultBad bad) h = h
refused_unanswered FaultUnavailable h = h

pub refused_stays : (fault : LookFault) (n : ℕ) → StaysUnlessFailed (refused_answer fault) n n
refused_stays FaultNotFound n = refl
refused_stays FaultNotDirectory n = refl
refused_stays (FaultBad bad) n = refl
refused_stays FaultUnavailable n = refl

pub at_unanswered : (refusal : PathRefusal) → IsUnanswered (answer_at refusal) → ⊥
at_unanswered RefusedNotFound h = h
at_unanswered RefusedNotDirectory h = h
at_unanswered RefusedNotRegular h = h
at_unanswered (RefusedBad bad) h = h

pub at_stays : (refusal : PathRefusal) (n : ℕ) → StaysUnlessFailed (answer_at refusal) n n
at_stays RefusedNotFound n = refl
at_stays RefusedNotDirectory n = refl
at_stays RefusedNotRegular n = refl
at_stays (RefusedBad bad) n = refl
