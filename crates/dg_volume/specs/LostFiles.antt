-- The files that lost blocks: what marks say of their inodes, and what the answers that name them say.
use Rattle.std.specs.Prelude.{◌≡◌, ◌⊎◌, ◌↔◌, ◌++◌, ◌<◌, ℕ, Bool, true, List, length}
use Rattle.dg_infer.specs.Meanings.{KeptInference}
use Rattle.dg_infer.specs.Wants.{IsOfBy}
use Rattle.dg_model.specs.Causes.{Rose}
use Rattle.dg_model.specs.Marks.{is_marked}
use Rattle.dg_model.specs.Paths.{PathOf}
use Rattle.dg_model.specs.declared.replies.Reply.{Reply}
use Rattle.dg_model.specs.declared.replies.Reply.TheVariants.{LostFiles, LostFilesCut, NotSettled, Refused, Unavailable}
use Rattle.dg_volume.specs.declared.settled_paths.TreeAnswer.{TreeAnswer}
use Rattle.dg_volume.specs.declared.settled_paths.TreeAnswer.TheVariants.{Is as AnswerIs, NotSettled as AnswerNotSettled}
use Rattle.ufs_model.specs.declared.reads.PathRefusal.TheVariants.{Bad as RefusedBad, NotDirectory as RefusedNotDirectory, NotFound as RefusedNotFound, NotRegular as RefusedNotRegular}
use Rattle.ufs_path.specs.declared.faults.CatAnswer.{CatAnswer}
use Rattle.ufs_path.specs.declared.faults.CatAnswer.TheVariants.{Bad, Cut, Given, NotDirectory, NotFound, NotRegular, SinkFault, Unavailable as AnswerUnavailable}

-- ---- marks of inodes

-- marks were put at just those of which this holds
abbrev pub GainsMarks : List Bool → List Bool → (ℕ → Type 0) → Type 0
GainsMarks old new holds = (i : ℕ) → (is_marked new i ≡ true) ↔ ((is_marked old i ≡ true) ⊎ holds i)

-- by what is kept one of the first so many blocks belongs to inode i, and was cut
pub record LostBelow (kept : KeptInference) (cut : List Bool) (count i : ℕ) : Type 0 where
  pub block : ℕ
  pub low : block < count
  pub cut_is : is_marked cut block ≡ true
  pub owned : IsOfBy kept block i

-- just the inodes that lost a block are marked
abbrev pub AreLostMarks : KeptInference → List Bool → List Bool → Type 0
AreLostMarks kept cut marks = (i : ℕ) → (is_marked marks i ≡ true) ↔ LostBelow kept cut (length cut) i

-- ---- answers

-- What was handed on of the files that lost blocks, from one state of the receiver to another, and what holds of the reply to it. A refusal
-- hands nothing on. Where the receiver failed, the reply is the one that it would have taken.
abbrev pub AnswersLost : {S : Type 0} → (S → List PathOf → S → Type 0) → (S → List PathOf → S → Type 0) → (S → ℕ) → S → S → (Reply → Type 0)
    → CatAnswer → Type 0
AnswersLost took took_part faults old new holds (Given n) =
    (files : List PathOf) × (length files ≡ n) × took old files new × holds (LostFiles files)
AnswersLost took took_part faults old new holds NotFound = (new ≡ old) × holds (Refused RefusedNotFound)
AnswersLost took took_part faults old new holds NotDirectory = (new ≡ old) × holds (Refused RefusedNotDirectory)
AnswersLost took took_part faults old new holds (Bad bad) = (new ≡ old) × holds (Refused (RefusedBad bad))
AnswersLost took took_part faults old new holds AnswerUnavailable = (new ≡ old) × holds Unavailable
AnswersLost took took_part faults old new holds NotRegular = (new ≡ old) × holds (Refused RefusedNotRegular)
AnswersLost took took_part faults old new holds (Cut n) =
    (files : List PathOf) × (length files ≡ n) × took old files new × holds (LostFilesCut files)
AnswersLost took took_part faults old new holds SinkFault =
    (files : List PathOf) × took_part old files new × Rose (faults old) (faults new) × holds (LostFiles files)

-- the same where the phase is told only when the program runs
abbrev pub AnswersLostAny : {S : Type 0} → (S → List PathOf → S → Type 0) → (S → List PathOf → S → Type 0) → (S → ℕ) → S → S → (Reply → Type 0)
    → TreeAnswer → Type 0
AnswersLostAny took took_part faults old new holds (AnswerIs answer) = AnswersLost took took_part faults old new holds answer
AnswersLostAny took took_part faults old new holds AnswerNotSettled = (new ≡ old) × holds NotSettled

-- where memory was wanting: nothing, or the first files of those that hold as a reply
abbrev pub HandsFiles : {C : Type 0} → (C → List PathOf → C → Type 0) → C → C → (Reply → Type 0) → Type 0
HandsFiles took old new holds = (new ≡ old) ⊎ ((files : List PathOf) × (rest : List PathOf) × took old files new × holds (LostFiles (files ++ rest)))
