-- A settled volume makes a step by the paths of its files that lost blocks.
use Rattle.std.proofs.Common.{◌≡◌, ℕ, Bool, List, ◌++◌, inl, inr, refl, sym, subst}
use Rattle.std.specs.Prelude.{IfOk, IfSome, None, Ok, OnErr, Option, Err, Result, Some}
use Rattle.dg_infer.specs.Meanings.{KeptInference}
use Rattle.dg_infer.specs.Meanings as inferences
use Rattle.dg_io.specs.declared.outside.Rack.{Ghosts}
use Rattle.dg_model.specs.Paths.{AreLost, PathOf}
use Rattle.dg_model.specs.declared.events.Event.TheVariants.{LostFiles}
use Rattle.dg_model.specs.declared.phases.Phase.TheVariants.{Settled as SettledPhase}
use Rattle.dg_model.specs.declared.replies.Reply.TheVariants.{LostFiles as LostFilesReply, LostFilesCut, Refused, Unavailable as ReplyUnavailable}
use Rattle.dg_volume.proofs.LostLaws.{lost_files_of}
use Rattle.dg_volume.proofs.PathSteps.{LosesBlock, cut_short, may_read}
use Rattle.dg_volume.proofs.SettledSteps.{Walks}
use Rattle.dg_volume.proofs.VolumeLaws.{HasRead, read_keeps, read_state, reads_in, reads_stay, steps_from, told_before}
use Rattle.dg_volume.specs.LostFiles.{AnswersLost, AreLostMarks, HandsFiles}
use Rattle.dg_volume.specs.Volumes.{FitsArray, Known, StandsFor, StepsTo, cut_of, shape_of}
use Rattle.dg_volume.specs.declared.phases.InPhase as phases
use Rattle.dg_volume.specs.declared.volumes.Volume.{Volume}
use Rattle.ufs_model.specs.Listings.{Listed}
use Rattle.ufs_model.specs.Trees.{tree_of}
use Rattle.ufs_model.specs.declared.reads.PathRefusal.{PathRefusal}
use Rattle.ufs_model.specs.declared.reads.PathRefusal.TheVariants.{Bad as RefusedBad, NotDirectory as RefusedNotDirectory, NotFound as RefusedNotFound, NotRegular as RefusedNotRegular}
use Rattle.ufs_path.specs.Answers.{IsAnswer}
use Rattle.ufs_path.specs.Consults.{IsUnanswered}
use Rattle.ufs_path.specs.PathLists.{HandsPaths, ReadsMarked, marked_among}
use Rattle.ufs_path.specs.Trees.{IsUnansweredIn}
use Rattle.ufs_path.specs.declared.faults.CatAnswer.{CatAnswer}
use Rattle.ufs_path.specs.declared.faults.CatAnswer.TheVariants.{Bad, Cut as AnswerCut, Given as AnswerGiven, NotDirectory, NotFound, NotRegular, SinkFault, Unavailable}

-- A settled volume of which this is inferred, and just the inodes that lost a block are marked.
pub record HasMarked {S R : Type 0} (phase : phases.Ghosts S) (volume : Volume S R) (marks : List Bool) : Type 0 where
  pub settled : phase.phase volume.phase ≡ SettledPhase
  pub kept : KeptInference
  pub kept_is : phase.kept volume.phase ≡ Some kept
  pub fits : FitsArray (shape_of volume) kept
  pub right : AreLostMarks kept (cut_of volume) marks

pub has_marked : {S R : Type 0} (phase : phases.Ghosts S) (volume : Volume S R) (kept : KeptInference) (cut found marks : List Bool) → phase.phase volume.phase ≡ SettledPhase
    → phase.kept volume.phase ≡ Some kept → IfSome (phase.kept volume.phase) (FitsArray (shape_of volume)) → cut ≡ cut_of volume → marks ≡ found → AreLostMarks kept cut found
    → HasMarked phase volume marks
has_marked phase volume kept cut found marks settled kept_is fits cut_is marks_are right = record {
  settled = settled;
  kept = kept;
  kept_is = kept_is;
  fits = subst (λ (o : Option KeptInference). IfSome o (FitsArray (shape_of volume))) kept_is fits;
  right = subst (λ (l : List Bool). AreLostMarks kept l marks) cut_is (subst (λ (l : List Bool). AreLostMarks kept cut l) (sym marks_are) right);
}

module _ {S R : Type 0} (phase : phases.Ghosts S) (rack : Ghosts R) (a b : Volume S R) (marks : List Bool) (m : HasMarked phase a marks) (h : HasRead phase rack a b) where
  -- the files of a listing
  are_lost : {P : Type 0} (V : List (List ℕ)) (entries : List Listed) → (Known P rack a → StandsFor phase rack a V) → Known P rack b
      → AreLost (shape_of a).l (shape_of a).n V (cut_of a) entries (marked_among marks entries)
  are_lost V entries holds told =
      let all = holds (told_before phase rack a b (read_keeps phase rack a b h) told) in
      lost_files_of (shape_of a).l (shape_of a).n m.kept V (cut_of a) marks entries m.fits.bytes m.fits.number
      (subst (λ (o : Option KeptInference). IfSome o (λ kept. inferences.StandsFor kept V)) m.kept_is all.inferred) m.right

  lost_refused : (refusal : PathRefusal) → Walks phase rack a b (Some (Err refusal)) → StepsTo phase phase rack a LostFiles (Refused refusal) b
  lost_refused refusal reads = steps_from phase rack a b LostFiles (Refused refusal) (λ origin rest V label holds. (
    read_state phase rack a b h rest V,
    reads_in phase rack a b rest V label h holds,
    (
      m.settled,
      may_read phase rack (tree_of (shape_of a).l (shape_of a).n) a b rest V (Some (Err refusal)) h holds reads tt,
      reads_stay phase rack a b rest V label h,
    ),
    refl,
  ))

  lost_gone : Walks phase rack a b None → LosesBlock phase rack b → StepsTo phase phase rack a LostFiles ReplyUnavailable b
  lost_gone reads gone = steps_from phase rack a b LostFiles ReplyUnavailable (λ origin rest V label holds. (
    read_state phase rack a b h rest V,
    reads_in phase rack a b rest V label h holds,
    (
      m.settled,
      may_read phase rack (tree_of (shape_of a).l (shape_of a).n) a b rest V None h holds reads gone,
      reads_stay phase rack a b rest V label h,
    ),
    refl,
  ))

  lost_steps : (files : List PathOf) → ReadsMarked (Walks phase rack a b) marks (Some (Ok files)) → StepsTo phase phase rack a LostFiles (LostFilesReply files) b
  lost_steps files reads = steps_from phase rack a b LostFiles (LostFilesReply files) (λ origin rest V label holds. (
    read_state phase rack a b h rest V,
    reads_in phase rack a b rest V label h holds,
    (
      m.settled,
      (
        reads.0,
        may_read phase rack (tree_of (shape_of a).l (shape_of a).n) a b rest V (Some (Ok (reads.0))) h holds reads.2 tt,
        λ told. subst (λ (l : List PathOf). AreLost (shape_of a).l (shape_of a).n V (cut_of a) (reads.0) l) (sym reads.1) (are_lost V (reads.0) holds told),
      ),
      reads_stay phase rack a b rest V label h,
    ),
    refl,
  ))

  lost_cut : (files more : List PathOf) → ReadsMarked (Walks phase rack a b) marks (Some (Ok (files ++ more))) → Walks phase rack a b None
      → StepsTo phase phase rack a LostFiles (LostFilesCut files) b
  lost_cut files more reads lost = steps_from phase rack a b LostFiles (LostFilesCut files) (λ origin rest V label holds. (
    read_state phase rack a b h rest V,
    reads_in phase rack a b rest V label h holds,
    (
      m.settled,
      (
        reads.0,
        may_read phase rack (tree_of (shape_of a).l (shape_of a).n) a b rest V (Some (Ok (reads.0))) h holds reads.2 tt,
        (more, λ told. subst (λ (l : List PathOf). AreLost (shape_of a).l (shape_of a).n V (cut_of a) (reads.0) l) (sym reads.1) (are_lost V (reads.0) holds told)),
      ),
      cut_short phase rack (tree_of (shape_of a).l (shape_of a).n) a b rest V h holds lost,
      reads_stay phase rack a b rest V label h,
    ),
    refl,
  ))

  lost_answers : {C : Type 0} (took took_part : C → List PathOf → C → Type 0) (faults : C → ℕ) (old new : C) (answer : CatAnswer) → (IsUnanswered answer → LosesBlock phase rack b)
      → IsAnswer took took_part faults old new (ReadsMarked (Walks phase rack a b) marks) answer
      → AnswersLost took took_part faults old new (λ reply. StepsTo phase phase rack a LostFiles reply b) answer
  lost_answers took took_part faults old new (AnswerGiven n) cause rule = (rule.0, rule.1, rule.2, lost_steps rule.0 rule.3)
  lost_answers took took_part faults old new NotFound cause rule = (rule.0, lost_refused RefusedNotFound rule.1)
  lost_answers took took_part faults old new NotDirectory cause rule = (rule.0, lost_refused RefusedNotDirectory rule.1)
  lost_answers took took_part faults old new (Bad bad) cause rule = (rule.0, lost_refused (RefusedBad bad) rule.1)
  lost_answers took took_part faults old new Unavailable cause rule = (rule.0, lost_gone rule.1 (cause tt))
  lost_answers took took_part faults old new NotRegular cause rule = (rule.0, lost_refused RefusedNotRegular rule.1)
  lost_answers took took_part faults old new (AnswerCut n) cause rule = (rule.0, rule.2, rule.3, lost_cut rule.0 rule.1 rule.4 rule.5)
  lost_answers took took_part faults old new SinkFault cause rule = (rule.0, rule.1, rule.3, lost_steps rule.0 rule.2)

  -- where there is memory
  pub lost_runs : {C E : Type 0} (took took_part : C → List PathOf → C → Type 0) (faults : C → ℕ) (old new : C) (result : Result CatAnswer E) → (IsUnansweredIn result → LosesBlock phase rack b)
      → IfOk result (IsAnswer took took_part faults old new (ReadsMarked (Walks phase rack a b) marks))
      → IfOk result (AnswersLost took took_part faults old new (λ reply. StepsTo phase phase rack a LostFiles reply b))
  lost_runs took took_part faults old new (Ok answer) cause rule = lost_answers took took_part faults old new answer cause rule
  lost_runs took took_part faults old new (Err e) cause rule = tt

  first_files : {C : Type 0} (took : C → List PathOf → C → Type 0) (old new : C) → HandsPaths took old new (ReadsMarked (Walks phase rack a b) marks)
      → HandsFiles took old new (λ reply. StepsTo phase phase rack a LostFiles reply b)
  first_files took old new (inl same) = inl same
  first_files took old new (inr some) = inr (some.0, some.1, some.2, lost_steps (some.0 ++ some.1) some.3)

  -- where there is none
  pub lost_wanting : {C E : Type 0} (took : C → List PathOf → C → Type 0) (old new : C) (result : Result CatAnswer E) → OnErr result (HandsPaths took old new (ReadsMarked (Walks phase rack a b) marks))
      → OnErr result (HandsFiles took old new (λ reply. StepsTo phase phase rack a LostFiles reply b))
  lost_wanting took old new (Ok answer) some = tt
  lost_wanting took old new (Err e) some = first_files took old new some
