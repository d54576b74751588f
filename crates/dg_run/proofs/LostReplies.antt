-- What was written of the files that lost blocks.
use Rattle.std.proofs.Common.{◌≡◌, ℕ, List, refl, subst}
use Rattle.std.specs.Prelude.{codes}
use Rattle.dg_io.specs.Told.{Told, Took, TookPart}
use Rattle.dg_io.specs.declared.outside.Rack.{Ghosts}
use Rattle.dg_io.specs.declared.outside.Sink as sinks
use Rattle.dg_model.specs.Paths.{PathOf}
use Rattle.dg_model.specs.declared.events.Event.TheVariants.{LostFiles}
use Rattle.dg_model.specs.declared.replies.Reply.{Reply}
use Rattle.dg_model.specs.declared.replies.Reply.TheVariants.{LostFiles as LostFilesReply, LostFilesCut, NotSettled}
use Rattle.dg_run.proofs.ListedReplies.{Lent, Listing}
use Rattle.dg_run.proofs.PathReplies.{reply_is}
use Rattle.dg_run.specs.declared.arrays.Array.{Array}
use Rattle.dg_saved.specs.PathReplies.{HasReply}
use Rattle.dg_text.specs.LostLines.{TookLost, TookLostPart}
use Rattle.dg_text.specs.Replies.{lost_text}
use Rattle.dg_text.specs.declared.lost_lines.LostLines.{LostLines}
use Rattle.dg_volume.specs.LostFiles.{AnswersLost, AnswersLostAny}
use Rattle.dg_volume.specs.declared.settled_paths.TreeAnswer.{TreeAnswer}
use Rattle.dg_volume.specs.declared.settled_paths.TreeAnswer.TheVariants.{Is as TreeIs, NotSettled as TreeNotSettled}
use Rattle.ufs_path.specs.declared.faults.CatAnswer.{CatAnswer}
use Rattle.ufs_path.specs.declared.faults.CatAnswer.TheVariants.{Given as AnswerGiven, NotFound, NotDirectory, Bad, Unavailable, NotRegular, Cut as AnswerCut, SinkFault}

-- the reply that gave nothing
pub lost_nothing : {S : Type 0} (took took_part : S → List PathOf → S → Type 0) (faults : S → ℕ) (old new : S) (holds : Reply → Type 0) (answer : CatAnswer)
    → (has : HasReply answer) → AnswersLost took took_part faults old new holds answer → (new ≡ old) × holds has.reply
lost_nothing took took_part faults old new holds (AnswerGiven n) has rule = let is = has.is in absurd (cc is)
lost_nothing took took_part faults old new holds NotFound has rule = reply_is holds _ has.reply has.is rule
lost_nothing took took_part faults old new holds NotDirectory has rule = reply_is holds _ has.reply has.is rule
lost_nothing took took_part faults old new holds (Bad bad) has rule = reply_is holds _ has.reply has.is rule
lost_nothing took took_part faults old new holds Unavailable has rule = reply_is holds _ has.reply has.is rule
lost_nothing took took_part faults old new holds NotRegular has rule = reply_is holds _ has.reply has.is rule
lost_nothing took took_part faults old new holds (AnswerCut n) has rule = let is = has.is in absurd (cc is)
lost_nothing took took_part faults old new holds SinkFault has rule = let is = has.is in absurd (cc is)

-- a volume that isn't settled
pub loose_lost : {S : Type 0} (took took_part : S → List PathOf → S → Type 0) (faults : S → ℕ) (old new : S) (holds : Reply → Type 0) (told : TreeAnswer)
    → ((answer : CatAnswer) → told ≡ TreeIs answer → ⊥) → AnswersLostAny took took_part faults old new holds told → (new ≡ old) × holds NotSettled
loose_lost took took_part faults old new holds (TreeIs answer) other rule = absurd (other answer refl)
loose_lost took took_part faults old new holds TreeNotSettled other rule = rule

-- their listing, and the sink that was lent for its lines
abbrev pub lost : Listing PathOf
lost = record {
  event = LostFiles;
  text = lost_text;
  in_use = λ reply. tt;
  whole = record { word = codes "end "; reply = LostFilesReply; line = λ files. refl };
  cut = record { word = codes "cut "; reply = LostFilesCut; line = λ files. refl };
}

pub lost_lent : {K R : Type 0} (ghosts : sinks.Ghosts K) (rack : Ghosts R) (sink : K) (old out : LostLines K) (a b : Array R) → old.sink.now ≡ sink → b.hot ≡ a.hot
    → Lent lost ghosts rack sink (λ (s : LostLines K). s.sink.now) (TookLost ghosts) (TookLostPart ghosts) old out a b
lost_lent {K = K} ghosts rack sink old out a b is hot = record {
  is = is;
  told = λ files took. subst (λ (k : K). Told (Took (lost_text files)) (ghosts.taken k) (ghosts.taken out.sink.now)) is took.told;
  part = λ files took. subst (λ (k : K). Told (TookPart (lost_text files)) (ghosts.taken k) (ghosts.taken out.sink.now)) is took.told;
  few = λ files took. took.few_lines;
  hot = hot;
}
