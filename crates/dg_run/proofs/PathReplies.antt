-- The reply at the root that gave nothing.
use Rattle.std.proofs.Common.{◌≡◌, ℕ, List, refl, subst}
use Rattle.std.specs.Prelude.{Some}
use Rattle.dg_model.specs.declared.replies.Reply.{Reply}
use Rattle.dg_model.specs.declared.replies.Reply.TheVariants.{NotSettled}
use Rattle.dg_saved.specs.PathReplies.{HasReply}
use Rattle.dg_volume.specs.Replies.{AnswersTree, AnswersTreeAny}
use Rattle.dg_volume.specs.declared.settled_paths.TreeAnswer.{TreeAnswer}
use Rattle.dg_volume.specs.declared.settled_paths.TreeAnswer.TheVariants.{Is as TreeIs, NotSettled as TreeNotSettled}
use Rattle.ufs_model.specs.Listings.{Listed}
use Rattle.ufs_path.specs.declared.faults.CatAnswer.{CatAnswer}
use Rattle.ufs_path.specs.declared.faults.CatAnswer.TheVariants.{Given as AnswerGiven, NotFound, NotDirectory, Bad, Unavailable, NotRegular, Cut as AnswerCut, SinkFault}

-- it is the reply that is told
pub reply_is : {P : Type 0} (holds : Reply → Type 0) (x y : Reply) → Some x ≡ Some y → P × holds x → P × holds y
reply_is holds x y is rule = let same : x ≡ y = cc is in (rule.0, subst holds same rule.1)

-- of all directories
pub tree_nothing : {S : Type 0} (took took_part : S → List Listed → S → Type 0) (faults : S → ℕ) (old new : S) (holds : Reply → Type 0) (answer : CatAnswer)
    → (has : HasReply answer) → AnswersTree took took_part faults old new holds answer → (new ≡ old) × holds has.reply
tree_nothing took took_part faults old new holds (AnswerGiven n) has rule = let is = has.is in absurd (cc is)
tree_nothing took took_part faults old new holds NotFound has rule = reply_is holds _ has.reply has.is rule
tree_nothing took took_part faults old new holds NotDirectory has rule = reply_is holds _ has.reply has.is rule
tree_nothing took took_part faults old new holds (Bad bad) has rule = reply_is holds _ has.reply has.is rule
tree_nothing took took_part faults old new holds Unavailable has rule = reply_is holds _ has.reply has.is rule
tree_nothing took took_part faults old new holds NotRegular has rule = reply_is holds _ has.reply has.is rule
tree_nothing took took_part faults old new holds (AnswerCut n) has rule = let is = has.is in absurd (cc is)
tree_nothing took took_part faults old new holds SinkFault has rule = let is = has.is in absurd (cc is)

-- a volume that isn't settled
pub loose_tree : {S : Type 0} (took took_part : S → List Listed → S → Type 0) (faults : S → ℕ) (old new : S) (holds : Reply → Type 0) (told : TreeAnswer)
    → ((answer : CatAnswer) → told ≡ TreeIs answer → ⊥) → AnswersTreeAny took took_part faults old new holds told → (new ≡ old) × holds NotSettled
loose_tree took took_part faults old new holds (TreeIs answer) other rule = absurd (other answer refl)
loose_tree took took_part faults old new holds TreeNotSettled other rule = rule
