-- The reply at a path that gave nothing. It stands here since the crate above cites it.
use Rattle.std.proofs.Common.{◌≡◌, ℕ, List, refl, subst}
use Rattle.std.specs.Prelude.{Some, false}
use Rattle.dg_model.specs.declared.replies.Reply.{Reply}
use Rattle.dg_model.specs.declared.replies.Reply.TheVariants.{Refused, Unavailable as ReplyUnavailable}
use Rattle.dg_saved.specs.Serves.{reply_at}
use Rattle.dg_saved.specs.Texts.{cat_text, gives_file, gives_listing, ls_text}
use Rattle.dg_text.specs.Replies.{reply_line}
use Rattle.dg_volume.specs.Replies.{AnswersCat, AnswersLs}
use Rattle.ufs_model.specs.Listings.{Listed}
use Rattle.ufs_model.specs.declared.reads.PathRefusal.TheVariants.{NotFound as RefusedNotFound, NotDirectory as RefusedNotDirectory, NotRegular as RefusedNotRegular, Bad as RefusedBad}
use Rattle.ufs_path.specs.declared.faults.CatAnswer.{CatAnswer}
use Rattle.ufs_path.specs.declared.faults.CatAnswer.TheVariants.{Given as AnswerGiven, NotFound, NotDirectory, Bad, Unavailable, NotRegular, Cut as AnswerCut, SinkFault}

-- the reply gives no file and no listing, and its text is its line
pub record IsPlain (reply : Reply) : Type 0 where
  pub no_file : gives_file reply ≡ false
  pub file_line : cat_text reply ≡ reply_line reply
  pub no_listing : gives_listing reply ≡ false
  pub listing_line : ls_text reply ≡ reply_line reply

-- the reply to an answer
pub record HasReply (answer : CatAnswer) : Type 0 where
  pub reply : Reply
  pub is : reply_at answer ≡ Some reply
  pub plain : IsPlain reply

-- each answer but these three has one
pub has_reply : (answer : CatAnswer) → ((n : ℕ) → answer ≡ AnswerGiven n → ⊥) → ((n : ℕ) → answer ≡ AnswerCut n → ⊥) → (answer ≡ SinkFault → ⊥) → HasReply answer
has_reply (AnswerGiven n) given cut fault = absurd (given n refl)
has_reply NotFound given cut fault = record { reply = Refused RefusedNotFound; is = refl; plain = record { no_file = refl; file_line = refl; no_listing = refl; listing_line = refl } }
has_reply NotDirectory given cut fault = record { reply = Refused RefusedNotDirectory; is = refl; plain = record { no_file = refl; file_line = refl; no_listing = refl; listing_line = refl } }
has_reply (Bad bad) given cut fault = record { reply = Refused (RefusedBad bad); is = refl; plain = record { no_file = refl; file_line = refl; no_listing = refl; listing_line = refl } }
has_reply Unavailable given cut fault = record { reply = ReplyUnavailable; is = refl; plain = record { no_file = refl; file_line = refl; no_listing = refl; listing_line = refl } }
has_reply NotRegular given cut fault = record { reply = Refused RefusedNotRegular; is = refl; plain = record { no_file = refl; file_line = refl; no_listing = refl; listing_line = refl } }
has_reply (AnswerCut n) given cut fault = absurd (cut n refl)
has_reply SinkFault given cut fault = absurd (fault refl)

-- where a file isn't given, nothing was handed on, and the reply holds
pub cat_nothing : {S : Type 0} (took took_part : S → List ℕ → S → Type 0) (faults : S → ℕ) (old new : S) (l : ℕ) (gives holds : Reply → Type 0) (answer : CatAnswer)
    → (has : HasReply answer) → AnswersCat took took_part faults old new l gives holds answer → (new ≡ old) × holds has.reply
cat_nothing took took_part faults old new l gives holds (AnswerGiven n) has rule = let is = has.is in absurd (cc is)
cat_nothing took took_part faults old new l gives holds NotFound has rule =
    let is = has.is in
    let same : Refused RefusedNotFound ≡ has.reply = cc is in
    (rule.0, subst holds same rule.1)
cat_nothing took took_part faults old new l gives holds NotDirectory has rule =
    let is = has.is in
    let same : Refused RefusedNotDirectory ≡ has.reply = cc is in
    (rule.0, subst holds same rule.1)
cat_nothing took took_part faults old new l gives holds (Bad bad) has rule =
    let is = has.is in
    let same : Refused (RefusedBad bad) ≡ has.reply = cc is in
    (rule.0, subst holds same rule.1)
cat_nothing took took_part faults old new l gives holds Unavailable has rule =
    let is = has.is in
    let same : ReplyUnavailable ≡ has.reply = cc is in
    (rule.0, subst holds same rule.1)
cat_nothing took took_part faults old new l gives holds NotRegular has rule =
    let is = has.is in
    let same : Refused RefusedNotRegular ≡ has.reply = cc is in
    (rule.0, subst holds same rule.1)
cat_nothing took took_part faults old new l gives holds (AnswerCut n) has rule = let is = has.is in absurd (cc is)
cat_nothing took took_part faults old new l gives holds SinkFault has rule = let is = has.is in absurd (cc is)

-- the same of a directory
pub ls_nothing : {S : Type 0} (took took_part : S → List Listed → S → Type 0) (faults : S → ℕ) (old new : S) (holds : Reply → Type 0) (answer : CatAnswer)
    → (has : HasReply answer) → AnswersLs took took_part faults old new holds answer → (new ≡ old) × holds has.reply
ls_nothing took took_part faults old new holds (AnswerGiven n) has rule = let is = has.is in absurd (cc is)
ls_nothing took took_part faults old new holds NotFound has rule =
    let is = has.is in
    let same : Refused RefusedNotFound ≡ has.reply = cc is in
    (rule.0, subst holds same rule.1)
ls_nothing took took_part faults old new holds NotDirectory has rule =
    let is = has.is in
    let same : Refused RefusedNotDirectory ≡ has.reply = cc is in
    (rule.0, subst holds same rule.1)
ls_nothing took took_part faults old new holds (Bad bad) has rule =
    let is = has.is in
    let same : Refused (RefusedBad bad) ≡ has.reply = cc is in
    (rule.0, subst holds same rule.1)
ls_nothing took took_part faults old new holds Unavailable has rule =
    let is = has.is in
    let same : ReplyUnavailable ≡ has.reply = cc is in
    (rule.0, subst holds same rule.1)
ls_nothing took took_part faults old new holds NotRegular has rule =
    let is = has.is in
    let same : Refused RefusedNotRegular ≡ has.reply = cc is in
    (rule.0, subst holds same rule.1)
ls_nothing took took_part faults old new holds (AnswerCut n) has rule = let is = has.is in absurd (cc is)
ls_nothing took took_part faults old new holds SinkFault has rule = let is = has.is in absurd (cc is)
