-- What became of reading files, as it is counted.
use Rattle.std.specs.Prelude.{◌≡◌, ◌+◌, ℕ, Bool, List, if◌then◌else◌}
use Rattle.dg_drill.specs.Reports.{given_bytes, given_count, gives, is_unavailable, unavailable_count}
use Rattle.dg_drill.specs.declared.reads.Outcome.{Outcome}
use Rattle.dg_drill.specs.declared.reads.Outcome.TheVariants.{Given, Other, Unavailable}
use Rattle.dg_drill.specs.declared.reads.Tally.{Tally}
use Rattle.dg_model.specs.declared.replies.Reply.{Reply}
use Rattle.ufs_path.specs.declared.faults.CatAnswer.{CatAnswer}
use Rattle.ufs_path.specs.declared.faults.CatAnswer.TheVariants.{Given as AnswerGiven, Unavailable as AnswerUnavailable}

-- by the reply to reading a file that should have these bytes
abbrev pub outcome_of : List ℕ → Reply → Outcome
outcome_of wanted reply = if gives wanted reply then Given else if is_unavailable reply then Unavailable else Other

-- by the answer of the volume, and by whether it gave just the bytes of the file
abbrev pub outcome_by : CatAnswer → Bool → Outcome
outcome_by (AnswerGiven n) whole = if whole then Given else Other
outcome_by AnswerUnavailable whole = Unavailable
outcome_by answer whole = Other

-- a tally to which a file of so many bytes is added
abbrev pub with_outcome : Outcome → ℕ → Tally → Tally
with_outcome Given size tally = record { given = tally.given + 1; bytes = tally.bytes + size; unavailable = tally.unavailable }
with_outcome Unavailable size tally = record tally { unavailable = tally.unavailable + 1 }
with_outcome Other size tally = tally

-- the tally of these replies, to the reading of the first files
pub record IsTally (seed : ℕ) (replies : List Reply) (tally : Tally) : Type 0 where
  pub given_is : tally.given ≡ given_count seed 0 replies
  pub bytes_are : tally.bytes ≡ given_bytes seed 0 replies
  pub unavailable_is : tally.unavailable ≡ unavailable_count replies
