-- Members of the boundaries in use, named by bits. The rules are this project's own.
use Rattle.std.specs.Prelude.{◌≡◌, ◌≢◌, ◌&&◌, ℕ, true, List}
use Rattle.dg_io.specs.Commits.{is_marked}
use Rattle.dg_io.specs.declared.checkpoints.CommitAnswer.{CommitAnswer}
use Rattle.dg_io.specs.declared.checkpoints.CommitAnswer.TheVariants.{Committed, Lost}
use Rattle.dg_model.specs.Lives.{member_at}
use Rattle.dg_regroup.specs.LiveRacks.{is_there}

-- the marks with this member's too
pub record IsMarkedToo (old member new : ℕ) : Type 0 where
  pub here : is_marked new member ≡ true
  pub others : (q : ℕ) → q ≢ member → is_marked new q ≡ is_marked old q

-- the place of a marked member that has this number in the rack below
pub record IsMarkedAt (live : List ℕ) (marks number : ℕ) : Type 0 where
  pub place : ℕ
  pub there : is_there live place ≡ true
  pub is : member_at live place ≡ number
  pub marked : is_marked marks place ≡ true

-- The marks by the numbers of the rack below: those of the members that are there, and no others.
pub record AreMarksBelow (live : List ℕ) (marks below : ℕ) : Type 0 where
  pub there : (q : ℕ) → is_there live q ≡ true → is_marked below (member_at live q) ≡ is_marked marks q
  pub only : (p : ℕ) → is_marked below p ≡ true → IsMarkedAt live marks p

-- marks of the rack below, by places
abbrev pub AreMarksHere : List ℕ → ℕ → ℕ → Type 0
AreMarksHere live below marks = (q : ℕ) → is_marked marks q ≡ (is_there live q && is_marked below (member_at live q))

-- the answer of the rack below, by places
abbrev pub IsAnswerHere : List ℕ → CommitAnswer → CommitAnswer → Type 0
IsAnswerHere live (Committed sequence below) answer = (fell : ℕ) × AreMarksHere live below fell × (answer ≡ Committed sequence fell)
IsAnswerHere live Lost answer = answer ≡ Lost
