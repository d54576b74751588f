-- What is known of a kept checkpoint beside what is reopened, so that it outlives a member that is made anew. The rules are this project's own.
use Rattle.std.specs.Prelude.{◌≡◌, ◌⊎◌, ℕ, Bool, true, List, None}
use Rattle.dg_io.specs.Kept.{Kept}
use Rattle.dg_stop.specs.Headers.{Header}
use Rattle.dg_stop.specs.Reopens.{IsCommitted, IsLast, KeptBy, Reopened}
use Rattle.dg_stop.specs.Stops.{AreOfOne}

-- Commit c kept it, the headers of c are of one commit, and each standing member has a committed one or no entry.
pub record IsHeldBy (stands : ℕ → Bool) (all : ℕ → List ℕ) (c : ℕ) (kept : Kept) : Type 0 where
  pub lead : Header
  pub by : KeptBy all c lead kept
  pub one : AreOfOne c lead kept.extra all
  pub on : (q : ℕ) → stands q ≡ true → ((k : Header) × IsCommitted all c q k) ⊎ (kept.entries q ≡ None)

-- so it is of the last commit, if there is one
abbrev pub IsAnchored : (ℕ → Bool) → (ℕ → List ℕ) → Kept → Type 0
IsAnchored stands all kept = (c : ℕ) → IsLast all c → IsHeldBy stands all c kept

-- the members are reopened as this checkpoint, and it is anchored
pub record Holds (stands : ℕ → Bool) (all : ℕ → List ℕ) (kept : Kept) : Type 0 where
  pub reopened : Reopened all kept
  pub anchored : IsAnchored stands all kept

-- they are reopened so after a change too, and it is anchored if it was
pub record Stays (stands on : ℕ → Bool) (before after : ℕ → List ℕ) (kept : Kept) : Type 0 where
  pub reopened : Reopened after kept
  pub anchored : IsAnchored stands before kept → IsAnchored on after kept
