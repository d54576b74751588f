-- What a commit leaves of a rack that keeps a checkpoint.
use Rattle.std.specs.Prelude.{◌≡◌, ◌⊎◌, ◌↔◌, ◌==◌, ℕ, Bool, true, false, List, Option, Some, None}
use Rattle.std.specs.Int.{bit_at}
use Rattle.dg_model.specs.Causes.{Rose}
use Rattle.dg_model.specs.States.{CountsRise}
use Rattle.dg_io.specs.Disks.{DisksFall}
use Rattle.dg_io.specs.Kept.{Kept}
use Rattle.dg_io.specs.Told.{Told, IsSame}
use Rattle.dg_io.specs.declared.checkpoints.CommitAnswer.{CommitAnswer}
use Rattle.dg_io.specs.declared.checkpoints.CommitAnswer.TheVariants.{Committed, Lost}
use Rattle.dg_io.specs.declared.outside.Rack.{Ghosts}

-- member q is one of the marked ones: bit q for member q
abbrev pub is_marked : ℕ → ℕ → Bool
is_marked marks q = bit_at marks q == 1

-- the members that fell: those that were to be kept, or those that the answer names
abbrev pub fell_in : ℕ → CommitAnswer → ℕ
fell_in keep (Committed sequence fell) = fell
fell_in keep Lost = keep

-- A new checkpoint: the bytes of each member of `keep` but for some that fell before anything was committed, and the extra bytes.
pub record IsNewKept (keep fell : ℕ) (extra : List ℕ) (bytes : ℕ → Option (List ℕ)) (kept : Kept) : Type 0 where
  pub others : (q : ℕ) → is_marked keep q ≡ false → kept.entries q ≡ None
  pub stand : (q : ℕ) → is_marked keep q ≡ true → is_marked fell q ≡ false → kept.entries q ≡ bytes q
  pub fallen : (q : ℕ) → is_marked keep q ≡ true → is_marked fell q ≡ true → (kept.entries q ≡ bytes q) ⊎ (kept.entries q ≡ None)
  pub extra_is : kept.extra ≡ extra

-- Which checkpoint is kept then: a new one, whatever was kept before; or, where no member is left, the old one, told or not, or a new one.
abbrev pub KeptAfter : {S : Type 0} → Ghosts S → ℕ → List ℕ → CommitAnswer → S → S → Type 0
KeptAfter rack keep extra (Committed sequence fell) old new =
    (kept : Option Kept) → rack.keeps old kept → (next : Kept) × IsNewKept keep fell extra (rack.bytes old) next × rack.keeps new (Some next)
KeptAfter rack keep extra Lost old new =
    (kept : Option Kept) → rack.keeps old kept
    → (rack.keeps new kept) ⊎ ((next : Kept) × IsNewKept keep keep extra (rack.bytes old) next × rack.keeps new (Some next))

-- What a commit leaves, with its answer. `room` is the room for extra bytes that the rack has.
pub record LeavesCommit {S : Type 0} (rack : Ghosts S) (room : S → Option ℕ) (keep : ℕ) (extra : List ℕ) (answer : CommitAnswer) (old new : S) : Type 0 where
  pub same_rack : rack.name new ≡ rack.name old
  pub steady_on : rack.steady old ↔ rack.steady new
  pub rise : CountsRise (rack.counts old) (rack.counts new)
  -- no member's bytes change, and what tells its bytes now did so before
  pub same : (q : ℕ) → Told IsSame (rack.bytes old q) (rack.bytes new q)
  pub told_before : (q : ℕ) → rack.tells new q → rack.tells old q
  -- a member fell only where its count rose, and each other one stands on; a member that isn't to be kept doesn't fall
  pub cause : (q : ℕ) → is_marked (fell_in keep answer) q ≡ true → Rose ((rack.counts old).faults q) ((rack.counts new).faults q)
  pub only : (q : ℕ) → is_marked keep q ≡ false → is_marked (fell_in keep answer) q ≡ false
  pub uncalled : (q : ℕ) → is_marked (fell_in keep answer) q ≡ false → (rack.counts new).faults q ≡ (rack.counts old).faults q
  pub stand_on : (q : ℕ) → is_marked (fell_in keep answer) q ≡ false → rack.stands new q ≡ rack.stands old q
  pub kept : KeptAfter rack keep extra answer old new
  pub disks_fall : DisksFall (rack.disks old) (rack.disks new)
  pub room_is : room new ≡ room old
