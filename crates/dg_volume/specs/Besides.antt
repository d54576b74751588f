-- Opening a saved array with what a rack keeps beside its state.
use Rattle.std.specs.Prelude.{◌≡◌, ◌≢◌, ◌⊎◌, ◌+◌, ◌*◌, ◌<◌, ◌≤◌, ℕ, true, false, List, [], Option, Some, None, IfSome, IsSomeAnd, length}
use Rattle.std.specs.List.{All, Contains}
use Rattle.dg_io.specs.declared.outside.Rack.{Ghosts}
use Rattle.dg_model.specs.Marks.{marked}
use Rattle.dg_model.specs.Openings.{FitsReduced, Found, IsSource, Reduced, all_in_use}
use Rattle.dg_model.specs.Saves.{Label, SavedState}
use Rattle.dg_model.specs.Sites.{has_site}
use Rattle.dg_model.specs.Tables.{Table, sites_in}
use Rattle.dg_open.specs.Reopenings.{AreReadOf, FindsNoState, FindsUnclean, LeavesRead}
use Rattle.dg_regroup.specs.ExtraBytes.{HasNoExtra}
use Rattle.dg_regroup.specs.Extras.{IsExtra, extra_bytes}
use Rattle.dg_regroup.specs.declared.extras.Extra.{Extra}
use Rattle.dg_volume.specs.Opens.{HasOpenedBeside}
use Rattle.dg_volume.specs.Volumes.{shape_of, table_of}
use Rattle.dg_volume.specs.declared.opens.OpenAnswer.{OpenAnswer}
use Rattle.dg_volume.specs.declared.opens.OpenAnswer.TheVariants.{NoState, Opened, Unclean}
use Rattle.dg_volume.specs.declared.phases.AnyPhase.{AnyPhase}
use Rattle.dg_volume.specs.declared.volumes.Volume.{Volume}

-- ---- what the bytes say

-- there are none, or they are those of this
abbrev pub IsKept : List ℕ → Option Extra → Type 0
IsKept bytes None = bytes ≡ []
IsKept bytes (Some extra) = IsExtra extra × (bytes ≡ extra_bytes extra)

-- there are some, and they are those of nothing
pub record SayNothing (bytes : List ℕ) : Type 0 where
  pub some : bytes ≢ []
  pub none : HasNoExtra bytes

-- ---- whether it fits

-- this much room is enough for what an array with so many blocks may keep; where none is told, it keeps nothing
abbrev pub IsEnough : ℕ → Option ℕ → Type 0
IsEnough n room = IfSome room (λ bytes. 30 + 4 * n ≤ bytes)

abbrev pub IsTooLittle : ℕ → Option ℕ → Type 0
IsTooLittle n room = IsSomeAnd room (λ bytes. bytes < 30 + 4 * n)

-- block b is one of an array with these sites, and has none
abbrev pub CanBeCut : Table → ℕ → Type 0
CanBeCut table b = (b < table.shape.n) × (has_site (sites_in table b) ≡ false)

abbrev pub CannotBeCut : Table → ℕ → Type 0
CannotBeCut table b = (table.shape.n ≤ b) ⊎ (has_site (sites_in table b) ≡ true)

-- as many boundaries are in use as the array has, and each cut block can be one
pub record FitsTable (table : Table) (extra : Extra) : Type 0 where
  pub number : length extra.live ≡ table.shape.b
  pub cut : All (CanBeCut table) extra.cut

-- a cut block that can't be one
pub record HasBadCut (table : Table) (extra : Extra) : Type 0 where
  pub block : ℕ
  pub there : Contains extra.cut block
  pub bad : CannotBeCut table block

-- not as many boundaries are in use, or there is such a cut block
abbrev pub FitsNot : Table → Extra → Type 0
FitsNot table extra = (length extra.live ≢ table.shape.b) ⊎ HasBadCut table extra

-- With this room an array with these sites can't be opened with what is kept.
abbrev pub CannotOpen : Table → Option ℕ → Option Extra → Type 0
CannotOpen table room kept = IsTooLittle table.shape.n room ⊎ IsSomeAnd kept (FitsNot table)

-- This is what is kept, as it stands beside an array with these sites: the boundaries of the first line and those in use, and a mark for each cut
-- block. It fits the array.
pub record IsReducedBy (table : Table) (extra : Extra) (reduced : Reduced) : Type 0 where
  pub boundaries : reduced.boundaries ≡ extra.boundaries
  pub live : reduced.live ≡ extra.live
  pub cut : marked reduced.cut ≡ extra.cut
  pub fits : FitsReduced table reduced

-- this is in use of such an array, and cut, by what is kept: where nothing is, all boundaries, and no block
abbrev pub IsReducedOr : Table → Option Extra → Reduced → Type 0
IsReducedOr table None reduced = reduced ≡ all_in_use table.shape
IsReducedOr table (Some extra) reduced = IsReducedBy table extra reduced

-- this stands beside its saved state: nothing where nothing is kept
abbrev pub StandsBeside : Table → Option Extra → Option Reduced → Type 0
StandsBeside table None beside = beside ≡ None
StandsBeside table (Some extra) beside = IsSomeAnd beside (IsReducedBy table extra)

-- ---- answers

-- The volume that was opened with what is kept, of a rack with this room.
pub record OpensKept {R : Type 0} (rack : Ghosts R) (room : Option ℕ) (kept : Option Extra) (before : R) (volume : Volume AnyPhase R) (hot : List ℕ) : Type 0 where
  pub beside : Option Reduced
  pub stands : StandsBeside (table_of volume) kept beside
  pub enough : IsEnough (shape_of volume).n room
  pub opened : HasOpenedBeside rack beside before volume hot

-- A state was found that can't be opened with what is kept: of the members this was taken, and the first of the newest that says a state says this
-- one. Nothing was written.
pub record FindsUnfit {R : Type 0} (rack : Ghosts R) (room : Option ℕ) (kept : Option Extra) (before now : R) : Type 0 where
  pub taken : ℕ → Option Found
  pub read : AreReadOf rack before now taken
  pub source : ℕ
  pub label : Label
  pub saved : SavedState
  pub is_source : IsSource taken source label saved
  pub cannot : CannotOpen saved.table room kept
  pub leaves : LeavesRead rack before now

-- by each answer
abbrev pub AnswersKept : {R : Type 0} → Ghosts R → Option ℕ → Option Extra → R → OpenAnswer R → Type 0
AnswersKept rack room kept before (Opened volume hot) = OpensKept rack room kept before volume hot
AnswersKept rack room kept before (NoState now) = FindsNoState rack before now ⊎ FindsUnfit rack room kept before now
AnswersKept rack room kept before (Unclean now) = FindsUnclean rack before now

-- the answer with what these bytes say is kept
pub record AnswersBytes {R : Type 0} (rack : Ghosts R) (room : R → Option ℕ) (before : R) (bytes : List ℕ) (answer : OpenAnswer R) : Type 0 where
  pub kept : Option Extra
  pub is : IsKept bytes kept
  pub answers : AnswersKept rack (room before) kept before answer

-- By the bytes: where they say nothing there is no state, and nothing was done.
abbrev pub AnswersOpenKept : {R : Type 0} → Ghosts R → (R → Option ℕ) → R → List ℕ → OpenAnswer R → Type 0
AnswersOpenKept rack room before bytes (Opened volume hot) = AnswersBytes rack room before bytes (Opened volume hot)
AnswersOpenKept rack room before bytes (NoState now) = (SayNothing bytes × (now ≡ before)) ⊎ AnswersBytes rack room before bytes (NoState now)
AnswersOpenKept rack room before bytes (Unclean now) = AnswersBytes rack room before bytes (Unclean now)
