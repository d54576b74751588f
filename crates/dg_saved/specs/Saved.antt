-- What a command on a saved array found, and what it did, told by the members and the counts of the rack.
use Rattle.std.specs.Prelude.{◌≡◌, ◌⊎◌, ◌<◌, ◌≤◌, ◌/◌, ℕ, List, Option, Some, None}
use Rattle.dg_io.specs.Told.{IsSame, Told}
use Rattle.dg_model.specs.Lives.{all_live}
use Rattle.dg_model.specs.Members.{MembersFall}
use Rattle.dg_model.specs.Openings.{Found, HasNoState, IsSource, IsUnclean, MayBeGood, Opens, Reduced}
use Rattle.dg_model.specs.Saves.{Label, SavedState}
use Rattle.dg_model.specs.States.{Counts, CountsRise, HoldsAll, StandsFor, State}
use Rattle.dg_model.specs.Steps.{Step}
use Rattle.dg_model.specs.Tables.{Table}
use Rattle.dg_model.specs.declared.events.Event.{Event}
use Rattle.dg_model.specs.declared.members.MemberState.{MemberState}
use Rattle.dg_model.specs.declared.members.MemberState.TheVariants.{Good, Out}
use Rattle.dg_model.specs.declared.phases.Phase.{Phase}
use Rattle.dg_model.specs.declared.replies.Reply.{Reply}
use Rattle.dg_open.specs.Founds.{AreRead}
use Rattle.dg_regroup.specs.declared.extras.Extra.{Extra}
use Rattle.dg_saved.specs.Calls.{Facts}
use Rattle.dg_saved.specs.Texts.{array_text, status_text}
use Rattle.dg_volume.specs.Besides.{CannotOpen, IsEnough, IsKept, SayNothing, StandsBeside}

-- ---- nothing to open

-- What is kept beside the state, by the extra bytes, and what was taken of the members of the rack, as they stood and stand. Nothing was written, each
-- member that tells its bytes has those that it had, and no count fell.
pub record HasLooked (facts : Facts) : Type 0 where
  pub kept : Option Extra
  pub is_kept : IsKept facts.extra kept
  pub taken : ℕ → Option Found
  pub read : AreRead facts.bytes facts.before.faults facts.now.faults taken
  pub same : (q : ℕ) → Told IsSame (facts.images q) (facts.bytes q)
  pub rise : CountsRise facts.before facts.now
  pub writes : facts.now.writes ≡ facts.before.writes

-- no state was found
pub record FoundNone (facts : Facts) : Type 0 where
  pub looked : HasLooked facts
  pub none : HasNoState looked.taken

-- A state was found that can't be opened with what is kept: this doesn't fit it, or the rack has too little room.
pub record FoundUnfit (facts : Facts) : Type 0 where
  pub looked : HasLooked facts
  pub source : ℕ
  pub label : Label
  pub saved : SavedState
  pub is_source : IsSource looked.taken source label saved
  pub cannot : CannotOpen saved.table facts.room looked.kept

-- the extra bytes say nothing, and no call was made
pub record SaysNothing (facts : Facts) : Type 0 where
  pub nothing : SayNothing facts.extra
  pub counts : facts.now ≡ facts.before
  pub same : facts.bytes ≡ facts.images

-- there is no saved array
abbrev pub FoundNoState : Facts → Type 0
FoundNoState facts = FoundNone facts ⊎ (FoundUnfit facts ⊎ SaysNothing facts)

-- the array was written after its last save
pub record FoundUnclean (facts : Facts) : Type 0 where
  pub looked : HasLooked facts
  pub unclean : IsUnclean looked.taken

-- ---- a saved array

-- the bytes that a member had before, where they are told now
abbrev pub had : Option (List ℕ) → Option (List ℕ) → Option (List ℕ)
had before None = None
had before (Some now) = before

-- of each member of an array with these sites the rack tells the bytes as long as the member stands
abbrev pub TellsArray : (ℕ → Type 0) → Table → Type 0
TellsArray tells table = (q : ℕ) → q / 2 < table.shape.b → tells q

-- each member behind those of an array with these sites has the bytes that it had, where it tells them
abbrev pub OthersKept : Facts → Table → Type 0
OthersKept facts table = (q : ℕ) → table.shape.b ≤ q / 2 → Told IsSame (facts.images q) (facts.bytes q)

-- What an array was opened from, when the rack had these counts, of which none fell: what is kept, as it stands beside the state; what was taken of the
-- members, as they stood before; the first of the newest that says a state, for which there is room enough; and what each member did before blocks
-- were read, and when it had been opened. It was good at first only where it may be, and one whose count of faults rose was out. Nothing was written.
pub record HasSource (facts : Facts) (opened : Counts) : Type 0 where
  pub kept : Option Extra
  pub is_kept : IsKept facts.extra kept
  pub taken : ℕ → Option Found
  pub read : AreRead (λ q. had (facts.images q) (facts.bytes q)) facts.before.faults opened.faults taken
  pub rise : CountsRise facts.before opened
  pub writes : opened.writes ≡ facts.before.writes
  pub source : ℕ
  pub label : Label
  pub saved : SavedState
  pub is_source : IsSource taken source label saved
  pub beside : Option Reduced
  pub stands : StandsBeside saved.table kept beside
  pub enough : IsEnough saved.table.shape.n facts.room
  pub first : ℕ → MemberState
  pub first_are : (q : ℕ) → ((first q ≡ Good) × MayBeGood taken label saved q) ⊎ (first q ≡ Out)
  pub members : ℕ → MemberState
  pub fell : (q : ℕ) → facts.before.faults q < opened.faults q → members q ≡ Out
  pub falls : MembersFall facts.before.faults opened.faults first members

-- the numbers of the boundaries in use, of an array with these sites, by what stands beside its state: where nothing does, all
abbrev pub live_by : Table → Option Reduced → List ℕ
live_by table None = all_live table.shape.b
live_by table (Some reduced) = reduced.live

-- The members held these blocks before.
abbrev pub IsHeld : (facts : Facts) (opened : Counts) → HasSource facts opened → List (List ℕ) → Type 0
IsHeld facts opened source V = StandsFor source.saved.table source.first facts.images V

-- What is said of the array with these blocks is said of them where the rack still tells each of its members in the end (`tells`), of which
-- some may have fallen by then, and the members held these blocks before. Two of them may disagree, and then it is said of no blocks; all
-- else stands.
abbrev pub IsKnown : (tells : ℕ → Type 0) (facts : Facts) (opened : Counts) → HasSource facts opened → List (List ℕ) → Type 0
IsKnown tells facts opened source V = TellsArray tells source.saved.table × IsHeld facts opened source V

-- The array was opened in this state, with these blocks, the sites of its source, and what stands beside it.
pub record IsOpenedAs (tells : ℕ → Type 0) (facts : Facts) (opened : Counts) (source : HasSource facts opened) (V : List (List ℕ)) (state : State) : Type 0 where
  pub blocks : state.blocks ≡ V
  pub opens : Opens (IsKnown tells facts opened source V) source.taken source.beside facts.before state
  pub table : state.table ≡ source.saved.table
  pub members : state.members ≡ source.members
  pub counts : state.counts ≡ opened

-- With these blocks, the event was one step from the opened state, to one that has the counts of the rack; and where the blocks are known the
-- members hold it.
pub record RunsFrom (tells : ℕ → Type 0) (facts : Facts) (opened : Counts) (source : HasSource facts opened) (event : Event) (reply : Reply)
    (V : List (List ℕ)) : Type 0 where
  pub state : State
  pub is : IsOpenedAs tells facts opened source V state
  pub next : State
  pub step : Step (IsKnown tells facts opened source V) state event reply next
  pub counts : next.counts ≡ facts.now
  pub holds : IsKnown tells facts opened source V → HoldsAll facts.bytes next

-- A saved array was opened, and the event was answered by this reply, whichever blocks it is said of. No count fell from then on, and the
-- members behind the array's own have the bytes that they had.
pub record HasRun (tells : ℕ → Type 0) (facts : Facts) (event : Event) (reply : Reply) : Type 0 where
  pub opened : Counts
  pub source : HasSource facts opened
  pub rise : CountsRise opened facts.now
  pub others : OthersKept facts source.saved.table
  pub runs : (V : List (List ℕ)) → RunsFrom tells facts opened source event reply V

-- With these blocks, the array was opened in a state of which this text tells, and the members hold it where the blocks are known.
pub record ShowsFrom (tells : ℕ → Type 0) (facts : Facts) (source : HasSource facts facts.now) (text : List ℕ) (V : List (List ℕ)) : Type 0 where
  pub state : State
  pub is : IsOpenedAs tells facts facts.now source V state
  pub text_is : text ≡ status_text state
  pub holds : IsKnown tells facts facts.now source V → HoldsAll facts.bytes state

-- A saved array was opened, and this text tells of its state, whichever blocks that is said of. It has the sites that its source says, the boundaries
-- in use that are kept, and its members; those behind them have the bytes that they had.
pub record HasShown (tells : ℕ → Type 0) (facts : Facts) (text : List ℕ) : Type 0 where
  pub source : HasSource facts facts.now
  pub phase : Phase
  pub others : OthersKept facts source.saved.table
  pub text_is : text ≡ array_text source.saved.table (live_by source.saved.table source.beside) source.members phase
  pub shows : (V : List (List ℕ)) → ShowsFrom tells facts source text V
