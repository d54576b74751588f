-- What an array that keeps a checkpoint keeps, event by event: what is reopened after a run, wherever it was stopped. The rules are this project's own.
use Rattle.std.specs.Prelude.{◌≡◌, ◌⊎◌, ◌+◌, ◌*◌, ◌/◌, ◌%◌, ◌<◌, ◌==◌, ◌&&◌, ◌||◌, nat_lt, not, is_some, ℕ, Bool, true, false, List, [], ◌∷◌, Option, None, Some, IsSome, if◌then◌else◌, length}
use Rattle.std.specs.List.{list_any, range_with_len}
use Rattle.dg_io.specs.Kept.{IsNothing, Kept}
use Rattle.dg_model.specs.Lives.{member_at}
use Rattle.dg_model.specs.Marks.{marked}
use Rattle.dg_model.specs.Members.{is_filling, is_good}
use Rattle.dg_model.specs.Moments.{Happens, IsInUse, Kind, Makes, Moment, faults_at}
use Rattle.dg_model.specs.Moments.Kind.{double}
use Rattle.dg_model.specs.Saves.{member_length}
use Rattle.dg_model.specs.States.{Counts, HoldsAll, State, place_of}
use Rattle.dg_model.specs.Steps.{Step}
use Rattle.dg_model.specs.declared.events.Event.{Event}
use Rattle.dg_model.specs.declared.events.Event.TheVariants.{Replace, Safe, Save}
use Rattle.dg_model.specs.declared.members.MemberState.{MemberState}
use Rattle.dg_model.specs.declared.members.MemberState.TheVariants.{Good, Filling, Out}
use Rattle.dg_model.specs.declared.replies.Reply.{Reply}
use Rattle.dg_model.specs.declared.replies.Reply.TheVariants.{Done, Failed, Lost, Saved}
use Rattle.dg_regroup.specs.Extras.{extra_bytes}
use Rattle.dg_regroup.specs.FrontRacks.{shown as shown_as}
use Rattle.dg_regroup.specs.declared.extras.Extra.{Extra}
use Rattle.dg_stop.specs.DoubleOpenings.{IsOfOne}
use Rattle.dg_stop.specs.Phases.{TellsAll, known_at}
use Rattle.dg_stop.specs.Reopens.{Reopened}

-- ---- what is kept

-- What became of a member's entry since what is kept was kept: it is as it was; the member was made anew, so it has none; or it isn't told.
pub data Mark : Type 0 where
  there : Mark
  anew : Mark
  unsaid : Mark

-- Nothing, before the first save; or what was found at an opening; or what a save kept that left this state; or some of what a save would have kept,
-- in which all its members failed; or it isn't told, since no standing member was left with an entry. Members have their numbers in the first line.
pub data Keeping : Type 0 where
  nothing : Keeping
  found : Kept → (ℕ → Mark) → Keeping
  saved : State → (ℕ → Mark) → Keeping
  begun : State → Keeping
  untold : Keeping

-- what stands beside a saved state
abbrev pub extra_in : State → Extra
extra_in state = record { length = member_length 2 state.table.shape; boundaries = state.boundaries; live = state.live; cut = marked state.cut }

-- The entry of a member, by what it does and its count of faults: one that is good has its bytes; one that is being refilled has none, and so has one that is
-- out, but where a call on it failed, which may have been in the commit: then it may have its bytes.
abbrev pub IsOwn : MemberState → ℕ → Option (List ℕ) → Option (List ℕ) → Type 0
IsOwn Good faults seen entry = (entry ≡ seen) × IsSome seen
IsOwn (Filling have) faults seen entry = entry ≡ None
IsOwn Out faults seen entry = (entry ≡ None) ⊎ ((entry ≡ seen) × (0 < faults))

-- an entry, by what became of it
abbrev pub IsBy : Mark → Type 0 → Option (List ℕ) → Type 0
IsBy there Own entry = Own
IsBy anew Own entry = entry ≡ None
IsBy unsaid Own entry = Unit {0}

-- The checkpoint of a save that left this state: the members held the state, and have these bytes in it; and beside it stand the boundaries in use and
-- the cut blocks.
pub record IsCheckpoint (state : State) (marks : ℕ → Mark) (kept : Kept) : Type 0 where
  pub seen : ℕ → Option (List ℕ)
  pub holds : HoldsAll seen state
  pub entries : (q : ℕ) → q / 2 < length state.live
      → IsBy (marks (member_at state.live q)) (IsOwn (state.members q) (state.counts.faults q) (seen q) (kept.entries (member_at state.live q))) (kept.entries (member_at state.live q))
  pub extra : kept.extra ≡ extra_bytes (extra_in state)

-- some of it
pub record IsPart (state : State) (kept : Kept) : Type 0 where
  pub seen : ℕ → Option (List ℕ)
  pub holds : HoldsAll seen state
  pub entries : (q : ℕ) → q / 2 < length state.live → (kept.entries (member_at state.live q) ≡ seen q) ⊎ (kept.entries (member_at state.live q) ≡ None)
  pub extra : kept.extra ≡ extra_bytes (extra_in state)

-- what was found, by what became of it
pub record IsLeftOf (before : Kept) (marks : ℕ → Mark) (kept : Kept) : Type 0 where
  pub entries : (p : ℕ) → IsBy (marks p) (kept.entries p ≡ before.entries p) (kept.entries p)
  pub extra : kept.extra ≡ before.extra

abbrev pub IsKeptAs : Keeping → Kept → Type 0
IsKeptAs nothing kept = IsNothing kept
IsKeptAs (found before marks) kept = IsLeftOf before marks kept
IsKeptAs (saved state marks) kept = IsCheckpoint state marks kept
IsKeptAs (begun state) kept = IsPart state kept
IsKeptAs untold kept = Unit {0}

-- ---- events

-- what member p of the first line does, by its place among the boundaries in use
abbrev pub member_in : State → ℕ → MemberState
member_in state p = state.members (2 * place_of state (p / 2) + p % 2)

-- it has such a place, and isn't out
abbrev pub is_serving : State → ℕ → Bool
is_serving state p = nat_lt (place_of state (p / 2)) (length state.live) && (is_good (member_in state p) || is_filling (member_in state p))

-- its entry is as it was
abbrev pub is_there : Mark → Bool
is_there there = true
is_there anew = false
is_there unsaid = false

-- another member than m has an entry, and isn't out in this state
abbrev pub leaves_entry : Keeping → ℕ → State → Bool
leaves_entry nothing m after = true
leaves_entry (found before marks) m after = list_any (λ p. is_some (before.entries p) && is_there (marks p) && not (p == m) && is_serving after p) (range_with_len 0 32)
leaves_entry (saved state marks) m after =
    list_any (λ q. is_good (state.members q) && is_there (marks (member_at state.live q)) && not (member_at state.live q == m) && is_serving after (member_at state.live q))
    (range_with_len 0 (2 * length state.live))
leaves_entry (begun state) m after = false
leaves_entry untold m after = false

-- the marks where nothing is told any more of members of boundaries that aren't in use in this state
abbrev pub marks_in_use : State → (ℕ → Mark) → ℕ → Mark
marks_in_use after marks p = if nat_lt (place_of after (p / 2)) (length after.live) then marks p else unsaid

-- and member m was made anew
abbrev pub marks_without : ℕ → State → (ℕ → Mark) → ℕ → Mark
marks_without m after marks p = if p == m then anew else marks_in_use after marks p

-- the same checkpoint, by what these marks say of it
abbrev pub marked_by : ((ℕ → Mark) → ℕ → Mark) → Keeping → Keeping
marked_by change nothing = nothing
marked_by change (found before marks) = found before (change marks)
marked_by change (saved state marks) = saved state (change marks)
marked_by change (begun state) = untold
marked_by change untold = untold

-- What is kept after member m was made anew, or that failed: it has no entry any more. Where no standing member is left with one it isn't told.
abbrev pub made_anew : Keeping → ℕ → State → Keeping
made_anew old m after = if leaves_entry old m after then marked_by (marks_without m after) old else untold

-- What is kept behind an event: a save that was answered keeps the state that it left; one that lost all members keeps what was kept, of which no more is
-- told of boundaries that aren't in use, or some of what it would have kept; and all other events but a replacement leave what is kept.
abbrev pub Books : Type 0 → Keeping → State → Event → Reply → State → Keeping → Type 0
Books Known old before Save (Saved n) after new = new ≡ saved after (λ p. there)
Books Known old before Save (Lost s) after new =
    (new ≡ marked_by (marks_in_use after) old) ⊎ ((mid : State) × (n : ℕ) × Step Known before Save (Saved n) mid × (new ≡ begun mid))
Books Known old before (Replace s j) Done after new = new ≡ made_anew old (2 * s + j) after
Books Known old before (Replace s j) Failed after new = new ≡ made_anew old (2 * s + j) after
Books Known old before event reply after new = new ≡ old

-- a history, and what is kept along it
abbrev pub KeepsAlong : Type 0 → Kind → Keeping → Moment → List Event → List Reply → Moment → Keeping → Type 0
KeepsAlong Known kind first old [] [] new last = (new ≡ old) × (last ≡ first)
KeepsAlong Known kind first old (event ∷ events) (reply ∷ replies) new last =
    (mid : Moment) × (next : Keeping) × Happens Known kind old event reply mid × Books Known first old.state event reply mid.state next
    × KeepsAlong Known kind next mid events replies new last
KeepsAlong Known kind first old [] (reply ∷ replies) new last = ⊥
KeepsAlong Known kind first old (event ∷ events) [] new last = ⊥

-- from a first line that makes an array which keeps a checkpoint
abbrev pub KeepsFrom : Type 0 → Counts → List Event → List Reply → Moment → Keeping → Type 0
KeepsFrom Known before (Safe shape ∷ events) (Done ∷ replies) new last =
    (blank : Moment) × Makes Known double (Safe shape) shape before blank × KeepsAlong Known double nothing blank events replies new last
KeepsFrom Known before events replies new last = ⊥

-- ---- what is reopened

-- the known members are reopened as this checkpoint, and the headers of its commit are of one
pub record IsFoundAs (known : ℕ → Bool) (bytes : ℕ → Option (List ℕ)) (kept : Kept) : Type 0 where
  pub reopened : Reopened (known_at known bytes) kept
  pub one : IsOfOne (known_at known bytes) kept

-- What the members of a rack with these bytes are reopened as is what was kept last, as the array shows it (`Shows`): as far as it is known which headers stand
-- on them. A member of a boundary in use isn't known where it was missed when the array was opened (`Missed`), or where a call on it failed: its count in
-- the last state isn't 0.
pub record ReopensAs (Missed : ℕ → Type 0) (Shows : Kept → Kept → Type 0) (bytes : ℕ → Option (List ℕ)) (final : State) (last : Keeping) : Type 0 where
  pub known : ℕ → Bool
  pub unknown : (p : ℕ) → known p ≡ false → IsInUse final (p / 2) → Missed p ⊎ (0 < faults_at final p)
  pub kept : Kept
  pub shown : Kept
  pub shows : Shows kept shown
  pub is : IsKeptAs last shown
  pub reopened : TellsAll bytes → IsFoundAs known bytes kept

-- the same of whatever was kept last, where that is told
abbrev pub Reopens : (ℕ → Type 0) → (Kept → Kept → Type 0) → (ℕ → Option (List ℕ)) → State → Keeping → Type 0
Reopens Missed Shows bytes final nothing = ReopensAs Missed Shows bytes final nothing
Reopens Missed Shows bytes final (found before marks) = ReopensAs Missed Shows bytes final (found before marks)
Reopens Missed Shows bytes final (saved state marks) = ReopensAs Missed Shows bytes final (saved state marks)
Reopens Missed Shows bytes final (begun state) = ReopensAs Missed Shows bytes final (begun state)
Reopens Missed Shows bytes final untold = Unit {0}

-- ---- of an array that was made

-- no member was missed
abbrev pub MissesNone : ℕ → Type 0
MissesNone p = ⊥

-- it shows all that is kept
abbrev pub ShowsAll : Kept → Kept → Type 0
ShowsAll kept shown = shown ≡ kept

-- ---- of an array that was opened

-- the length of its members, as the extra bytes say it
abbrev pub length_said : Option Extra → Option ℕ
length_said None = None
length_said (Some extra) = Some extra.length

-- It shows an entry whole; or the first bytes alone, as many as that says. Where nothing is said it shows none of a member on which a call failed.
abbrev pub IsEntryShown : Option Extra → Option (List ℕ) → Option (List ℕ) → Type 0
IsEntryShown said entry shown = (shown ≡ entry) ⊎ (shown ≡ shown_as true (length_said said) entry)

pub record IsShownBy (said : Option Extra) (kept shown : Kept) : Type 0 where
  pub entries : (p : ℕ) → IsEntryShown said (kept.entries p) (shown.entries p)
  pub extra : shown.extra ≡ kept.extra
