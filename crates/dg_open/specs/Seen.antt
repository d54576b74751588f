-- What is known of the members of a rack while an array is opened from it: the own label of each member that has one.
use Rattle.std.specs.Prelude.{◌≡◌, ◌≢◌, ◌⊎◌, ◌/◌, ◌%◌, ◌<◌, ◌≤◌, ◌==◌, ℕ, Bool, true, false, List, Option, Some, None, IfSome, IsSome, length, slice_index_or, slice_set, take, max}
use Rattle.std.specs.Option.{option_map}
use Rattle.dg_io.specs.Commits.{is_marked as has_bit}
use Rattle.dg_io.specs.Faults.{OnlyMember}
use Rattle.dg_io.specs.declared.outside.Rack.{Ghosts}
use Rattle.dg_model.specs.Causes.{Rose}
use Rattle.dg_model.specs.Marks.{is_marked}
use Rattle.dg_model.specs.Openings.{Found, HasOwnLabel, Says, body_in}
use Rattle.dg_model.specs.Saves.{CanBeSaved, IsLabel, Label as LabelValue, SavedState as SavedValue, body_of, label_bytes, member_length}
use Rattle.dg_model.specs.declared.members.MemberState.{MemberState}
use Rattle.dg_model.specs.declared.members.MemberState.TheVariants.{Good, Out}
use Rattle.dg_label.specs.declared.labels.KeptLabel.{KeptLabel}
use Rattle.dg_open.specs.Reopenings.{LeavesRead}
use Rattle.dg_open.specs.declared.bodies.Source.{Source}
use Rattle.dg_open.specs.declared.reopens.Reopened.{Reopened}
use Rattle.dg_save.specs.Labels.{IsOwn, label_of}
use Rattle.dg_save.specs.States.{state_of}
use Rattle.dg_save.specs.declared.labels.Label.{Label}
use Rattle.dg_store.specs.Stores.{IsSound, members_of, rack_of, table_of}
use Rattle.dg_save.specs.declared.states.SavedState.{SavedState}

-- ---- a table of labels

-- the label of member q
abbrev pub label_at : List (Option Label) → ℕ → Option Label
label_at table q = slice_index_or table q None

-- what is taken of member q, where this is what its body says
abbrev pub found_with : Option SavedValue → Label → Found
found_with state label = record { label = label_of label; state = state }

-- what is taken of the members, where these are the states that their bodies say
abbrev pub taken_in : List (Option Label) → (ℕ → Option SavedValue) → ℕ → Option Found
taken_in table states q = option_map (found_with (states q)) (label_at table q)

-- this is the greatest number of a label in the first members of a table
pub record IsGreatest (table : List (Option Label)) (count greatest : ℕ) : Type 0 where
  pub q : ℕ
  pub label : Label
  pub there : label_at table q ≡ Some label
  pub is : label.sequence ≡ greatest
  pub most : (p : ℕ) (other : Label) → p < count → label_at table p ≡ Some other → other.sequence ≤ greatest

-- the greatest number of the first members, or none where they have no label
abbrev pub IsGreatestOf : List (Option Label) → ℕ → Option ℕ → Type 0
IsGreatestOf table count None = (q : ℕ) → q < count → label_at table q ≡ None
IsGreatestOf table count (Some greatest) = IsGreatest table count greatest

-- the greater of a number and that of a label, where there are any
abbrev pub IsLater : Option ℕ → Option Label → Option ℕ → Type 0
IsLater None None later = later ≡ None
IsLater None (Some label) later = later ≡ Some label.sequence
IsLater (Some number) None later = later ≡ Some number
IsLater (Some number) (Some label) later = later ≡ Some (max number label.sequence)

-- member q has a label with this number
pub record HasNumber (table : List (Option Label)) (greatest q : ℕ) (label : Label) : Type 0 where
  pub there : label_at table q ≡ Some label
  pub is : label.sequence ≡ greatest

-- one of the labels with this number is opened
pub record HasOpened (table : List (Option Label)) (greatest : ℕ) : Type 0 where
  pub q : ℕ
  pub label : Label
  pub number : HasNumber table greatest q label
  pub opened : label.sealed ≡ false

-- each of those of the first members is sealed
abbrev pub AreSealed : List (Option Label) → ℕ → ℕ → Type 0
AreSealed table greatest count = (q : ℕ) (label : Label) → q < count → HasNumber table greatest q label → label.sealed ≡ true

-- ---- the labels of a rack

-- member q was found with this label
pub record IsLabeledBy {R : Type 0} (rack : Ghosts R) (now : R) (q : ℕ) (label : Label) : Type 0 where
  pub is : IsLabel (label_of label)
  pub boundary : label.boundary ≡ q / 2
  pub side : label.side ≡ q % 2
  pub own : IfSome (rack.bytes now q) (λ all. HasOwnLabel q all (label_of label))

-- it has no label of its own
abbrev pub HasNone : {R : Type 0} → Ghosts R → R → ℕ → Type 0
HasNone rack now q = IfSome (rack.bytes now q) (λ all. (label : LabelValue) → HasOwnLabel q all label → ⊥)

-- a call on it failed
abbrev pub HasFailed : {R : Type 0} → Ghosts R → R → R → ℕ → Type 0
HasFailed rack before now q = Rose ((rack.counts before).faults q) ((rack.counts now).faults q)

-- no call on it failed: its count of faults is as it was
abbrev pub HasNotFailed : {R : Type 0} → Ghosts R → R → R → ℕ → Type 0
HasNotFailed rack before now q = (rack.counts now).faults q ≡ (rack.counts before).faults q

-- member q was found with this label; or without one, where it has none, or a call failed
abbrev pub IsSeen : {R : Type 0} → Ghosts R → R → R → ℕ → Option Label → Type 0
IsSeen rack before now q None = HasFailed rack before now q ⊎ HasNone rack now q
IsSeen rack before now q (Some label) = IsLabeledBy rack now q label

-- the first members of a rack were found with these labels, and those stand that have one
pub record AreSeen {R : Type 0} (rack : Ghosts R) (before now : R) (table : List (Option Label)) (count : ℕ) : Type 0 where
  pub seen : (q : ℕ) → q < count → IsSeen rack before now q (label_at table q)
  pub leaves : LeavesRead rack before now
  pub size : length table ≡ 32

-- each member was found with its label in a table, or has none there
abbrev pub AreLabeled : {R : Type 0} → Ghosts R → R → List (Option Label) → Type 0
AreLabeled rack now table = (q : ℕ) → q < 32 → IfSome (label_at table q) (IsLabeledBy rack now q)

-- each member with a label stands
abbrev pub AllStand : {R : Type 0} → Ghosts R → R → List (Option Label) → ℕ → Type 0
AllStand rack now table count = (q : ℕ) → q < count → IsSome (label_at table q) → rack.stands now q ≡ true

-- each member with a label stands, but for those that are marked
abbrev pub StandBut : {R : Type 0} → Ghosts R → R → List (Option Label) → List Bool → Type 0
StandBut rack now table failed = (q : ℕ) → q < 32 → IsSome (label_at table q) → is_marked failed q ≡ false → rack.stands now q ≡ true

-- on each member that is marked a call failed
abbrev pub AreFailed : {R : Type 0} → Ghosts R → R → R → List Bool → Type 0
AreFailed rack before now failed = (q : ℕ) → is_marked failed q ≡ true → HasFailed rack before now q

-- no call failed on a member of the first ones that has a label in a table, and those behind them weren't called
pub record AreQuiet {R : Type 0} (rack : Ghosts R) (before now : R) (table : List (Option Label)) (count : ℕ) : Type 0 where
  pub labeled : (q : ℕ) → q < count → IsSome (label_at table q) → HasNotFailed rack before now q
  pub later : (q : ℕ) → count ≤ q → HasNotFailed rack before now q

-- on each member that isn't marked no call failed
abbrev pub QuietBut : {R : Type 0} → Ghosts R → R → R → List Bool → Type 0
QuietBut rack before now failed = (q : ℕ) → is_marked failed q ≡ false → HasNotFailed rack before now q

-- reading one member leaves this of a rack
pub record ReadsOne {R : Type 0} (rack : Ghosts R) (member : ℕ) (before now : R) : Type 0 where
  pub leaves : LeavesRead rack before now
  pub other_faults : OnlyMember member (rack.counts before).faults (rack.counts now).faults
  pub others_stand : (q : ℕ) → q ≢ member → rack.stands before q ≡ true → rack.stands now q ≡ true

-- the member has so many bytes
abbrev pub IsAsLong : {R : Type 0} → Ghosts R → R → ℕ → ℕ → Type 0
IsAsLong rack now member size = IfSome (rack.bytes now member) (λ all. length all ≡ size)

-- whether it is as long as format 2 says of an array with this label
abbrev pub IsMeasured : {R : Type 0} → Ghosts R → R → ℕ → Bool → Label → Type 0
IsMeasured rack now member long label = IfSome (rack.bytes now member) (λ all. long ≡ (length all == member_length 2 label.shape))

-- the bits of the first members tell that of each one with a label
abbrev pub AreMeasured : {R : Type 0} → Ghosts R → R → List (Option Label) → ℕ → ℕ → Type 0
AreMeasured rack now table long count = (q : ℕ) → q < count → IfSome (label_at table q) (IsMeasured rack now q (has_bit long q))

-- the member stands, and has so many bytes, room for a label among them
pub record IsAttached {R : Type 0} (rack : Ghosts R) (now : R) (member size : ℕ) : Type 0 where
  pub stands : rack.stands now member ≡ true
  pub room : 512 ≤ size
  pub size_is : IsAsLong rack now member size

-- a call on the member failed, or it has no room for a label
abbrev pub IsShort : {R : Type 0} → Ghosts R → R → R → ℕ → Type 0
IsShort rack before now member = HasFailed rack before now member ⊎ IfSome (rack.bytes now member) (λ all. length all < 512)

-- the member stands, has so many bytes, and begins with these
pub record HasHead {R : Type 0} (rack : Ghosts R) (now : R) (member size : ℕ) (head : List ℕ) : Type 0 where
  pub stands : rack.stands now member ≡ true
  pub size_is : IsAsLong rack now member size
  pub begins : IfSome (rack.bytes now member) (λ all. head ≡ take 512 all)

-- these bytes are a label of the member's own
pub record IsOwnLabel (member size : ℕ) (head : List ℕ) (label : Label) : Type 0 where
  pub is : IsLabel (label_of label)
  pub says : head ≡ label_bytes (label_of label)
  pub own : IsOwn member size (label_of label)

-- they are none
abbrev pub IsNoLabel : ℕ → ℕ → List ℕ → Type 0
IsNoLabel member size head = (label : LabelValue) → IsLabel label → head ≡ label_bytes label → IsOwn member size label → ⊥

-- ---- bodies

-- the member stands, and this is the body of the label
pub record HasBodyOf {R : Type 0} (rack : Ghosts R) (now : R) (member : ℕ) (label : Label) (body : List ℕ) : Type 0 where
  pub stands : rack.stands now member ≡ true
  pub size : length body ≡ label.body
  pub is : IfSome (rack.bytes now member) (λ all. body ≡ body_in (label_of label) all)

-- the body of member q says this state
pub record SaysState {R : Type 0} (rack : Ghosts R) (now : R) (q : ℕ) (label : Label) (saved : SavedState) : Type 0 where
  pub form : CanBeSaved (state_of saved)
  pub numbers : saved.shape ≡ label.shape
  pub size : length (body_of label.format (state_of saved)) ≡ label.body
  pub says : IfSome (rack.bytes now q) (λ all. Says (label_of label) all (Some (state_of saved)))

-- it says none, or a call on the member failed
abbrev pub SaysNone : {R : Type 0} → Ghosts R → R → R → ℕ → Label → Type 0
SaysNone rack before now q label = HasFailed rack before now q ⊎ IfSome (rack.bytes now q) (λ all. Says (label_of label) all None)

-- the first members with this number say no state
abbrev pub SayNone : {R : Type 0} → Ghosts R → R → R → List (Option Label) → ℕ → ℕ → Type 0
SayNone rack before now table greatest count = (q : ℕ) (label : Label) → q < count → HasNumber table greatest q label → SaysNone rack before now q label

-- member q is the first with this number that says a state
pub record IsFirst {R : Type 0} (rack : Ghosts R) (before now : R) (table : List (Option Label)) (greatest : ℕ) (source : Source) : Type 0 where
  pub q : ℕ
  pub within : q < 32
  pub number : HasNumber table greatest q source.label
  pub says : SaysState rack now q source.label source.saved
  pub first : SayNone rack before now table greatest q

-- no member from this number on is marked
abbrev pub NoneMarked : List Bool → ℕ → Type 0
NoneMarked failed low = (q : ℕ) → low ≤ q → is_marked failed q ≡ false

-- A member was read: it stands, no call on it failed, and no mark changed; or a call on it failed, and it is marked.
abbrev pub MarksOne : {R : Type 0} → Ghosts R → R → R → ℕ → List Bool → List Bool → Type 0
MarksOne rack before now member old new =
    ((new ≡ old) × (rack.stands now member ≡ true) × HasNotFailed rack before now member)
    ⊎ ((new ≡ slice_set old member true) × HasFailed rack before now member)

-- The same of one that stands if it has a label.
abbrev pub Marks : {R : Type 0} → Ghosts R → R → R → List (Option Label) → ℕ → List Bool → List Bool → Type 0
Marks rack before now table member old new =
    ((new ≡ old) × (IsSome (label_at table member) → rack.stands now member ≡ true) × HasNotFailed rack before now member)
    ⊎ ((new ≡ slice_set old member true) × HasFailed rack before now member)

-- what a member says that has this number, or none that has it
abbrev pub SaysAt : {R : Type 0} → Ghosts R → R → R → List (Option Label) → ℕ → ℕ → Option Source → Type 0
SaysAt rack before now table greatest q None = (label : Label) → HasNumber table greatest q label → SaysNone rack before now q label
SaysAt rack before now table greatest q (Some source) = HasNumber table greatest q source.label × SaysState rack now q source.label source.saved

-- a label, and the state that its body says
abbrev pub source_with : Label → SavedState → Source
source_with label saved = record { label = label; saved = saved }

-- ---- members of the opened array

-- Member q is good: it has the label of the source but for its place, the state says so, and no call on it failed.
pub record IsCounted (table : List (Option Label)) (failed : List Bool) (source : Label) (marks : List Bool) (q : ℕ) : Type 0 where
  pub there : label_at table q ≡ Some (record source { boundary = q / 2; side = q % 2 })
  pub said : is_marked marks q ≡ true
  pub stood : is_marked failed q ≡ false

-- each member is good just where it is counted, else out
abbrev pub AreCounted : List (Option Label) → List Bool → Label → List Bool → (ℕ → MemberState) → Type 0
AreCounted table failed source marks members = (q : ℕ)
    → ((members q ≡ Good) × IsCounted table failed source marks q) ⊎ ((members q ≡ Out) × (IsCounted table failed source marks q → ⊥))

-- the numbers of a label, with these bits
abbrev pub kept_of : Label → ℕ → KeptLabel
kept_of label long = record { format = label.format; sequence = label.sequence; sealed = label.sealed; body = label.body; long = long }

-- the array that the source says, over this rack
pub record OpensFrom {R : Type 0} (rack : Ghosts R) (now : R) (table : List (Option Label)) (failed : List Bool) (long : ℕ) (source : Source)
    (reopened : Reopened R) : Type 0 where
  pub rack_is : rack_of reopened.store ≡ now
  pub saved_is : reopened.saved ≡ source.saved
  pub table_is : table_of reopened.store ≡ (state_of source.saved).table
  pub members : AreCounted table failed source.label source.saved.good (members_of reopened.store)
  pub sound : IsSound rack reopened.store
  pub label_is : reopened.label ≡ kept_of source.label long
