-- What calls leave one after another, and what the members of a rack hold of a volume's state. It stands here since the crates above cite it.
use Rattle.std.proofs.Common.{◌≡◌, ◌<◌, ◌/◌, ℕ, length, sym, subst, arith}
use Rattle.std.specs.Prelude.{IfSome, IsSome, None, Option, Some}
use Rattle.dg_io.specs.RackCalls.{RackCall}
use Rattle.dg_io.specs.declared.outside.Rack.{Ghosts}
use Rattle.dg_label.specs.Labels.{AreSized}
use Rattle.dg_label.specs.LineLaws.{label_of_whole}
use Rattle.dg_model.specs.Seals.{LastLabel}
use Rattle.dg_model.specs.States.{AreFresh, Holds, HoldsAll, State}
use Rattle.dg_model.specs.declared.shapes.Shape.{Shape}
use Rattle.dg_store.specs.Leaves.{CallsBelow, IsCallBelow, IsCallOrBlankBelow, IsCallOrExtendBelow, MadeBelow}
use Rattle.dg_store.specs.ReadLaws.{or_blank, or_extend, own_both, own_none, own_such}
use Rattle.dg_volume.specs.Volumes.{IsWell, Known, Leaves, LeavesBy, StandsIn, StandsUnder, Tells, line_of, live_of, rack_of, shape_of}
use Rattle.dg_volume.specs.declared.phases.InPhase as phases
use Rattle.dg_volume.specs.declared.volumes.Volume.{Volume}

-- no call was made
pub own_still : {S R : Type 0} (rack : Ghosts R) (volume : Volume S R) → CallsBelow rack (shape_of volume).b (rack_of volume) (rack_of volume)
own_still rack volume = own_none rack (shape_of volume).b (rack_of volume)

-- calls on members of an array of this shape, and then others on them
pub own_then : {R : Type 0} (rack : Ghosts R) {may : ℕ → RackCall → Type 0} (one other : Shape) (a b c : R) → other ≡ one → MadeBelow rack may one.b a b → MadeBelow rack may other.b b c → MadeBelow rack may one.b a c
own_then rack {may = may} one other a b c same first second = own_both rack one.b a b c first (subst (λ (s : Shape). MadeBelow rack may s.b b c) same second)

-- a call that makes calls of one kind leaves what one leaves that makes calls of a wider one
pub leaves_such : {S T R : Type 0} (from : phases.Ghosts S) (to : phases.Ghosts T) (rack : Ghosts R) (may such : ℕ → RackCall → Type 0) → ((b : ℕ) (call : RackCall) → may b call → such b call)
    → (old : Volume S R) (new : Volume T R) → LeavesBy from to rack may old new → LeavesBy from to rack such old new
leaves_such from to rack may such h old new leaves = record {
  well = leaves.well;
  shape = leaves.shape;
  boundaries = leaves.boundaries;
  live = leaves.live;
  line = leaves.line;
  rise = leaves.rise;
  tells = leaves.tells;
  told_before = leaves.told_before;
  own = own_such rack may such h (shape_of old).b (rack_of old) (rack_of new) leaves.own;
  same_rack = leaves.same_rack;
}

-- a call that only reads and writes leaves what one leaves that may extend a member, or make it anew
pub leaves_or_extend : {S T R : Type 0} (from : phases.Ghosts S) (to : phases.Ghosts T) (rack : Ghosts R) (old : Volume S R) (new : Volume T R) → Leaves from to rack old new → LeavesBy from to rack IsCallOrExtendBelow old new
leaves_or_extend from to rack old new leaves = leaves_such from to rack IsCallBelow IsCallOrExtendBelow or_extend old new leaves

pub leaves_or_blank : {S T R : Type 0} (from : phases.Ghosts S) (to : phases.Ghosts T) (rack : Ghosts R) (old : Volume S R) (new : Volume T R) → Leaves from to rack old new → LeavesBy from to rack IsCallOrBlankBelow old new
leaves_or_blank from to rack old new leaves = leaves_such from to rack IsCallBelow IsCallOrBlankBelow or_blank old new leaves

-- a member whose bytes are told is one of which the rack tells them as long as it stands
abbrev pub TellsTold : {R : Type 0} → Ghosts R → Type 0
TellsTold rack = (now : _) (q : ℕ) → IsSome (rack.bytes now q) → rack.tells now q

module _ {S R : Type 0} (rack : Ghosts R) (volume : Volume S R) where
  -- each member of the array tells its bytes now
  abbrev pub TellsNow : Type 0
  TellsNow = (q : ℕ) → q / 2 < (shape_of volume).b → IsSome (rack.bytes (rack_of volume) q)

  -- so the volume tells them
  pub tells_now : TellsTold rack → TellsNow → Tells rack volume
  tells_now law told q below = law (rack_of volume) q (told q below)

  -- where all boundaries are in use, members are as long by its own numbers
  line_whole : (phase : phases.Ghosts S) → IsWell phase rack volume → length (live_of volume) ≡ volume.in_use.boundaries → shape_of volume ≡ line_of volume
  line_whole phase well whole =
      let same : (shape_of volume).b ≡ volume.in_use.long = let number = well.in_use.number in let fewer = well.labeled.fits.fewer in let most = well.long in
      omega (arith, whole, number, fewer, most) in
      λ i. record (shape_of volume) { b = same i }

  sized_whole : (last : Option LastLabel) → shape_of volume ≡ line_of volume → StandsUnder rack volume last → IfSome last (AreSized rack volume.store)
  sized_whole None same stands = tt
  sized_whole (Some last) same stands = (label_of_whole rack (line_of volume) volume.store volume.label last same stands).1

  -- the members hold a state in which the volume is
  pub holds_all : {P : Type 0} (phase : phases.Ghosts S) (state : State) → IsWell phase rack volume → StandsIn phase rack P volume state → Known P rack volume
      → HoldsAll (rack.bytes (rack_of volume)) state
  holds_all phase state well stands told = record {
    blocks = subst (λ (s : State). Holds (rack.bytes (rack_of volume)) s) (sym stands.is) (stands.holds told).array;
    label = stands.label.holds;
    sizes = λ whole.
        let all : length (live_of volume) ≡ volume.in_use.boundaries = subst (λ (s : State). length s.live ≡ s.boundaries) stands.is whole in
        sized_whole state.label (line_whole phase well all) stands.label;
    fresh = subst (λ (s : State). AreFresh (rack.bytes (rack_of volume)) s) (sym stands.is) stands.label.fresh;
  }
