-- Slots and lists of sites of a row of boundaries, for the functions that work on the parts of a store.
use Rattle.std.specs.Prelude.{◌≡◌, ◌≢◌, ◌+◌, ◌/◌, ◌<◌, ℕ, true, List, Option, IsSome}
use Rattle.std.specs.List.{All, Contains}
use Rattle.dg_io.specs.Makes.{Makes}
use Rattle.dg_io.specs.declared.outside.Rack.{Ghosts}
use Rattle.dg_model.specs.Blocks.{block_in}
use Rattle.dg_model.specs.Members.{is_lost, MembersFall, SlotHolds}
use Rattle.dg_model.specs.declared.members.MemberState.{MemberState}
use Rattle.dg_model.specs.declared.members.MemberState.TheVariants.{Good, Out}
use Rattle.dg_model.specs.declared.shapes.Shape.{Shape}
use Rattle.dg_model.specs.declared.sites.Site.{Site}
use Rattle.dg_pair.specs.declared.boundaries.Boundary.{Boundary}
use Rattle.dg_pair.specs.Calls.{IsCallOf, KeepsBeside}
use Rattle.dg_store.specs.Leaves.{CallsBelow, FailedAreOut, OutAreIdle, RackStays}
use Rattle.dg_store.specs.Rows.{IsRow, members_in}
use Rattle.dg_store.specs.Stores.{StandsFor}
use Rattle.dg_store.specs.declared.store.Store.{Store}

-- what a call on slots leaves of boundaries over their rack
pub record RowKeeps {R : Type 0} (rack : Ghosts R) (shape : Shape) (was : List Boundary) (old : R) (now : List Boundary) (new : R) : Type 0 where
  pub row : IsRow rack shape now new
  pub stays : RackStays rack old new
  pub own : CallsBelow rack shape.b old new
  pub called : Makes rack (IsCallOf (members_in was)) old new
  pub idle : OutAreIdle (rack.counts old).faults (rack.counts new).faults (members_in was)
  pub fell : FailedAreOut (rack.counts old).faults (rack.counts new).faults (members_in now)
  pub falls : MembersFall (rack.counts old).faults (rack.counts new).faults (members_in was) (members_in now)
  pub beside : KeepsBeside shape.l (shape.k + 1) (rack.bytes old) (rack.bytes new)

-- what each member does, and its bytes, where it tells them
abbrev pub Members : Type 0
Members = ℕ → MemberState

abbrev pub AllBytes : Type 0
AllBytes = ℕ → Option (List ℕ)

-- each slot has what it had
abbrev pub KeepsSlots : ℕ → Members → AllBytes → Members → AllBytes → Type 0
KeepsSlots l old before new now = (s slot : ℕ) (v : List ℕ) → SlotHolds l old before s slot v → SlotHolds l new now s slot v

-- each slot but this one of boundary s has what it had
abbrev pub KeepsOtherSlots : ℕ → ℕ → ℕ → Members → AllBytes → Members → AllBytes → Type 0
KeepsOtherSlots l s at old before new now =
    (t slot : ℕ) (v : List ℕ) → (t ≡ s → slot ≢ at) → SlotHolds l old before t slot v → SlotHolds l new now t slot v

-- each of these sites is a slot of one of so many boundaries
abbrev pub AreSlots : ℕ → ℕ → List Site → Type 0
AreSlots boundaries slots sites = All (λ site. (site.boundary < boundaries) × (site.slot < slots)) sites

-- each slot that is none of these sites has what it had
abbrev pub KeepsSlotsBut : ℕ → List Site → Members → AllBytes → Members → AllBytes → Type 0
KeepsSlotsBut l sites old before new now =
    (t slot : ℕ) (v : List ℕ) → ¬ Contains sites (record { boundary = t; slot = slot })
    → SlotHolds l old before t slot v → SlotHolds l new now t slot v

-- each of these sites has these bytes
abbrev pub SitesHold : ℕ → (ℕ → MemberState) → (ℕ → Option (List ℕ)) → List ℕ → List Site → Type 0
SitesHold l members bytes v sites = All (λ site. SlotHolds l members bytes site.boundary site.slot v) sites

-- where one of these sites is on a lost boundary, both its members are out
abbrev pub LostAreOut : (ℕ → MemberState) → List Site → Type 0
LostAreOut members sites = All (λ site. is_lost members site.boundary ≡ true → (q : ℕ) → q / 2 ≡ site.boundary → members q ≡ Out) sites

-- the good members of boundary s tell their bytes
abbrev pub TellsAt : (ℕ → MemberState) → (ℕ → Option (List ℕ)) → ℕ → Type 0
TellsAt members bytes s = (q : ℕ) → q / 2 ≡ s → members q ≡ Good → IsSome (bytes q)

-- so do those of the boundaries of these sites
abbrev pub SitesTell : (ℕ → MemberState) → (ℕ → Option (List ℕ)) → List Site → Type 0
SitesTell members bytes sites = All (λ site. TellsAt members bytes site.boundary) sites

-- it stands for what it stood for where its copy of block b was right
abbrev pub PutsBlock : {R : Type 0} → Ghosts R → Store R → ℕ → Store R → Type 0
PutsBlock rack old b new = (V : List (List ℕ)) → StandsFor rack old V → old.block.items ≡ block_in V b → StandsFor rack new V
