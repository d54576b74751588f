-- Sources as the table keeps them.
use Rattle.std.specs.Prelude.{ℕ}
use Rattle.std.specs.declared.cmp.Ordering.{Ordering}
use Rattle.ufs_model.specs.Claims.{level_of}
use Rattle.ufs_model.specs.declared.claims.ClaimSource.{ClaimSource}
use Rattle.ufs_model.specs.declared.claims.ClaimSource.TheVariants.{Slot, Pointer}
use Rattle.dg_claims.specs.contracts.places.MarkOrd.TheImpl as order
use Rattle.dg_claims.specs.declared.places.Mark.{Mark}
use Rattle.dg_claims.specs.declared.places.Place.{Place}
use Rattle.dg_claims.specs.declared.places.Place.TheVariants.{Slot as SlotPlace, Pointer as PointerPlace}

-- a slot of an inode, and a pointer of a fragment at a level, as they are kept
abbrev pub slot_place : ℕ → ℕ → Place
slot_place inode slot = SlotPlace inode slot

abbrev pub pointer_place : ℕ → ℕ → ℕ → Place
pointer_place fragment level at = PointerPlace fragment level at

-- a source as it is kept
abbrev pub place_of : ClaimSource → Place
place_of (Slot inode slot) = SlotPlace inode slot
place_of (Pointer fragment level at) = PointerPlace fragment level at

-- the source that is kept so
abbrev pub source_of : Place → ClaimSource
source_of (SlotPlace inode slot) = Slot inode slot
source_of (PointerPlace fragment level at) = Pointer fragment level at

-- the number of a pointer, and 0 of a slot
abbrev pub index_of : ClaimSource → ℕ
index_of (Slot inode slot) = 0
index_of (Pointer fragment level at) = at

-- a source with its level
abbrev pub mark_of : Place → Mark
mark_of place = record { level = level_of (source_of place); place = place }

-- the order of sources with their levels
abbrev pub mark_cmp : Mark → Mark → Ordering
mark_cmp = order.cmp-value.it
