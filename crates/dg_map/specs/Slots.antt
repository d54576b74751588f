-- The slots of one boundary, as flat tables hold them.
use Rattle.std.specs.Prelude.{◌≡◌, ◌≤◌, ◌<◌, ◌+◌, ◌^◌, ◌==◌, ℕ, cond, Option, Some, None, length, slice_get}
use Rattle.dg_map.specs.Bits.{IsBits, count_upto, has}
use Rattle.dg_map.specs.declared.boundary_slots.Slots.{Slots}

-- the block in the slot, if one stands there
abbrev pub block_in : Slots → ℕ → Option ℕ
block_in slots slot = cond (has slots.free slot) None (slice_get slots.blocks.items slot)

-- how many slots are used
abbrev pub used_count : Slots → ℕ
used_count slots = slots.used

-- what the tables of a boundary keep: a number and a bit for each slot, and each slot is either used or free
pub record IsSlots (slots : Slots) : Type 0 where
  pub small : slots.most ≤ 2 ^ 20 + 1
  pub free : IsBits slots.free
  pub bound : slots.free.bound ≡ slots.most
  pub blocks : length slots.blocks.items ≡ slots.most
  pub count : slots.used + count_upto slots.most (has slots.free) ≡ slots.most

-- the block stands in one more slot, and all else is as before
pub record Puts (old new : Slots) (slot block : ℕ) : Type 0 where
  pub sound : IsSlots new
  pub most : new.most ≡ old.most
  pub within : slot < old.most
  pub free : block_in old slot ≡ None
  pub blocks : (k : ℕ) → block_in new k ≡ cond (slot == k) (Some block) (block_in old k)
  pub count : used_count new ≡ used_count old + 1

-- no block stands in the slot any more, and all else is as before
pub record GivesUp (old new : Slots) (slot : ℕ) : Type 0 where
  pub sound : IsSlots new
  pub most : new.most ≡ old.most
  pub blocks : (k : ℕ) → block_in new k ≡ cond (slot == k) None (block_in old k)
  pub count : used_count new + 1 ≡ used_count old

-- there are so many slots, and none is used
pub record IsUnused (most : ℕ) (slots : Slots) : Type 0 where
  pub sound : IsSlots slots
  pub most_is : slots.most ≡ most
  pub empty : (k : ℕ) → block_in slots k ≡ None
  pub count : used_count slots ≡ 0
