-- The sites of each block, as flat tables hold them.
use Rattle.std.specs.Prelude.{◌≡◌, ◌⊎◌, ◌==◌, ◌++◌, ◌+◌, ◌*◌, ◌<◌, ◌≤◌, ◌^◌, ℕ, List, [], ◌∷◌, cond, drop, length, nat_lt, slice_index_or, take}
use Rattle.dg_model.specs.declared.sites.Site.{Site}
use Rattle.dg_model.specs.Tables.{sites_off}
use Rattle.dg_map.specs.Bits.{IsBits, has}
use Rattle.dg_map.specs.declared.site_lists.SiteLists.{SiteLists}

-- how many sites block b has
abbrev pub count_of : SiteLists → ℕ → ℕ
count_of lists b = slice_index_or lists.counts.items b 0

-- the sites of block b: so many from the front of its row
abbrev pub row_of : SiteLists → ℕ → List Site
row_of lists b = take (count_of lists b) (drop (b * lists.width) lists.sites.items)

-- what the lists keep: each block has a row, with a place for each boundary, and `spread` has the blocks with more than
-- one site
pub record IsLists (lists : SiteLists) : Type 0 where
  pub small : length lists.counts.items ≤ 2 ^ 20
  pub narrow : lists.width ≤ 16
  pub size : length lists.sites.items ≡ length lists.counts.items * lists.width
  pub counts : (b : ℕ) → count_of lists b ≤ lists.width
  pub bits : IsBits lists.spread
  pub bound : lists.spread.bound ≡ length lists.counts.items
  pub spread : (b : ℕ) → has lists.spread b ≡ nat_lt 1 (count_of lists b)

-- there are so many blocks, with room for a site on each of so many boundaries, and none has a site
pub record IsBare (blocks boundaries : ℕ) (lists : SiteLists) : Type 0 where
  pub sound : IsLists lists
  pub width : lists.width ≡ boundaries
  pub size : length lists.counts.items ≡ blocks
  pub rows : (b : ℕ) → row_of lists b ≡ []

-- the block has these sites now, and each other one those that it had
pub record SetsRow (old new : SiteLists) (block : ℕ) (sites : List Site) : Type 0 where
  pub sound : IsLists new
  pub width : new.width ≡ old.width
  pub size : length new.counts.items ≡ length old.counts.items
  pub rows : (b : ℕ) → row_of new b ≡ cond (block == b) sites (row_of old b)

-- the site is the last of the block's list now
abbrev pub Appends : SiteLists → SiteLists → ℕ → Site → Type 0
Appends old new block site = SetsRow old new block (row_of old block ++ site ∷ [])

-- the block has so many sites of its row now, and all else is as before
pub record SetsCount (old new : SiteLists) (block count : ℕ) : Type 0 where
  pub sound : IsLists new
  pub width : new.width ≡ old.width
  pub sites : new.sites ≡ old.sites
  pub size : length new.counts.items ≡ length old.counts.items
  pub counts : (b : ℕ) → count_of new b ≡ cond (block == b) count (count_of old b)

-- of `count` sites from place `start` on, those off the boundary are kept, in their order; all others stay where they are
pub record KeepsOff (old new : List Site) (start count kept boundary : ℕ) : Type 0 where
  pub same_length : length new ≡ length old
  pub fewer : kept ≤ count
  pub row : take kept (drop start new) ≡ sites_off boundary (take count (drop start old))
  pub others : (j : ℕ) (d : Site) → (j < start) ⊎ (start + count ≤ j) → slice_index_or new j d ≡ slice_index_or old j d

-- no block has more than one site
abbrev pub IsUnspread : SiteLists → Type 0
IsUnspread lists = (b : ℕ) → length (row_of lists b) ≤ 1

-- the block is the least one with more than one site
pub record IsFirstSpread (lists : SiteLists) (block : ℕ) : Type 0 where
  pub spread : 1 < length (row_of lists block)
  pub least : (b : ℕ) → 1 < length (row_of lists b) → block ≤ b
