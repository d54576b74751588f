-- What moves leave of a store.
use Rattle.std.specs.Prelude.{◌≡◌, ◌⊎◌, ◌*◌, ℕ, Bool, true, min}
use Rattle.dg_io.specs.declared.outside.Rack.{Ghosts}
use Rattle.dg_model.specs.Members.{is_lost}
use Rattle.dg_model.specs.Moves.{missing_in}
use Rattle.dg_model.specs.Sites.{is_gone}
use Rattle.dg_model.specs.Tables.{Table, count_on, is_on, sites_in}
use Rattle.dg_store.specs.declared.store.Store.{Store}
use Rattle.dg_store.specs.Answers.{SameWritten}
use Rattle.dg_store.specs.Leaves.{Leaves}
use Rattle.dg_store.specs.Stores.{KeepsBlocks, TellsAll, members_of, rack_of, table_of}

-- a block that stands on one of its targets stays there
abbrev pub KeepsMet : (ℕ → ℕ → Bool) → Table → Table → Type 0
KeepsMet targets old new = (b s : ℕ) → targets b s ≡ true → is_on old b s ≡ true → is_on new b s ≡ true

-- What moves leave, wherever they end: each written block has a site, and stays where it stands on a target. Each block keeps its value,
-- where the members tell their bytes in the end.
pub record MovesOn {R : Type 0} (rack : Ghosts R) (targets : ℕ → ℕ → Bool) (old new : Store R) : Type 0 where
  pub leaves : Leaves rack old new
  pub written : SameWritten (table_of old) (table_of new)
  pub met : KeepsMet targets (table_of old) (table_of new)
  pub stands : TellsAll rack new → KeepsBlocks rack old new

-- Sites were given up, none of them on a target: no call was made, and each block keeps its value, its targets and a site.
pub record GivesUpOnly {R : Type 0} (rack : Ghosts R) (targets : ℕ → ℕ → Bool) (old new : Store R) : Type 0 where
  pub leaves : Leaves rack old new
  pub rack_is : rack_of new ≡ rack_of old
  pub members : (q : ℕ) → members_of new q ≡ members_of old q
  pub stands : KeepsBlocks rack old new
  pub written : SameWritten (table_of old) (table_of new)
  pub kept : (b s : ℕ) → targets b s ≡ true → count_on s (sites_in (table_of new) b) ≡ count_on s (sites_in (table_of old) b)

-- the copy of block b to boundary s failed, as the block is gone or the boundary is lost: each block has the sites and the value that it had
pub record CopyFails {R : Type 0} (rack : Ghosts R) (b s : ℕ) (old new : Store R) : Type 0 where
  pub leaves : Leaves rack old new
  pub same : table_of new ≡ table_of old
  pub cause : (is_gone (table_of new) (members_of new) b ≡ true) ⊎ (is_lost (members_of new) s ≡ true)
  pub stands : KeepsBlocks rack old new

-- how many calls on the rack so many copies make at most: each reads at most all sites of its block but one, and writes one
abbrev pub copy_calls : Table → ℕ → ℕ
copy_calls table copies = 2 * table.shape.b * copies

-- how many placements a call with this limit meets at most
abbrev pub rounds_in : (ℕ → ℕ → Bool) → ℕ → Table → ℕ
rounds_in targets limit table = min limit (missing_in targets table)
