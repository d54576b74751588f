-- Which fragments belong to some inodes: their slots claim them, or pointers in fragments that belong to them.
use Rattle.std.specs.Prelude.{◌≡◌, ◌-◌, ℕ}
use Rattle.ufs_model.specs.Claims.{level_of}
use Rattle.ufs_model.specs.declared.claims.ClaimSource.{ClaimSource}
use Rattle.ufs_model.specs.declared.claims.ClaimSource.TheVariants.{Slot, Pointer}

module _ (claims : ℕ → ClaimSource → Type 0) (owner : ℕ → Type 0) where
  -- a fragment belongs to such an inode at a level
  pub data IsHeld : ℕ → ℕ → Type 0 where
    by_slot : {i slot f : ℕ} → owner i → claims f (Slot i slot) → IsHeld (slot - 11) f
    by_pointer : {f upper height at : ℕ} → IsHeld height upper → claims f (Pointer upper height at) → IsHeld (height - 1) f

  -- a source leads to such an inode, where this holds of the fragments that belong to one at the level above
  abbrev pub Leads : (ℕ → Type 0) → ClaimSource → Type 0
  Leads above (Slot i slot) = owner i
  Leads above (Pointer upper height at) = above upper

  -- such a source claims the fragment at a level
  pub record HasHolder (above : ℕ → Type 0) (level f : ℕ) : Type 0 where
    pub source : ClaimSource
    pub claim : claims f source
    pub is : level_of source ≡ level
    pub leads : Leads above source
