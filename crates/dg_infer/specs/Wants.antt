-- What a block is to the plan, by what is kept: one block is one thing, whatever the volume.
use Rattle.std.specs.Prelude.{◌≡◌, ◌⊎◌, ℕ, true, false, Some}
use Rattle.ufs_model.specs.Owners.{IsOwner}
use Rattle.ufs_model.specs.declared.inodes.Kind.TheVariants.{Regular}
use Rattle.dg_claims.specs.Kept.{table_of}
use Rattle.dg_claims.specs.Tables.{TableClaims}
use Rattle.dg_infer.specs.Known.{is_system_by}
use Rattle.dg_infer.specs.Meanings.{KeptInference, kind_at}
use Rattle.dg_model.specs.declared.wants.Want.{Want}
use Rattle.dg_model.specs.declared.wants.Want.TheVariants.{File, Kept, Stray}

-- an inode is kept as a regular file
abbrev pub IsRegularBy : KeptInference → ℕ → Type 0
IsRegularBy kept i = kind_at kept.kinds i ≡ Some Regular

-- by the claims that are kept a block belongs to inode i, at some level
abbrev pub IsOfBy : KeptInference → ℕ → ℕ → Type 0
IsOfBy kept b i = (level : ℕ) × IsOwner (TableClaims (table_of kept.claims)) b i level

-- what a block is to the plan
abbrev pub IsWantBy : KeptInference → ℕ → Want → Type 0
IsWantBy kept b Kept =
    (is_system_by kept.geometry b ≡ true) ⊎ ((is_system_by kept.geometry b ≡ false) × ((i : ℕ) × IsOfBy kept b i × (IsRegularBy kept i → ⊥)))
IsWantBy kept b (File i) = (is_system_by kept.geometry b ≡ false) × IsOfBy kept b i × IsRegularBy kept i
IsWantBy kept b Stray = (is_system_by kept.geometry b ≡ false) × ((i : ℕ) → IsOfBy kept b i → ⊥)
