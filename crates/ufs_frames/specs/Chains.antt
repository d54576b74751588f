-- The bounds of a chain (`NDADDR` in `dinode.h`, `NINDIR` in `fs.h`).
use Rattle.std.specs.Prelude.{ℕ, ◌<◌}
use Rattle.ufs_model.specs.declared.pointers.Chain.{Chain}
use Rattle.ufs_model.specs.declared.pointers.Chain.TheVariants.{Direct, One, Two, Three}

-- a direct slot is one of 12, and each index is below the number of pointers of an indirect block
abbrev pub IsChain : ℕ → Chain → Type 0
IsChain nindir (Direct slot) = slot < 12
IsChain nindir (One i) = i < nindir
IsChain nindir (Two i j) = (i < nindir) × (j < nindir)
IsChain nindir (Three i j k) = (i < nindir) × (j < nindir) × (k < nindir)
