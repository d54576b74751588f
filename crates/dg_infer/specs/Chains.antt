-- What a chain of sources leads to, from a fragment upwards.
use Rattle.std.specs.Prelude.{ℕ}
use Rattle.ufs_model.specs.Owners.{IsOwner, IsShared}
use Rattle.ufs_model.specs.declared.claims.ClaimSource.{ClaimSource}
use Rattle.dg_infer.specs.declared.chains.Chain.{Chain}
use Rattle.dg_infer.specs.declared.chains.Chain.TheVariants.{Unclaimed, Owned, Shared}

-- the fragment isn't claimed, or it has an owner, by a claim of this level, or it is shared, with so many claims
abbrev pub IsChain : (ℕ → ClaimSource → Type 0) → ℕ → Chain → Type 0
IsChain claims fragment Unclaimed = (source : ClaimSource) → claims fragment source → ⊥
IsChain claims fragment (Owned inode level) = IsOwner claims fragment inode level
IsChain claims fragment (Shared count) = IsShared claims fragment count

-- the same of the fragment below, whose one claim has this level
abbrev pub chain_below : ℕ → Chain → Chain
chain_below level Unclaimed = Unclaimed
chain_below level (Owned inode above) = Owned inode level
chain_below level (Shared count) = Shared count
