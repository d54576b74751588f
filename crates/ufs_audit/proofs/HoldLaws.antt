-- What belongs to an inode is what one of its chains of sources claims.
use Rattle.std.proofs.Common.{◌≡◌, ◌<◌, ◌-◌, ◌+◌, ℕ, List, Contains, refl, sym, subst, arith}
use Rattle.std.specs.Prelude.{Ok, Some, slice_get}
use Rattle.std.proofs.lemmas.Option.{get_or_from_slice_get, slice_get_read, slice_get_within}
use Rattle.ufs_model.specs.Blocks.{Volume}
use Rattle.ufs_model.specs.Claims.{IsClaim, level_of, source_fragments}
use Rattle.ufs_model.specs.Claims.IsClaim.{by_slot as claim_by_slot, by_pointer as claim_by_pointer}
use Rattle.ufs_model.specs.Malformations.{Claims, FirstBlock, IsDirectory}
use Rattle.ufs_model.specs.Malformations.FirstBlock.{of_slot, of_pointer}
use Rattle.ufs_model.specs.Metadata.{IsStructure}
use Rattle.ufs_model.specs.Metadata.IsStructure.{of_directory}
use Rattle.ufs_model.specs.Superblocks.{geometry_of}
use Rattle.ufs_model.specs.declared.claims.ClaimSource.{ClaimSource}
use Rattle.ufs_model.specs.declared.claims.ClaimSource.TheVariants.{Slot, Pointer}
use Rattle.ufs_model.specs.declared.geometries.Geometry.{Geometry}
use Rattle.ufs_audit.specs.Holds.{HasHolder, IsHeld, Leads}
use Rattle.ufs_audit.specs.Holds.IsHeld.{by_slot, by_pointer}

-- a source that claims a fragment says so itself
claim_says : (claimed : ClaimSource → List ℕ) (f : ℕ) (source : ClaimSource) → IsClaim claimed f source → Contains (claimed source) f
claim_says claimed f (Slot i slot) (claim_by_slot has) = has
claim_says claimed f (Pointer u level at) (claim_by_pointer above is low has) = has

-- a pointer that claims a fragment has a level above 0
pub claim_high : (claimed : ClaimSource → List ℕ) (f u level at : ℕ) → IsClaim claimed f (Pointer u level at) → 0 < level
claim_high claimed f u level at (claim_by_pointer above is low has) = low

contains_got : (xs : List ℕ) (place f : ℕ) → slice_get xs place ≡ Some f → Contains xs f
contains_got xs place f here = (place, slice_get_within xs place f here, get_or_from_slice_get xs place f f here)

module _ (g : Geometry) (v : Volume) where
  -- a chain claims what it reaches
  pub chain_claims : (source : ClaimSource) (i n f : ℕ) → FirstBlock g v source i n → Contains (source_fragments g v source) f → Claims g v f source
  chain_claims (Slot j slot) i n f of_slot has = claim_by_slot has
  chain_claims (Pointer u level at) i n f (of_pointer {n = m} {source = source} place first here is low) has =
      claim_by_pointer (chain_claims source i m u first (contains_got (source_fragments g v source) place u here)) is low has

  module _ (owner : ℕ → Type 0) where
    -- what a chain from such an inode claims belongs to one
    pub chain_held : (source : ClaimSource) (i n f : ℕ) → FirstBlock g v source i n → owner i → Contains (source_fragments g v source) f
        → IsHeld (Claims g v) owner (level_of source) f
    chain_held (Slot j slot) i n f of_slot own has = by_slot own (claim_by_slot has)
    chain_held (Pointer u level at) i n f (of_pointer {n = m} {source = source} place first here is low) own has =
        let up : Contains (source_fragments g v source) u = contains_got (source_fragments g v source) place u here in
        let held : IsHeld (Claims g v) owner level u = subst (λ k. IsHeld (Claims g v) owner k u) is (chain_held source i m u first own up) in
        by_pointer held (claim_by_pointer (chain_claims source i m u first up) is low has)

    -- a chain to a fragment
    pub record HasChain (level f : ℕ) : Type 0 where
      pub source : ClaimSource
      pub i : ℕ
      pub n : ℕ
      pub claim : Claims g v f source
      pub is : level_of source ≡ level
      pub first : FirstBlock g v source i n
      pub own : owner i

    pub held_chain : (level f : ℕ) → IsHeld (Claims g v) owner level f → HasChain level f
    held_chain level f (by_slot {i = i} {slot = slot} own claim) =
        record { source = Slot i slot; i = i; n = _; claim = claim; is = refl; first = of_slot; own = own }
    held_chain level f (by_pointer {upper = u} {height = height} {at = at} held claim) =
        let up = held_chain height u held in
        let has = claim_says (source_fragments g v) u up.source up.claim in
        let here : slice_get (source_fragments g v up.source) (has.0) ≡ Some u = slice_get_read (source_fragments g v up.source) _ (has.0) u refl (has.1) (sym (has.2)) in
        record {
          source = Pointer u height at;
          i = up.i;
          n = _;
          claim = claim;
          is = refl;
          first = of_pointer (has.0) up.first here up.is (claim_high (source_fragments g v) f u height at claim);
          own = up.own;
        }

  -- what belongs to a directory is of the structure
  pub held_structure : (l n level f : ℕ) → (geometry_of l n v).value ≡ Ok g → IsHeld (Claims g v) (λ i. IsDirectory g v i (λ _. Unit {0})) level f → IsStructure l n v f
  held_structure l n level f is held =
      let chain = held_chain (λ i. IsDirectory g v i (λ _. Unit {0})) level f held in
      of_directory g chain.i chain.n chain.source is chain.own chain.claim chain.first

  pub claimed_held : (i n f : ℕ) (source : ClaimSource) → IsDirectory g v i (λ _. Unit {0}) → Claims g v f source → FirstBlock g v source i n
      → IsHeld (Claims g v) (λ i. IsDirectory g v i (λ _. Unit {0})) (level_of source) f
  claimed_held i n f source own claim first =
      chain_held (λ i. IsDirectory g v i (λ _. Unit {0})) source i n f first own (claim_says (source_fragments g v) f source claim)

-- ---- level by level

module _ (claims : ℕ → ClaimSource → Type 0) (owner : ℕ → Type 0) (high : (f u height at : ℕ) → claims f (Pointer u height at) → 0 < height) where
  pub held_holder : (level f : ℕ) → IsHeld claims owner level f → HasHolder claims owner (IsHeld claims owner (level + 1)) level f
  held_holder level f (by_slot {i = i} {slot = slot} own claim) = record { source = Slot i slot; claim = claim; is = refl; leads = own }
  held_holder level f (by_pointer {upper = u} {height = height} {at = at} held claim) =
      let some = high f u height at claim in
      let same : height ≡ (height - 1) + 1 = omega arith in
      record { source = Pointer u height at; claim = claim; is = refl; leads = subst (λ k. IsHeld claims owner k u) same held }

  led_held : (level f : ℕ) (source : ClaimSource) → claims f source → level_of source ≡ level → Leads claims owner (IsHeld claims owner (level + 1)) source
      → IsHeld claims owner level f
  led_held level f (Slot i slot) claim is leads = subst (λ k. IsHeld claims owner k f) is (by_slot leads claim)
  led_held level f (Pointer u height at) claim is leads =
      let some = high f u height at claim in
      let same : level + 1 ≡ height = omega (arith, is, some) in
      subst (λ k. IsHeld claims owner k f) is (by_pointer (subst (λ k. IsHeld claims owner k u) same leads) claim)

  pub holder_held : (level f : ℕ) → HasHolder claims owner (IsHeld claims owner (level + 1)) level f → IsHeld claims owner level f
  holder_held level f holder = led_held level f holder.source holder.claim holder.is holder.leads

-- by other claims and other owners
pub held_along : (claims others : ℕ → ClaimSource → Type 0) (owner other : ℕ → Type 0) → ((f : ℕ) (source : ClaimSource) → claims f source → others f source) → ((i : ℕ) → owner i → other i)
    → (level f : ℕ) → IsHeld claims owner level f → IsHeld others other level f
held_along claims others owner other along own level f (by_slot {i = i} {slot = slot} is claim) = by_slot (own i is) (along f (Slot i slot) claim)
held_along claims others owner other along own level f (by_pointer {upper = u} {height = height} {at = at} held claim) =
    by_pointer (held_along claims others owner other along own height u held) (along f (Pointer u height at) claim)
