-- Volumes that agree on metadata have the same claims.
use Rattle.std.proofs.Common.{◌≡◌, ℕ, ◌*◌, ◌<◌, ◌↔◌, Bool, true, false, List, [], Option, Some, None, refl, sym, ap, subst, arith}
use Rattle.std.specs.Prelude.{Contains, if◌then◌else◌, slice_get}
use Rattle.std.proofs.lemmas.Bool.Decides.{nat_tests}
use Rattle.ufs_model.specs.Blocks.{Consulted, Volume, bind, block_at}
use Rattle.ufs_model.specs.Claims.{HasClaimCount, IsClaim, level_of, pointer_fragments, slot_fragments_in, source_fragments}
use Rattle.ufs_model.specs.Claims.IsClaim.{by_pointer, by_slot}
use Rattle.ufs_model.specs.GroupMaps.{group_bytes}
use Rattle.ufs_model.specs.Inodes.{inode_block, inode_of, is_inode_number}
use Rattle.ufs_model.specs.Malformations.{FirstBlock, inode_at}
use Rattle.ufs_model.specs.Malformations.FirstBlock.{of_pointer, of_slot}
use Rattle.ufs_model.specs.Metadata.{IsMetadataBy}
use Rattle.ufs_model.specs.Metadata.IsMetadataBy.{of_group, of_indirect, of_inode}
use Rattle.ufs_model.specs.Owners.{IsOnlyClaim, IsOwner, IsShared}
use Rattle.ufs_model.specs.Owners.IsOwner.{by_own_slot, by_upper}
use Rattle.ufs_model.specs.Owners.IsShared.{by_chain, by_itself}
use Rattle.ufs_model.specs.declared.claims.ClaimSource.{ClaimSource}
use Rattle.ufs_model.specs.declared.claims.ClaimSource.TheVariants.{Pointer, Slot}
use Rattle.ufs_model.specs.declared.geometries.Geometry.{Geometry}
use Rattle.ufs_model.specs.declared.inodes.Inode.{Inode}
use Rattle.ufs_frames.specs.Frames.{AgreeOn}
use Rattle.ufs_frames.proofs.BlockLaws.{local_group, local_inode}
use Rattle.ufs_frames.proofs.FragmentLaws.{contains_got, in_one}

-- ---- claims by two functions that differ where nothing is claimed

-- both claim the same by each slot, and by each pointer of a fragment that the first claims above level 0
pub record ClaimAlike (t u : ClaimSource → List ℕ) : Type 0 where
  pub slots : (i slot : ℕ) → u (Slot i slot) ≡ t (Slot i slot)
  pub pointers : (upper level at : ℕ) (source : ClaimSource) → IsClaim t upper source → level_of source ≡ level → 0 < level
      → u (Pointer upper level at) ≡ t (Pointer upper level at)

claim_onto : (t u : ClaimSource → List ℕ) → ClaimAlike t u → {f : ℕ} {source : ClaimSource} → IsClaim t f source → IsClaim u f source
claim_onto t u same (by_slot {fragment = f} {inode = i} {slot = slot} has) = by_slot (subst (λ xs. Contains xs f) (sym (same.slots i slot)) has)
claim_onto t u same (by_pointer {fragment = f} {upper = upper} {level = level} {at = at} {source = source} above is low has) =
    by_pointer (claim_onto t u same above) is low (subst (λ xs. Contains xs f) (sym (same.pointers upper level at source above is low)) has)

claim_back : (t u : ClaimSource → List ℕ) → ClaimAlike t u → {f : ℕ} {source : ClaimSource} → IsClaim u f source → IsClaim t f source
claim_back t u same (by_slot {fragment = f} {inode = i} {slot = slot} has) = by_slot (subst (λ xs. Contains xs f) (same.slots i slot) has)
claim_back t u same (by_pointer {fragment = f} {upper = upper} {level = level} {at = at} {source = source} above is low has) =
    let first = claim_back t u same above in
    by_pointer first is low (subst (λ xs. Contains xs f) (same.pointers upper level at source first is low) has)

pub same_claims : (t u : ClaimSource → List ℕ) → ClaimAlike t u → (f : ℕ) (source : ClaimSource) → IsClaim u f source ↔ IsClaim t f source
same_claims t u same f source = (λ h. claim_back t u same h, λ h. claim_onto t u same h)

-- ---- owners by two relations of claims that are the same

pub other_way : {c d : ℕ → ClaimSource → Type 0} → ((f : ℕ) (source : ClaimSource) → d f source ↔ c f source) → (f : ℕ) (source : ClaimSource) → c f source ↔ d f source
other_way same f source = ((same f source).1, (same f source).0)

only_along : (c d : ℕ → ClaimSource → Type 0) → ((f : ℕ) (source : ClaimSource) → d f source ↔ c f source) → (f : ℕ) (source : ClaimSource) → IsOnlyClaim c f source → IsOnlyClaim d f source
only_along c d same f source one = record { claim = (same f source).1 one.claim; only = λ other h. one.only other ((same f other).0 h) }

pub owner_along : (c d : ℕ → ClaimSource → Type 0) → ((f : ℕ) (source : ClaimSource) → d f source ↔ c f source) → {f i level : ℕ} → IsOwner c f i level → IsOwner d f i level
owner_along c d same (by_own_slot {fragment = f} {inode = i} {slot = slot} one is) = by_own_slot (only_along c d same f (Slot i slot) one) is
owner_along c d same (by_upper {fragment = f} {upper = upper} {at = at} {above = above} one is owner) = by_upper (only_along c d same f (Pointer upper above at) one) is (owner_along c d same owner)

count_along : (c d : ℕ → ClaimSource → Type 0) → ((f : ℕ) (source : ClaimSource) → d f source ↔ c f source) → (f count : ℕ) → HasClaimCount c f count → HasClaimCount d f count
count_along c d same f count has = record {
  sources = has.sources;
  are = record {
    each = λ source. (λ h. (same f source).1 ((has.are.each source).0 h), λ h. (has.are.each source).1 ((same f source).0 h));
    ordered = has.are.ordered;
  };
  number = has.number;
}

pub shared_along : (c d : ℕ → ClaimSource → Type 0) → ((f : ℕ) (source : ClaimSource) → d f source ↔ c f source) → {f count : ℕ} → IsShared c f count → IsShared d f count
shared_along c d same (by_itself {fragment = f} {count = count} has more) = by_itself (count_along c d same f count has) more
shared_along c d same (by_chain {fragment = f} {upper = upper} {level = level} {at = at} one up) = by_chain (only_along c d same f (Pointer upper level at) one) (shared_along c d same up)

-- ---- by a geometry

pub inode_needs : (g : Geometry) (v : Volume) (i b : ℕ) → Contains ((inode_of g i v).needs) b → b ≡ inode_block g i
unfolding inode_of bind
inode_needs g v i b h = in_one (inode_block g i) b h

inode_by : (within : Bool) (one other : Option Inode) → (within ≡ true → one ≡ other) → (if within then one else None) ≡ (if within then other else None)
inode_by true one other same = same refl
inode_by false one other same = refl

slot_by : (g : Geometry) (slot : ℕ) (within : Bool) (one other : Option Inode) → (within ≡ true → one ≡ other)
    → (if within then slot_fragments_in g slot one else []) ≡ (if within then slot_fragments_in g slot other else [])
slot_by g slot true one other same = ap (slot_fragments_in g slot) (same refl)
slot_by g slot false one other same = refl

pub number_below : (g : Geometry) (i : ℕ) → is_inode_number g i ≡ true → i < g.ncg * g.ipg
number_below g i is = grind (arith, nat_tests)

-- what is claimed through a source is claimed
pub reached_claim : (g : Geometry) (v : Volume) (source : ClaimSource) (i n f : ℕ) → FirstBlock g v source i n → Contains (source_fragments g v source) f
    → IsClaim (source_fragments g v) f source
reached_claim g v source i n f of_slot has = by_slot has
reached_claim g v source i n f (of_pointer {f = upper} {n = m} {source = other} place before here level above) has =
    by_pointer (reached_claim g v other i m upper before (contains_got (source_fragments g v other) place upper here)) level above has

-- Volumes that agree on metadata
module _ (g : Geometry) (v w : Volume) (agree : AgreeOn g.fsize (IsMetadataBy g v) v w) where
  pub same_inode_of : (i : ℕ) → i < g.ncg * g.ipg → inode_of g i w ≡ inode_of g i v
  same_inode_of i low = (local_inode g i).same v w (λ b h. agree b (of_inode i low (inode_needs g v i b h)))

  pub same_group : (c : ℕ) → c < g.ncg → group_bytes g c w ≡ group_bytes g c v
  same_group c low = (local_group g c).same v w (λ b h. agree b (of_group c low h))

  pub same_inode : (i : ℕ) → inode_at g w i ≡ inode_at g v i
  same_inode i = inode_by (is_inode_number g i) ((inode_of g i w).value) ((inode_of g i v).value)
      (λ is. ap (λ (c : Consulted (Option Inode)). c.value) (same_inode_of i (number_below g i is)))

  pub same_slot : (i slot : ℕ) → source_fragments g w (Slot i slot) ≡ source_fragments g v (Slot i slot)
  unfolding source_fragments
  same_slot i slot = slot_by g slot (is_inode_number g i) ((inode_of g i w).value) ((inode_of g i v).value)
      (λ is. ap (λ (c : Consulted (Option Inode)). c.value) (same_inode_of i (number_below g i is)))

  pub same_upper : (f : ℕ) (source : ClaimSource) → IsClaim (source_fragments g v) f source → 0 < level_of source → block_at g.fsize w f ≡ block_at g.fsize v f
  same_upper f source claim above = agree f (of_indirect source claim above)

  pub same_pointer : (f level at : ℕ) → block_at g.fsize w f ≡ block_at g.fsize v f → source_fragments g w (Pointer f level at) ≡ source_fragments g v (Pointer f level at)
  unfolding source_fragments
  same_pointer f level at same = ap (λ block. pointer_fragments g block at) same

  pub alike : ClaimAlike (source_fragments g v) (source_fragments g w)
  alike = record {
    slots = same_slot;
    pointers = λ upper level at source claim is above. same_pointer upper level at (same_upper upper source claim (subst (λ (k : ℕ). 0 < k) (sym is) above));
  }

  -- ---- what is reached through a source

  reached_alike : (source : ClaimSource) (i n : ℕ) → FirstBlock g v source i n → source_fragments g w source ≡ source_fragments g v source
  reached_alike source i n (of_slot {i = j} {slot = slot}) = same_slot j slot
  reached_alike source i n (of_pointer {f = f} {level = level} {at = at} {n = m} {source = other} place before here is above) =
      same_pointer f level at (same_upper f other (reached_claim g v other i m f before (contains_got (source_fragments g v other) place f here)) (subst (λ (k : ℕ). 0 < k) (sym is) above))

  pub first_onto : (source : ClaimSource) (i n : ℕ) → FirstBlock g v source i n → FirstBlock g w source i n
  first_onto source i n of_slot = of_slot
  first_onto source i n (of_pointer {f = f} {n = m} {source = other} place before here is above) =
      of_pointer place (first_onto other i m before) (subst (λ xs. slice_get xs place ≡ Some f) (sym (reached_alike other i m before)) here) is above

  pub first_back : (source : ClaimSource) (i n : ℕ) → FirstBlock g w source i n → FirstBlock g v source i n
  first_back source i n of_slot = of_slot
  first_back source i n (of_pointer {f = f} {n = m} {source = other} place before here is above) =
      let first = first_back other i m before in
      of_pointer place first (subst (λ xs. slice_get xs place ≡ Some f) (reached_alike other i m first) here) is above
