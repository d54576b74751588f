-- On a volume without shared fragments each claimed one has an owner, to which a chain of sources leads.
use Rattle.std.proofs.Common.{◌≡◌, ◌≢◌, ◌∙◌, ◌⊎◌, ℕ, zero, suc, ◌+◌, ◌*◌, ◌/◌, ◌^◌, ◌-◌, ◌<◌, inl, inr, List, Some, refl, ap, subst, arith}
use Rattle.std.specs.Prelude.{Contains, slice_get}
use Rattle.std.proofs.lemmas.Option.{slice_get-get_or}
use Rattle.ufs_model.specs.Blocks.{Volume}
use Rattle.ufs_model.specs.Claims.{IsClaim, level_of, source_fragments}
use Rattle.ufs_model.specs.Claims.IsClaim.{by_pointer, by_slot}
use Rattle.ufs_model.specs.Malformations.{FirstBlock, HasTwoClaims, first_block}
use Rattle.ufs_model.specs.Malformations.FirstBlock.{of_pointer, of_slot}
use Rattle.ufs_model.specs.Owners.{IsOnlyClaim, IsOwner}
use Rattle.ufs_model.specs.Owners.IsOwner.{by_own_slot, by_upper}
use Rattle.ufs_model.specs.declared.claims.ClaimSource.{ClaimSource}
use Rattle.ufs_model.specs.declared.claims.ClaimSource.TheVariants.{Pointer, Slot}
use Rattle.ufs_model.specs.declared.geometries.Geometry.{Geometry}
use Rattle.ufs_frames.proofs.FragmentLaws.{contains_got}

-- ---- one owner at most

same_by_claim : {claims : ℕ → ClaimSource → Type 0} {f : ℕ} {one other : ClaimSource} → IsOnlyClaim claims f one → IsOnlyClaim claims f other → one ≡ other
same_by_claim {claims} {f} {one} {other} first second = second.only one first.claim

pub one_owner : (claims : ℕ → ClaimSource → Type 0) {f i j level height : ℕ} → IsOwner claims f i level → IsOwner claims f j height → i ≡ j
one_owner claims (by_own_slot {fragment = f} {inode = i} {slot = s} one is) (by_own_slot {inode = j} {slot = t} other has) =
    let same : Slot i s ≡ Slot j t = same_by_claim one other in cc
one_owner claims (by_own_slot {fragment = f} {inode = i} {slot = s} one is) (by_upper {upper = u} {at = at} {above = above} other has owner) =
    let same : Slot i s ≡ Pointer u above at = same_by_claim one other in cc
one_owner claims (by_upper {upper = u} {at = at} {above = above} one is owner) (by_own_slot {inode = j} {slot = t} other has) =
    let same : Pointer u above at ≡ Slot j t = same_by_claim one other in cc
one_owner claims (by_upper {upper = u} {at = at} {inode = i} {above = above} one is owner) (by_upper {upper = w} {at = bt} {inode = j} {above = height} other has second) =
    let same : Pointer u above at ≡ Pointer w height bt = same_by_claim one other in
    let place : w ≡ u = cc in
    one_owner claims owner (subst (λ (x : ℕ). IsOwner claims x j height) place second)

-- ---- sources are the same or not

differ : (a b : ℕ) → (a ≡ b) ⊎ (a ≢ b)
differ zero zero = inl refl
differ zero (suc b) = inr (λ (is : zero ≡ suc b). cc)
differ (suc a) zero = inr (λ (is : suc a ≡ zero). cc)
differ (suc a) (suc b) = elim (differ a b) [
  | inl same ↦ inl (ap suc same)
  | inr other ↦ inr (λ (is : suc a ≡ suc b). other (omega arith))
]

same_source : (one other : ClaimSource) → (one ≡ other) ⊎ (one ≢ other)
same_source (Slot i s) (Slot j t) = elim (differ i j) [
  | inl same ↦ elim (differ s t) [
    | inl too ↦ inl (rw (same, too) refl)
    | inr apart ↦ inr (λ (is : Slot i s ≡ Slot j t). apart cc)
  ]
  | inr apart ↦ inr (λ (is : Slot i s ≡ Slot j t). apart cc)
]
same_source (Slot i s) (Pointer u level at) = inr (λ (is : Slot i s ≡ Pointer u level at). cc)
same_source (Pointer u level at) (Slot i s) = inr (λ (is : Pointer u level at ≡ Slot i s). cc)
same_source (Pointer u level at) (Pointer w height bt) = elim (differ u w) [
  | inl same ↦ elim (differ level height) [
    | inl too ↦ elim (differ at bt) [
      | inl three ↦ inl (rw (same, too, three) refl)
      | inr apart ↦ inr (λ (is : Pointer u level at ≡ Pointer w height bt). apart cc)
    ]
    | inr apart ↦ inr (λ (is : Pointer u level at ≡ Pointer w height bt). apart cc)
  ]
  | inr apart ↦ inr (λ (is : Pointer u level at ≡ Pointer w height bt). apart cc)
]

-- ---- claims

pub claim_contains : {claimed : ClaimSource → List ℕ} {f : ℕ} {source : ClaimSource} → IsClaim claimed f source → Contains (claimed source) f
claim_contains (by_slot h) = h
claim_contains (by_pointer upper level above h) = h

-- a pointer claims at a level above 0
pub pointer_above : {claimed : ClaimSource → List ℕ} {f u level at : ℕ} → IsClaim claimed f (Pointer u level at) → 0 < level
pointer_above (by_pointer upper is above h) = above

pub record IsPlaceIn (xs : List ℕ) (f : ℕ) : Type 0 where
  pub place : ℕ
  pub here : slice_get xs place ≡ Some f

pub place_in : (xs : List ℕ) (f : ℕ) → Contains xs f → IsPlaceIn xs f
place_in xs f has = record { place = has.0; here = slice_get-get_or xs (has.0) f (has.1) ∙ ap Some (has.2) }

-- ---- what is reached is owned

module _ (g : Geometry) (v : Volume) (once : (f : ℕ) → HasTwoClaims g v f → ⊥) where
  only : (f : ℕ) (source : ClaimSource) → IsClaim (source_fragments g v) f source → IsOnlyClaim (IsClaim (source_fragments g v)) f source
  only f source claim = record {
    claim = claim;
    only = λ other h. elim (same_source other source) [
      | inl same ↦ same
      | inr apart ↦ absurd (once f (record { one = other; other = source; differ = apart; first = h; second = claim }))
    ];
  }

  -- with the claim of the source
  reached_owner : (source : ClaimSource) (i n f : ℕ) → FirstBlock g v source i n → Contains (source_fragments g v source) f
      → IsClaim (source_fragments g v) f source × IsOwner (IsClaim (source_fragments g v)) f i (level_of source)
  reached_owner source i n f (of_slot {slot = slot}) has =
      let claim : IsClaim (source_fragments g v) f (Slot i slot) = by_slot has in
      (claim, by_own_slot (only f (Slot i slot) claim) refl)
  reached_owner source i n f (of_pointer {f = u} {level = level} {at = at} {n = m} {source = other} place before here is above) has =
      let upper = reached_owner other i m u before (contains_got (source_fragments g v other) place u here) in
      let claim : IsClaim (source_fragments g v) f (Pointer u level at) = by_pointer upper.0 is above has in
      (claim, by_upper (only f (Pointer u level at) claim) refl (subst (λ (k : ℕ). IsOwner (IsClaim (source_fragments g v)) u i k) is upper.1))

  pub owner_of_reached : (source : ClaimSource) (i n f : ℕ) → FirstBlock g v source i n → IsClaim (source_fragments g v) f source
      → IsOwner (IsClaim (source_fragments g v)) f i (level_of source)
  owner_of_reached source i n f reaches claim = (reached_owner source i n f reaches (claim_contains claim)).1

-- ---- what is owned is reached

-- block f belongs to inode i by this source, through which this first file block is reached; above it stands a fragment of the same inode,
-- or none
pub record IsTraced (g : Geometry) (v : Volume) (f i level : ℕ) : Type 0 where
  pub source : ClaimSource
  pub first : ℕ
  pub reaches : FirstBlock g v source i first
  pub one : IsOnlyClaim (IsClaim (source_fragments g v)) f source
  pub of_level : level_of source ≡ level

-- a claim by a pointer, with the claim on its own fragment
record IsClaimAbove (claimed : ClaimSource → List ℕ) (u level : ℕ) : Type 0 where
  source : ClaimSource
  claim : IsClaim claimed u source
  is : level_of source ≡ level
  above : 0 < level

claim_above : {claimed : ClaimSource → List ℕ} {f u level at : ℕ} → IsClaim claimed f (Pointer u level at) → IsClaimAbove claimed u level
claim_above (by_pointer {source = source} upper is above h) = record { source = source; claim = upper; is = is; above = above }

pub traced : (g : Geometry) (v : Volume) {f i level : ℕ} → IsOwner (IsClaim (source_fragments g v)) f i level → IsTraced g v f i level
traced g v (by_own_slot {fragment = f} {inode = i} {slot = slot} one is) =
    record { source = Slot i slot; first = first_block g slot; reaches = of_slot; one = one; of_level = is }
traced g v (by_upper {fragment = f} {upper = u} {at = at} {inode = i} {above = above} one is owner) =
    let up = traced g v owner in
    let here = place_in (source_fragments g v up.source) u (claim_contains up.one.claim) in
    record {
      source = Pointer u above at;
      first = up.first + (here.place * (g.fsize / 4) + at) * g.nindir ^ (above - 1);
      reaches = of_pointer here.place up.reaches here.here up.of_level (pointer_above one.claim);
      one = one;
      of_level = is;
    }
