-- One thing is told of a block.
use Rattle.std.proofs.Common.{◌≡◌, ◌∙◌, ◌⊎◌, ◌<◌, ℕ, Bool, true, List, [], ◌∷◌, length, refl, sym, ap, subst, inl, inr, arith}
use Rattle.std.specs.Prelude.{Result, Ok, Err, IsOkAnd}
use Rattle.std.proofs.lemmas.Bool.{false≢true}
use Rattle.std.proofs.lemmas.Bool.Decides.{nat_tests}
use Rattle.ufs_model.specs.Blocks.{Volume}
use Rattle.ufs_model.specs.Claims.{AreClaimsOn, HasClaimCount, IsClaim, VolumeClaims, is_earlier_claim, level_of}
use Rattle.ufs_model.specs.Owners.{IsOnlyClaim, IsOwner, IsShared}
use Rattle.ufs_model.specs.Owners.IsOwner.{by_own_slot, by_upper}
use Rattle.ufs_model.specs.Owners.IsShared.{by_chain, by_itself}
use Rattle.ufs_model.specs.Roles.{is_data_of, is_system, role}
use Rattle.ufs_model.specs.Superblocks.{geometry_of}
use Rattle.ufs_model.specs.declared.claims.ClaimSource.{ClaimSource}
use Rattle.ufs_model.specs.declared.claims.ClaimSource.TheVariants.{Pointer, Slot}
use Rattle.ufs_model.specs.declared.geometries.BadSuper.{BadSuper}
use Rattle.ufs_model.specs.declared.geometries.Geometry.{Geometry}
use Rattle.ufs_model.specs.declared.roles.Role.{Role}
use Rattle.ufs_model.specs.declared.roles.Role.TheVariants.{Data, Outside as OutsideRole, System as SystemRole}
use Rattle.ufs_model.specs.declared.roles.SystemKind.{SystemKind}
use Rattle.dg_model.specs.Marks.{IsDead, IsSpecial, IsVerdict, is_marked}
use Rattle.dg_model.specs.Tables.{Table}
use Rattle.dg_model.specs.Volumes.{HasRole, IsClaimed, IsMarkedFree}
use Rattle.dg_model.specs.declared.verdicts.Who.{Who}
use Rattle.dg_model.specs.declared.verdicts.Who.TheVariants.{System, Outside, Inode, Shared, Pending, Dead, Idle}
use Rattle.dg_promise.proofs.OwnerLaws.{one_owner}
use Rattle.dg_promise.proofs.PathLaws.{owner_claim}
use Rattle.dg_promise.proofs.VolumeLaws.{fragments_by}
use Rattle.ufs_frames.proofs.DataLaws.{claim_data}
use Rattle.dg_uses.proofs.OneList.{one_list}
use Rattle.dg_uses.proofs.OneView.{both}

-- ---- owners and shares

same_claim : {claims : ℕ → ClaimSource → Type 0} {f : ℕ} {one other : ClaimSource} → IsOnlyClaim claims f one → IsOnlyClaim claims f other → one ≡ other
same_claim first second = second.only _ first.claim

owner_source : {claims : ℕ → ClaimSource → Type 0} {f i level : ℕ} → IsOwner claims f i level → (source : ClaimSource) × IsOnlyClaim claims f source × (level_of source ≡ level)
owner_source (by_own_slot one is) = (_, one, is)
owner_source (by_upper one is owner) = (_, one, is)

level_same : (claims : ℕ → ClaimSource → Type 0) (f i j level height : ℕ) → IsOwner claims f i level → IsOwner claims f j height → level ≡ height
level_same claims f i j level height a b =
    let one = owner_source a in
    let other = owner_source b in
    sym one.2 ∙ ap level_of (same_claim one.1 other.1) ∙ other.2

-- two sources can't both be the earlier one
not_both : (a b : ClaimSource) → is_earlier_claim a b ≡ true → is_earlier_claim b a ≡ true → ⊥
not_both (Slot i s) (Slot j t) h g = grind (arith, nat_tests)
not_both (Slot i s) (Pointer u level at) h g = grind (arith, nat_tests)
not_both (Pointer u level at) (Slot j t) h g = grind (arith, nat_tests)
not_both (Pointer u level at) (Pointer w height bt) h g = grind (arith, nat_tests)

one_count : (claims : ℕ → ClaimSource → Type 0) (f a b : ℕ) → HasClaimCount claims f a → HasClaimCount claims f b → a ≡ b
one_count claims f a b h g =
    sym h.number
    ∙ ap (λ (sources : List ClaimSource). length sources)
    (one_list (λ one other. is_earlier_claim one other ≡ true) not_both h.sources g.sources h.are.ordered g.are.ordered
    (λ u has. (g.are.each u).1 ((h.are.each u).0 has)) (λ u has. (h.are.each u).1 ((g.are.each u).0 has)))
    ∙ g.number

-- a fragment with two claims has no only one
not_only : (claims : ℕ → ClaimSource → Type 0) (f count : ℕ) (source : ClaimSource) → HasClaimCount claims f count → 1 < count → IsOnlyClaim claims f source → ⊥
not_only claims f count source h many one = by h.sources h.are h.number
  where
    by : (sources : List ClaimSource) → AreClaimsOn claims f sources → length sources ≡ count → ⊥
    by [] are size = omega (arith, size, many)
    by (a ∷ []) are size = omega (arith, size, many)
    by (a ∷ b ∷ rest) are size =
        let first : a ≡ source = one.only a ((are.each a).0 (0, omega arith, refl)) in
        let second : b ≡ source = one.only b ((are.each b).0 (1, omega arith, refl)) in
        let before = are.ordered 0 1 a (omega arith) (omega arith) in
        let twice : is_earlier_claim source source ≡ true = subst (λ (z : ClaimSource). is_earlier_claim source z ≡ true) second (subst (λ (z : ClaimSource). is_earlier_claim z b ≡ true) first before) in
        not_both source source twice twice

upper_is : (u w level height at bt : ℕ) → Pointer u level at ≡ Pointer w height bt → u ≡ w
upper_is u w level height at bt e = cc

slot_is_none : (i s u level at : ℕ) → Slot i s ≡ Pointer u level at → ⊥
slot_is_none i s u level at e = cc

-- what is shared has no owner
not_shared : (claims : ℕ → ClaimSource → Type 0) {f i level count : ℕ} → IsOwner claims f i level → IsShared claims f count → ⊥
not_shared claims {f} owner (by_itself {count = count} has many) = let one = owner_source owner in not_only claims f count (one.0) has many one.1
not_shared claims (by_own_slot {inode = i} {slot = s} one is) (by_chain {upper = u} {level = level} {at = at} other up) = slot_is_none i s u level at (same_claim one other)
not_shared claims (by_upper {upper = u} {at = at} {above = above} one is owner) (by_chain {upper = w} {level = level} {at = bt} {count = count} other up) =
    not_shared claims owner (subst (λ (x : ℕ). IsShared claims x count) (sym (upper_is u w above level at bt (same_claim one other))) up)

-- and it is so by one count
shared_same : (claims : ℕ → ClaimSource → Type 0) {f a b : ℕ} → IsShared claims f a → IsShared claims f b → a ≡ b
shared_same claims {f} (by_itself {count = a} has many) (by_itself {count = b} too most) = one_count claims f a b has too
shared_same claims {f} (by_itself {count = a} has many) (by_chain other up) = absurd (not_only claims f a _ has many other)
shared_same claims {f} (by_chain one up) (by_itself {count = b} too most) = absurd (not_only claims f b _ too most one)
shared_same claims (by_chain {upper = u} {level = level} {at = at} {count = a} one up) (by_chain {upper = w} {level = height} {at = bt} {count = b} other above) =
    shared_same claims up (subst (λ (x : ℕ). IsShared claims x b) (sym (upper_is u w level height at bt (same_claim one other))) above)

shared_claim : {claims : ℕ → ClaimSource → Type 0} {f count : ℕ} → IsShared claims f count → (source : ClaimSource) × claims f source
shared_claim {claims} {f} (by_itself {count = count} has many) = by has.sources has.are has.number
  where
    by : (sources : List ClaimSource) → AreClaimsOn claims f sources → length sources ≡ count → (source : ClaimSource) × claims f source
    by [] are size = absurd (omega (arith, size, many))
    by (a ∷ rest) are size = (a, (are.each a).0 (0, omega arith, refl))
shared_claim (by_chain one up) = (_, one.claim)

-- ---- what is claimed has no role that is told before all else

module _ (l n : ℕ) (v : Volume) (b : ℕ) where
  role_same : (one other : Role) → HasRole l n v b one → HasRole l n v b other → one ≡ other
  role_same one other h g = on ((geometry_of l n v).value) refl
    where
      on : (found : Result Geometry BadSuper) → (geometry_of l n v).value ≡ found → one ≡ other
      on (Ok geometry) is = sym (rw is at h) ∙ rw is at g
      on (Err bad) is = absurd (rw is at h)

  claimed_plain : IsClaimed l n v b → IsSpecial l n v b → ⊥
  claimed_plain claimed special = on ((geometry_of l n v).value) refl
    where
      by_data : (group : ℕ) (one : Role) → is_data_of group one ≡ true → (is_system one ≡ true) ⊎ (one ≡ OutsideRole) → ⊥
      by_data group OutsideRole in_group (inl system) = false≢true system
      by_data group OutsideRole in_group (inr outside) = false≢true in_group
      by_data group (SystemRole kind) in_group role = false≢true in_group
      by_data group (Data c) in_group (inl system) = false≢true system
      by_data group (Data c) in_group (inr outside) = let no : Data c ≡ OutsideRole = outside in cc

      on : (found : Result Geometry BadSuper) → (geometry_of l n v).value ≡ found → ⊥
      on (Ok g) is =
          let claim = subst (λ by. IsClaim by b claimed.0) (fragments_by l n v g is) claimed.1 in
          let data_of = claim_data g v b claimed.0 claim in
          by_data data_of.group (role g b) data_of.is (elim special [ inl system ↦ inl (rw is at system) | inr outside ↦ inr (rw is at outside) ])
      on (Err bad) is = elim special [ inl system ↦ rw is at system | inr outside ↦ rw is at outside ]

  system_special : (kind : SystemKind) → HasRole l n v b (SystemRole kind) → IsSpecial l n v b
  system_special kind h = on ((geometry_of l n v).value) refl
    where
      on : (found : Result Geometry BadSuper) → (geometry_of l n v).value ≡ found → IsSpecial l n v b
      on (Ok g) is = inl (subst (λ found. IsOkAnd found (λ g. is_system (role g b) ≡ true)) (sym is) (ap is_system (rw is at h)))
      on (Err bad) is = absurd (rw is at h)

  free_plain : IsMarkedFree l n v b → IsSpecial l n v b → ⊥
  free_plain free special = on ((geometry_of l n v).value) refl
    where
      of_data : (one : Role) (c : ℕ) → one ≡ Data c → (is_system one ≡ true) ⊎ (one ≡ OutsideRole) → ⊥
      of_data one c is (inl system) = false≢true (sym (ap is_system is) ∙ system)
      of_data one c is (inr outside) = let no : Data c ≡ OutsideRole = sym is ∙ outside in cc

      on : (found : Result Geometry BadSuper) → (geometry_of l n v).value ≡ found → ⊥
      on (Ok g) is =
          let there = rw is at free in
          of_data (role g b) (there.0.0) (there.0.1) (elim special [ inl system ↦ inl (rw is at system) | inr outside ↦ inr (rw is at outside) ])
      on (Err bad) is = rw is at free

  owned : (i level : ℕ) → IsOwner (VolumeClaims l n v) b i level → IsClaimed l n v b
  owned i level h = owner_claim h

  shared : (count : ℕ) → IsShared (VolumeClaims l n v) b count → IsClaimed l n v b
  shared count h = shared_claim h

-- ---- verdicts

module _ (table : Table) (v : Volume) (marks : List Bool) (b : ℕ) where
  abbrev l : ℕ
  l = table.shape.l

  abbrev n : ℕ
  n = table.shape.n

  outside_special : HasRole l n v b OutsideRole → IsSpecial l n v b
  outside_special h = inr h

  system_differs : (kind : SystemKind) → SystemRole kind ≡ OutsideRole → ⊥
  system_differs kind e = cc

  kind_inside : (kind other : SystemKind) → SystemRole kind ≡ SystemRole other → kind ≡ other
  kind_inside kind other e = cc

  special_dead : IsSpecial l n v b → IsDead table v marks b → ⊥
  special_dead special dead = free_plain l n v b dead.free special

  pub verdict_same : (one other : Who) → IsVerdict table v marks b one → IsVerdict table v marks b other → one ≡ other
  verdict_same (System kind) (System too) h g = ap System (kind_inside kind too (role_same l n v b (SystemRole kind) (SystemRole too) h g))
  verdict_same (System kind) Outside h g = absurd (system_differs kind (role_same l n v b (SystemRole kind) OutsideRole h g))
  verdict_same (System kind) (Inode i level) h g = absurd (claimed_plain l n v b (owned l n v b i level g) (system_special l n v b kind h))
  verdict_same (System kind) (Shared count) h g = absurd (claimed_plain l n v b (shared l n v b count g) (system_special l n v b kind h))
  verdict_same (System kind) Pending h g = absurd (g.0.role (system_special l n v b kind h))
  verdict_same (System kind) Dead h g = absurd (special_dead (system_special l n v b kind h) g)
  verdict_same (System kind) Idle h g = absurd (g.0.role (system_special l n v b kind h))
  verdict_same Outside (System too) h g = absurd (system_differs too (role_same l n v b (SystemRole too) OutsideRole g h))
  verdict_same Outside Outside h g = refl
  verdict_same Outside (Inode i level) h g = absurd (claimed_plain l n v b (owned l n v b i level g) (outside_special h))
  verdict_same Outside (Shared count) h g = absurd (claimed_plain l n v b (shared l n v b count g) (outside_special h))
  verdict_same Outside Pending h g = absurd (g.0.role (outside_special h))
  verdict_same Outside Dead h g = absurd (special_dead (outside_special h) g)
  verdict_same Outside Idle h g = absurd (g.0.role (outside_special h))
  verdict_same (Inode i level) (System too) h g = absurd (claimed_plain l n v b (owned l n v b i level h) (system_special l n v b too g))
  verdict_same (Inode i level) Outside h g = absurd (claimed_plain l n v b (owned l n v b i level h) (outside_special g))
  verdict_same (Inode i level) (Inode j height) h g =
      ap (λ (z : ℕ). Inode z level) (one_owner (VolumeClaims l n v) h g) ∙ ap (Inode j) (level_same (VolumeClaims l n v) b i j level height h g)
  verdict_same (Inode i level) (Shared count) h g = absurd (not_shared (VolumeClaims l n v) h g)
  verdict_same (Inode i level) Pending h g = absurd (g.0.unclaimed (owned l n v b i level h))
  verdict_same (Inode i level) Dead h g = absurd (g.unclaimed (owned l n v b i level h))
  verdict_same (Inode i level) Idle h g = absurd (g.0.unclaimed (owned l n v b i level h))
  verdict_same (Shared count) (System too) h g = absurd (claimed_plain l n v b (shared l n v b count h) (system_special l n v b too g))
  verdict_same (Shared count) Outside h g = absurd (claimed_plain l n v b (shared l n v b count h) (outside_special g))
  verdict_same (Shared count) (Inode j height) h g = absurd (not_shared (VolumeClaims l n v) g h)
  verdict_same (Shared count) (Shared other) h g = ap Shared (shared_same (VolumeClaims l n v) h g)
  verdict_same (Shared count) Pending h g = absurd (g.0.unclaimed (shared l n v b count h))
  verdict_same (Shared count) Dead h g = absurd (g.unclaimed (shared l n v b count h))
  verdict_same (Shared count) Idle h g = absurd (g.0.unclaimed (shared l n v b count h))
  verdict_same Pending (System too) h g = absurd (h.0.role (system_special l n v b too g))
  verdict_same Pending Outside h g = absurd (h.0.role (outside_special g))
  verdict_same Pending (Inode j height) h g = absurd (h.0.unclaimed (owned l n v b j height g))
  verdict_same Pending (Shared other) h g = absurd (h.0.unclaimed (shared l n v b other g))
  verdict_same Pending Pending h g = refl
  verdict_same Pending Dead h g = absurd (both (is_marked marks b) h.1 g.mark)
  verdict_same Pending Idle h g = absurd (both (is_marked marks b) h.1 g.1)
  verdict_same Dead (System too) h g = absurd (special_dead (system_special l n v b too g) h)
  verdict_same Dead Outside h g = absurd (special_dead (outside_special g) h)
  verdict_same Dead (Inode j height) h g = absurd (h.unclaimed (owned l n v b j height g))
  verdict_same Dead (Shared other) h g = absurd (h.unclaimed (shared l n v b other g))
  verdict_same Dead Pending h g = absurd (both (is_marked marks b) g.1 h.mark)
  verdict_same Dead Dead h g = refl
  verdict_same Dead Idle h g = absurd (g.2 h)
  verdict_same Idle (System too) h g = absurd (h.0.role (system_special l n v b too g))
  verdict_same Idle Outside h g = absurd (h.0.role (outside_special g))
  verdict_same Idle (Inode j height) h g = absurd (h.0.unclaimed (owned l n v b j height g))
  verdict_same Idle (Shared other) h g = absurd (h.0.unclaimed (shared l n v b other g))
  verdict_same Idle Pending h g = absurd (both (is_marked marks b) g.1 h.1)
  verdict_same Idle Dead h g = absurd (h.2 g)
  verdict_same Idle Idle h g = refl
