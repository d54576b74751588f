-- What the chains of sources lead to, by a table and by a volume.
use Rattle.std.proofs.Common.{◌≡◌, ◌∙◌, ◌↔◌, inl, inr, ℕ, ◌+◌, ◌-◌, ◌≤◌, List, [], ◌∷◌, length, refl, sym, ap, subst, arith, Contains}
use Rattle.ufs_model.specs.Claims.{HasClaimCount, IsClaimedAt, level_of}
use Rattle.ufs_model.specs.Owners.{IsOnlyClaim, IsOwner, IsShared, by_chain, by_itself, by_own_slot, by_upper}
use Rattle.ufs_model.specs.declared.claims.ClaimSource.{ClaimSource}
use Rattle.ufs_model.specs.declared.claims.ClaimSource.TheVariants.{Slot, Pointer}
use Rattle.std.specs.Prelude.{Option, Some, None}
use Rattle.ufs_model.specs.declared.geometries.Geometry.{Geometry}
use Rattle.dg_claims.specs.Tables.{ClaimTable, HasFewAbove, IsLeveled, IsSource, TableClaims}
use Rattle.dg_infer.proofs.ListLaws.{contains_cons, contains_none}
use Rattle.dg_infer.specs.Chains.{IsChain, chain_below}
use Rattle.dg_infer.specs.declared.chains.Chain.{Chain}
use Rattle.dg_infer.specs.declared.chains.Chain.TheVariants.{Unclaimed, Owned, Shared}

-- ---- a fragment with one claim at most

only_of : (claims : ℕ → ClaimSource → Type 0) (fragment : ℕ) (sources : List ClaimSource) → ((s : ClaimSource) → Contains sources s ↔ claims fragment s) → length sources ≤ 1
    → ((source : ClaimSource) → IsOnlyClaim claims fragment source → ⊥) → (source : ClaimSource) → claims fragment source → ⊥
only_of claims fragment [] each few none source has = contains_none source ((each source).1 has)
only_of claims fragment (s ∷ []) each few none source has = none s (record {
  claim = (each s).0 ((contains_cons s [] s).1 (inl refl));
  only = λ other h. elim ((contains_cons s [] other).0 ((each other).1 h)) [ inl e ↦ e | inr h ↦ absurd (contains_none other h) ];
})
only_of claims fragment (s ∷ t ∷ sources) each few none source has = omega (arith, few)

pub unclaimed : (claims : ℕ → ClaimSource → Type 0) (fragment count : ℕ) → HasClaimCount claims fragment count → count ≤ 1 → ((source : ClaimSource) → IsOnlyClaim claims fragment source → ⊥)
    → (source : ClaimSource) → claims fragment source → ⊥
unclaimed claims fragment count has few none = only_of claims fragment has.sources has.are.each (let number = has.number in omega (arith, few, number)) none

-- ---- one step upwards

owner_claim : (claims : ℕ → ClaimSource → Type 0) {fragment inode level : ℕ} → IsOwner claims fragment inode level → (source : ClaimSource) × IsOnlyClaim claims fragment source × (level_of source ≡ level)
owner_claim claims (by_own_slot {inode = inode} {slot = slot} only is) = (Slot inode slot, only, is)
owner_claim claims (by_upper {upper = upper} {at = at} {above = above} only is owner) = (Pointer upper above at, only, is)

-- the owner of the fragment with the pointer has it by a claim of the pointer's level
owner_level : (claims : ℕ → ClaimSource → Type 0) (fragment inode level above : ℕ) → IsOwner claims fragment inode level → IsClaimedAt claims above fragment → level ≡ above
owner_level claims fragment inode level above owner at =
    let own = owner_claim claims owner in
    sym (own.2) ∙ ap level_of (sym ((own.1).only at.source at.claim)) ∙ at.is

step_up : (table : ClaimTable) (fragment upper above at level : ℕ) (chain : Chain) → IsOnlyClaim (TableClaims table) fragment (Pointer upper above at)
    → level_of (Pointer upper above at) ≡ level → IsClaimedAt (TableClaims table) above upper → IsChain (TableClaims table) upper chain
    → IsChain (TableClaims table) fragment (chain_below level chain)
step_up table fragment upper above at level Unclaimed one here there none = absurd (none there.source there.claim)
step_up table fragment upper above at level (Owned inode level') one here there owner =
    by_upper one here (subst (λ n. IsOwner (TableClaims table) upper inode n) (owner_level (TableClaims table) upper inode level' above owner there) owner)
step_up table fragment upper above at level (Shared count) one here there shared = by_chain one shared

pub chain_up : (table : ClaimTable) (fragment upper above at level : ℕ) (source : ClaimSource) (chain : Chain) → IsLeveled table → source ≡ Pointer upper above at
    → IsOnlyClaim (TableClaims table) fragment source → level_of source ≡ level → IsChain (TableClaims table) upper chain → IsChain (TableClaims table) fragment (chain_below level chain)
chain_up table fragment upper above at level source chain leveled is only on =
    let one : IsOnlyClaim (TableClaims table) fragment (Pointer upper above at) = subst (λ s. IsOnlyClaim (TableClaims table) fragment s) is only in
    let here : level_of (Pointer upper above at) ≡ level = ap level_of (sym is) ∙ on in
    let there = leveled fragment upper above at one.claim in
    step_up table fragment upper above at level chain one here there

pub own_slot : (claims : ℕ → ClaimSource → Type 0) (fragment inode slot level : ℕ) (source : ClaimSource) → source ≡ Slot inode slot → IsOnlyClaim claims fragment source → level_of source ≡ level
    → IsOwner claims fragment inode level
own_slot claims fragment inode slot level source is only on =
    by_own_slot (subst (λ s. IsOnlyClaim claims fragment s) is only) (ap level_of (sym is) ∙ on)

-- ---- how many levels are above

level_in : (geometry : Option Geometry) (upper level at : ℕ) → IsSource geometry (Pointer upper level at) → (1 ≤ level) × (level ≤ 3)
level_in None upper level at there = absurd there
level_in (Some g) upper level at there = (there.0, there.1)

pub none_above : (table : ClaimTable) (fragment upper level at levels : ℕ) (source : ClaimSource) → source ≡ Pointer upper level at → IsSource table.geometry source
    → IsOnlyClaim (TableClaims table) fragment source → HasFewAbove table fragment levels → levels ≡ 0 → ⊥
none_above table fragment upper level at levels source is there only few none =
    let bounds = level_in table.geometry upper level at (subst (λ s. IsSource table.geometry s) is there) in
    let high : 3 ≤ level_of (Pointer upper level at) + levels = subst (λ s. 3 ≤ level_of s + levels) is (few source only) in
    omega (arith, high, none, bounds.0, bounds.1)

pub fewer_above : (table : ClaimTable) (fragment upper level at levels : ℕ) (source : ClaimSource) → source ≡ Pointer upper level at → IsSource table.geometry source
    → IsOnlyClaim (TableClaims table) fragment source → IsLeveled table → HasFewAbove table fragment levels → (levels ≡ 0 → ⊥) → HasFewAbove table upper (levels - 1)
fewer_above table fragment upper level at levels source is there only leveled few some other one =
    let bounds = level_in table.geometry upper level at (subst (λ s. IsSource table.geometry s) is there) in
    let high : 3 ≤ level_of (Pointer upper level at) + levels = subst (λ s. 3 ≤ level_of s + levels) is (few source only) in
    let above = leveled fragment upper level at (subst (λ s. TableClaims table fragment s) is only.claim) in
    let same : level_of other ≡ level = ap level_of (sym (one.only above.source above.claim)) ∙ above.is in
    omega (arith, high, same, some, bounds.0)

pub three_above : (table : ClaimTable) (fragment : ℕ) → HasFewAbove table fragment 3
three_above table fragment source only = omega arith

-- ---- of the same claims

only_along : (one other : ℕ → ClaimSource → Type 0) → ((f : ℕ) (s : ClaimSource) → one f s ↔ other f s) → (fragment : ℕ) (source : ClaimSource) → IsOnlyClaim one fragment source → IsOnlyClaim other fragment source
only_along one other same fragment source only = record {
  claim = (same fragment source).0 only.claim;
  only = λ t h. only.only t ((same fragment t).1 h);
}

owner_along : (one other : ℕ → ClaimSource → Type 0) → ((f : ℕ) (s : ClaimSource) → one f s ↔ other f s) → {fragment inode level : ℕ} → IsOwner one fragment inode level → IsOwner other fragment inode level
owner_along one other same (by_own_slot {fragment = fragment} {inode = inode} {slot = slot} only is) = by_own_slot (only_along one other same fragment (Slot inode slot) only) is
owner_along one other same (by_upper {fragment = fragment} {upper = upper} {at = at} {above = above} only is owner) =
    by_upper (only_along one other same fragment (Pointer upper above at) only) is (owner_along one other same owner)

count_along : (one other : ℕ → ClaimSource → Type 0) → ((f : ℕ) (s : ClaimSource) → one f s ↔ other f s) → (fragment count : ℕ) → HasClaimCount one fragment count → HasClaimCount other fragment count
count_along one other same fragment count has = record {
  sources = has.sources;
  are = record {
    each = λ source. (λ h. (same fragment source).0 ((has.are.each source).0 h), λ h. (has.are.each source).1 ((same fragment source).1 h));
    ordered = has.are.ordered;
  };
  number = has.number;
}

shared_along : (one other : ℕ → ClaimSource → Type 0) → ((f : ℕ) (s : ClaimSource) → one f s ↔ other f s) → {fragment count : ℕ} → IsShared one fragment count → IsShared other fragment count
shared_along one other same (by_itself {fragment = fragment} {count = count} has more) = by_itself (count_along one other same fragment count has) more
shared_along one other same (by_chain {fragment = fragment} {upper = upper} {level = level} {at = at} only shared) =
    by_chain (only_along one other same fragment (Pointer upper level at) only) (shared_along one other same shared)

pub owned_along : (one other : ℕ → ClaimSource → Type 0) → ((f : ℕ) (s : ClaimSource) → one f s ↔ other f s) → (fragment inode level : ℕ) → IsOwner one fragment inode level → IsOwner other fragment inode level
owned_along one other same fragment inode level owner = owner_along one other same owner

pub chain_along : (one other : ℕ → ClaimSource → Type 0) → ((f : ℕ) (s : ClaimSource) → one f s ↔ other f s) → (fragment : ℕ) (chain : Chain) → IsChain one fragment chain → IsChain other fragment chain
chain_along one other same fragment Unclaimed none = λ source h. none source ((same fragment source).1 h)
chain_along one other same fragment (Owned inode level) owner = owner_along one other same owner
chain_along one other same fragment (Shared count) shared = shared_along one other same shared
