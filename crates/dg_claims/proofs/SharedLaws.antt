-- Which fragments are shared, and with how many claims.
use Rattle.std.proofs.Common.{◌≡◌, ◌∙◌, ℕ, ◌+◌, ◌-◌, ◌≤◌, Option, Some, None, IfSome, IfNone, length, sym, ap, subst, arith}
use Rattle.ufs_model.specs.Claims.{HasClaimCount, level_of}
use Rattle.ufs_model.specs.Owners.{IsOnlyClaim, IsShared, by_chain, by_itself}
use Rattle.ufs_model.specs.declared.claims.ClaimSource.{ClaimSource}
use Rattle.ufs_model.specs.declared.claims.ClaimSource.TheVariants.{Slot, Pointer}
use Rattle.ufs_model.specs.declared.geometries.Geometry.{Geometry}
use Rattle.dg_claims.proofs.OwnerLaws.{same_claims}
use Rattle.dg_claims.specs.Tables.{ClaimTable, HasFewAbove, IsLeveled, IsSource, TableClaims}

-- one number of claims
one_count : (claims : ℕ → ClaimSource → Type 0) (fragment count other : ℕ) → HasClaimCount claims fragment count → HasClaimCount claims fragment other → count ≡ other
one_count claims fragment count other one two = sym one.number ∙ ap length (same_claims claims fragment one.sources two.sources one.are two.are) ∙ two.number

-- what shares a fragment that has one claim at most
chained : (claims : ℕ → ClaimSource → Type 0) (fragment number count : ℕ) (P : Type 0) → HasClaimCount claims fragment number → number ≤ 1
    → ((upper level at : ℕ) → IsOnlyClaim claims fragment (Pointer upper level at) → IsShared claims upper count → P) → IsShared claims fragment count → P
chained claims fragment number count P has few chain (by_itself other many) = let same = one_count claims fragment number count has other in absurd (omega (arith, same, few, many))
chained claims fragment number count P has few chain (by_chain {upper = upper} {level = level} {at = at} only above) = chain upper level at only above

pub shared_none : (claims : ℕ → ClaimSource → Type 0) (fragment number : ℕ) → HasClaimCount claims fragment number → number ≤ 1 → ((source : ClaimSource) → IsOnlyClaim claims fragment source → ⊥)
    → (count : ℕ) → IsShared claims fragment count → ⊥
shared_none claims fragment number has few none count = chained claims fragment number count ⊥ has few (λ upper level at only above. none (Pointer upper level at) only)

slot_not_pointer : (inode slot upper level at : ℕ) → Slot inode slot ≡ Pointer upper level at → ⊥
slot_not_pointer inode slot upper level at e = cc

pub shared_slot : (claims : ℕ → ClaimSource → Type 0) (fragment number inode slot : ℕ) (source : ClaimSource) → HasClaimCount claims fragment number → number ≤ 1 → source ≡ Slot inode slot
    → IsOnlyClaim claims fragment source → (count : ℕ) → IsShared claims fragment count → ⊥
shared_slot claims fragment number inode slot source has few is one count =
    chained claims fragment number count ⊥ has few
    (λ upper level at only above. slot_not_pointer inode slot upper level at (sym (one.only (Pointer upper level at) only.claim ∙ is)))

upper_is : (u a t upper above at : ℕ) → Pointer u a t ≡ Pointer upper above at → u ≡ upper
upper_is u a t upper above at e = cc

pub shared_pointer : (claims : ℕ → ClaimSource → Type 0) (fragment number upper level at : ℕ) (source : ClaimSource) → HasClaimCount claims fragment number → number ≤ 1 → source ≡ Pointer upper level at
    → IsOnlyClaim claims fragment source → ((count : ℕ) → IsShared claims upper count → ⊥) → (count : ℕ) → IsShared claims fragment count → ⊥
shared_pointer claims fragment number upper level at source has few is one none count =
    chained claims fragment number count ⊥ has few
    (λ u l a only above. none count (subst (λ x. IsShared claims x count) (upper_is u l a upper level at (one.only (Pointer u l a) only.claim ∙ is)) above))

level_in : (geometry : Option Geometry) (upper level at : ℕ) → IsSource geometry (Pointer upper level at) → (1 ≤ level) × (level ≤ 3)
level_in None upper level at there = absurd there
level_in (Some g) upper level at there = (there.0, there.1)

-- a pointer's level is 1 to 3
pub pointer_level : (geometry : Option Geometry) (upper level at : ℕ) (source : ClaimSource) → source ≡ Pointer upper level at → IsSource geometry source → (1 ≤ level) × (level ≤ 3)
pointer_level geometry upper level at source is there = level_in geometry upper level at (subst (λ s. IsSource geometry s) is there)

-- no pointer is above all levels
pub nothing_above : (table : ClaimTable) (fragment upper level at levels : ℕ) (source : ClaimSource) → source ≡ Pointer upper level at → IsSource table.geometry source
    → IsOnlyClaim (TableClaims table) fragment source → HasFewAbove table fragment levels → levels ≡ 0 → ⊥
nothing_above table fragment upper level at levels source is there one few none =
    let bounds = pointer_level table.geometry upper level at source is there in
    let high : 3 ≤ level_of (Pointer upper level at) + levels = subst (λ s. 3 ≤ level_of s + levels) is (few source one) in
    omega (arith, high, none, bounds.0, bounds.1)

-- one level fewer is above the fragment with the pointer
pub fewer_above : (table : ClaimTable) (fragment upper level at levels : ℕ) (source : ClaimSource) → source ≡ Pointer upper level at → IsSource table.geometry source
    → IsOnlyClaim (TableClaims table) fragment source → IsLeveled table → HasFewAbove table fragment levels → (levels ≡ 0 → ⊥) → HasFewAbove table upper (levels - 1)
fewer_above table fragment upper level at levels source is there one leveled few some other only =
    let bounds = pointer_level table.geometry upper level at source is there in
    let high : 3 ≤ level_of (Pointer upper level at) + levels = subst (λ s. 3 ≤ level_of s + levels) is (few source one) in
    let above = leveled fragment upper level at (subst (λ s. TableClaims table fragment s) is one.claim) in
    let same : level_of other ≡ level = ap level_of (sym (only.only above.source above.claim)) ∙ above.is in
    omega (arith, high, some, bounds.0, same)

-- ---- the answers of the calls

pub if_shared : (claims : ℕ → ClaimSource → Type 0) (fragment upper level at : ℕ) (source : ClaimSource) (r : Option ℕ) → source ≡ Pointer upper level at → IsOnlyClaim claims fragment source
    → IfSome r (IsShared claims upper) → IfSome r (IsShared claims fragment)
if_shared claims fragment upper level at source None is one shared = tt
if_shared claims fragment upper level at source (Some count) is one shared = by_chain (subst (λ s. IsOnlyClaim claims fragment s) is one) shared

pub if_not_shared : {X P Q : Type 0} (r : Option X) → (P → Q) → IfNone r P → IfNone r Q
if_not_shared None f p = f p
if_not_shared (Some x) f p = tt

pub few_at_first : (table : ClaimTable) (fragment : ℕ) → HasFewAbove table fragment 3
few_at_first table fragment source one = omega arith
