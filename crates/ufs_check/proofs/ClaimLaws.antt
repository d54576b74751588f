-- What a table of claims says of the fragments of its volume.
use Rattle.std.proofs.Common.{◌≡◌, ◌≢◌, ◌∙◌, ℕ, ◌/◌, ◌%◌, ◌<◌, ◌≤◌, List, [], ◌∷◌, Bool, true, false, Some, length, refl, sym, subst, arith}
use Rattle.std.specs.Prelude.{Contains, nat_le}
use Rattle.std.specs.List.{AllPairs}
use Rattle.std.specs.Bool.{Decides}
use Rattle.std.proofs.lemmas.Bool.Decides.{nat_tests, not_from_Decides}
use Rattle.ufs_model.specs.Blocks.{Volume, bind}
use Rattle.ufs_model.specs.Claims.{HasClaimCount, IsClaim, IsClaimedAt, is_earlier_claim, level_of, source_fragments}
use Rattle.ufs_model.specs.GroupMaps.{by_maps, group_bytes, group_in, is_free, is_marked_free}
use Rattle.ufs_model.specs.Malformations.{HasTwoClaims, IsFree, IsUpper}
use Rattle.ufs_model.specs.Metadata.{IsMetadataBy}
use Rattle.ufs_model.specs.Metadata.IsMetadataBy.{of_indirect}
use Rattle.ufs_model.specs.declared.claims.ClaimSource.{ClaimSource}
use Rattle.ufs_model.specs.declared.claims.ClaimSource.TheVariants.{Slot, Pointer}
use Rattle.ufs_model.specs.declared.geometries.Geometry.{Geometry}
use Rattle.dg_claims.specs.Kept.{size_in}
use Rattle.dg_claims.specs.Tables.{ClaimTable, TableClaims}
use Rattle.ufs_check.specs.Fragments.{HasClaimsOf, IsClaimedBy, IsUpperIn}
use Rattle.ufs_pointer.specs.Fetches.{FetchesOnly, LosesOne}
use Rattle.ufs_check.proofs.PassLaws.{lost_told, only_told}

-- ---- the level of a claim

three_left : (n : ℕ) → 0 < n → n ≤ 3 → (n ≡ 1 → ⊥) → (n ≡ 2 → ⊥) → n ≡ 3
three_left n above most one two = omega (arith, one, two)

-- levels above 0 are 1, 2 and 3
pub upper_last : (table : ClaimTable) (f : ℕ) (one two three : Bool) → ((source : ClaimSource) → Contains (table.claimed source) f → level_of source ≤ 3)
    → Decides one (IsClaimedAt (TableClaims table) 1 f) → one ≡ false → Decides two (IsClaimedAt (TableClaims table) 2 f) → two ≡ false
    → Decides three (IsClaimedAt (TableClaims table) 3 f) → Decides three (IsUpperIn table f)
upper_last table f one two three levels first no_first second no_second third = (
  λ is. let at = third.0 is in let level = at.is in (at.source, omega arith, at.claim),
  λ upper. third.1 (record {
    source = upper.0;
    claim = upper.2;
    is = three_left (level_of (upper.0)) (upper.1) (levels (upper.0) (upper.2))
        (λ is. not_from_Decides one first no_first (record { source = upper.0; claim = upper.2; is = is }))
        (λ is. not_from_Decides two second no_second (record { source = upper.0; claim = upper.2; is = is }));
  }),
)

-- ---- claims of the volume

pub claim_inside : (g : Geometry) (table : ClaimTable) (v : Volume) (f : ℕ) (source : ClaimSource) → HasClaimsOf g table v → table.geometry ≡ Some g
    → ((f : ℕ) (source : ClaimSource) → Contains (table.claimed source) f → f < size_in table.geometry) → IsClaim (source_fragments g v) f source → f < g.size
claim_inside g table v f source has is inside claim = subst (λ geometry. f < size_in geometry) is (inside f source ((has f source).1 claim))

-- some level above 0
abbrev pub IsUpperOf : Geometry → Volume → ℕ → Type 0
IsUpperOf g v f = (level : ℕ) × IsUpper g v f level

pub upper_of : (g : Geometry) (table : ClaimTable) (v : Volume) (f : ℕ) → HasClaimsOf g table v → IsUpperIn table f → IsUpperOf g v f
upper_of g table v f has upper = (
  level_of (upper.0),
  record {
    source = upper.0;
    claim = (has f (upper.0)).0 (upper.2);
    of_level = refl;
    above = upper.1;
  },
)

pub upper_in : (g : Geometry) (table : ClaimTable) (v : Volume) (f level : ℕ) → HasClaimsOf g table v → IsUpper g v f level → IsUpperIn table f
upper_in g table v f level has upper = (
  upper.source,
  (let above = upper.above in let of_level = upper.of_level in omega arith),
  (has f (upper.source)).1 upper.claim,
)

pub upper_metadata : (g : Geometry) (table : ClaimTable) (v : Volume) (f : ℕ) → IsUpperIn table f → HasClaimsOf g table v → IsMetadataBy g v f
upper_metadata g table v f upper has = of_indirect (upper.0) ((has f (upper.0)).0 (upper.2)) (upper.1)

-- ---- fragments with two claims

-- a claim isn't before itself
not_before : (source : ClaimSource) → is_earlier_claim source source ≡ true → ⊥
not_before (Slot inode slot) is = grind (arith, nat_tests)
not_before (Pointer fragment level at) is = grind (arith, nat_tests)

-- two of the list
abbrev HasTwo : List ClaimSource → Type 0
HasTwo sources = (one : ClaimSource) × (other : ClaimSource) × (one ≢ other) × Contains sources one × Contains sources other

two_of : (sources : List ClaimSource) → AllPairs (λ one other. is_earlier_claim one other ≡ true) sources → 2 ≤ length sources → HasTwo sources
two_of [] ordered long = absurd (omega arith)
two_of (a ∷ []) ordered long = absurd (omega arith)
two_of (a ∷ b ∷ rest) ordered long =
    (a, b, (λ same. not_before b (subst (λ s. is_earlier_claim s b ≡ true) same (ordered 0 1 a (omega arith) (omega arith)))), (0, omega arith, refl), (1, omega arith, refl))

two_long : (sources : List ClaimSource) (one other : ClaimSource) → Contains sources one → Contains sources other → one ≢ other → 2 ≤ length sources
two_long [] one other h k differ = let lt = h.1 in absurd (omega arith)
two_long (a ∷ []) one other h k differ =
    let first : h.0 ≡ 0 = let lt = h.1 in omega arith in
    let second : k.0 ≡ 0 = let lt = k.1 in omega arith in
    absurd (differ (sym (rw first at h.2) ∙ rw second at k.2))
two_long (a ∷ b ∷ rest) one other h k differ = omega arith

at_least_two : (sources : List ClaimSource) (number : ℕ) → length sources ≡ number → 2 ≤ length sources → nat_le 2 number ≡ true
at_least_two sources number is long = grind (arith, nat_tests)

two_at_least : (sources : List ClaimSource) (number : ℕ) → length sources ≡ number → nat_le 2 number ≡ true → 2 ≤ length sources
two_at_least sources number is test = grind (arith, nat_tests)

pub twice_decides : (g : Geometry) (table : ClaimTable) (v : Volume) (f number : ℕ) → HasClaimsOf g table v → HasClaimCount (TableClaims table) f number
    → Decides (nat_le 2 number) (HasTwoClaims g v f)
twice_decides g table v f number has all = (
  λ test.
      let two = two_of (all.sources) all.are.ordered (two_at_least (all.sources) number all.number test) in record {
        one = two.0;
        other = two.1;
        differ = two.2;
        first = (has f (two.0)).0 ((all.are.each (two.0)).0 (two.3));
        second = (has f (two.1)).0 ((all.are.each (two.1)).0 (two.4));
      },
  λ two. at_least_two (all.sources) number all.number
      (two_long (all.sources) (two.one) (two.other) ((all.are.each (two.one)).1 ((has f (two.one)).1 two.first))
      ((all.are.each (two.other)).1 ((has f (two.other)).1 two.second)) two.differ),
)

-- ---- claimed fragments that are marked free

pub free_there : (g : Geometry) (v : Volume) (f : ℕ) (bytes : List ℕ) → bytes ≡ (group_bytes g (f / g.fpg) v).value
    → (is_marked_free g f v).value ≡ by_maps (group_in g (f / g.fpg) bytes) (λ group. is_free bytes group (f % g.fpg))
unfolding is_marked_free bind
free_there g v f bytes is = rw is refl

one_of : (sources : List ClaimSource) → 1 ≤ length sources → (source : ClaimSource) × Contains sources source
one_of [] long = absurd (omega arith)
one_of (a ∷ rest) long = (a, (0, omega arith, refl))

one_long : (sources : List ClaimSource) (source : ClaimSource) → Contains sources source → 1 ≤ length sources
one_long [] source h = let lt = h.1 in absurd (omega arith)
one_long (a ∷ rest) source h = omega arith

-- a fragment with a claim
pub free_claimed : (g : Geometry) (table : ClaimTable) (v : Volume) (f number : ℕ) (marked : Bool) → HasClaimsOf g table v → HasClaimCount (TableClaims table) f number → 1 ≤ number
    → (is_marked_free g f v).value ≡ marked → Decides marked (IsFree g v f)
free_claimed g table v f number marked has all some is = (
  λ test.
      let number_is = all.number in
      let one = one_of (all.sources) (omega arith) in record {
        source = one.0;
        claim = (has f (one.0)).0 ((all.are.each (one.0)).0 (one.1));
        free = is ∙ test;
      },
  λ free. sym is ∙ free.free,
)

not_some : (number : ℕ) → number < 1 → nat_le 1 number ≡ true → ⊥
not_some number none test = grind (arith, nat_tests)

-- a fragment without one
pub free_unclaimed : (g : Geometry) (table : ClaimTable) (v : Volume) (f number : ℕ) → HasClaimsOf g table v → HasClaimCount (TableClaims table) f number → number < 1
    → Decides (nat_le 1 number) (IsFree g v f)
free_unclaimed g table v f number has all none = (
  λ test. absurd (not_some number none test),
  λ free.
      let number_is = all.number in
      let long = one_long (all.sources) (free.source) ((all.are.each (free.source)).1 ((has f (free.source)).1 free.claim)) in
      absurd (omega arith),
)

-- ---- what a pass fetches and loses, by the claims of the volume

-- the same blocks, on fewer volumes
pub fetches_fewer : {S : Type 0} {fetched : S → List ℕ → S → Type 0} {stands : Volume → Type 0} {tells : Type 0} {kind : Volume → ℕ → Type 0} {old new : S} (g : Geometry) (table : ClaimTable)
    → FetchesOnly fetched stands tells kind old new → FetchesOnly fetched (IsClaimedBy stands g table) tells kind old new
fetches_fewer {kind = kind} g table one = only_told kind kind (λ is v claimed. (claimed.0, λ block h. h)) one

-- a block that is lost on more volumes, of a view with as many blocks
pub loses_fewer : {stands still : Volume → Type 0} {tells : Type 0} {count now : ℕ} {gone : ℕ → Bool} {kind : Volume → ℕ → Type 0} (g : Geometry) (table : ClaimTable) → now ≡ count
    → ((v : Volume) → stands v → still v) → LosesOne still tells now kind gone → LosesOne (IsClaimedBy stands g table) tells count kind gone
loses_fewer {kind = kind} g table same keeps one = lost_told kind kind same (λ is v claimed. (keeps v (claimed.0), λ block h. h)) one
