-- Fragments in use that nothing claims.
use Rattle.std.proofs.Common.{◌≡◌, ◌∙◌, ℕ, suc, ◌/◌, ◌%◌, ◌<◌, ◌≤◌, inl, inr, List, [], ◌∷◌, Bool, true, false, length, not, ◌&&◌, nat_le, refl, sym, subst, arith}
use Rattle.std.specs.Bool.{Decides}
use Rattle.std.proofs.lemmas.Bool.{cases_order}
use Rattle.std.proofs.lemmas.Bool.Decides.{nat_tests}
use Rattle.std.specs.Prelude.{Contains}
use Rattle.ufs_model.specs.Audits.{AreAll, IsUnclaimed}
use Rattle.ufs_model.specs.Blocks.{Volume, bind}
use Rattle.ufs_model.specs.GroupMaps.{by_maps, group_bytes, group_in, is_free, is_marked_used}
use Rattle.ufs_model.specs.Roles.{is_data_of, role}
use Rattle.ufs_model.specs.declared.claims.ClaimSource.{ClaimSource}
use Rattle.ufs_model.specs.declared.geometries.Geometry.{Geometry}
use Rattle.ufs_model.specs.Claims.{HasClaimCount}
use Rattle.dg_claims.specs.Tables.{ClaimTable, TableClaims}
use Rattle.ufs_check.specs.Fragments.{HasClaimsOf}
use Rattle.ufs_check.specs.Notes.{AreAllBelow}
use Rattle.ufs_check.proofs.NoteLaws.{all_all, all_empty}

both_of : (a b : Bool) → (a && b) ≡ true → (a ≡ true) × (b ≡ true)
both_of true true is = (refl, refl)
both_of true false is = let no : false ≡ true = is in cc
both_of false b is = let no : false ≡ true = is in cc

both_by : (a b : Bool) → a ≡ true → b ≡ true → (a && b) ≡ true
both_by true true one other = refl
both_by true false one other = other
both_by false b one other = one

pub used_there : (g : Geometry) (v : Volume) (f : ℕ) (bytes : List ℕ) → bytes ≡ (group_bytes g (f / g.fpg) v).value
    → (is_marked_used g f v).value ≡ by_maps (group_in g (f / g.fpg) bytes) (λ group. not (is_free bytes group (f % g.fpg)))
unfolding is_marked_used bind
used_there g v f bytes is = rw is refl

claims_some : (sources : List ClaimSource) → (length sources ≡ 0 → ⊥) → (source : ClaimSource) × Contains sources source
claims_some [] long = absurd (long refl)
claims_some (source ∷ rest) long = (source, (0, omega arith, refl))

none_long : (sources : List ClaimSource) (number : ℕ) (source : ClaimSource) → length sources ≡ number → number ≡ 0 → Contains sources source → ⊥
none_long sources number source is none has = let lt = has.1 in omega arith

-- a fragment without a claim, by what its role and the map say
pub unclaimed_decides : (g : Geometry) (table : ClaimTable) (v : Volume) (f number : ℕ) (of_data used both : Bool) → HasClaimsOf g table v
    → HasClaimCount (TableClaims table) f number → number ≡ 0 → is_data_of (f / g.fpg) (role g f) ≡ of_data → (is_marked_used g f v).value ≡ used
    → both ≡ (of_data && used) → Decides both (IsUnclaimed g v f)
unclaimed_decides g table v f number of_data used both has all none data_is used_is both_is = (
  λ test.
      let parts : (of_data ≡ true) × (used ≡ true) = both_of of_data used (sym both_is ∙ test) in record {
        of_data = data_is ∙ parts.0;
        used = used_is ∙ parts.1;
        unclaimed = λ source claim. none_long (all.sources) number source all.number none ((all.are.each source).1 ((has f source).1 claim));
      },
  λ one. both_is ∙ both_by of_data used (sym data_is ∙ one.of_data) (sym used_is ∙ one.used),
)

-- a fragment with one
pub claimed_decides : (g : Geometry) (table : ClaimTable) (v : Volume) (f number : ℕ) → HasClaimsOf g table v → HasClaimCount (TableClaims table) f number
    → (number ≡ 0 → ⊥) → Decides false (IsUnclaimed g v f)
claimed_decides g table v f number has all some = (
  λ test. let no : false ≡ true = test in cc,
  λ one.
      let first = claims_some (all.sources) (λ none. some (sym all.number ∙ none)) in
      absurd (one.unclaimed (first.0) ((has f (first.0)).0 ((all.are.each (first.0)).0 (first.1)))),
)

-- a fragment of data is inside the volume
data_inside : (g : Geometry) (f : ℕ) → is_data_of (f / g.fpg) (role g f) ≡ true → f < g.size
unfolding role
data_inside g f is = elim (cases_order f g.size) [
  | inl same ↦ let past : nat_le g.size f ≡ true = grind (arith, nat_tests) in let no = rw past at is in cc
  | inr other ↦ elim other [
    | inl less ↦ less
    | inr greater ↦ let past : nat_le g.size f ≡ true = grind (arith, nat_tests) in let no = rw past at is in cc
  ]
]

pub unclaimed_none : (g : Geometry) (v : Volume) (numbers : List ℕ) → numbers ≡ [] → AreAllBelow (IsUnclaimed g v) 0 numbers
unclaimed_none g v numbers none = all_empty (IsUnclaimed g v) 0 numbers none (λ m lt one. absurd (omega arith))

pub unclaimed_all : (g : Geometry) (v : Volume) (bound : ℕ) (numbers : List ℕ) → g.size ≤ bound → AreAllBelow (IsUnclaimed g v) bound numbers → AreAll (IsUnclaimed g v) numbers
unclaimed_all g v bound numbers end so_far = all_all (IsUnclaimed g v) bound numbers (λ f one. let lt = data_inside g f one.of_data in omega arith) so_far
