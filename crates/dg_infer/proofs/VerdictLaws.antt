-- What an inference that stands for a volume tells of its blocks.
use Rattle.std.proofs.Common.{◌≡◌, ◌∙◌, ◌↔◌, ℕ, ◌<◌, ◌&&◌, nat_lt, inl, inr, List, Bool, true, false, Option, Some, None, Result, Ok, Err, refl, sym, ap, subst, arith}
use Rattle.std.proofs.lemmas.Bool.{false≢true}
use Rattle.std.proofs.lemmas.Bool.Decides.{nat_tests}
use Rattle.std.specs.Prelude.{nat_le}
use Rattle.std.specs.Prelude.{IsOkAnd, MatchOption, cond}
use Rattle.dg_model.specs.Marks.{IsDead, IsSpecial, IsVerdict, is_marked}
use Rattle.dg_model.specs.Tables.{Table}
use Rattle.dg_model.specs.Volumes.{HasRole, IsClaimed, IsMarkedFree, IsRegularFile, IsSystemBlock, geometry_on}
use Rattle.ufs_model.specs.Blocks.{Volume}
use Rattle.ufs_model.specs.Claims.{VolumeClaims}
use Rattle.ufs_model.specs.GroupMaps.{is_marked_free}
use Rattle.ufs_model.specs.Owners.{BelongsTo, IsOwner}
use Rattle.ufs_model.specs.Roles.{is_system, role}
use Rattle.ufs_model.specs.declared.geometries.BadSuper.{BadSuper}
use Rattle.ufs_model.specs.declared.geometries.Geometry.{Geometry}
use Rattle.ufs_model.specs.declared.roles.Role.{Role}
use Rattle.ufs_model.specs.declared.roles.Role.TheVariants.{Data, Outside, System}
use Rattle.ufs_model.specs.declared.roles.SystemKind.{SystemKind}
use Rattle.dg_claims.specs.Kept.{table_of}
use Rattle.dg_claims.specs.Tables.{ClaimTable, IsTableOf, TableClaims, accepted}
use Rattle.dg_infer.proofs.ChainLaws.{chain_along, owned_along}
use Rattle.dg_infer.proofs.ListLaws.{below_cases}
use Rattle.dg_infer.proofs.TargetLaws.{cond_true}
use Rattle.dg_infer.proofs.VolumeLaws.{system_by}
use Rattle.dg_infer.specs.Chains.{IsChain}
use Rattle.dg_infer.specs.declared.chains.Chain.{Chain}
use Rattle.dg_infer.specs.Fits.{FitsTable}
use Rattle.dg_infer.specs.Known.{HasClaim, IsDataBy, is_system_by, role_by, verdict_by, verdict_of}
use Rattle.dg_model.specs.declared.verdicts.Who.{Who}
use Rattle.dg_model.specs.declared.verdicts.Who.TheVariants.{Outside as OutsideWho, System as SystemWho}
use Rattle.ufs_model.specs.Inodes.{has_pointers, inode_of, is_inode_number, kind_has_pointers, kind_of}
use Rattle.ufs_model.specs.Malformations.{IsInode}
use Rattle.ufs_model.specs.declared.inodes.Inode.{Inode}
use Rattle.ufs_model.specs.declared.inodes.Kind.{Kind}
use Rattle.ufs_model.specs.declared.inodes.Kind.TheVariants.{Regular}
use Rattle.dg_infer.specs.Meanings.{KeptInference, StandsFor, free_by, free_on, kind_by, kind_on, pointing_kind}

-- ---- roles

pub some_is : (x y : Role) → Some x ≡ Some y → x ≡ y
some_is x y e = cc

role_ok : (r : Result Geometry BadSuper) (g : Option Geometry) (b : ℕ) (is : Role) → g ≡ accepted r → role_by g b ≡ Some is → IsOkAnd r (λ h. role h b ≡ is)
role_ok (Ok h) g b is same e = let there : role_by (Some h) b ≡ Some is = sym (ap (λ o. role_by o b) same) ∙ e in some_is (role h b) is there
role_ok (Err bad) g b is same e = let there : None ≡ Some is = sym (ap (λ o. role_by o b) same) ∙ e in cc

role_of_ok : (r : Result Geometry BadSuper) (g : Option Geometry) (b : ℕ) (is : Role) → g ≡ accepted r → IsOkAnd r (λ h. role h b ≡ is) → role_by g b ≡ Some is
role_of_ok (Ok h) g b is same e = ap (λ o. role_by o b) same ∙ ap Some e
role_of_ok (Err bad) g b is same e = absurd e

-- the block has the role that is told
pub has_role : (l n : ℕ) (v : Volume) (g : Option Geometry) (b : ℕ) (is : Role) → g ≡ accepted (geometry_on l n v) → role_by g b ≡ Some is → HasRole l n v b is
has_role l n v g b is same e = role_ok (geometry_on l n v) g b is same e

system_kind : (r : Role) → ((kind : SystemKind) → r ≡ System kind → ⊥) → is_system r ≡ true → ⊥
system_kind Outside none t = false≢true t
system_kind (System kind) none t = none kind refl
system_kind (Data c) none t = false≢true t

system_role : (g : Option Geometry) (b : ℕ) → ((kind : SystemKind) → role_by g b ≡ Some (System kind) → ⊥) → is_system_by g b ≡ true → ⊥
system_role None b none t = false≢true t
system_role (Some g) b none t = system_kind (role g b) (λ kind e. none kind (ap Some e)) t

-- it is neither one of the file system itself nor outside
pub plain_role : (l n : ℕ) (v : Volume) (g : Option Geometry) (b : ℕ) → g ≡ accepted (geometry_on l n v) → ((kind : SystemKind) → role_by g b ≡ Some (System kind) → ⊥)
    → (role_by g b ≡ Some Outside → ⊥) → IsSpecial l n v b → ⊥
plain_role l n v g b same no_system no_outside (inl own) = system_role g b no_system ((system_by (geometry_on l n v) g b same).0 own)
plain_role l n v g b same no_system no_outside (inr out) = no_outside (role_of_ok (geometry_on l n v) g b Outside same out)

-- ---- what the whole table of sites says, for the numbers of the inference

pub fits_table : (kept : KeptInference) (table : Table) (v : Volume) (b : ℕ) (written : Bool) → FitsTable kept table b written → StandsFor kept v → IsTableOf table.shape.l table.shape.n v (table_of kept.claims)
fits_table kept table v b written fits stands =
    subst (λ (l : ℕ). IsTableOf l table.shape.n v (table_of kept.claims)) (sym fits.bytes) (subst (λ (n : ℕ). IsTableOf kept.l n v (table_of kept.claims)) (sym fits.number) stands.claims)

pub fits_geometry : (kept : KeptInference) (table : Table) (v : Volume) (b : ℕ) (written : Bool) → FitsTable kept table b written → StandsFor kept v
    → kept.geometry ≡ accepted (geometry_on table.shape.l table.shape.n v)
fits_geometry kept table v b written fits stands =
    stands.geometry ∙ ap (λ (l : ℕ). accepted (geometry_on l kept.n v)) (sym fits.bytes) ∙ ap (λ (n : ℕ). accepted (geometry_on table.shape.l n v)) (sym fits.number)

-- ---- chains

pub chain_on : (l n : ℕ) (v : Volume) (table : ClaimTable) (b : ℕ) (chain : Chain) → IsTableOf l n v table → IsChain (TableClaims table) b chain → IsChain (VolumeClaims l n v) b chain
chain_on l n v table b chain of is = chain_along (TableClaims table) (VolumeClaims l n v) of.claims b chain is

pub unclaimed_on : (l n : ℕ) (v : Volume) (table : ClaimTable) (b : ℕ) → IsTableOf l n v table → (HasClaim table.claimed b → ⊥) → IsClaimed l n v b → ⊥
unclaimed_on l n v table b of none claim = none (claim.0, (of.claims b (claim.0)).1 (claim.1))

-- ---- dead blocks

and_second : (x y : Bool) → (x && y) ≡ true → y ≡ true
and_second true y e = e
and_second false y e = absurd (false≢true e)

free_ok : (r : Result Geometry BadSuper) (g : Option Geometry) (v : Volume) (b : ℕ) → g ≡ accepted r → free_on v g b ≡ true → IsDataBy g b
    → IsOkAnd r (λ h. ((c : ℕ) × (role h b ≡ Data c)) × ((is_marked_free h b v).value ≡ true))
unfolding free_by
free_ok (Ok h) g v b same free kept_data =
    let marked : (nat_lt b h.size && (is_marked_free h b v).value) ≡ true = sym (ap (λ o. free_on v o b) same) ∙ free in
    ((kept_data.0, some_is (role h b) (Data (kept_data.0)) (sym (ap (λ o. role_by o b) same) ∙ kept_data.1)), and_second (nat_lt b h.size) ((is_marked_free h b v).value) marked)
free_ok (Err bad) g v b same free kept_data = absurd (false≢true (sym (ap (λ o. free_on v o b) same) ∙ free))

pub free_data : (l n : ℕ) (v : Volume) (g : Option Geometry) (b : ℕ) → g ≡ accepted (geometry_on l n v) → free_on v g b ≡ true → IsDataBy g b → IsMarkedFree l n v b
free_data l n v g b same free kept_data = free_ok (geometry_on l n v) g v b same free kept_data

data_ok : (r : Result Geometry BadSuper) (g : Option Geometry) (v : Volume) (b : ℕ) → g ≡ accepted r → IsOkAnd r (λ h. ((c : ℕ) × (role h b ≡ Data c)) × ((is_marked_free h b v).value ≡ true)) → IsDataBy g b
data_ok (Ok h) g v b same free = let kept_data = free.0 in (kept_data.0, ap (λ o. role_by o b) same ∙ ap Some (kept_data.1))
data_ok (Err bad) g v b same free = absurd free

pub data_of_free : (l n : ℕ) (v : Volume) (g : Option Geometry) (b : ℕ) → g ≡ accepted (geometry_on l n v) → IsMarkedFree l n v b → IsDataBy g b
data_of_free l n v g b same free = data_ok (geometry_on l n v) g v b same free

-- a block of data is inside the volume
is_data : Role → Bool
is_data Outside = false
is_data (System kind) = false
is_data (Data c) = true

outside_data : (r : Role) → Outside ≡ r → is_data r ≡ true → ⊥
unfolding is_data
outside_data r e t = false≢true (ap is_data e ∙ t)

inside_data : (h : Geometry) (b c : ℕ) → role h b ≡ Data c → b < h.size
unfolding role is_data
inside_data h b c e = elim (below_cases b h.size) [
  | inl lt ↦ lt
  | inr past ↦ absurd (outside_data (Data c) (sym (cond_true (nat_le h.size b) Outside _ (grind (arith, nat_tests))) ∙ e) refl)
]

inside_test : (b n : ℕ) → b < n → nat_lt b n ≡ true
inside_test b n lt = grind (arith, nat_tests)

marks_ok : (r : Result Geometry BadSuper) (g : Option Geometry) (v : Volume) (b : ℕ) → g ≡ accepted r → IsOkAnd r (λ h. ((c : ℕ) × (role h b ≡ Data c)) × ((is_marked_free h b v).value ≡ true)) → free_on v g b ≡ true
unfolding free_by
marks_ok (Ok h) g v b same free =
    let kept_data = free.0 in
    ap (λ o. free_on v o b) same ∙ ap (λ x. x && (is_marked_free h b v).value) (inside_test b h.size (inside_data h b (kept_data.0) (kept_data.1))) ∙ free.1
marks_ok (Err bad) g v b same free = absurd free

pub marked_of_free : (l n : ℕ) (v : Volume) (g : Option Geometry) (b : ℕ) → g ≡ accepted (geometry_on l n v) → IsMarkedFree l n v b → free_on v g b ≡ true
marked_of_free l n v g b same free = marks_ok (geometry_on l n v) g v b same free

-- ---- dead blocks, by what is kept

pub dead_unclaimed : (kept : KeptInference) (table : Table) (v : Volume) (b : ℕ) (written : Bool) → FitsTable kept table b written → StandsFor kept v → IsDead table v kept.pending b
    → HasClaim ((table_of kept.claims).claimed) b → ⊥
dead_unclaimed kept table v b written fits stands dead claim = dead.unclaimed (claim.0, ((fits_table kept table v b written fits stands).claims b (claim.0)).0 (claim.1))

pub dead_free : (kept : KeptInference) (table : Table) (v : Volume) (b : ℕ) (written : Bool) → FitsTable kept table b written → StandsFor kept v → IsDead table v kept.pending b → is_marked kept.free b ≡ true
dead_free kept table v b written fits stands dead =
    stands.free b ∙ marked_of_free table.shape.l table.shape.n v kept.geometry b (fits_geometry kept table v b written fits stands) dead.free

pub dead_data : (kept : KeptInference) (table : Table) (v : Volume) (b : ℕ) (written : Bool) → FitsTable kept table b written → StandsFor kept v → IsDead table v kept.pending b → IsDataBy kept.geometry b
dead_data kept table v b written fits stands dead = data_of_free table.shape.l table.shape.n v kept.geometry b (fits_geometry kept table v b written fits stands) dead.free

pub is_dead : (kept : KeptInference) (table : Table) (v : Volume) (b : ℕ) (written : Bool) → FitsTable kept table b written → StandsFor kept v → written ≡ true → is_marked kept.pending b ≡ false
    → (HasClaim ((table_of kept.claims).claimed) b → ⊥) → is_marked kept.free b ≡ true → IsDataBy kept.geometry b → IsDead table v kept.pending b
is_dead kept table v b written fits stands is mark bare free there = record {
  written = fits.site ∙ is;
  mark = mark;
  unclaimed = unclaimed_on table.shape.l table.shape.n v (table_of kept.claims) b (fits_table kept table v b written fits stands) bare;
  free = free_data table.shape.l table.shape.n v kept.geometry b (fits_geometry kept table v b written fits stands) (sym (stands.free b) ∙ free) there;
}

-- ---- what is told by the role

some_who : (x y : Who) → Some x ≡ Some y → x ≡ y
some_who x y e = cc

told_role : (table : Table) (v : Volume) (marks : List Bool) (g : Option Geometry) (b : ℕ) (r : Option Role) (who : Who) → g ≡ accepted (geometry_on table.shape.l table.shape.n v) → role_by g b ≡ r
    → verdict_of r ≡ Some who → IsVerdict table v marks b who
told_role table v marks g b None who same is e = cc
told_role table v marks g b (Some Outside) who same is e =
    subst (λ x. IsVerdict table v marks b x) (some_who OutsideWho who e) (has_role table.shape.l table.shape.n v g b Outside same is)
told_role table v marks g b (Some (System kind)) who same is e =
    subst (λ x. IsVerdict table v marks b x) (some_who (SystemWho kind) who e) (has_role table.shape.l table.shape.n v g b (System kind) same is)
told_role table v marks g b (Some (Data c)) who same is e = cc

pub told_by_role : (kept : KeptInference) (table : Table) (v : Volume) (b : ℕ) (written : Bool) (who : Who) → FitsTable kept table b written → StandsFor kept v → verdict_by kept.geometry b ≡ Some who
    → IsVerdict table v kept.pending b who
told_by_role kept table v b written who fits stands e =
    told_role table v kept.pending kept.geometry b (role_by kept.geometry b) who (fits_geometry kept table v b written fits stands) refl e

not_told : (r : Option Role) → verdict_of r ≡ None → ((kind : SystemKind) → r ≡ Some (System kind) → ⊥) × (r ≡ Some Outside → ⊥)
not_told None e = (λ kind same. cc, λ same. cc)
not_told (Some Outside) e = cc
not_told (Some (System kind)) e = cc
not_told (Some (Data c)) e = (λ kind same. cc, λ same. cc)

pub not_special : (kept : KeptInference) (table : Table) (v : Volume) (b : ℕ) (written : Bool) → FitsTable kept table b written → StandsFor kept v → verdict_by kept.geometry b ≡ None
    → IsSpecial table.shape.l table.shape.n v b → ⊥
not_special kept table v b written fits stands e =
    let none = not_told (role_by kept.geometry b) e in
    plain_role table.shape.l table.shape.n v kept.geometry b (fits_geometry kept table v b written fits stands) (none.0) (none.1)

-- ---- regular files

some_kind : (x y : Kind) → Some x ≡ Some y → x ≡ y
some_kind x y e = cc

regular_stored : (g : Geometry) (inode : Inode) (has : Bool) → cond has (Some (kind_of inode.mode)) None ≡ Some Regular → kind_of inode.mode ≡ Regular
regular_stored g inode true e = some_kind (kind_of inode.mode) Regular e
regular_stored g inode false e = cc

regular_in : (g : Geometry) (is : Bool) (found : Option Inode) → cond is (pointing_kind g found) None ≡ Some Regular → MatchOption (cond is found None) ⊥ (λ inode. kind_of inode.mode ≡ Regular)
regular_in g false found e = cc
regular_in g true None e = cc
regular_in g true (Some inode) e = regular_stored g inode (has_pointers g inode) e

pub regular_kind : (g : Geometry) (v : Volume) (i : ℕ) → kind_by g v i ≡ Some Regular → IsInode g v i (λ inode. kind_of inode.mode ≡ Regular)
unfolding kind_by
regular_kind g v i e = regular_in g (is_inode_number g i) ((inode_of g i v).value) e

kept_regular : (g : Geometry) (is : Bool) (found : Option Inode) → MatchOption (cond is found None) ⊥ (λ inode. kind_of inode.mode ≡ Regular) → cond is (pointing_kind g found) None ≡ Some Regular
kept_regular g false found regular = absurd regular
kept_regular g true None regular = absurd regular
kept_regular g true (Some inode) regular =
    ap (λ k. cond (kind_has_pointers g inode.size k) (Some (kind_of inode.mode)) None) regular ∙ ap Some regular

pub kind_regular : (g : Geometry) (v : Volume) (i : ℕ) → IsInode g v i (λ inode. kind_of inode.mode ≡ Regular) → kind_by g v i ≡ Some Regular
unfolding kind_by
kind_regular g v i is = kept_regular g (is_inode_number g i) ((inode_of g i v).value) is

regular_ok : (r : Result Geometry BadSuper) (g : Option Geometry) (v : Volume) (i : ℕ) → g ≡ accepted r → (kind_on v g i ≡ Some Regular) ↔ IsOkAnd r (λ h. IsInode h v i (λ inode. kind_of inode.mode ≡ Regular))
regular_ok (Ok h) g v i same = (
  λ e. regular_kind h v i (sym (ap (λ o. kind_on v o i) same) ∙ e),
  λ is. ap (λ o. kind_on v o i) same ∙ kind_regular h v i is,
)
regular_ok (Err bad) g v i same = (
  λ e. let none : None ≡ Some Regular = sym (ap (λ o. kind_on v o i) same) ∙ e in cc,
  λ is. absurd is,
)

pub regular_on : (l n : ℕ) (v : Volume) (g : Option Geometry) (i : ℕ) → g ≡ accepted (geometry_on l n v) → (kind_on v g i ≡ Some Regular) ↔ IsRegularFile l n v i
regular_on l n v g i same = regular_ok (geometry_on l n v) g v i same

pub system_on : (l n : ℕ) (v : Volume) (g : Option Geometry) (b : ℕ) → g ≡ accepted (geometry_on l n v) → IsSystemBlock l n v b ↔ (is_system_by g b ≡ true)
system_on l n v g b same = system_by (geometry_on l n v) g b same

-- ---- owners

pub owned_on : (inside kept : KeptInference) (v : Volume) (b inode level : ℕ) → inside ≡ kept → StandsFor kept v → IsOwner (TableClaims (table_of inside.claims)) b inode level → BelongsTo kept.l kept.n v b inode level
owned_on inside kept v b inode level same stands owner =
    owned_along (TableClaims (table_of kept.claims)) (VolumeClaims kept.l kept.n v) stands.claims.claims b inode level
    (subst (λ (k : KeptInference). IsOwner (TableClaims (table_of k.claims)) b inode level) same owner)

pub owner_on : (inside kept : KeptInference) (v : Volume) (b inode level : ℕ) → inside ≡ kept → StandsFor kept v → (IsOwner (TableClaims (table_of inside.claims)) b inode level → ⊥)
    → BelongsTo kept.l kept.n v b inode level → ⊥
owner_on inside kept v b inode level same stands none owner =
    none (subst (λ (k : KeptInference). IsOwner (TableClaims (table_of k.claims)) b inode level) (sym same)
    (owned_along (VolumeClaims kept.l kept.n v) (TableClaims (table_of kept.claims)) (λ f s. let each = stands.claims.claims f s in (each.1, each.0)) b inode level owner))
