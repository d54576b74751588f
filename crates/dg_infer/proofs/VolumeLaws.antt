-- What a geometry and a table say of a volume, and what a write of one block leaves.
use Rattle.std.proofs.Common.{◌≡◌, ◌∙◌, ◌↔◌, ◌⊎◌, ℕ, ◌+◌, ◌-◌, ◌*◌, ◌/◌, ◌<◌, ◌≤◌, ◌++◌, ◌∷◌, inl, inr, List, [], Bool, true, false, Option, Some, None, Result, Ok, Err, length, refl, sym, ap, subst, arith, Contains, get_or-set_other, length-set}
use Rattle.std.proofs.lemmas.Bool.{cases_eq, false≢true}
use Rattle.std.proofs.lemmas.List.{get_or-set_same}
use Rattle.std.specs.Int.{div_ceil}
use Rattle.std.specs.Prelude.{min, replicate, slice_set, IsOkAnd}
use Rattle.dg_model.specs.Marks.{IsKnown, is_marked, with_mark}
use Rattle.dg_model.specs.Volumes.{geometry_on}
use Rattle.ufs_model.specs.Blocks.{Volume, area_of, area_within, bind}
use Rattle.ufs_model.specs.Roles.{is_system, role}
use Rattle.ufs_model.specs.Superblocks.{geometry_in, geometry_of, superblock_of}
use Rattle.ufs_model.specs.declared.geometries.BadSuper.{BadSuper}
use Rattle.ufs_model.specs.declared.geometries.Geometry.{Geometry}
use Rattle.dg_claims.specs.Tables.{ClaimTable, IsTableOf, accepted}
use Rattle.dg_infer.proofs.AreaLaws.{area_off}
use Rattle.dg_infer.proofs.ListLaws.{contains_cons}
use Rattle.dg_infer.proofs.TargetLaws.{other_block}
use Rattle.dg_infer.specs.Areas.{IsFrom}
use Rattle.dg_infer.specs.Known.{IsKnownBy, is_system_by}

-- ---- a geometry that is accepted

pub accepted_some : (r : Result Geometry BadSuper) (g : Geometry) → Some g ≡ accepted r → r ≡ Ok g
accepted_some (Ok h) g e = cc
accepted_some (Err bad) g e = cc

pub accepted_none : (r : Result Geometry BadSuper) → None ≡ accepted r → (bad : BadSuper) × (r ≡ Err bad)
accepted_none (Ok h) e = cc
accepted_none (Err bad) e = (bad, refl)

pub of_accepted : (r : Result Geometry BadSuper) (g : Geometry) (P : Geometry → Type 0) → Some g ≡ accepted r → IsOkAnd r P → P g
of_accepted r g P is holds = subst (λ o. IsOkAnd o P) (accepted_some r g is) holds

pub to_accepted : (r : Result Geometry BadSuper) (g : Geometry) (P : Geometry → Type 0) → Some g ≡ accepted r → P g → IsOkAnd r P
to_accepted r g P is holds = subst (λ o. IsOkAnd o P) (sym (accepted_some r g is)) holds

pub none_accepted : (r : Result Geometry BadSuper) (P : Geometry → Type 0) → None ≡ accepted r → IsOkAnd r P → ⊥
none_accepted (Ok h) P e holds = cc
none_accepted (Err bad) P e holds = holds

-- ---- what is known

pub system_by : (r : Result Geometry BadSuper) (g : Option Geometry) (b : ℕ) → g ≡ accepted r → IsOkAnd r (λ h. is_system (role h b) ≡ true) ↔ (is_system_by g b ≡ true)
system_by (Ok h) g b is = (λ t. ap (λ o. is_system_by o b) is ∙ t, λ t. sym (ap (λ o. is_system_by o b) is) ∙ t)
system_by (Err bad) g b is = (λ t. absurd t, λ t. absurd (false≢true (sym (ap (λ o. is_system_by o b) is) ∙ t)))

pub known_by : (l n : ℕ) (v : Volume) (g : Option Geometry) (table : ClaimTable) (b : ℕ) → g ≡ accepted (geometry_on l n v) → IsTableOf l n v table → IsKnown l n v b ↔ IsKnownBy g table.claimed b
known_by l n v g table b is of =
    let system = system_by (geometry_on l n v) g b is in (
      λ known. elim known [ inl t ↦ inl (system.0 t) | inr claim ↦ inr (claim.0, (of.claims b (claim.0)).1 (claim.1)) ],
      λ known. elim known [ inl t ↦ inl (system.1 t) | inr claim ↦ inr (claim.0, (of.claims b (claim.0)).0 (claim.1)) ],
    )

-- ---- the superblock of the volume after a write of another block

pub super_off : (l n : ℕ) (v : Volume) (b : ℕ) (bytes : List ℕ) → (IsFrom (8192 / l) (div_ceil 1376 l) b → ⊥) → geometry_on l n v ≡ geometry_on l n (slice_set v b bytes)
unfolding geometry_of superblock_of area_within bind
super_off l n v b bytes out =
    ap (λ xs. geometry_in (xs ++ replicate ((div_ceil 1376 l - min (div_ceil 1376 l) (n - 8192 / l)) * l) 0) l n) (area_off l (8192 / l) (min (div_ceil 1376 l) (n - 8192 / l)) v (slice_set v b bytes)
    (λ k low high. other_block l v b bytes k (λ e. out (omega (arith, low, e), omega (arith, high, e)))))

-- ---- marks

pub length_mark : {X : Type 0} (xs : List X) (b : ℕ) (x : X) → length (slice_set xs b x) ≡ length xs
length_mark xs b x = length-set xs b x

pub marked_with : (marks : List Bool) (block : ℕ) → block < length marks → (b : ℕ) → (is_marked (with_mark marks block) b ≡ true) ↔ ((is_marked marks b ≡ true) ⊎ (b ≡ block))
marked_with marks block inside b = elim (cases_eq b block) [
  | inl e ↦ (λ t. inr e, λ either. ap (is_marked (with_mark marks block)) e ∙ get_or-set_same marks block true false inside)
  | inr apart ↦
      let stays : is_marked (with_mark marks block) b ≡ is_marked marks b = get_or-set_other marks block b true false apart in (
        λ t. inl (sym stays ∙ t),
        λ either. elim either [ inl t ↦ stays ∙ t | inr e ↦ absurd (apart e) ],
      )
]

-- ---- lists

pub empty_list : {X : Type 0} (xs : List X) → ((x : X) → Contains xs x → ⊥) → xs ≡ []
empty_list [] none = refl
empty_list (x ∷ xs) none = absurd (none x ((contains_cons x xs x).1 (inl refl)))

-- ---- the geometry in the bytes of the superblock

padding : (k i l : ℕ) → i ≤ k → k * l - i * l ≡ (k - i) * l
padding k i l le =
    let split : k ≡ i + (k - i) = omega (arith, le) in
    let parts : (i + (k - i)) * l ≡ i * l + (k - i) * l = grind (arith) in
    let whole : k * l ≡ (i + (k - i)) * l = ap (λ x. x * l) split in
    omega (arith, parts, whole)

super_bytes : (l n : ℕ) (v : Volume) (area : List ℕ) (more : ℕ) → area ≡ (area_of l (8192 / l) (min (div_ceil 1376 l) (n - 8192 / l)) v).value
    → more ≡ (div_ceil 1376 l - min (div_ceil 1376 l) (n - 8192 / l)) * l → geometry_in (area ++ replicate more 0) l n ≡ geometry_on l n v
unfolding geometry_of superblock_of area_within bind
super_bytes l n v area more is pad = ap (λ xs. geometry_in (xs ++ replicate more 0) l n) is ∙ ap (λ m. geometry_in ((area_of l (8192 / l) (min (div_ceil 1376 l) (n - 8192 / l)) v).value ++ replicate m 0) l n) pad

pub super_read : (l n fb nb : ℕ) (v : Volume) (area : List ℕ) (first inside count size : ℕ) → fb ≡ l → nb ≡ n → first ≡ 8192 / fb → count ≡ div_ceil 1376 fb → inside ≡ min count (nb - first)
    → size ≡ count * fb → length area ≡ inside * l → area ≡ (area_of l first inside v).value → geometry_in (area ++ replicate (size - length area) 0) fb nb ≡ geometry_on l n v
super_read l n fb nb v area first inside count size same_l same_n first_is count_is inside_is size_is room is =
    let a : first ≡ 8192 / l = first_is ∙ ap (λ x. 8192 / x) same_l in
    let k : count ≡ div_ceil 1376 l = count_is ∙ ap (λ x. div_ceil 1376 x) same_l in
    let left : nb - first ≡ n - 8192 / l = omega (arith, same_n, a) in
    let i : inside ≡ min (div_ceil 1376 l) (n - 8192 / l) = inside_is ∙ ap (λ x. min x (nb - first)) k ∙ ap (λ y. min (div_ceil 1376 l) y) left in
    let few : inside ≤ count = omega (arith, inside_is) in
    let more : size - length area ≡ (div_ceil 1376 l - min (div_ceil 1376 l) (n - 8192 / l)) * l =
    ap (λ x. x - length area) (size_is ∙ ap (λ x. count * x) same_l) ∙ ap (λ y. count * l - y) room ∙ padding count inside l few
    ∙ ap (λ x. (x - inside) * l) k ∙ ap (λ y. (div_ceil 1376 l - y) * l) i in
    ap (λ x. geometry_in (area ++ replicate (size - length area) 0) x nb) same_l ∙ ap (λ y. geometry_in (area ++ replicate (size - length area) 0) l y) same_n
    ∙ super_bytes l n v area (size - length area) (is ∙ ap (λ x. (area_of l x inside v).value) a ∙ ap (λ y. (area_of l (8192 / l) y v).value) i) more
