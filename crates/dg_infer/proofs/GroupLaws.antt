-- Which fragments are marked free after a write of one block.
use Rattle.std.proofs.Common.{◌≡◌, ◌∙◌, ℕ, ◌+◌, ◌-◌, ◌*◌, ◌/◌, ◌%◌, ◌<◌, ◌≤◌, ◌⊎◌, ◌&&◌, nat_lt, inl, inr, List, Bool, true, false, sym, ap, subst, arith}
use Rattle.std.proofs.lemmas.Bool.Decides.{nat_tests}
use Rattle.dg_infer.specs.Areas.{IsInGroupBlock}
use Rattle.dg_infer.specs.Meanings.{free_by}
use Rattle.std.proofs.Math.Nat.{div-lt_iff_lt-mul}
use Rattle.std.proofs.lemmas.Bool.{cases_eq}
use Rattle.std.proofs.lemmas.Nat.{div-mul-add}
use Rattle.std.specs.Prelude.{slice_set}
use Rattle.ufs_model.specs.Blocks.{Volume, area_of, bind}
use Rattle.ufs_model.specs.Geometries.{IsGeometry, cgbase, cgstart, end_of}
use Rattle.ufs_model.specs.GroupMaps.{by_maps, group_bytes, group_in, is_free, is_marked_free}
use Rattle.ufs_model.specs.declared.geometries.Geometry.{Geometry}
use Rattle.dg_infer.proofs.ListLaws.{below_cases}
use Rattle.dg_infer.proofs.AreaLaws.{area_off}
use Rattle.dg_infer.proofs.TargetLaws.{other_block}
use Rattle.dg_model.specs.Marks.{is_marked}

-- ---- groups

and_true : (a b : Bool) → a ≡ true → (a && b) ≡ b
and_true a b e = ap (λ x. x && b) e

and_false : (a b : Bool) → a ≡ false → (a && b) ≡ false
and_false a b e = ap (λ x. x && b) e

quotient : (p c b : ℕ) → p * c ≤ b → b < p * c + p → b / p ≡ c
quotient p c b low high =
    let sum : c * p + (b - p * c) ≡ b = grind (arith) in
    let rest : b - p * c < p = omega arith in
    subst (λ (n : ℕ). n / p ≡ c) sum (div-mul-add c p (b - p * c) rest)

-- a group has a file block of inodes at least
some_row : (p n : ℕ) → 1 ≤ p → p % n ≡ 0 → 0 < n → 1 ≤ p / n
some_row p n some whole pos = let split : n * (p / n) + p % n ≡ p = omega arith in grind arith

row_fits : (rows frag : ℕ) → 1 ≤ rows → frag ≤ rows * frag
row_fits rows frag some = grind arith

-- the group block is inside its group
pub in_its_group : (g : Geometry) (c b : ℕ) → IsGeometry g → c < g.ncg → cgstart g c + g.cblkno ≤ b → b < cgstart g c + g.cblkno + g.frag → (b / g.fpg ≡ c) × (b < g.size)
unfolding cgstart cgbase end_of
in_its_group g c b is small from to =
    let ends = is.ends c small in
    let block = is.bsize in
    let parts = is.inodes in
    let whole = is.inopb in
    let positive : 0 < g.inopb = omega arith in
    let rows = row_fits (g.ipg / g.inopb) g.frag (some_row g.ipg g.inopb (parts.0) (parts.1) positive) in
    let first = is.iblkno in
    let second = is.dblkno in
    (quotient g.fpg c b (omega arith) (omega arith), omega arith)

-- ---- the marks of a group

pub free_is : (g : Geometry) (v : Volume) (f : ℕ) (bytes : List ℕ) → bytes ≡ (group_bytes g (f / g.fpg) v).value
    → by_maps (group_in g (f / g.fpg) bytes) (λ group. is_free bytes group (f % g.fpg)) ≡ (is_marked_free g f v).value
unfolding is_marked_free bind
free_is g v f bytes is = ap (λ xs. by_maps (group_in g (f / g.fpg) xs) (λ group. is_free xs group (f % g.fpg))) is

pub free_off : (g : Geometry) (v : Volume) (b : ℕ) (bytes : List ℕ) (f : ℕ) → (cgstart g (f / g.fpg) + g.cblkno ≤ b → b < cgstart g (f / g.fpg) + g.cblkno + g.frag → ⊥)
    → (is_marked_free g f v).value ≡ (is_marked_free g f (slice_set v b bytes)).value
unfolding is_marked_free group_bytes bind
free_off g v b bytes f out =
    ap (λ xs. by_maps (group_in g (f / g.fpg) xs) (λ group. is_free xs group (f % g.fpg)))
    (area_off g.fsize (cgstart g (f / g.fpg) + g.cblkno) g.frag v (slice_set v b bytes)
    (λ k low high. other_block g.fsize v b bytes k (λ e. out (omega (arith, low, e)) (omega (arith, high, e)))))

pub group_below : (g : Geometry) (f : ℕ) → IsGeometry g → f < g.size → f / g.fpg < g.ncg
group_below g f is inside =
    let counts = is.groups in
    let some : 0 < g.fpg = omega arith in
    (div-lt_iff_lt-mul some).1 (omega (arith, inside))

-- the fragments of a group
pub in_group_range : (g : Geometry) (f c : ℕ) → IsGeometry g → f < g.size → f / g.fpg ≡ c → (cgbase g c ≤ f) × (f < end_of g c)
unfolding cgbase end_of
in_group_range g f c is inside same =
    let counts = is.groups in
    let split : g.fpg * (f / g.fpg) + f % g.fpg ≡ f = omega arith in
    let low : f % g.fpg < g.fpg = omega arith in
    let product : g.fpg * c ≡ g.fpg * (f / g.fpg) = ap (λ x. g.fpg * x) (sym same) in
    (omega arith, omega arith)

pub off_group_range : (g : Geometry) (f c : ℕ) → f < g.size → (f / g.fpg ≡ c → ⊥) → (f < cgbase g c) ⊎ (end_of g c ≤ f)
unfolding cgbase end_of
off_group_range g f c inside apart = elim (below_cases f (g.fpg * c)) [
  | inl before ↦ inl before
  | inr low ↦ elim (below_cases f (g.fpg * c + g.fpg)) [
    | inl high ↦ absurd (apart (quotient g.fpg c f low high))
    | inr past ↦ inr (omega (arith, past))
  ]
]

-- the block is part of group c's block, whose bytes were read after the write
pub free_moves : (g : Geometry) (v : Volume) (b : ℕ) (bytes read : List ℕ) (c f : ℕ) (old new : List Bool) → IsGeometry g → f < g.size → c ≡ b / g.fpg → read ≡ (group_bytes g c (slice_set v b bytes)).value
    → ((x : ℕ) → cgbase g c ≤ x → x < end_of g c → is_marked new x ≡ by_maps (group_in g (x / g.fpg) read) (λ group. is_free read group (x % g.fpg)))
    → ((x : ℕ) → ((x < cgbase g c) ⊎ (end_of g c ≤ x)) → is_marked new x ≡ is_marked old x) → is_marked old f ≡ (is_marked_free g f v).value
    → is_marked new f ≡ (is_marked_free g f (slice_set v b bytes)).value
free_moves g v b bytes read c f old new is inside group has inner outer was = elim (cases_eq (f / g.fpg) c) [
  | inl same ↦
      let range = in_group_range g f c is inside same in
      inner f (range.0) (range.1) ∙ free_is g (slice_set v b bytes) f read (has ∙ ap (λ (x : ℕ). (group_bytes g x (slice_set v b bytes)).value) (sym same))
  | inr apart ↦
      outer f (off_group_range g f c inside apart) ∙ was
      ∙ free_off g v b bytes f (λ low high. apart (sym ((in_its_group g (f / g.fpg) b is (group_below g f is inside) low high).0) ∙ sym group))
]

-- ---- all marks

pub in_volume : (g : Geometry) (v : Volume) (f : ℕ) → f < g.size → free_by g v f ≡ (is_marked_free g f v).value
unfolding free_by
in_volume g v f inside = and_true (nat_lt f g.size) ((is_marked_free g f v).value) (grind (arith, nat_tests))

pub past_volume : (g : Geometry) (v : Volume) (f : ℕ) → g.size ≤ f → free_by g v f ≡ false
unfolding free_by
past_volume g v f past = and_false (nat_lt f g.size) ((is_marked_free g f v).value) (grind (arith, nat_tests))

pub end_inside : (g : Geometry) (c f : ℕ) → g.size ≤ f → end_of g c ≤ f
unfolding end_of
end_inside g c f past = omega (arith, past)

-- the block is part of group c's block, whose bytes were read after the write
pub free_moved : (g : Geometry) (v : Volume) (b : ℕ) (bytes read : List ℕ) (c : ℕ) (old new : List Bool) → IsGeometry g → c < g.ncg → IsInGroupBlock g c b
    → read ≡ (group_bytes g c (slice_set v b bytes)).value
    → ((x : ℕ) → cgbase g c ≤ x → x < end_of g c → is_marked new x ≡ by_maps (group_in g (x / g.fpg) read) (λ group. is_free read group (x % g.fpg)))
    → ((x : ℕ) → ((x < cgbase g c) ⊎ (end_of g c ≤ x)) → is_marked new x ≡ is_marked old x) → ((f : ℕ) → is_marked old f ≡ free_by g v f)
    → (f : ℕ) → is_marked new f ≡ free_by g (slice_set v b bytes) f
free_moved g v b bytes read c old new is small in_block has inner outer was f = elim (below_cases f g.size) [
  | inl inside ↦
      free_moves g v b bytes read c f old new is inside (sym ((in_its_group g c b is small (in_block.0) (in_block.1)).0)) has inner outer (was f ∙ in_volume g v f inside)
      ∙ sym (in_volume g (slice_set v b bytes) f inside)
  | inr past ↦ outer f (inr (end_inside g c f past)) ∙ was f ∙ past_volume g v f past ∙ sym (past_volume g (slice_set v b bytes) f past)
]

-- the block is part of no group block
pub free_kept : (g : Geometry) (v : Volume) (b : ℕ) (bytes : List ℕ) (old : List Bool) → IsGeometry g → ((c : ℕ) → c < g.ncg → IsInGroupBlock g c b → ⊥)
    → ((f : ℕ) → is_marked old f ≡ free_by g v f) → (f : ℕ) → is_marked old f ≡ free_by g (slice_set v b bytes) f
free_kept g v b bytes old is off was f = elim (below_cases f g.size) [
  | inl inside ↦
      was f ∙ in_volume g v f inside ∙ free_off g v b bytes f (λ low high. off (f / g.fpg) (group_below g f is inside) (low, high)) ∙ sym (in_volume g (slice_set v b bytes) f inside)
  | inr past ↦ was f ∙ past_volume g v f past ∙ sym (past_volume g (slice_set v b bytes) f past)
]

pub group_read : (g : Geometry) (w : Volume) (c l first : ℕ) (bytes : List ℕ) → g.fsize ≡ l → first ≡ cgstart g c + g.cblkno → bytes ≡ (area_of l first g.frag w).value → bytes ≡ (group_bytes g c w).value
unfolding group_bytes
group_read g w c l first bytes size from is = is ∙ ap (λ n. (area_of n first g.frag w).value) (sym size) ∙ ap (λ a. (area_of g.fsize a g.frag w).value) from
