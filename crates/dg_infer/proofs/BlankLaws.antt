-- A volume of zeros has no geometry.
use Rattle.std.proofs.Common.{◌≡◌, ◌∙◌, ℕ, zero, suc, ◌+◌, ◌-◌, ◌*◌, ◌/◌, ◌^◌, ◌++◌, ◌∷◌, ◌==◌, not, inl, inr, List, [], Bool, true, false, cond, Some, None, length, refl, sym, ap, arith}
use Rattle.std.proofs.lemmas.List.{drop-replicate, ext_get_or, get_or-replicate, get_or_past, length-replicate, replicate-append-replicate}
use Rattle.std.specs.Int.{div_ceil}
use Rattle.std.specs.Prelude.{find, min, replicate, slice_index}
use Rattle.byteorder.specs.Endian.{big_from, little_from}
use Rattle.dg_model.specs.Blocks.{zeros}
use Rattle.dg_model.specs.Marks.{is_marked}
use Rattle.dg_model.specs.Volumes.{geometry_on}
use Rattle.ufs_model.specs.Blocks.{area_of, area_within, bind, block_at}
use Rattle.ufs_model.specs.Numbers.{number_at}
use Rattle.ufs_model.specs.Superblocks.{endian_of, fields, geometry_by, geometry_in, geometry_of, magic_of, passes, superblock_of, unless_bad}
use Rattle.ufs_model.specs.declared.geometries.BadSuper.{BadSuper}
use Rattle.ufs_model.specs.declared.geometries.BadSuper.TheVariants.{Magic, Format, Bsize, Fsize, Frag, Nindir, Inopb, Size, Groups, Inodes, Layout, Summary}
use Rattle.ufs_model.specs.declared.numbers.Endian.{Endian}
use Rattle.ufs_model.specs.declared.numbers.Endian.TheVariants.{Little, Big}
use Rattle.dg_claims.specs.Tables.{accepted}
use Rattle.dg_infer.proofs.ListLaws.{below_cases}

-- ---- numbers in zeros

length_zeros : (k : ℕ) → length {A = ℕ} (replicate k 0) ≡ k
length_zeros k = length-replicate k 0

zero_at : (k i : ℕ) → slice_index (replicate {A = ℕ} k 0) i ≡ 0
zero_at k i = elim (below_cases i k) [
  | inl lt ↦ get_or-replicate k i 0 0 lt
  | inr past ↦ get_or_past (replicate k 0) i 0 (let many = length_zeros k in omega (arith, past, many))
]

little_zero : (n i k : ℕ) → little_from i n (replicate k 0) ≡ 0
little_zero zero i k = refl
little_zero (suc n) i k = let first = zero_at k i in let rest = little_zero n (suc i) k in omega (arith, first, rest)

none_times : (x y : ℕ) → x ≡ 0 → x * y ≡ 0
none_times x y e =
    let none : 0 * y ≡ 0 = grind (arith) in
    ap (λ n. n * y) e ∙ none

big_zero : (n i k : ℕ) → big_from i n (replicate k 0) ≡ 0
big_zero zero i k = refl
big_zero (suc n) i k =
    let first = none_times (slice_index (replicate k 0) i) (256 ^ n) (zero_at k i) in
    let rest = big_zero n (suc i) k in
    omega (arith, first, rest)

no_magic : (endian : Endian) (m : ℕ) → magic_of endian (replicate m 0) ≡ 0
unfolding number_at
no_magic Little m = ap (λ xs. little_from 0 4 xs) (drop-replicate 1372 m 0) ∙ little_zero 4 0 (m - 1372)
no_magic Big m = ap (λ xs. big_from 0 4 xs) (drop-replicate 1372 m 0) ∙ big_zero 4 0 (m - 1372)

-- ---- the first test fails

found_first : (p : BadSuper → Bool) (x : BadSuper) (xs : List BadSuper) → p x ≡ true → find p (x ∷ xs) ≡ Some x
found_first p x xs e = ap (λ b. cond b (Some x) (find p xs)) e

refused : (endian : Endian) (m l n : ℕ) → accepted (geometry_by endian (replicate m 0) l n) ≡ None
unfolding geometry_by
refused endian m l n =
    let bytes : List ℕ = replicate m 0 in
    let fails : not (magic_of endian bytes == 0x00011954) ≡ true = ap (λ x. not (x == 0x00011954)) (no_magic endian m) in
    ap (λ o. accepted (unless_bad o (fields endian bytes)))
    (found_first (λ kind. not (passes endian bytes l n (fields endian bytes) kind)) Magic (Format ∷ Bsize ∷ Fsize ∷ Frag ∷ Nindir ∷ Inopb ∷ Size ∷ Groups ∷ Inodes ∷ Layout ∷ Summary ∷ []) fails)

-- ---- blocks of zeros

zero_block : (l n b : ℕ) → block_at l (replicate n (replicate l 0)) b ≡ replicate l 0
zero_block l n b = elim (below_cases b n) [
  | inl lt ↦ get_or-replicate n b (replicate l 0) (replicate l 0) lt
  | inr past ↦ get_or_past (replicate n (replicate l 0)) b (replicate l 0) (let many : length {A = List ℕ} (replicate n (replicate l 0)) ≡ n = length-replicate n (replicate l 0) in omega (arith, past, many))
]

zero_area : (l n a k : ℕ) → (area_of l a k (replicate n (replicate l 0))).value ≡ replicate (k * l) 0
unfolding area_of bind
zero_area l n a zero =
    let none : 0 * l ≡ 0 = grind (arith) in
    sym (ap (λ m. replicate m 0) none)
zero_area l n a (suc k) =
    let next : k * l + l ≡ suc k * l = grind (arith) in
    ap (λ xs. xs ++ block_at l (replicate n (replicate l 0)) (a + k)) (zero_area l n a k)
    ∙ ap (λ ys. replicate (k * l) 0 ++ ys) (zero_block l n (a + k))
    ∙ replicate-append-replicate (k * l) l 0
    ∙ ap (λ m. replicate m 0) next

pub blank : (l n : ℕ) → None ≡ accepted (geometry_on l n (replicate n (zeros l)))
unfolding geometry_of superblock_of area_within bind geometry_in
blank l n =
    let k = min (div_ceil 1376 l) (n - 8192 / l) in
    let more = (div_ceil 1376 l - k) * l in
    let bytes : (area_of l (8192 / l) k (replicate n (replicate l 0))).value ++ replicate more 0 ≡ replicate (k * l + more) 0 =
    ap (λ xs. xs ++ replicate more 0) (zero_area l n (8192 / l) k) ∙ replicate-append-replicate (k * l) more 0 in
    sym (ap (λ xs. accepted (geometry_by (endian_of xs) xs l n)) bytes ∙ refused (endian_of (replicate (k * l + more) 0)) (k * l + more) l n)

-- ---- marks

pub all_false : (xs : List Bool) (n : ℕ) → length xs ≡ n → ((b : ℕ) → is_marked xs b ≡ false) → xs ≡ replicate n false
all_false xs n size none =
    ext_get_or false xs (replicate n false) (size ∙ sym (length-replicate n false)) (λ i lt. none i ∙ sym (get_or-replicate n i false false (omega (arith, lt, size))))
