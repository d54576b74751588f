-- Lists of parts that are apart from one another, and what stands in their places once they were put there.
use Rattle.std.proofs.Common.{◌≡◌, ◌∙◌, ℕ, zero, suc, ◌+◌, ◌<◌, ◌≤◌, ◌⊎◌, ◌&&◌, Bool, true, List, [], ◌∷◌, ◌++◌, length, take, drop, get_or, refl, sym, ap, subst, arith, inl, inr}
use Rattle.std.specs.Prelude.{nat_le, Contains}
use Rattle.std.specs.List.{All, AllPairs, flat_map, range_with_len}
use Rattle.std.proofs.lemmas.Bool.{and_parts, cases_eq, leb-true}
use Rattle.std.proofs.lemmas.List.{ext_get_or, get_or-drop, get_or-take, length-take-le}
use Rattle.std.proofs.Common.{length-drop}
use Rattle.ufs_build.specs.Parts.{Part, field_parts, number_bytes, put_at, put_parts}
use Rattle.ufs_build.specs.declared.parts.Field.{Field}
use Rattle.ufs_model.specs.declared.numbers.Endian.{Endian}
use Rattle.ufs_image_laws.specs.Reads.{Apart, Misses, Stands}
use Rattle.ufs_image_laws.proofs.NumberLaws.{number_length}
use Rattle.ufs_image_laws.proofs.PutLaws.{put_inside, put_length, put_outside}

-- ---- each of a list

abbrev pub Each : {X : Type 0} → (X → Type 0) → List X → Type 0
Each P [] = Unit {0}
Each P (x ∷ xs) = P x × Each P xs

pub each_append : {X : Type 0} (P : X → Type 0) (xs ys : List X) → Each P xs → Each P ys → Each P (xs ++ ys)
each_append P [] ys h k = k
each_append P (x ∷ xs) ys h k = (h.0, each_append P xs ys (h.1) k)

pub each_weaker : {X : Type 0} (P Q : X → Type 0) → ((x : X) → P x → Q x) → (xs : List X) → Each P xs → Each Q xs
each_weaker P Q f [] h = tt
each_weaker P Q f (x ∷ xs) h = (f x (h.0), each_weaker P Q f xs (h.1))

pub each_flat : {X : Type 0} (P : X → Type 0) (f : ℕ → List X) (a n : ℕ) → ((i : ℕ) → a ≤ i → i < a + n → Each P (f i)) → Each P (flat_map f (range_with_len a n))
each_flat P f a zero h = tt
each_flat P f a (suc n) h =
    each_append P (f a) (flat_map f (range_with_len (a + 1) n)) (h a (omega arith) (omega arith))
    (each_flat P f (a + 1) n (λ i low high. h i (omega arith) (omega arith)))

-- ---- one of a list

abbrev pub Has : {X : Type 0} → X → List X → Type 0
Has x [] = ⊥
Has x (y ∷ ys) = (y ≡ x) ⊎ Has x ys

pub has_left : {X : Type 0} (x : X) (xs ys : List X) → Has x xs → Has x (xs ++ ys)
has_left x [] ys h = absurd h
has_left x (y ∷ xs) ys (inl same) = inl same
has_left x (y ∷ xs) ys (inr later) = inr (has_left x xs ys later)

pub has_right : {X : Type 0} (x : X) (xs ys : List X) → Has x ys → Has x (xs ++ ys)
has_right x [] ys h = h
has_right x (y ∷ xs) ys h = inr (has_right x xs ys h)

pub has_flat : {X : Type 0} (x : X) (f : ℕ → List X) (a n i : ℕ) → a ≤ i → i < a + n → Has x (f i) → Has x (flat_map f (range_with_len a n))
has_flat x f a zero i low high h = absurd (omega arith)
has_flat x f a (suc n) i low high h =
    elim (cases_eq a i) as (λ _. Has x (f a ++ flat_map f (range_with_len (a + 1) n))) [
      | inl same ↦ has_left x (f a) (flat_map f (range_with_len (a + 1) n)) (subst (λ k. Has x (f k)) (sym same) h)
      | inr differ ↦ has_right x (f a) (flat_map f (range_with_len (a + 1) n)) (has_flat x f (a + 1) n i (omega arith) (omega arith) h)
    ]

pub each_has : {X : Type 0} (P : X → Type 0) (x : X) (xs : List X) → Each P xs → Has x xs → P x
each_has P x [] each h = absurd h
each_has P x (y ∷ xs) each (inl same) = subst P same (each.0)
each_has P x (y ∷ xs) each (inr later) = each_has P x xs (each.1) later

pub has_at : {X : Type 0} (x : X) (xs : List X) (k : ℕ) → k < length xs → get_or xs k x ≡ x → Has x xs
has_at x [] k low e = absurd (omega arith)
has_at x (y ∷ xs) zero low e = inl e
has_at x (y ∷ xs) (suc k) low e = inr (has_at x xs k (omega arith) e)

pub has_contained : {X : Type 0} (x : X) (xs : List X) → Contains xs x → Has x xs
has_contained x xs h = has_at x xs (h.0) (h.1) (h.2)

-- ---- parts that are apart

abbrev pub ApartAll : List Part → Type 0
ApartAll [] = Unit {0}
ApartAll (x ∷ xs) = Each (Apart x) xs × ApartAll xs

-- each byte of a part is of a zone
pub record Lies (K : ℕ → Type 0) (part : Part) : Type 0 where
  pub zone : (p : ℕ) → part.at ≤ p → p < part.at + length part.bytes → K p

pub lies_weaker : (K L : ℕ → Type 0) → ((p : ℕ) → K p → L p) → (xs : List Part) → Each (Lies K) xs → Each (Lies L) xs
lies_weaker K L f xs h = each_weaker (Lies K) (Lies L) (λ x lies. record { zone = λ p low high. f p (lies.zone p low high) }) xs h

pub apart_append : (xs ys : List Part) → ApartAll xs → ApartAll ys → Each (λ x. Each (Apart x) ys) xs → ApartAll (xs ++ ys)
apart_append [] ys h k c = k
apart_append (x ∷ xs) ys h k c = (each_append (Apart x) xs ys (h.0) (c.0), apart_append xs ys (h.1) k (c.1))

pub cross : (K L : ℕ → Type 0) (xs ys : List Part) → Each (Lies K) xs → Each (Lies L) ys → ((p : ℕ) → K p → L p → ⊥) → Each (λ x. Each (Apart x) ys) xs
cross K L [] ys h k none = tt
cross K L (x ∷ xs) ys h k none =
    let first = h.0 in (
      each_weaker (Lies L) (Apart x) (λ y lies. record { none = λ p a b c d. none p (first.zone p a b) (lies.zone p c d) }) ys k,
      cross K L xs ys (h.1) k none,
    )

-- two lists in zones that have no byte in common
pub apart_zones : (K L : ℕ → Type 0) (xs ys : List Part) → ApartAll xs → ApartAll ys → Each (Lies K) xs → Each (Lies L) ys → ((p : ℕ) → K p → L p → ⊥)
    → ApartAll (xs ++ ys)
apart_zones K L xs ys one other first second none = apart_append xs ys one other (cross K L xs ys first second none)

record Later (K : ℕ → ℕ → Type 0) (a p : ℕ) : Type 0 where
  at : ℕ
  late : a < at
  is : K at p

pub apart_flat : (f : ℕ → List Part) (K : ℕ → ℕ → Type 0) (a n : ℕ) → ((i : ℕ) → a ≤ i → i < a + n → ApartAll (f i))
    → ((i : ℕ) → a ≤ i → i < a + n → Each (Lies (K i)) (f i)) → ((i j p : ℕ) → K i p → K j p → i ≡ j) → ApartAll (flat_map f (range_with_len a n))
apart_flat f K a zero apart lies one = tt
apart_flat f K a (suc n) apart lies one =
    apart_zones (K a) (Later K a) (f a) (flat_map f (range_with_len (a + 1) n)) (apart a (omega arith) (omega arith))
    (apart_flat f K (a + 1) n (λ i low high. apart i (omega arith) (omega arith)) (λ i low high. lies i (omega arith) (omega arith)) one)
    (lies a (omega arith) (omega arith))
    (each_flat (Lies (Later K a)) f (a + 1) n (λ i low high. lies_weaker (K i) (Later K a) (λ p is. record { at = i; late = omega arith; is = is }) (f i) (lies i (omega arith) (omega arith))))
    (λ p here later. let same = one a later.at p here later.is in let late = later.late in omega arith)

-- ---- parts one behind the other

-- they stand from one byte on and end before another
abbrev pub Ascend : ℕ → List Part → ℕ → Type 0
Ascend low [] high = low ≤ high
Ascend low (x ∷ xs) high = (low ≤ x.at) × Ascend (x.at + length x.bytes) xs high

pub ascend_low : (m low : ℕ) (xs : List Part) (high : ℕ) → m ≤ low → Ascend low xs high → Ascend m xs high
ascend_low m low [] high le h = omega arith
ascend_low m low (x ∷ xs) high le h = (let first = h.0 in omega arith, h.1)

pub ascend_order : (low : ℕ) (xs : List Part) (high : ℕ) → Ascend low xs high → low ≤ high
ascend_order low [] high h = h
ascend_order low (x ∷ xs) high h = let first = h.0 in let rest = ascend_order (x.at + length x.bytes) xs high (h.1) in omega arith

abbrev pub Between : ℕ → ℕ → ℕ → Type 0
Between low high p = (low ≤ p) × (p < high)

pub ascend_lies : (low : ℕ) (xs : List Part) (high : ℕ) → Ascend low xs high → Each (Lies (Between low high)) xs
ascend_lies low [] high h = tt
ascend_lies low (x ∷ xs) high h =
    let first = h.0 in
    let order = ascend_order (x.at + length x.bytes) xs high (h.1) in (
      record { zone = λ p from to. (omega arith, omega arith) },
      lies_weaker (Between (x.at + length x.bytes) high) (Between low high) (λ p is. (let from = is.0 in omega arith, is.1)) xs (ascend_lies (x.at + length x.bytes) xs high (h.1)),
    )

pub ascend_apart : (low : ℕ) (xs : List Part) (high : ℕ) → Ascend low xs high → ApartAll xs
ascend_apart low [] high h = tt
ascend_apart low (x ∷ xs) high h = (
  each_weaker (Lies (Between (x.at + length x.bytes) high)) (Apart x) (λ y lies. record { none = λ p a b c d. let is = lies.zone p c d in let from = is.0 in omega arith })
      xs (ascend_lies (x.at + length x.bytes) xs high (h.1)),
  ascend_apart (x.at + length x.bytes) xs high (h.1),
)

pub ascend_append : (low : ℕ) (xs : List Part) (mid : ℕ) (ys : List Part) (high : ℕ) → Ascend low xs mid → Ascend mid ys high → Ascend low (xs ++ ys) high
ascend_append low [] mid ys high h k = ascend_low low mid ys high h k
ascend_append low (x ∷ xs) mid ys high h k = (h.0, ascend_append (x.at + length x.bytes) xs mid ys high (h.1) k)

pub ascend_flat : (f : ℕ → List Part) (place : ℕ → ℕ) (a n : ℕ) → ((i : ℕ) → a ≤ i → i < a + n → Ascend (place i) (f i) (place (i + 1)))
    → Ascend (place a) (flat_map f (range_with_len a n)) (place (a + n))
ascend_flat f place a zero h = subst (λ b. place a ≤ place b) (let e : a ≡ a + 0 = omega arith in e) (let r : place a ≤ place a = omega arith in r)
ascend_flat f place a (suc n) h =
    ascend_append (place a) (f a) (place (a + 1)) (flat_map f (range_with_len (a + 1) n)) (place (a + suc n)) (h a (omega arith) (omega arith))
    (subst (λ b. Ascend (place (a + 1)) (flat_map f (range_with_len (a + 1) n)) (place b)) (let e : a + 1 + n ≡ a + suc n = omega arith in e)
    (ascend_flat f place (a + 1) n (λ i low high. h i (omega arith) (omega arith))))

-- ---- fields

abbrev pub fields_ascend : ℕ → List Field → ℕ → Bool
fields_ascend low [] high = nat_le low high
fields_ascend low (x ∷ xs) high = nat_le low x.at && fields_ascend (x.at + 4) xs high

pub fields_in_order : (endian : Endian) (base low : ℕ) (xs : List Field) (high : ℕ) → fields_ascend low xs high ≡ true
    → Ascend (base + low) (field_parts endian base xs) (base + high)
fields_in_order endian base low [] high h = let le = leb-true low high h in omega arith
fields_in_order endian base low (x ∷ xs) high h =
    let parts = and_parts (nat_le low x.at) (fields_ascend (x.at + 4) xs high) h in
    let le = leb-true low x.at (parts.0) in
    let size = number_length endian 4 x.value in (
      omega arith,
      ascend_low (base + x.at + length (number_bytes endian 4 x.value)) (base + (x.at + 4)) (field_parts endian base xs) (base + high) (omega (arith, size))
          (fields_in_order endian base (x.at + 4) xs high (parts.1)),
    )

pub has_field : (endian : Endian) (base : ℕ) (x : Field) (xs : List Field) → Has x xs
    → Has (record { at = base + x.at; bytes = number_bytes endian 4 x.value }) (field_parts endian base xs)
has_field endian base x [] h = absurd h
has_field endian base x (y ∷ xs) (inl same) = inl (ap (λ (z : Field). record { at = base + z.at; bytes = number_bytes endian 4 z.value }) same)
has_field endian base x (y ∷ xs) (inr later) = inr (has_field endian base x xs later)

-- ---- what stands in the places

pub parts_length : (xs : List Part) (bytes : List ℕ) → length (put_parts xs bytes) ≡ length bytes
parts_length [] bytes = refl
parts_length (x ∷ xs) bytes = parts_length xs (put_at x.at x.bytes bytes) ∙ put_length x.at x.bytes bytes

-- a byte of none
pub parts_outside : (xs : List Part) (bytes : List ℕ) (p : ℕ) → Each (Misses p) xs → get_or (put_parts xs bytes) p 0 ≡ get_or bytes p 0
parts_outside [] bytes p h = refl
parts_outside (x ∷ xs) bytes p h =
    let first = h.0 in
    parts_outside xs (put_at x.at x.bytes bytes) p (h.1) ∙ put_outside x.at x.bytes bytes p first.none

abbrev pub EndsBy : ℕ → Part → Type 0
EndsBy n x = x.at + length x.bytes ≤ n

-- a byte of one
reads : (xs : List Part) (part : Part) (bytes : List ℕ) (n : ℕ) → length bytes ≡ n → Has part xs → ApartAll xs → Each (EndsBy n) xs → (j : ℕ) → j < length part.bytes
    → get_or (put_parts xs bytes) (part.at + j) 0 ≡ get_or part.bytes j 0
reads [] part bytes n e h apart fits j low = absurd h
reads (x ∷ xs) part bytes n e (inl same) apart fits j low =
    let here : j < length x.bytes → get_or (put_parts xs (put_at x.at x.bytes bytes)) (x.at + j) 0 ≡ get_or x.bytes j 0 = λ low'.
    parts_outside xs (put_at x.at x.bytes bytes) (x.at + j)
    (each_weaker (Apart x) (Misses (x.at + j)) (λ y is. record { none = λ from to. is.none (x.at + j) (omega arith) (omega arith) from to }) xs (apart.0))
    ∙ put_inside x.at x.bytes bytes j (let end = fits.0 in omega (arith, e, end)) low' in
    subst (λ (y : Part). j < length y.bytes → get_or (put_parts xs (put_at x.at x.bytes bytes)) (y.at + j) 0 ≡ get_or y.bytes j 0) same here low
reads (x ∷ xs) part bytes n e (inr later) apart fits j low =
    reads xs part (put_at x.at x.bytes bytes) n (put_length x.at x.bytes bytes ∙ e) later (apart.1) (fits.1) j low

pub stands_by : (image : List ℕ) (at : ℕ) (bytes : List ℕ) → at + length bytes ≤ length image → ((j : ℕ) → j < length bytes → get_or image (at + j) 0 ≡ get_or bytes j 0)
    → Stands image at bytes
stands_by image at bytes fits each =
    let rest : length bytes ≤ length (drop at image) = let e = length-drop at image in omega (arith, e, fits) in
    let size : length (take (length bytes) (drop at image)) ≡ length bytes = length-take-le (length bytes) (drop at image) rest in
    record {
      inside = fits;
      are = ext_get_or 0 (take (length bytes) (drop at image)) bytes size
          (λ i low. let low' : i < length bytes = omega (arith, low, size) in
          get_or-take (length bytes) (drop at image) i 0 low' ∙ get_or-drop at image i 0 ∙ each i low');
    }

pub part_stands : (xs : List Part) (part : Part) (bytes : List ℕ) (n : ℕ) → length bytes ≡ n → Has part xs → ApartAll xs → Each (EndsBy n) xs
    → Stands (put_parts xs bytes) part.at part.bytes
part_stands xs part bytes n e has apart fits =
    stands_by (put_parts xs bytes) part.at part.bytes (let end = each_has (EndsBy n) part xs fits has in let size = parts_length xs bytes in omega (arith, e, end, size))
    (reads xs part bytes n e has apart fits)

-- ---- the same in the words of lists

pub each_of_all : {X : Type 0} (P : X → Type 0) (xs : List X) → All P xs → Each P xs
each_of_all P [] h = tt
each_of_all P (x ∷ xs) h = (h 0 x (omega arith), each_of_all P xs (λ k d low. h (suc k) d (omega arith)))

each_get : {X : Type 0} (P : X → Type 0) (xs : List X) → Each P xs → (k : ℕ) (d : X) → k < length xs → P (get_or xs k d)
each_get P [] h k d low = absurd (omega arith)
each_get P (x ∷ xs) h zero d low = h.0
each_get P (x ∷ xs) h (suc k) d low = each_get P xs (h.1) k d (omega arith)

pub pairs_apart : (xs : List Part) → ApartAll xs → AllPairs Apart xs
pairs_apart [] h i j d less low = absurd (omega arith)
pairs_apart (x ∷ xs) h zero zero d less low = absurd (omega arith)
pairs_apart (x ∷ xs) h zero (suc j) d less low = each_get (Apart x) xs (h.0) j d (omega arith)
pairs_apart (x ∷ xs) h (suc i) zero d less low = absurd (omega arith)
pairs_apart (x ∷ xs) h (suc i) (suc j) d less low = pairs_apart xs (h.1) i j d (omega arith) (omega arith)
