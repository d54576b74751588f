-- What bytes say, and that they say one thing alone.
use Rattle.std.proofs.Common.{◌≡◌, ◌∙◌, ◌+◌, ◌*◌, ◌<◌, ◌≤◌, ◌^◌, ℕ, zero, suc, List, [], ◌∷◌, ◌++◌, All, get_or, length, take, drop, refl, sym, ap, subst, arith, append_assoc, length-append, length-drop, inl, inr}
use Rattle.std.specs.Prelude.{flat_map}
use Rattle.std.specs.List.Sorted.{IsStrictlyIncreasing}
use Rattle.std.proofs.lemmas.Bool.{cases_lt}
use Rattle.std.proofs.lemmas.Grind.{flat_map-append}
use Rattle.std.proofs.Math.Seq.{take-add}
use Rattle.std.proofs.lemmas.List.{append-nil, take_all}
use Rattle.std.proofs.lemmas.List.Concat.{flat_map-cons}
use Rattle.byteorder.specs.Endian.{little_bytes, little_number}
use Rattle.byteorder.specs.Numbers.{little_number-reads_back}
use Rattle.dg_regroup.specs.ExtraBytes.{SaysFront, SaysNumbers}
use Rattle.dg_regroup.specs.Extras.{IsExtra, MayBeLive, extra_bytes, front_bytes, numbers_bytes}
use Rattle.dg_regroup.specs.declared.extras.Extra.{Extra}

-- ---- the front

spread : (size boundaries : ℕ) (live rest : List ℕ) → front_bytes size boundaries live ++ rest ≡ little_bytes 8 size ++ (boundaries ∷ length live ∷ (live ++ rest))
spread size boundaries live rest = append_assoc (little_bytes 8 size) (boundaries ∷ length live ∷ live) rest

pub front_length : (bytes : List ℕ) (size boundaries : ℕ) (live rest : List ℕ) → SaysFront bytes size boundaries live rest → length bytes ≡ 10 + length live + length rest
front_length bytes size boundaries live rest h =
    let long = length-append (little_bytes 8 size) (boundaries ∷ length live ∷ (live ++ rest)) in
    let more = length-append live rest in
    let e : length bytes ≡ length (little_bytes 8 size ++ (boundaries ∷ length live ∷ (live ++ rest))) = ap length (h.says ∙ spread size boundaries live rest) in
    omega (arith, e, long, more)

pub front_count : (bytes : List ℕ) (size boundaries : ℕ) (live rest : List ℕ) → SaysFront bytes size boundaries live rest → get_or bytes 9 0 ≡ length live
front_count bytes size boundaries live rest h = ap (λ (xs : List ℕ). get_or xs 9 0) (h.says ∙ spread size boundaries live rest)

-- two fronts of the same bytes are one
pub record AreOneFront (size other_size boundaries other_boundaries : ℕ) (live other_live rest other_rest : List ℕ) : Type 0 where
  pub size_is : size ≡ other_size
  pub boundaries_are : boundaries ≡ other_boundaries
  pub live_are : live ≡ other_live
  pub rest_is : rest ≡ other_rest

same_front : (xs ys r s : List ℕ) → length xs ≡ length ys → xs ++ r ≡ ys ++ s → (xs ≡ ys) × (r ≡ s)
same_front [] [] r s long e = (refl, e)
same_front [] (y ∷ ys) r s long e = absurd (omega (arith, long))
same_front (x ∷ xs) [] r s long e = absurd (omega (arith, long))
same_front (x ∷ xs) (y ∷ ys) r s long e =
    let rest = same_front xs ys r s (omega (arith, long)) (cc e) in
    let first : x ≡ y = cc e in
    (rw (first, rest.0) refl, rest.1)

pub front_once : (bytes : List ℕ) (size other_size boundaries other_boundaries : ℕ) (live other_live rest other_rest : List ℕ)
    → SaysFront bytes size boundaries live rest → SaysFront bytes other_size other_boundaries other_live other_rest
    → AreOneFront size other_size boundaries other_boundaries live other_live rest other_rest
front_once bytes size other_size boundaries other_boundaries live other_live rest other_rest one other =
    let e : little_bytes 8 size ++ (boundaries ∷ length live ∷ (live ++ rest)) ≡ little_bytes 8 other_size ++ (other_boundaries ∷ length other_live ∷ (other_live ++ other_rest)) =
    sym (spread size boundaries live rest) ∙ sym one.says ∙ other.says ∙ spread other_size other_boundaries other_live other_rest in
    let number : size ≡ other_size =
    sym (little_number-reads_back 8 size (boundaries ∷ length live ∷ (live ++ rest)) one.fits)
    ∙ ap (λ (l : List ℕ). little_number 8 l) e
    ∙ little_number-reads_back 8 other_size (other_boundaries ∷ length other_live ∷ (other_live ++ other_rest)) other.fits in
    let behind : boundaries ∷ length live ∷ (live ++ rest) ≡ other_boundaries ∷ length other_live ∷ (other_live ++ other_rest) = ap (λ (l : List ℕ). drop 8 l) e in
    let long : length live ≡ length other_live = cc behind in
    let both = same_front live other_live rest other_rest long (cc behind) in
    record { size_is = number; boundaries_are = cc behind; live_are = both.0; rest_is = both.1 }

ten : (xs : List ℕ) → length xs ≡ 10
    → xs ≡ get_or xs 0 0 ∷ get_or xs 1 0 ∷ get_or xs 2 0 ∷ get_or xs 3 0 ∷ get_or xs 4 0 ∷ get_or xs 5 0 ∷ get_or xs 6 0 ∷ get_or xs 7 0 ∷ get_or xs 8 0 ∷ get_or xs 9 0 ∷ []
ten (a ∷ b ∷ c ∷ d ∷ e ∷ f ∷ g ∷ h ∷ i ∷ j ∷ []) long = refl
ten (a ∷ b ∷ c ∷ d ∷ e ∷ f ∷ g ∷ h ∷ i ∷ j ∷ k ∷ xs) long = absurd (omega (arith, long))
ten (a ∷ b ∷ c ∷ d ∷ e ∷ f ∷ g ∷ h ∷ i ∷ []) long = absurd (omega (arith, long))
ten (a ∷ b ∷ c ∷ d ∷ e ∷ f ∷ g ∷ h ∷ []) long = absurd (omega (arith, long))
ten (a ∷ b ∷ c ∷ d ∷ e ∷ f ∷ g ∷ []) long = absurd (omega (arith, long))
ten (a ∷ b ∷ c ∷ d ∷ e ∷ f ∷ []) long = absurd (omega (arith, long))
ten (a ∷ b ∷ c ∷ d ∷ e ∷ []) long = absurd (omega (arith, long))
ten (a ∷ b ∷ c ∷ d ∷ []) long = absurd (omega (arith, long))
ten (a ∷ b ∷ c ∷ []) long = absurd (omega (arith, long))
ten (a ∷ b ∷ []) long = absurd (omega (arith, long))
ten (a ∷ []) long = absurd (omega (arith, long))
ten [] long = absurd (omega (arith, long))

pub says_read : (bytes head rest live after : List ℕ) (size : ℕ) → length head ≡ 10 → bytes ≡ head ++ rest → rest ≡ live ++ after → length live ≡ get_or head 9 0
    → little_bytes 8 size ≡ get_or head 0 0 ∷ get_or head 1 0 ∷ get_or head 2 0 ∷ get_or head 3 0 ∷ get_or head 4 0 ∷ get_or head 5 0 ∷ get_or head 6 0 ∷ get_or head 7 0 ∷ []
    → size < 2 ^ 64 → get_or head 9 0 < 256 → SaysFront bytes size (get_or head 8 0) live after
says_read bytes head rest live after size long whole more count number fits short = record {
  fits = fits;
  short = omega (arith, count, short);
  says =
      whole ∙ ap (λ (xs : List ℕ). xs ++ rest) (ten head long)
      ∙ ap (λ (xs : List ℕ). xs ++ (get_or head 8 0 ∷ get_or head 9 0 ∷ rest)) (sym number)
      ∙ rw (more, ← count) (sym (spread size (get_or head 8 0) live after));
}

-- ---- numbers

pub numbers_length : (bytes numbers : List ℕ) → SaysNumbers bytes numbers → length bytes ≡ 4 + 4 * length numbers
numbers_length bytes numbers h =
    let long = length-append (little_bytes 4 (length numbers)) (flat_map (little_bytes 4) numbers) in
    omega (arith, ap length h.says, long, each_length numbers)
  where
    each_length : (numbers : List ℕ) → length (flat_map (little_bytes 4) numbers) ≡ 4 * length numbers
    each_length [] = refl
    each_length (n ∷ numbers) =
        let cons = flat_map-cons (little_bytes 4) n numbers in
        let more = length-append (little_bytes 4 n) (flat_map (little_bytes 4) numbers) in
        let rest = each_length numbers in
        omega (arith, ap length cons, more, rest)

pub numbers_count : (bytes numbers : List ℕ) → SaysNumbers bytes numbers → little_number 4 bytes ≡ length numbers
numbers_count bytes numbers h = ap (λ (l : List ℕ). little_number 4 l) h.says ∙ little_number-reads_back 4 (length numbers) (flat_map (little_bytes 4) numbers) h.short

each_once : (xs ys : List ℕ) → All (λ b. b < 2 ^ 32) xs → All (λ b. b < 2 ^ 32) ys → length xs ≡ length ys → flat_map (little_bytes 4) xs ≡ flat_map (little_bytes 4) ys → xs ≡ ys
each_once [] [] fx fy long e = refl
each_once [] (y ∷ ys) fx fy long e = absurd (omega (arith, long))
each_once (x ∷ xs) [] fx fy long e = absurd (omega (arith, long))
each_once (x ∷ xs) (y ∷ ys) fx fy long e =
    let joined : little_bytes 4 x ++ flat_map (little_bytes 4) xs ≡ little_bytes 4 y ++ flat_map (little_bytes 4) ys =
    sym (flat_map-cons (little_bytes 4) x xs) ∙ e ∙ flat_map-cons (little_bytes 4) y ys in
    let low : x < 2 ^ 32 = fx 0 0 (omega arith) in
    let other_low : y < 2 ^ 32 = fy 0 0 (omega arith) in
    let first : x ≡ y =
    sym (little_number-reads_back 4 x (flat_map (little_bytes 4) xs) low) ∙ ap (λ (l : List ℕ). little_number 4 l) joined ∙ little_number-reads_back 4 y (flat_map (little_bytes 4) ys) other_low in
    let rest = each_once xs ys (λ k d lt. fx (suc k) d (omega (arith, lt))) (λ k d lt. fy (suc k) d (omega (arith, lt))) (omega (arith, long)) (ap (λ (l : List ℕ). drop 4 l) joined) in
    rw (first, rest) refl

pub numbers_once : (bytes xs ys : List ℕ) → SaysNumbers bytes xs → SaysNumbers bytes ys → xs ≡ ys
numbers_once bytes xs ys one other =
    let long : length xs ≡ length ys = sym (numbers_count bytes xs one) ∙ numbers_count bytes ys other in
    each_once xs ys one.fit other.fit long (ap (λ (l : List ℕ). drop 4 l) (sym one.says ∙ other.says))

four : (xs : List ℕ) → 4 ≤ length xs → take 4 xs ≡ get_or xs 0 0 ∷ get_or xs 1 0 ∷ get_or xs 2 0 ∷ get_or xs 3 0 ∷ []
four [] h = absurd (omega (arith, h))
four (a ∷ []) h = absurd (omega (arith, h))
four (a ∷ b ∷ []) h = absurd (omega (arith, h))
four (a ∷ b ∷ c ∷ []) h = absurd (omega (arith, h))
four (a ∷ b ∷ c ∷ d ∷ xs) h = refl

pub four_is : (head : List ℕ) → length head ≡ 4 → head ≡ get_or head 0 0 ∷ get_or head 1 0 ∷ get_or head 2 0 ∷ get_or head 3 0 ∷ []
four_is head long = sym (take_all 4 head (omega (arith, long))) ∙ four head (omega (arith, long))

-- one more number was read
pub number_more : (bytes numbers : List ℕ) (place number count : ℕ) → length bytes ≡ 4 * count → place < count → take (4 * place) bytes ≡ flat_map (little_bytes 4) numbers
    → little_bytes 4 number ≡ get_or (drop (4 * place) bytes) 0 0 ∷ get_or (drop (4 * place) bytes) 1 0 ∷ get_or (drop (4 * place) bytes) 2 0 ∷ get_or (drop (4 * place) bytes) 3 0 ∷ []
    → take (4 * (place + 1)) bytes ≡ flat_map (little_bytes 4) (numbers ++ number ∷ [])
number_more bytes numbers place number count long low before is =
    let step : 4 * (place + 1) ≡ 4 * place + 4 = omega arith in
    ap (λ (k : ℕ). take k bytes) step
    ∙ take-add (4 * place) 4 bytes
    ∙ ap (λ (xs : List ℕ). take (4 * place) bytes ++ xs) (four (drop (4 * place) bytes) (let l = length-drop (4 * place) bytes in omega (arith, l, long, low)) ∙ sym is)
    ∙ ap (λ (xs : List ℕ). xs ++ little_bytes 4 number) before
    ∙ sym (flat_map-append (little_bytes 4) numbers (number ∷ []) ∙ ap (λ (xs : List ℕ). flat_map (little_bytes 4) numbers ++ xs) (append-nil (little_bytes 4 number)))

pub numbers_read : (bytes head rest numbers : List ℕ) (count : ℕ) → bytes ≡ head ++ rest → length head ≡ 4 → count < 2 ^ 32
    → little_bytes 4 count ≡ get_or head 0 0 ∷ get_or head 1 0 ∷ get_or head 2 0 ∷ get_or head 3 0 ∷ [] → length numbers ≡ count → All (λ b. b < 2 ^ 32) numbers
    → rest ≡ flat_map (little_bytes 4) numbers → SaysNumbers bytes numbers
numbers_read bytes head rest numbers count whole long low number many fit says = record {
  short = omega (arith, many, low);
  fit = fit;
  says =
      whole
      ∙ ap (λ (xs : List ℕ). xs ++ rest) (four_is head long ∙ sym number ∙ ap (λ (n : ℕ). little_bytes 4 n) (sym many))
      ∙ ap (λ (xs : List ℕ). little_bytes 4 (length numbers) ++ xs) says;
}

-- how many numbers there are stands in the first four bytes
pub same_count : (bytes numbers head : List ℕ) (count : ℕ) → SaysNumbers bytes numbers → head ≡ take 4 bytes → count < 2 ^ 32
    → little_bytes 4 count ≡ get_or head 0 0 ∷ get_or head 1 0 ∷ get_or head 2 0 ∷ get_or head 3 0 ∷ [] → count ≡ length numbers
same_count bytes numbers head count h front low number =
    let first : head ≡ little_bytes 4 (length numbers) = front ∙ ap (λ (xs : List ℕ). take 4 xs) h.says in
    let same : little_bytes 4 count ≡ little_bytes 4 (length numbers) = number ∙ ap (λ (xs : List ℕ). get_or xs 0 0 ∷ get_or xs 1 0 ∷ get_or xs 2 0 ∷ get_or xs 3 0 ∷ []) first in
    sym (little_number-reads_back 4 count [] low) ∙ ap (λ (xs : List ℕ). little_number 4 (xs ++ [])) same ∙ little_number-reads_back 4 (length numbers) [] h.short

-- ---- the whole

live_places : (live : List ℕ) → IsStrictlyIncreasing live → (k : ℕ) → k < length live → k ≤ get_or live k 0
live_places live rise zero low = omega arith
live_places live rise (suc k) low =
    let before = live_places live rise k (omega (arith, low)) in
    let e : k + 1 ≡ suc k = omega arith in
    let up : get_or live k 0 < get_or live (suc k) 0 = subst (λ (j : ℕ). get_or live k 0 < get_or live j 0) e (rise k (omega (arith, low))) in
    omega (arith, before, up)

pub live_short : (boundaries : ℕ) (live : List ℕ) → MayBeLive boundaries live → length live < 256
live_short boundaries live may = elim (cases_lt (length live) 256) [
  | inl low ↦ low
  | inr high ↦
      let within : 255 < length live = omega (arith, high) in
      let place = live_places live may.are.ascend 255 within in
      let below = may.are.within 255 0 within in
      let most = may.most in
      absurd (omega (arith, place, below, most))
]

pub says_front : (bytes : List ℕ) (extra : Extra) → IsExtra extra → bytes ≡ extra_bytes extra → SaysFront bytes extra.length extra.boundaries extra.live (numbers_bytes extra.cut)
says_front bytes extra is says = record { fits = is.size; short = live_short extra.boundaries extra.live is.boundaries; says = says }

pub says_numbers : (extra : Extra) → IsExtra extra → SaysNumbers (numbers_bytes extra.cut) extra.cut
says_numbers extra is = record { short = is.few; fit = is.blocks; says = refl }
