-- No block stands twice in the order of a trace.
use Rattle.std.proofs.Common.{◌≡◌, ◌<◌, ◌≤◌, ◌+◌, ◌-◌, ◌&&◌, ℕ, zero, suc, Bool, true, false, List, [], ◌∷◌, ◌++◌, length, get_or, drop, refl, sym, ◌∙◌, ap, subst, inl, inr, arith}
use Rattle.std.specs.Prelude.{◌⊎◌, All, cond, not, reverse}
use Rattle.std.specs.List.{filter, range_with_len}
use Rattle.std.proofs.lemmas.Bool.{false≢true}
use Rattle.std.proofs.lemmas.List.{get_or-reverse, length-reverse, reverse-append}
use Rattle.std.proofs.lemmas.List.Elements.{All-append, All-filter, All-from_get_or, All-get_or}
use Rattle.std.proofs.lemmas.List.FromFn.{get_or-range_with_len, length-range_with_len}
use Rattle.dg_drill.specs.Chains.{AreApart, IsIn}
use Rattle.dg_words.specs.declared.commands.Order.TheVariants.{Late}
use Rattle.ufs_build.specs.Traces.{is_data, is_written, numbers_where, trace_of, written_data, written_system}
use Rattle.ufs_model.specs.Roles.{role}
use Rattle.ufs_model.specs.declared.geometries.Geometry.{Geometry}

-- ---- all of them are of the volume

range_below : (n : ℕ) → All (λ b. b < n) (range_with_len 0 n)
range_below n = All-from_get_or (λ (b : ℕ). b < n) (range_with_len 0 n) 0 (λ i lt.
    let low : i < n = omega (arith, lt, length-range_with_len 0 n) in
    let at : get_or (range_with_len 0 n) i 0 ≡ 0 + i = get_or-range_with_len 0 n i 0 low in
    omega (arith, at, low))

where_below : (test : ℕ → Bool) (n : ℕ) → All (λ b. b < n) (numbers_where test n)
where_below test n = All-filter test (λ (b : ℕ). b < n) (range_with_len 0 n) (range_below n)

reverse_below : (n : ℕ) (xs : List ℕ) → All (λ b. b < n) xs → All (λ b. b < n) (reverse xs)
reverse_below n xs all = All-from_get_or (λ (b : ℕ). b < n) (reverse xs) 0 (λ i lt.
    let low : i < length xs = omega (arith, lt, length-reverse xs) in
    let at : get_or (reverse xs) i 0 ≡ get_or xs (length xs - 1 - i) 0 = get_or-reverse xs i 0 low in
    let there : get_or xs (length xs - 1 - i) 0 < n = All-get_or (λ (b : ℕ). b < n) xs (length xs - 1 - i) 0 (omega (arith, low)) all in
    omega (arith, at, there))

pub late_below : (g : Geometry) (image : List ℕ) → All (λ b. b < g.size) (trace_of Late g image)
unfolding written_data written_system
late_below g image =
    All-append (λ (b : ℕ). b < g.size) (written_data g image) (reverse (written_system g image))
    (where_below (λ b. is_data (role g b) && is_written g.fsize image b) g.size)
    (reverse_below g.size (written_system g image) (where_below (λ b. not (is_data (role g b)) && is_written g.fsize image b) g.size))

-- ---- none of them stands twice

in_either : (c : ℕ) (xs ys : List ℕ) → IsIn c (xs ++ ys) → IsIn c xs ⊎ IsIn c ys
in_either c [] ys h = inr h
in_either c (x ∷ xs) ys (inl here) = inl (inl here)
in_either c (x ∷ xs) ys (inr later) = elim (in_either c xs ys later) [ inl left ↦ inl (inr left) | inr right ↦ inr right ]

apart_both : (xs ys : List ℕ) → AreApart xs → AreApart ys → ((c : ℕ) → IsIn c xs → IsIn c ys → ⊥) → AreApart (xs ++ ys)
apart_both [] ys one other none = other
apart_both (x ∷ xs) ys one other none = (
  (λ h. elim (in_either x xs ys h) [ inl left ↦ one.0 left | inr right ↦ none x (inl refl) right ]),
  apart_both xs ys one.1 other (λ c left right. none c (inr left) right),
)

reverse_cons : (x : ℕ) (xs : List ℕ) → reverse (x ∷ xs) ≡ reverse xs ++ x ∷ []
reverse_cons x xs = reverse-append (x ∷ []) xs

reverse_in : (c : ℕ) (xs : List ℕ) → IsIn c (reverse xs) → IsIn c xs
reverse_in c [] h = absurd h
reverse_in c (x ∷ xs) h = elim (in_either c (reverse xs) (x ∷ []) (subst (λ (l : List ℕ). IsIn c l) (reverse_cons x xs) h)) [
  | inl left ↦ inr (reverse_in c xs left)
  | inr right ↦ elim right [ inl here ↦ inl here | inr later ↦ absurd later ]
]

reverse_apart : (xs : List ℕ) → AreApart xs → AreApart (reverse xs)
reverse_apart [] all = all
reverse_apart (x ∷ xs) all =
    subst (λ (l : List ℕ). AreApart l) (sym (reverse_cons x xs))
    (apart_both (reverse xs) (x ∷ []) (reverse_apart xs all.1) ((λ h. absurd h), tt)
    (λ c left right. elim right [
      | inl here ↦ all.0 (subst (λ (k : ℕ). IsIn k xs) here (reverse_in c xs left))
      | inr later ↦ absurd later
    ]))

-- a number that passed is in the range, and passes
from_cond : (b : Bool) (c a : ℕ) (xs : List ℕ) → IsIn c (cond b (a ∷ xs) xs) → ((b ≡ true) × (c ≡ a)) ⊎ IsIn c xs
from_cond true c a xs (inl here) = inl (refl, here)
from_cond true c a xs (inr later) = inr later
from_cond false c a xs h = inr h

in_range : (test : ℕ → Bool) (c n a : ℕ) → IsIn c (filter test (range_with_len a n)) → (a ≤ c) × (test c ≡ true)
in_range test c zero a h = absurd h
in_range test c (suc n) a h = elim (from_cond (test a) c a (filter test (range_with_len (a + 1) n)) h) [
  | inl here ↦ (let same = here.1 in omega (arith, same), ap test here.1 ∙ here.0)
  | inr later ↦ (let rest = in_range test c n (a + 1) later in let low = rest.0 in omega (arith, low), (in_range test c n (a + 1) later).1)
]

cond_apart : (b : Bool) (a : ℕ) (xs : List ℕ) → (IsIn a xs → ⊥) → AreApart xs → AreApart (cond b (a ∷ xs) xs)
cond_apart true a xs none all = (none, all)
cond_apart false a xs none all = all

range_apart : (test : ℕ → Bool) (n a : ℕ) → AreApart (filter test (range_with_len a n))
range_apart test zero a = tt
range_apart test (suc n) a =
    cond_apart (test a) a (filter test (range_with_len (a + 1) n))
    (λ h. let low = (in_range test a n (a + 1) h).0 in absurd (omega (arith, low)))
    (range_apart test n (a + 1))

both_ways : (a b : Bool) → (a && b) ≡ true → (not a && b) ≡ true → ⊥
both_ways true b one other = false≢true other
both_ways false b one other = false≢true one

pub late_apart : (g : Geometry) (image : List ℕ) → AreApart (trace_of Late g image)
unfolding written_data written_system
late_apart g image =
    apart_both (written_data g image) (reverse (written_system g image))
    (range_apart (λ b. is_data (role g b) && is_written g.fsize image b) g.size 0)
    (reverse_apart (written_system g image) (range_apart (λ b. not (is_data (role g b)) && is_written g.fsize image b) g.size 0))
    (λ c one other.
    both_ways (is_data (role g c)) (is_written g.fsize image c)
    (in_range (λ b. is_data (role g b) && is_written g.fsize image b) c g.size 0 one).1
    (in_range (λ b. not (is_data (role g b)) && is_written g.fsize image b) c g.size 0 (reverse_in c (written_system g image) other)).1)

-- ---- the rest of them

pub apart_drop : (i : ℕ) (xs : List ℕ) → AreApart xs → AreApart (drop i xs)
apart_drop zero xs all = all
apart_drop (suc i) [] all = all
apart_drop (suc i) (x ∷ xs) all = apart_drop i xs all.1
