-- Which blocks the order of a trace has.
use Rattle.std.proofs.Common.{◌≡◌, ◌<◌, ◌≤◌, ◌+◌, ◌-◌, ◌&&◌, ℕ, zero, suc, Bool, true, false, List, [], ◌∷◌, ◌++◌, length, get_or, refl, sym, ◌∙◌, ap, subst, inl, inr, arith}
use Rattle.std.specs.Prelude.{◌⊎◌, cond, not, reverse, All}
use Rattle.std.specs.List.{filter, range_with_len}
use Rattle.std.proofs.lemmas.Bool.{cases_Bool, cases_eq}
use Rattle.std.proofs.lemmas.List.{get_or-reverse, length-reverse, reverse-append}
use Rattle.std.proofs.lemmas.List.Elements.{All-append, All-filter, All-from_get_or, All-get_or}
use Rattle.std.proofs.lemmas.List.FromFn.{get_or-range_with_len, length-range_with_len}
use Rattle.dg_words.specs.declared.commands.Order.{Order}
use Rattle.dg_words.specs.declared.commands.Order.TheVariants.{Down, Late, Up}
use Rattle.ufs_build.specs.Traces.{is_data, is_written, numbers_where, trace_of, written_blocks, written_data, written_system}
use Rattle.ufs_model.specs.Roles.{role}
use Rattle.ufs_model.specs.declared.geometries.Geometry.{Geometry}

-- ---- all of them are of the volume

range_below : (n : ℕ) → All (λ b. b < n) (range_with_len 0 n)
range_below n = All-from_get_or (λ (b : ℕ). b < n) (range_with_len 0 n) 0 (λ i lt.
    let low : i < n = omega (arith, lt, length-range_with_len 0 n) in
    let at : get_or (range_with_len 0 n) i 0 ≡ 0 + i = get_or-range_with_len 0 n i 0 low in
    omega (arith, at, low))

where_below : (test : ℕ → Bool) (n : ℕ) → All (λ b. b < n) (numbers_where test n)
where_below test n = All-filter test (λ (b : ℕ). b < n) (range_with_len 0 n) (range_below n)

reverse_below : (n : ℕ) (xs : List ℕ) → All (λ b. b < n) xs → All (λ b. b < n) (reverse xs)
reverse_below n xs all = All-from_get_or (λ (b : ℕ). b < n) (reverse xs) 0 (λ i lt.
    let low : i < length xs = omega (arith, lt, length-reverse xs) in
    let at : get_or (reverse xs) i 0 ≡ get_or xs (length xs - 1 - i) 0 = get_or-reverse xs i 0 low in
    let there : get_or xs (length xs - 1 - i) 0 < n = All-get_or (λ (b : ℕ). b < n) xs (length xs - 1 - i) 0 (omega (arith, low)) all in
    omega (arith, at, there))

pub trace_below : (order : Order) (g : Geometry) (volume : List ℕ) → All (λ b. b < g.size) (trace_of order g volume)
unfolding written_blocks written_data written_system
trace_below Up g volume = where_below (is_written g.fsize volume) g.size
trace_below Down g volume = reverse_below g.size (written_blocks g volume) (where_below (is_written g.fsize volume) g.size)
trace_below Late g volume =
    All-append (λ (b : ℕ). b < g.size) (written_data g volume) (reverse (written_system g volume))
    (where_below (λ b. is_data (role g b) && is_written g.fsize volume b) g.size)
    (reverse_below g.size (written_system g volume) (where_below (λ b. not (is_data (role g b)) && is_written g.fsize volume b) g.size))

-- ---- each that isn't all zero is one of them

-- c is one of the numbers
abbrev pub IsIn : ℕ → List ℕ → Type 0
IsIn c [] = ⊥
IsIn c (x ∷ xs) = (c ≡ x) ⊎ IsIn c xs

in_left : (c : ℕ) (xs ys : List ℕ) → IsIn c xs → IsIn c (xs ++ ys)
in_left c [] ys h = absurd h
in_left c (x ∷ xs) ys (inl here) = inl here
in_left c (x ∷ xs) ys (inr later) = inr (in_left c xs ys later)

in_right : (c : ℕ) (xs ys : List ℕ) → IsIn c ys → IsIn c (xs ++ ys)
in_right c [] ys h = h
in_right c (x ∷ xs) ys h = inr (in_right c xs ys h)

reverse_cons : (x : ℕ) (xs : List ℕ) → reverse (x ∷ xs) ≡ reverse xs ++ x ∷ []
reverse_cons x xs = reverse-append (x ∷ []) xs

in_reverse : (c : ℕ) (xs : List ℕ) → IsIn c xs → IsIn c (reverse xs)
in_reverse c [] h = absurd h
in_reverse c (x ∷ xs) (inl here) = subst (λ (l : List ℕ). IsIn c l) (sym (reverse_cons x xs)) (in_right c (reverse xs) (x ∷ []) (inl here))
in_reverse c (x ∷ xs) (inr later) = subst (λ (l : List ℕ). IsIn c l) (sym (reverse_cons x xs)) (in_left c (reverse xs) (x ∷ []) (in_reverse c xs later))

passes_here : (b : Bool) (c a : ℕ) (xs ys : List ℕ) → b ≡ true → c ≡ a → IsIn c (cond b (a ∷ xs) ys)
passes_here true c a xs ys is here = inl here
passes_here false c a xs ys is here = cc

passes_later : (b : Bool) (c a : ℕ) (xs : List ℕ) → IsIn c xs → IsIn c (cond b (a ∷ xs) xs)
passes_later true c a xs later = inr later
passes_later false c a xs later = later

range_has : (test : ℕ → Bool) (c n a : ℕ) → test c ≡ true → a ≤ c → c < a + n → IsIn c (filter test (range_with_len a n))
range_has test c zero a is low high = absurd (omega (arith, low, high))
range_has test c (suc n) a is low high = elim (cases_eq c a) [
  | inl same ↦ passes_here (test a) c a (filter test (range_with_len (a + 1) n)) (filter test (range_with_len (a + 1) n)) (ap test (sym same) ∙ is) same
  | inr other ↦ passes_later (test a) c a (filter test (range_with_len (a + 1) n))
      (range_has test c n (a + 1) is (omega (arith, low, other)) (omega (arith, high)))
]

where_has : (test : ℕ → Bool) (c n : ℕ) → test c ≡ true → c < n → IsIn c (numbers_where test n)
where_has test c n is low = range_has test c n 0 is (omega arith) (omega (arith, low))

and_true : (a b : Bool) → a ≡ true → b ≡ true → (a && b) ≡ true
and_true true b p q = q
and_true false b p q = cc

not_true : (a : Bool) → a ≡ false → not a ≡ true
not_true true p = cc
not_true false p = refl

pub trace_has : (order : Order) (g : Geometry) (volume : List ℕ) (c : ℕ) → c < g.size → is_written g.fsize volume c ≡ true → IsIn c (trace_of order g volume)
unfolding written_blocks written_data written_system
trace_has Up g volume c low is = where_has (is_written g.fsize volume) c g.size is low
trace_has Down g volume c low is = in_reverse c (written_blocks g volume) (where_has (is_written g.fsize volume) c g.size is low)
trace_has Late g volume c low is = elim (cases_Bool (is_data (role g c))) [
  | inl file ↦ in_left c (written_data g volume) (reverse (written_system g volume))
      (where_has (λ b. is_data (role g b) && is_written g.fsize volume b) c g.size (and_true (is_data (role g c)) (is_written g.fsize volume c) file is) low)
  | inr own ↦ in_right c (written_data g volume) (reverse (written_system g volume))
      (in_reverse c (written_system g volume)
      (where_has (λ b. not (is_data (role g b)) && is_written g.fsize volume b) c g.size
      (and_true (not (is_data (role g c))) (is_written g.fsize volume c) (not_true (is_data (role g c)) own) is) low))
]
