-- What a list of sites says once a site joins it, or once those on a boundary leave it.
use Rattle.std.proofs.Common.{◌≡◌, ◌<◌, ◌≤◌, ◌==◌, ◌≢◌, ℕ, suc, zero, Bool, true, false, cond, not, List, [], ◌∷◌, length, get_or, refl, sym, ◌∙◌, ap, subst, arith}
use Rattle.std.specs.List.{Contains}
use Rattle.std.proofs.lemmas.Bool.{false≢true}
use Rattle.std.proofs.lemmas.Bool.Decides.{nat_tests}
use Rattle.std.proofs.lemmas.List.Elements.{All-contains, All-contains_itself, All-filter, filter_passes, Contains-append_right}
use Rattle.dg_model.proofs.SiteLists.{apart_test, count_on-cons, count_pos, one_if, same_test, zero_if}
use Rattle.dg_model.specs.declared.sites.Site.{Site}
use Rattle.dg_model.specs.Tables.{count_on, sites_off}

pub same_from_test : (a b : ℕ) → (a == b) ≡ true → a ≡ b
same_from_test a b e = grind (arith, nat_tests)

-- where a boundary has no site, none of the sites is on it
pub none_on : (s : ℕ) (xs : List Site) (x : Site) → count_on s xs ≡ 0 → Contains xs x → x.boundary ≡ s → ⊥
none_on s xs x none there e = absurd (omega (arith, count_pos s xs x there e))

off_same_step : (b : Bool) (s : ℕ) (x : Site) (xs : List Site) → (x.boundary == s) ≡ b → count_on s xs ≡ 0 → count_on s (cond (not b) (x ∷ xs) xs) ≡ 0
off_same_step true s x xs e h = h
off_same_step false s x xs e h = omega (arith, count_on-cons s x xs, zero_if (x.boundary == s) e)

-- the sites that stay when those on boundary s leave
pub count_off_same : (s : ℕ) (xs : List Site) → count_on s (sites_off s xs) ≡ 0
count_off_same s [] = refl
count_off_same s (x ∷ xs) = off_same_step (x.boundary == s) s x (sites_off s xs) refl (count_off_same s xs)

off_other_step : (b : Bool) (s t : ℕ) (x : Site) (xs ys : List Site) → s ≢ t → (x.boundary == s) ≡ b → count_on t ys ≡ count_on t xs → count_on t (cond (not b) (x ∷ ys) ys) ≡ count_on t (x ∷ xs)
off_other_step true s t x xs ys ne e h =
    let gone : x.boundary ≢ t = λ f. ne (sym (same_from_test x.boundary s e) ∙ f) in
    omega (arith, count_on-cons t x xs, zero_if (x.boundary == t) (apart_test x.boundary t gone))
off_other_step false s t x xs ys ne e h = omega (arith, count_on-cons t x xs, count_on-cons t x ys)

pub count_off_other : (s t : ℕ) (xs : List Site) → s ≢ t → count_on t (sites_off s xs) ≡ count_on t xs
count_off_other s t [] ne = refl
count_off_other s t (x ∷ xs) ne = off_other_step (x.boundary == s) s t x xs (sites_off s xs) ne refl (count_off_other s t xs ne)

pub Contains-off : (s : ℕ) (xs : List Site) (x : Site) → Contains (sites_off s xs) x → Contains xs x
Contains-off s xs x h = All-contains (λ y. Contains xs y) (sites_off s xs) x (All-filter (λ (y : Site). not (y.boundary == s)) (Contains xs) xs (All-contains_itself xs)) h

pub Contains-off_apart : (s : ℕ) (xs : List Site) (x : Site) → Contains (sites_off s xs) x → x.boundary ≢ s
Contains-off_apart s xs x h e =
    let passes : not (x.boundary == s) ≡ true = All-contains (λ (y : Site). not (y.boundary == s) ≡ true) (sites_off s xs) x (filter_passes (λ (y : Site). not (y.boundary == s)) xs) h in
    false≢true (sym (ap not (same_test x.boundary s e)) ∙ passes)

Contains-head : (y : Site) (ys : List Site) (x : Site) (b : Bool) → b ≡ false → y ≡ x → Contains (cond (not b) (y ∷ ys) ys) x
Contains-head y ys x b e at = subst (λ v. Contains (cond (not v) (y ∷ ys) ys) x) (sym e) (0, omega arith, at)

Contains-more : (y : Site) (ys : List Site) (x : Site) (b : Bool) → Contains ys x → Contains (cond b (y ∷ ys) ys) x
Contains-more y ys x true h = Contains-append_right (y ∷ []) ys x h
Contains-more y ys x false h = h

pub off-Contains : (s : ℕ) (xs : List Site) (x : Site) → Contains xs x → x.boundary ≢ s → Contains (sites_off s xs) x
off-Contains s [] x (i, lt, at) ne = absurd (omega (arith, lt))
off-Contains s (y ∷ ys) x (zero, lt, at) ne =
    Contains-head y (sites_off s ys) x (y.boundary == s) (apart_test y.boundary s (λ e. ne (ap (λ (z : Site). z.boundary) (sym at) ∙ e))) at
off-Contains s (y ∷ ys) x (suc i, lt, at) ne =
    Contains-more y (sites_off s ys) x (not (y.boundary == s)) (off-Contains s ys x (i, omega (arith, lt), at) ne)

one_on_head : (s : ℕ) (y : Site) (ys : List Site) (x : Site) → count_on s (y ∷ ys) ≤ 1 → y.boundary ≡ s → Contains ys x → x.boundary ≡ s → ⊥
one_on_head s y ys x few e there f = absurd (omega (arith, count_on-cons s y ys, one_if (y.boundary == s) (same_test y.boundary s e), count_pos s ys x there f))

Contains-tail : (y : Site) (ys : List Site) (x : Site) (i : ℕ) → suc i < length (y ∷ ys) → get_or ys i x ≡ x → Contains ys x
Contains-tail y ys x i lt at = (i, omega (arith, lt), at)

-- where at most one of the sites is on a boundary, two of them there are one
pub one_on : (s : ℕ) (xs : List Site) (x y : Site) → count_on s xs ≤ 1 → Contains xs x → Contains xs y → x.boundary ≡ s → y.boundary ≡ s → x ≡ y
one_on s [] x y few (i, lt, at) g e f = absurd (omega (arith, lt))
one_on s (z ∷ zs) x y few (zero, lt, at) (zero, lu, au) e f = sym at ∙ au
one_on s (z ∷ zs) x y few (zero, lt, at) (suc j, lu, au) e f =
    absurd (one_on_head s z zs y few (ap (λ (w : Site). w.boundary) at ∙ e) (Contains-tail z zs y j lu au) f)
one_on s (z ∷ zs) x y few (suc i, lt, at) (zero, lu, au) e f =
    absurd (one_on_head s z zs x few (ap (λ (w : Site). w.boundary) au ∙ f) (Contains-tail z zs x i lt at) e)
one_on s (z ∷ zs) x y few (suc i, lt, at) (suc j, lu, au) e f =
    one_on s zs x y (omega (arith, count_on-cons s z zs)) (Contains-tail z zs x i lt at) (Contains-tail z zs y j lu au) e f
