-- Sites on different boundaries are no more than there are boundaries.
use Rattle.std.proofs.Common.{◌≡◌, ◌<◌, ◌≤◌, ◌+◌, ◌==◌, ℕ, suc, zero, Bool, true, false, cond, not, List, [], ◌∷◌, ◌++◌, length, refl, ap, subst, ⊎_elim, arith}
use Rattle.std.specs.List.{Contains}
use Rattle.std.proofs.lemmas.Bool.{cases_eq, cases_lt}
use Rattle.std.proofs.lemmas.List.{length_push}
use Rattle.std.proofs.lemmas.List.Elements.{Contains-push_cases}
use Rattle.dg_model.specs.declared.sites.Site.{Site}
use Rattle.dg_model.specs.Tables.{count_on, sites_off}
use Rattle.dg_model.proofs.PutLaws.{site_at}
use Rattle.dg_model.proofs.RowLaws.{Contains-off, Contains-off_apart, count_off_other, count_off_same}
use Rattle.dg_model.proofs.SiteLists.{apart_test, count_on-cons, count_on-push, one_if, same_test, zero_if}

off_step : (b : Bool) (s : ℕ) (x : Site) (xs ys : List Site) → (x.boundary == s) ≡ b → length ys + count_on s xs ≡ length xs → length (cond (not b) (x ∷ ys) ys) + count_on s (x ∷ xs) ≡ length (x ∷ xs)
off_step true s x xs ys e h = omega (arith, h, count_on-cons s x xs, one_if (x.boundary == s) e)
off_step false s x xs ys e h = omega (arith, h, count_on-cons s x xs, zero_if (x.boundary == s) e)

length_off : (s : ℕ) (xs : List Site) → length (sites_off s xs) + count_on s xs ≡ length xs
length_off s [] = refl
length_off s (x ∷ xs) = off_step (x.boundary == s) s x xs (sites_off s xs) refl (length_off s xs)

none_fit : (xs : List Site) → ((x : Site) → Contains xs x → x.boundary < 0) → length xs ≤ 0
none_fit [] within = omega arith
none_fit (x ∷ xs) within = absurd (omega (arith, within x (0, omega arith, refl)))

pub fits : (n : ℕ) (xs : List Site) → ((x : Site) → Contains xs x → x.boundary < n) → ((s : ℕ) → count_on s xs ≤ 1) → length xs ≤ n
fits zero xs within once = none_fit xs within
fits (suc n) xs within once = omega (arith, length_off n xs, once n, fits n (sites_off n xs) below fewer)
  where
    below : (x : Site) → Contains (sites_off n xs) x → x.boundary < n
    below x there =
        let lt = within x (Contains-off n xs x there) in
        let ne = Contains-off_apart n xs x there in
        ⊎_elim (λ less. less) (λ le. absurd (ne (omega (arith, lt, le)))) (cases_lt x.boundary n)

    fewer : (s : ℕ) → count_on s (sites_off n xs) ≤ 1
    fewer s =
        ⊎_elim
        (λ e. subst (λ t. count_on t (sites_off n xs) ≤ 1) e (omega (arith, count_off_same n xs)))
        (λ ne. omega (arith, count_off_other n s xs ne, once s))
        (cases_eq n s)

-- where one boundary has none of the sites, there is room for one more
pub fits_more : (n : ℕ) (xs : List Site) (s : ℕ) → ((x : Site) → Contains xs x → x.boundary < n) → ((t : ℕ) → count_on t xs ≤ 1) → s < n → count_on s xs ≡ 0 → length xs < n
fits_more n xs s within once lt none = omega (arith, length_push xs (site_at s 0), fits n (xs ++ site_at s 0 ∷ []) below single)
  where
    below : (x : Site) → Contains (xs ++ site_at s 0 ∷ []) x → x.boundary < n
    below x there = ⊎_elim (λ old. within x old) (λ new. subst (λ (y : Site). y.boundary < n) new lt) (Contains-push_cases xs (site_at s 0) x there)

    single : (t : ℕ) → count_on t (xs ++ site_at s 0 ∷ []) ≤ 1
    single t =
        ⊎_elim
        (λ e. omega (arith, count_on-push t xs (site_at s 0), one_if (s == t) (same_test s t e), ap (λ q. count_on q xs) e, none))
        (λ ne. omega (arith, count_on-push t xs (site_at s 0), zero_if (s == t) (apart_test s t ne), once t))
        (cases_eq s t)
