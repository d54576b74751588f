-- What a list of sites says of a boundary.
use Rattle.std.proofs.Common.{◌≡◌, ◌<◌, ◌+◌, ◌-◌, true, List, [], ◌∷◌, ◌++◌, length, take, refl, sym, ◌∙◌, ap, arith}
use Rattle.std.specs.Prelude.{Some, slice_get}
use Rattle.std.proofs.Math.Seq.{take-append_seam, take-length}
use Rattle.std.proofs.lemmas.List.{length_push, take_more}
use Rattle.std.proofs.lemmas.Option.{get_or_from_slice_get, slice_get_within}
use Rattle.dg_model.specs.declared.sites.Site.{Site}
use Rattle.dg_model.specs.Sites.{has_site}

pub take_others : (xs : List Site) (x : Site) → take (length (xs ++ x ∷ []) - 1) (xs ++ x ∷ []) ≡ xs
take_others xs x =
    let few : length (xs ++ x ∷ []) - 1 ≡ length xs = omega (arith, length_push xs x) in
    ap (λ n. take n (xs ++ x ∷ [])) few ∙ take-append_seam xs (x ∷ [])

-- the last site, and those before it
pub split_last : (xs : List Site) (x : Site) → slice_get xs (length xs - 1) ≡ Some x → xs ≡ take (length xs - 1) xs ++ x ∷ []
split_last xs x at =
    let lt : length xs - 1 < length xs = slice_get_within xs (length xs - 1) x at in
    let all : length xs - 1 + 1 ≡ length xs = omega (arith, lt) in
    sym (ap (λ n. take n xs) all ∙ take-length xs)
    ∙ take_more xs (length xs - 1) x lt
    ∙ ap (λ y. take (length xs - 1) xs ++ y ∷ []) (get_or_from_slice_get xs (length xs - 1) x x at)

pub has_site-some : (xs : List Site) → 0 < length xs → has_site xs ≡ true
has_site-some [] some = absurd (omega (arith, some))
has_site-some (x ∷ xs) some = refl

-- a front of no sites has none
pub front_none : (xs ys : List Site) → [] ≡ xs ++ ys → xs ≡ []
front_none [] ys e = refl
front_none (x ∷ xs) ys e = cc
