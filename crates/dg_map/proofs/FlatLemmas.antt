-- A row of a flat table, once a place of it is written.
use Rattle.std.proofs.Common.{◌≡◌, ◌<◌, ◌≤◌, ◌+◌, ℕ, suc, List, [], ◌∷◌, ◌++◌, length, get_or, set, take, drop, sym, ◌∙◌, ap, arith}
use Rattle.std.proofs.Math.Seq.{take-suc}
use Rattle.std.proofs.lemmas.List.{drop-set-add, ext_get_or, get_or-drop, get_or-set_same, get_or-take, length-drop, length-set, length-take-le, take-set-le}
use Rattle.dg_model.specs.declared.sites.Site.{Site}
use Rattle.dg_map.proofs.RestoreLemmas.{no_site}

-- so many items from a place on, where the list has them
pub length_run : (xs : List Site) (s c : ℕ) → s + c ≤ length xs → length (take c (drop s xs)) ≡ c
length_run xs s c lt = length-take-le c (drop s xs) (omega (arith, length-drop s xs))

pub run_at : (xs : List Site) (s c i : ℕ) (d : Site) → i < c → get_or (take c (drop s xs)) i d ≡ get_or xs (s + i) d
run_at xs s c i d lt = get_or-take c (drop s xs) i d lt ∙ get_or-drop s xs i d

-- runs of the same items
pub run_same : (xs ys : List Site) (s c : ℕ) → s + c ≤ length xs → length ys ≡ length xs → ((i : ℕ) → i < c → get_or ys (s + i) no_site ≡ get_or xs (s + i) no_site) → take c (drop s ys) ≡ take c (drop s xs)
run_same xs ys s c lt long same =
    ext_get_or no_site (take c (drop s ys)) (take c (drop s xs))
    (omega (arith, length_run ys s c (omega (arith, long, lt)), length_run xs s c lt))
    (λ i below. let within : i < c = omega (arith, length_run ys s c (omega (arith, long, lt)), below) in run_at ys s c i no_site within ∙ same i within ∙ sym (run_at xs s c i no_site within))

-- the item behind a run is written
pub run_push : (xs : List Site) (s c n : ℕ) (x : Site) → s + c < length xs → n ≡ c + 1 → take n (drop s (set xs (s + c) x)) ≡ take c (drop s xs) ++ x ∷ []
run_push xs s c n x lt e =
    ap (λ ys. take n ys) (drop-set-add s xs c x)
    ∙ ap (λ i. take i (set (drop s xs) c x)) next
    ∙ take-suc (set (drop s xs) c x) c no_site (omega (arith, length-set (drop s xs) c x, length-drop s xs))
    ∙ ends (take c (set (drop s xs) c x)) (take c (drop s xs)) (get_or (set (drop s xs) c x) c no_site) (take-set-le c (drop s xs) c x (omega arith)) (get_or-set_same (drop s xs) c x no_site (omega (arith, length-drop s xs)))
  where
    next : n ≡ suc c
    next = omega (arith, e)

    ends : (us vs : List Site) (y : Site) → us ≡ vs → y ≡ x → us ++ y ∷ [] ≡ vs ++ x ∷ []
    ends us vs y e f = ap (λ zs. zs ++ y ∷ []) e ∙ ap (λ z. vs ++ z ∷ []) f
