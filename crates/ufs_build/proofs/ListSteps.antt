-- Lists that grow at their ends.
use Rattle.std.proofs.Common.{◌≡◌, ◌∙◌, ℕ, ◌+◌, List, [], ◌∷◌, ◌++◌, map, sym, ap, append_assoc}
use Rattle.std.specs.List.{range_with_len}
use Rattle.std.proofs.lemmas.List.{map_push}
use Rattle.ufs_build.proofs.Ranges.{range_more}

-- one more element of the list that a function gives
pub given_more : {A : Type 0} (f : ℕ → A) (n : ℕ) (old new : List A) (x : A) → old ≡ map f (range_with_len 0 n) → x ≡ f n → new ≡ old ++ x ∷ []
    → new ≡ map f (range_with_len 0 (n + 1))
given_more f n old new x e here more =
    more ∙ ap (λ r. r ++ x ∷ []) e ∙ ap (λ y. map f (range_with_len 0 n) ++ y ∷ []) here ∙ sym (map_push f (range_with_len 0 n) n)
    ∙ ap (map f) (sym (range_more n))

-- one more element of those that are left
pub moved : {A : Type 0} (old new rest whole : List A) (x : A) → new ≡ old ++ x ∷ [] → old ++ x ∷ rest ≡ whole → new ++ rest ≡ whole
moved old new rest whole x e h = ap (λ r. r ++ rest) e ∙ append_assoc old (x ∷ []) rest ∙ h

-- a piece more of what is left
pub moved_piece : {A : Type 0} (old new piece rest whole : List A) → new ≡ old ++ piece → old ++ (piece ++ rest) ≡ whole → new ++ rest ≡ whole
moved_piece old new piece rest whole e h = ap (λ r. r ++ rest) e ∙ append_assoc old piece rest ∙ h

-- the same for an element that is told otherwise
pub moved_as : {A : Type 0} (old new rest whole : List A) (x y : A) → new ≡ old ++ x ∷ [] → x ≡ y → old ++ y ∷ rest ≡ whole → new ++ rest ≡ whole
moved_as old new rest whole x y e same h = moved old new rest whole x e (ap (λ z. old ++ z ∷ rest) same ∙ h)
