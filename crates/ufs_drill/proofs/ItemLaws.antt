-- Items, one after another.
use Rattle.std.proofs.Common.{◌≡◌, ◌∙◌, ◌+◌, ℕ, suc, List, [], ◌∷◌, ◌++◌, map, refl, sym, ap, append_assoc, arith}
use Rattle.std.specs.List.{range_with_len}
use Rattle.std.proofs.lemmas.List.{map-id, map_push}
use Rattle.std.proofs.lemmas.List.FromFn.{map-range_with_len_more}
use Rattle.ufs_drill.specs.Items.{generator_after}
use Rattle.rand_pcg.specs.Pcg.{pcg32}

pub generator_more : (seed k : ℕ) → generator_after seed (k + 1) ≡ (pcg32 (generator_after seed k)).1
unfolding generator_after
generator_more seed k = let up : k + 1 ≡ suc k = omega arith in ap (generator_after seed) up

pub range_more : (n : ℕ) → range_with_len 0 (n + 1) ≡ range_with_len 0 n ++ n ∷ []
range_more n = simp map-id at (map-range_with_len_more (λ (x : ℕ). x) 0 n n (omega arith))

-- one more element of the list that a function gives
pub given_more : {A : Type 0} (f : ℕ → A) (n : ℕ) (old new : List A) (x : A) → old ≡ map f (range_with_len 0 n) → x ≡ f n → new ≡ old ++ x ∷ []
    → new ≡ map f (range_with_len 0 (n + 1))
given_more f n old new x e here more =
    more ∙ ap (λ r. r ++ x ∷ []) e ∙ ap (λ y. map f (range_with_len 0 n) ++ y ∷ []) here ∙ sym (map_push f (range_with_len 0 n) n)
    ∙ ap (map f) (sym (range_more n))

-- the same behind others
pub behind_more : {A : Type 0} (f : ℕ → A) (n : ℕ) (front old new : List A) (x : A) → old ≡ front ++ map f (range_with_len 0 n) → x ≡ f n → new ≡ old ++ x ∷ []
    → new ≡ front ++ map f (range_with_len 0 (n + 1))
behind_more f n front old new x e here more =
    more ∙ ap (λ r. r ++ x ∷ []) e ∙ append_assoc front (map f (range_with_len 0 n)) (x ∷ [])
    ∙ ap (λ r. front ++ r) (given_more f n (map f (range_with_len 0 n)) (map f (range_with_len 0 n) ++ x ∷ []) x refl here refl)
