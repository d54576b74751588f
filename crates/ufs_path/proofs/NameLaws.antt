-- Names of a path, and where they stand in it.
use Rattle.std.proofs.Common.{◌≡◌, ◌∙◌, ◌+◌, ◌<◌, ◌≤◌, ◌++◌, ℕ, zero, suc, List, [], ◌∷◌, refl, sym, ap, arith, subst}
use Rattle.std.specs.Prelude.{length, take, drop, slice_index_or}
use Rattle.std.proofs.lemmas.List.{append_assoc, append-nil, length-append}
use Rattle.dg_model.specs.Paths.{path_by}
use Rattle.ufs_path.specs.PathLists.{HasNames, starts_from}
use Rattle.ufs_path.specs.declared.names.Names.{Names}

-- ---- the bytes of a path

path_both : (x y : List (List ℕ)) → path_by (x ++ y) ≡ path_by x ++ path_by y
path_both [] y = refl
path_both (name ∷ x) y = ap (λ (l : List ℕ). (47 ∷ name) ++ l) (path_both x y) ∙ sym (append_assoc (47 ∷ name) (path_by x) (path_by y))

take_front : (x y : List ℕ) → take (length x) (x ++ y) ≡ x
take_front [] y = refl
take_front (b ∷ x) y = ap (λ (l : List ℕ). b ∷ l) (take_front x y)

halves : (k : ℕ) (names : List (List ℕ)) → take k names ++ drop k names ≡ names
halves zero names = refl
halves (suc k) [] = refl
halves (suc k) (name ∷ names) = ap (λ (l : List (List ℕ)). name ∷ l) (halves k names)

path_take : (k : ℕ) (names : List (List ℕ)) → take (length (path_by (take k names))) (path_by names) ≡ path_by (take k names)
path_take k names =
    ap (λ (l : List (List ℕ)). take (length (path_by (take k names))) (path_by l)) (sym (halves k names))
    ∙ ap (λ (l : List ℕ). take (length (path_by (take k names))) l) (path_both (take k names) (drop k names))
    ∙ take_front (path_by (take k names)) (path_by (drop k names))

-- ---- where names stand

starts_length : (at : ℕ) (names : List (List ℕ)) → length (starts_from at names) ≡ length names
starts_length at [] = refl
starts_length at (name ∷ names) = ap suc (starts_length (at + (1 + length name)) names)

starts_take : (k at : ℕ) (names : List (List ℕ)) → take k (starts_from at names) ≡ starts_from at (take k names)
starts_take zero at names = refl
starts_take (suc k) at [] = refl
starts_take (suc k) at (name ∷ names) = ap (λ (l : List ℕ). at ∷ l) (starts_take k (at + (1 + length name)) names)

path_length : (name rest : List ℕ) → length ((47 ∷ name) ++ rest) ≡ 1 + length name + length rest
path_length name rest = let l = length-append name rest in omega (arith, l)

start_at : (k at d : ℕ) (names : List (List ℕ)) → k < length names → slice_index_or (starts_from at names) k d ≡ at + length (path_by (take k names))
start_at zero at d [] low = let no : ⊥ = omega (arith, low) in absurd no
start_at zero at d (name ∷ names) low = omega arith
start_at (suc k) at d [] low = let no : ⊥ = omega (arith, low) in absurd no
start_at (suc k) at d (name ∷ names) low =
    let rest = start_at k (at + (1 + length name)) d names (omega (arith, low)) in
    let long = path_length name (path_by (take k names)) in
    rest ∙ omega (arith, long)

starts_push : (at : ℕ) (names : List (List ℕ)) (name : List ℕ) → starts_from at (names ++ name ∷ []) ≡ starts_from at names ++ (at + length (path_by names)) ∷ []
starts_push at [] name = ap (λ (k : ℕ). k ∷ []) (omega arith)
starts_push at (first ∷ names) name =
    let long = path_length first (path_by names) in
    let same : at + (1 + length first) + length (path_by names) ≡ at + length (path_by (first ∷ names)) = omega (arith, long) in
    ap (λ (l : List ℕ). at ∷ l) (starts_push (at + (1 + length first)) names name ∙ ap (λ (k : ℕ). starts_from (at + (1 + length first)) names ++ k ∷ []) same)

zero_add : (k : ℕ) → 0 + k ≡ k
zero_add k = omega arith

-- ---- what is kept

-- the first names
pub kept_first : (old new : Names) (count start d : ℕ) (names : List (List ℕ)) → HasNames old names → count < length old.starts.items → start ≡ slice_index_or old.starts.items count d
    → new.path.items ≡ take start old.path.items → new.starts.items ≡ take count old.starts.items → HasNames new (take count names)
kept_first old new count start d names has low is path starts =
    let long : length old.starts.items ≡ length names = ap length has.starts ∙ starts_length 0 names in
    let start_is : start ≡ length (path_by (take count names)) =
    is ∙ ap (λ (l : List ℕ). slice_index_or l count d) has.starts ∙ start_at count 0 d names (omega (arith, low, long)) ∙ zero_add (length (path_by (take count names))) in record {
      path = path ∙ ap (λ (k : ℕ). take k old.path.items) start_is ∙ ap (λ (l : List ℕ). take (length (path_by (take count names))) l) has.path ∙ path_take count names;
      starts = starts ∙ ap (λ (l : List ℕ). take count l) has.starts ∙ starts_take count 0 names;
    }

take_all : (k : ℕ) (names : List (List ℕ)) → length names ≤ k → take k names ≡ names
take_all zero [] low = refl
take_all zero (name ∷ names) low = let no : ⊥ = omega (arith, low) in absurd no
take_all (suc k) [] low = refl
take_all (suc k) (name ∷ names) low = ap (λ (l : List (List ℕ)). name ∷ l) (take_all k names (omega (arith, low)))

-- all of them
pub kept_all : (old : Names) (count : ℕ) (names : List (List ℕ)) → HasNames old names → length old.starts.items ≤ count → HasNames old (take count names)
kept_all old count names has low =
    let long : length old.starts.items ≡ length names = ap length has.starts ∙ starts_length 0 names in
    subst (λ (l : List (List ℕ)). HasNames old l) (sym (take_all count names (omega (arith, low, long)))) has

-- one more
pub pushed : (old new : Names) (names : List (List ℕ)) (name : List ℕ) → HasNames old names → new.path.items ≡ (old.path.items ++ 47 ∷ []) ++ name
    → new.starts.items ≡ old.starts.items ++ length old.path.items ∷ [] → HasNames new (names ++ name ∷ [])
pushed old new names name has path starts = record {
  path = path ∙ append_assoc old.path.items (47 ∷ []) name ∙ ap (λ (l : List ℕ). l ++ (47 ∷ name)) has.path
      ∙ ap (λ (l : List ℕ). path_by names ++ l) (sym (append-nil (47 ∷ name))) ∙ sym (path_both names (name ∷ []));
  starts = starts ∙ ap (λ (l : List ℕ). l ++ length old.path.items ∷ []) has.starts ∙ ap (λ (l : List ℕ). starts_from 0 names ++ length l ∷ []) has.path
      ∙ ap (λ (k : ℕ). starts_from 0 names ++ k ∷ []) (sym (zero_add (length (path_by names)))) ∙ sym (starts_push 0 names name);
}
