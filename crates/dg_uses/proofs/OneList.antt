-- Lists in an order have one form: two of them with the same elements are the same.
use Rattle.std.proofs.Common.{◌≡◌, ◌∙◌, ◌⊎◌, zero, suc, List, [], ◌∷◌, refl, sym, ap, subst, inl, inr, arith}
use Rattle.std.specs.Prelude.{AllPairs, Contains}
use Rattle.std.proofs.lemmas.List.Elements.{Contains-append_cases, Contains-append_right}

head_or_tail : {X : Type 0} (x y : X) (ys : List X) → Contains (y ∷ ys) x → (x ≡ y) ⊎ Contains ys x
head_or_tail x y ys h = elim (Contains-append_cases (y ∷ []) ys x h) [
  | inl first ↦ inl (let place : first.0 ≡ 0 = let low = first.1 in omega arith in sym (rw place at first.2))
  | inr later ↦ inr later
]

at_head : {X : Type 0} (y : X) (ys : List X) → Contains (y ∷ ys) y
at_head y ys = (0, omega arith, refl)

in_tail : {X : Type 0} (x y : X) (ys : List X) → Contains ys x → Contains (y ∷ ys) x
in_tail x y ys h = Contains-append_right (y ∷ []) ys x h

-- an order in which no two things are both the earlier one
module _ {X : Type 0} (Earlier : X → X → Type 0) (apart : (a b : X) → Earlier a b → Earlier b a → ⊥) where
  later : (x : X) (xs : List X) → AllPairs Earlier (x ∷ xs) → AllPairs Earlier xs
  later x xs h i j d less within = h (suc i) (suc j) d (omega (arith, less)) (omega (arith, within))

  first : (x y : X) (xs : List X) → AllPairs Earlier (x ∷ xs) → Contains xs y → Earlier x y
  first x y xs h has = subst (λ (z : X). Earlier x z) has.2 (h zero (suc has.0) y (omega arith) (let low = has.1 in omega arith))

  rest : (x y : X) (xs ys : List X) → AllPairs Earlier (x ∷ xs) → x ≡ y → ((u : X) → Contains (x ∷ xs) u → Contains (y ∷ ys) u) → (u : X) → Contains xs u → Contains ys u
  rest x y xs ys h same there u has = elim (head_or_tail u y ys (there u (in_tail u x xs has))) [
    | inl here ↦ let before : Earlier x x = subst (λ (z : X). Earlier x z) (here ∙ sym same) (first x u xs h has) in absurd (apart x x before before)
    | inr behind ↦ behind
  ]

  pub one_list : (xs ys : List X) → AllPairs Earlier xs → AllPairs Earlier ys → ((u : X) → Contains xs u → Contains ys u) → ((u : X) → Contains ys u → Contains xs u) → xs ≡ ys
  one_list [] [] h g there back = refl
  one_list [] (y ∷ ys) h g there back = let none = back y (at_head y ys) in let low = none.1 in absurd (omega arith)
  one_list (x ∷ xs) [] h g there back = let none = there x (at_head x xs) in let low = none.1 in absurd (omega arith)
  one_list (x ∷ xs) (y ∷ ys) h g there back =
      let same : x ≡ y = elim (head_or_tail x y ys (there x (at_head x xs))) [
        | inl here ↦ here
        | inr over ↦ elim (head_or_tail y x xs (back y (at_head y ys))) [
          | inl here ↦ sym here
          | inr under ↦ absurd (apart x y (first x y xs h under) (first y x ys g over))
        ]
      ] in
      let more = one_list xs ys (later x xs h) (later y ys g) (rest x y xs ys h same there) (rest y x ys xs g (sym same) back) in
      ap (λ (z : X). z ∷ xs) same ∙ ap (λ (zs : List X). y ∷ zs) more
