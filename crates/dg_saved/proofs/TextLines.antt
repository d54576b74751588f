-- Lines of boundaries.
use Rattle.std.proofs.Common.{◌≡◌, ◌∙◌, ◌+◌, ℕ, zero, suc, List, [], ◌∷◌, ◌++◌, ap, sym, arith, append_assoc}
use Rattle.std.specs.Prelude.{Result, Ok, Err, OnOk}
use Rattle.std.specs.List.{flat_map, range_with_len}
use Rattle.std.proofs.lemmas.List.{append-nil}

-- the lines of one more
pub one_more : (f : ℕ → List ℕ) (a n j : ℕ) → a + n ≡ j → flat_map f (range_with_len a (suc n)) ≡ flat_map f (range_with_len a n) ++ f j
one_more f a zero j at = append-nil (f a) ∙ ap f (omega (arith, at))
one_more f a (suc n) j at =
    ap (λ (l : List ℕ). f a ++ l) (one_more f (a + 1) n j (omega (arith, at)))
    ∙ sym (append_assoc (f a) (flat_map f (range_with_len (a + 1) n)) (f j))

-- a line in its parts: words, a space, words, words, and the LF
pub line_whole : {T E : Type 0} (r : Result T E) (t0 t1 t2 t3 t4 t5 a p u : List ℕ) → t1 ≡ t0 ++ a → t2 ≡ t1 ++ 32 ∷ [] → t3 ≡ t2 ++ p → t4 ≡ t3 ++ u
    → OnOk r (t5 ≡ t4 ++ 10 ∷ []) → OnOk r (t5 ≡ t0 ++ (a ++ (32 ∷ (p ++ (u ++ 10 ∷ [])))))
line_whole (Ok done) t0 t1 t2 t3 t4 t5 a p u e1 e2 e3 e4 e5 =
    let space : List ℕ = 32 ∷ [] in
    let last : List ℕ = 10 ∷ [] in
    e5
    ∙ ap (λ (l : List ℕ). l ++ last) (e4 ∙ ap (λ (l : List ℕ). l ++ u) (e3 ∙ ap (λ (l : List ℕ). l ++ p) (e2 ∙ ap (λ (l : List ℕ). l ++ space) e1)))
    ∙ append_assoc (((t0 ++ a) ++ space) ++ p) u last
    ∙ append_assoc ((t0 ++ a) ++ space) p (u ++ last)
    ∙ append_assoc (t0 ++ a) space (p ++ (u ++ last))
    ∙ append_assoc t0 a (space ++ (p ++ (u ++ last)))
line_whole (Err failed) t0 t1 t2 t3 t4 t5 a p u e1 e2 e3 e4 e5 = tt
