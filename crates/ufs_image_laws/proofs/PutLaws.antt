-- What stands at a place once bytes were put at places.
use Rattle.std.proofs.Common.{◌≡◌, ◌∙◌, ℕ, ◌+◌, ◌-◌, ◌<◌, ◌≤◌, Bool, true, false, List, ◌++◌, length, take, drop, get_or, cond, refl, ap, arith, inl, inr, length-append, length-drop}
use Rattle.std.specs.Prelude.{nat_le}
use Rattle.std.proofs.lemmas.Bool.{cases_Bool, cases_lt, leb-true}
use Rattle.std.proofs.lemmas.List.{get_or-append_right, get_or-drop, get_or-take, get_or_append_left, length-take-le}
use Rattle.ufs_build.specs.Parts.{put_at}

-- ---- one piece

whole_length : (at : ℕ) (piece bytes : List ℕ) → at + length piece ≤ length bytes
    → length (take at bytes ++ piece ++ drop (at + length piece) bytes) ≡ length bytes
whole_length at piece bytes fits =
    let front : length (take at bytes) ≡ at = length-take-le at bytes (omega arith) in
    let rest : length (drop (at + length piece) bytes) ≡ length bytes - (at + length piece) = length-drop (at + length piece) bytes in
    let one = length-append (take at bytes) piece in
    let two = length-append (take at bytes ++ piece) (drop (at + length piece) bytes) in
    omega (arith, front, rest, one, two, fits)

put_length_by : (b : Bool) (at : ℕ) (piece bytes : List ℕ) → nat_le (at + length piece) (length bytes) ≡ b
    → length (cond b (take at bytes ++ piece ++ drop (at + length piece) bytes) bytes) ≡ length bytes
put_length_by true at piece bytes e = whole_length at piece bytes (leb-true (at + length piece) (length bytes) e)
put_length_by false at piece bytes e = refl

pub put_length : (at : ℕ) (piece bytes : List ℕ) → length (put_at at piece bytes) ≡ length bytes
unfolding put_at
put_length at piece bytes = put_length_by (nat_le (at + length piece) (length bytes)) at piece bytes refl

outside_whole : (at : ℕ) (piece bytes : List ℕ) (p : ℕ) → at + length piece ≤ length bytes → (at ≤ p → p < at + length piece → ⊥)
    → get_or (take at bytes ++ piece ++ drop (at + length piece) bytes) p 0 ≡ get_or bytes p 0
outside_whole at piece bytes p fits out =
    let front : length (take at bytes) ≡ at = length-take-le at bytes (omega arith) in
    let one : length (take at bytes ++ piece) ≡ at + length piece = length-append (take at bytes) piece ∙ ap (λ n. n + length piece) front in
    elim (cases_lt p at) [
      | inl before ↦
          get_or_append_left (take at bytes ++ piece) (drop (at + length piece) bytes) 0 p (rw one (omega arith))
          ∙ get_or_append_left (take at bytes) piece 0 p (rw front before)
          ∙ get_or-take at bytes p 0 before
      | inr after ↦ elim (cases_lt p (at + length piece)) [
        | inl within ↦ absurd (out after within)
        | inr behind ↦
            get_or-append_right (take at bytes ++ piece) (drop (at + length piece) bytes) (at + length piece) p 0 one behind
            ∙ get_or-drop (at + length piece) bytes (p - (at + length piece)) 0
            ∙ ap (λ n. get_or bytes n 0) (let e : at + length piece + (p - (at + length piece)) ≡ p = omega arith in e)
      ]
    ]

outside_by : (b : Bool) (at : ℕ) (piece bytes : List ℕ) (p : ℕ) → nat_le (at + length piece) (length bytes) ≡ b → (at ≤ p → p < at + length piece → ⊥)
    → get_or (cond b (take at bytes ++ piece ++ drop (at + length piece) bytes) bytes) p 0 ≡ get_or bytes p 0
outside_by true at piece bytes p e out = outside_whole at piece bytes p (leb-true (at + length piece) (length bytes) e) out
outside_by false at piece bytes p e out = refl

-- a byte that isn't in the piece
pub put_outside : (at : ℕ) (piece bytes : List ℕ) (p : ℕ) → (at ≤ p → p < at + length piece → ⊥) → get_or (put_at at piece bytes) p 0 ≡ get_or bytes p 0
unfolding put_at
put_outside at piece bytes p out = outside_by (nat_le (at + length piece) (length bytes)) at piece bytes p refl out

inside_by : (b : Bool) (at : ℕ) (piece bytes : List ℕ) (j : ℕ) → nat_le (at + length piece) (length bytes) ≡ b → at + length piece ≤ length bytes → j < length piece
    → get_or (cond b (take at bytes ++ piece ++ drop (at + length piece) bytes) bytes) (at + j) 0 ≡ get_or piece j 0
inside_by false at piece bytes j e fits low = absurd (let h : length bytes < at + length piece = grind (arith, Rattle.std.proofs.lemmas.Bool.leb-false) in omega arith)
inside_by true at piece bytes j e fits low =
    let front : length (take at bytes) ≡ at = length-take-le at bytes (omega arith) in
    let one : length (take at bytes ++ piece) ≡ at + length piece = length-append (take at bytes) piece ∙ ap (λ n. n + length piece) front in
    get_or_append_left (take at bytes ++ piece) (drop (at + length piece) bytes) 0 (at + j) (rw one (omega arith))
    ∙ get_or-append_right (take at bytes) piece at (at + j) 0 front (omega arith)
    ∙ ap (λ n. get_or piece n 0) (let e' : at + j - at ≡ j = omega arith in e')

-- a byte of the piece
pub put_inside : (at : ℕ) (piece bytes : List ℕ) (j : ℕ) → at + length piece ≤ length bytes → j < length piece → get_or (put_at at piece bytes) (at + j) 0 ≡ get_or piece j 0
unfolding put_at
put_inside at piece bytes j fits low = inside_by (nat_le (at + length piece) (length bytes)) at piece bytes j refl fits low
