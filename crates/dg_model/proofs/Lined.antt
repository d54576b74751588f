-- Bytes in lines. A law for the crates above.
use Rattle.std.proofs.Common.{◌≡◌, ◌≤◌, ◌<◌, ℕ, zero, suc, List, [], ◌∷◌, ◌++◌, length, take, drop, refl, ◌∙◌, ap, arith, take-append-drop, inl, inr}
use Rattle.std.specs.List.{concat}
use Rattle.std.proofs.lemmas.Bool.{cases_lt}
use Rattle.std.proofs.lemmas.List.{append-nil, length-drop}
use Rattle.std.proofs.lemmas.Grind.{common_steps}
use Rattle.dg_model.specs.Lists.{AreLines}

-- these bytes in lines
pub record Lined (l : ℕ) (bytes : List ℕ) : Type 0 where
  pub lines : List (List ℕ)
  pub are : AreLines l lines
  pub whole : concat lines ≡ bytes

line_before : (l : ℕ) (line : List ℕ) (more : List (List ℕ)) → 0 < l → length line ≡ l → AreLines l more → AreLines l (line ∷ more)
line_before l line [] some full are = (omega (arith, some, full), omega (arith, full))
line_before l line (next ∷ more) some full are = (full, are)

no_lines : (l : ℕ) → Lined l []
no_lines l = record { lines = []; are = tt; whole = refl }

one_line : (l : ℕ) (line : List ℕ) → 0 < length line → length line ≤ l → Lined l line
one_line l line some within = record { lines = line ∷ []; are = (some, within); whole = append-nil line }

line_first : (l : ℕ) (bytes : List ℕ) → 0 < l → l < length bytes → Lined l (drop l bytes) → Lined l bytes
line_first l bytes some more rest =
    let n : length (take l bytes) ≡ l = grind (arith, common_steps) in
    record {
      lines = take l bytes ∷ rest.lines;
      are = line_before l (take l bytes) rest.lines some n rest.are;
      whole = ap (λ (s : List ℕ). take l bytes ++ s) rest.whole ∙ take-append-drop l bytes;
    }

line_by : (l : ℕ) (bytes : List ℕ) → 0 < l → 0 < length bytes → Lined l (drop l bytes) → Lined l bytes
line_by l bytes some any rest = elim (cases_lt l (length bytes)) [
  | inl more ↦ line_first l bytes some more rest
  | inr within ↦ one_line l bytes any within
]

-- bytes can be put in lines of each length but 0
pub in_lines : (l fuel : ℕ) (bytes : List ℕ) → 0 < l → length bytes ≤ fuel → Lined l bytes
in_lines l zero [] some n = no_lines l
in_lines l zero (x ∷ xs) some n = absurd (omega arith)
in_lines l (suc fuel) [] some n = no_lines l
in_lines l (suc fuel) (x ∷ xs) some n =
    line_by l (x ∷ xs) some (omega arith) (in_lines l fuel (drop l (x ∷ xs)) some (omega (arith, length-drop l (x ∷ xs))))
