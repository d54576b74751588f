-- Texts that begin with the lines of events.
use Rattle.std.proofs.Common.{◌≡◌, ◌≤◌, ℕ, zero, suc, List, [], ◌∷◌, ◌++◌, length, refl, sym, ◌∙◌, ap, subst, arith, append_assoc, length-append}
use Rattle.std.specs.Prelude.{Option, All, codes}
use Rattle.std.proofs.lemmas.List.{append-nil, append_cancel_left}
use Rattle.std.proofs.lemmas.List.Concat.{flat_map-append}
use Rattle.dg_model.specs.declared.shapes.Shape.{Shape}
use Rattle.dg_model.specs.declared.events.Event.{Event}
use Rattle.dg_text.specs.Lines.{line_of, input_of, spelling, IsInPlace}
use Rattle.dg_run.specs.Events.{Begins}
use Rattle.dg_run.specs.Lines.{BeginsAll}

pub All-one : {X : Type 0} (P : X → Type 0) (x : X) → P x → All P (x ∷ [])
All-one P x h zero d within = h
All-one P x h (suc k) d within = absurd (omega arith)

pub All-head : {X : Type 0} (P : X → Type 0) (x : X) (xs : List X) → All P (x ∷ xs) → P x
All-head P x xs all = all zero x (omega arith)

pub All-tail : {X : Type 0} (P : X → Type 0) (x : X) (xs : List X) → All P (x ∷ xs) → All P xs
All-tail P x xs all k d h = all (suc k) d (omega arith)

pub All-right : {X : Type 0} (P : X → Type 0) (xs ys : List X) → All P (xs ++ ys) → All P ys
All-right P [] ys all = all
All-right P (x ∷ xs) ys all = All-right P xs ys (All-tail P x (xs ++ ys) all)

-- a line has a byte
pub line_some : (event : Event) → 1 ≤ length (line_of event)
line_some event = omega (arith, length-append (spelling event) (codes "\n"))

pub no_line : (event : Event) (more : List ℕ) → line_of event ++ more ≡ [] → ⊥
no_line event more is = let n : length (line_of event ++ more) ≡ 0 = ap length is in let some = line_some event in absurd (omega (arith, length-append (line_of event) more))

pub begins_none : (shape : Option Shape) (text : List ℕ) → BeginsAll shape [] text text
begins_none shape text = record { lines = refl; only = λ others all is. (others, refl, is) }

module _ (shape : Option Shape) (es : List Event) (e : Event) (a b c : List ℕ) (was : BeginsAll shape es a b) (line : Begins shape e b c) where
  begins_lines : a ≡ input_of (es ++ e ∷ []) ++ c
  begins_lines =
      was.lines ∙ ap (λ (l : List ℕ). input_of es ++ l) line.line ∙ sym (append_assoc (input_of es) (line_of e) c)
      ∙ ap (λ (l : List ℕ). l ++ c) (ap (λ (l : List ℕ). input_of es ++ l) (sym (append-nil (line_of e))) ∙ sym (flat_map-append line_of es (e ∷ [])))

  next_is : (others more : List Event) → All (IsInPlace shape) others → others ≡ es ++ more → b ≡ input_of more → (later : List Event) × (others ≡ (es ++ e ∷ []) ++ later) × (c ≡ input_of later)
  next_is others [] all is rest = absurd (no_line e c (sym line.line ∙ rest))
  next_is others (m ∷ ms) all is rest =
      let placed : IsInPlace shape m = All-head (IsInPlace shape) m ms (All-right (IsInPlace shape) es (m ∷ ms) (subst (λ (l : List Event). All (IsInPlace shape) l) is all)) in
      let same : m ≡ e = line.only m (input_of ms) placed rest in
      let text : line_of e ++ c ≡ line_of e ++ input_of ms = sym line.line ∙ rest ∙ ap (λ (x : Event). line_of x ++ input_of ms) same in
      (ms, is ∙ ap (λ (x : Event). es ++ x ∷ ms) same ∙ sym (append_assoc es (e ∷ []) ms), append_cancel_left (line_of e) c (input_of ms) text)

  pub begins_more : BeginsAll shape (es ++ e ∷ []) a c
  begins_more = record { lines = begins_lines; only = λ others all is. let had = was.only others all is in next_is others had.0 all had.1 had.2 }
