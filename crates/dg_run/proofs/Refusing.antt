-- By which kind a text is refused where it stands.
use Rattle.std.proofs.Common.{◌≡◌, ◌≢◌, ◌≤◌, ◌<◌, ◌+◌, ◌++◌, ◌∷◌, [], ℕ, zero, suc, List, length, take, refl, sym, ◌∙◌, ap, ap₂, subst, arith, append_assoc, length-append, inl, inr}
use Rattle.std.specs.Prelude.{◌⊎◌, Option, None, Result, Ok, Err, IfErr, IfOk, Contains}
use Rattle.std.proofs.lemmas.List.Elements.{All-contains, All-take}
use Rattle.dg_model.specs.declared.shapes.Shape.{Shape}
use Rattle.dg_model.specs.declared.events.Event.{Event}
use Rattle.dg_text.specs.Lines.{IsInPlace, line_of, longest, spelling}
use Rattle.dg_text.specs.Refusals.{Fits, IsFirst, IsRefused as IsRefusedLine}
use Rattle.dg_text.specs.declared.lines.BadLine.{BadLine}
use Rattle.dg_text.specs.declared.lines.BadLine.TheVariants.{Long, Size, Cut, Word, Order, Form, Number, Limits, Hex, Path}
use Rattle.dg_run.specs.Bytes.{HasNoLineFeed}
use Rattle.dg_run.specs.Events.{IsRefused}
use Rattle.dg_run.specs.Inputs.{IsCutOff, IsFull}
use Rattle.dg_run.specs.Refusals.{EndsEarly, FitsAt, GoesPast, HasLine, IsLong, IsRefusedBy, kinds_of_words}
use Rattle.dg_run.proofs.Inputs.{All-head, All-tail}
use Rattle.dg_run.proofs.LineFeeds.{no_short_line, none_in_front, none_shorter}

-- ---- the first of some kinds

-- none of these kinds fits
abbrev NoneOf : (BadLine → Type 0) → List BadLine → Type 0
NoneOf fits [] = Unit {0}
NoneOf fits (kind ∷ more) = (fits kind → ⊥) × NoneOf fits more

first_behind : (fits : BadLine → Type 0) (front back : List BadLine) (kind : BadLine) → NoneOf fits front → IsFirst fits back kind → IsFirst fits (front ++ back) kind
first_behind fits [] back kind none first = first
first_behind fits (x ∷ more) back kind none first = inr (none.0, first_behind fits more back kind none.1 first)

-- two tests agree on these kinds
abbrev Agree : (BadLine → Type 0) → (BadLine → Type 0) → List BadLine → Type 0
Agree f g [] = Unit {0}
Agree f g (kind ∷ more) = ((f kind → g kind) × (g kind → f kind)) × Agree f g more

first_by : (f g : BadLine → Type 0) (list : List BadLine) (kind : BadLine) → Agree f g list → IsFirst f list kind → IsFirst g list kind
first_by f g [] kind same first = absurd first
first_by f g (x ∷ more) kind same (inl here) = inl (here.0, same.0.0 here.1)
first_by f g (x ∷ more) kind same (inr rest) = inr (λ fit. rest.0 (same.0.1 fit), first_by f g more kind same.1 rest.1)

-- ---- the line that a text begins with

one_line : (l m a b : List ℕ) → HasNoLineFeed l → HasNoLineFeed m → l ++ 10 ∷ a ≡ m ++ 10 ∷ b → l ≡ m
one_line [] [] a b nl nm e = refl
one_line [] (y ∷ m) a b nl nm e = let head : 10 ≡ y = cc in absurd (All-head (λ (x : ℕ). x ≢ 10) y m nm (sym head))
one_line (x ∷ l) [] a b nl nm e = let head : x ≡ 10 = cc in absurd (All-head (λ (z : ℕ). z ≢ 10) x l nl head)
one_line (x ∷ l) (y ∷ m) a b nl nm e =
    let head : x ≡ y = cc in
    let rest : l ++ 10 ∷ a ≡ m ++ 10 ∷ b = cc in
    ap₂ (λ (p : ℕ) (q : List ℕ). p ∷ q) head (one_line l m a b (All-tail (λ (z : ℕ). z ≢ 10) x l nl) (All-tail (λ (z : ℕ). z ≢ 10) y m nm) rest)

le_up : (a b : ℕ) → (a ≤ b) ⊎ (b < a) → (suc a ≤ suc b) ⊎ (suc b < suc a)
le_up a b (inl h) = inl (omega arith)
le_up a b (inr h) = inr (omega arith)

pub le_or_lt : (a b : ℕ) → (a ≤ b) ⊎ (b < a)
le_or_lt zero b = inl (omega arith)
le_or_lt (suc a) zero = inr (omega arith)
le_or_lt (suc a) (suc b) = le_up a b (le_or_lt a b)

-- what holds of neither isn't so
not_within : (a b : ℕ) → (a ≤ b → ⊥) → (a ≤ b) ⊎ (b < a) → b < a
not_within a b h (inl within) = absurd (h within)
not_within a b h (inr past) = past

module _ (shape : Option Shape) (room : ℕ) (line after : List ℕ) (none : HasNoLineFeed line) where
  abbrev Words : BadLine → Type 0
  Words kind = (other : List ℕ) × HasLine other (line ++ 10 ∷ after) × Fits shape other kind

  abbrev whole_line : List ℕ
  whole_line = line ++ 10 ∷ []

  split : line ++ 10 ∷ after ≡ whole_line ++ after
  split = sym (append_assoc line (10 ∷ []) after)

  size : length whole_line ≡ length line + 1
  size = length-append line (10 ∷ [])

  not_long : length line + 1 ≤ longest shape → IsLong (longest shape) room (line ++ 10 ∷ after) → ⊥
  not_long short long = no_short_line (line ++ 10 ∷ after) line after (longest shape) split (omega (arith, size)) long.none

  not_past : length line + 1 ≤ room → GoesPast room (line ++ 10 ∷ after) → ⊥
  not_past within past = no_short_line (line ++ 10 ∷ after) line after room split (omega (arith, size)) past.none

  not_cut : EndsEarly shape (line ++ 10 ∷ after) → ⊥
  not_cut cut =
      let n = length-append line (10 ∷ after) in
      no_short_line (line ++ 10 ∷ after) line after (length (line ++ 10 ∷ after)) split (omega (arith, size)) (All-take (λ (x : ℕ). x ≢ 10) (length (line ++ 10 ∷ after)) (line ++ 10 ∷ after) cut.none)

  here : HasLine line (line ++ 10 ∷ after)
  here = record { after = after; split = refl; none = none }

  to_text : (kind : BadLine) → Fits shape line kind → Words kind
  to_text kind fit = (line, here, fit)

  from_text : (kind : BadLine) → Words kind → Fits shape line kind
  from_text kind words =
      let same : words.0 ≡ line = one_line words.0 line words.1.after after words.1.none none (sym words.1.split) in
      subst (λ (l : List ℕ). Fits shape l kind) same words.2

  agree : Agree (Fits shape line) (FitsAt shape room (line ++ 10 ∷ after)) kinds_of_words
  agree = (
    (to_text Word, from_text Word),
    (
      (to_text Order, from_text Order),
      (
        (to_text Form, from_text Form),
        (
          (to_text Number, from_text Number),
          (
            (to_text Limits, from_text Limits),
            (
              (to_text Hex, from_text Hex),
              ((to_text Path, from_text Path), tt),
            ),
          ),
        ),
      ),
    ),
  )

  none_before : length line + 1 ≤ longest shape → length line + 1 ≤ room → NoneOf (FitsAt shape room (line ++ 10 ∷ after)) (Long ∷ Size ∷ Cut ∷ [])
  none_before short within = (not_long short, (not_past within, (not_cut, tt)))

  by_words : length line + 1 ≤ longest shape → length line + 1 ≤ room → (kind : BadLine) → IsRefusedLine shape line kind → IsRefusedBy shape room (line ++ 10 ∷ after) kind
  by_words short within kind refused =
      first_behind (FitsAt shape room (line ++ 10 ∷ after)) (Long ∷ Size ∷ Cut ∷ []) kinds_of_words kind (none_before short within)
      (first_by (Fits shape line) (FitsAt shape room (line ++ 10 ∷ after)) kinds_of_words kind agree refused)

  by_size : length line + 1 ≤ longest shape → room < length line + 1 → IsRefusedBy shape room (line ++ 10 ∷ after) Size
  by_size short past =
      let n = length-append line (10 ∷ after) in
      inr (
        not_long short,
        inl (
          refl,
          record {
            there = omega (arith, n);
            none = none_in_front line (10 ∷ after) room (omega arith) (All-take (λ (x : ℕ). x ≢ 10) room line none);
          },
        ),
      )

  text_some : line ++ 10 ∷ after ≡ [] → ⊥
  text_some e = let n = length-append line (10 ∷ after) in let z : length (line ++ 10 ∷ after) ≡ 0 = ap length e in absurd (omega arith)

  -- the line of an event that the text begins with isn't shorter
  line_is_longer : (event : Event) (tail : List ℕ) → line ++ 10 ∷ after ≡ line_of event ++ tail → length line < length (line_of event)
  line_is_longer event tail is =
      let front : HasNoLineFeed (take (length line) (line ++ 10 ∷ after)) = none_in_front line (10 ∷ after) (length line) (omega arith) (All-take (λ (x : ℕ). x ≢ 10) (length line) line none) in
      not_within (length (line_of event)) (length line) (λ h. no_short_line (line ++ 10 ∷ after) (spelling event) tail (length line) is h front) (le_or_lt (length (line_of event)) (length line))

  pub refused_size : length line + 1 ≤ longest shape → room < length line + 1 → IsRefused shape room (line ++ 10 ∷ after) Size
  refused_size short past = record {
    some = text_some;
    by_kind = by_size short past;
    none = λ event tail placed is. let longer = line_is_longer event tail is in omega arith;
  }

  lacks : Contains line 10 → ⊥
  lacks has = All-contains (λ (x : ℕ). x ≢ 10) line 10 none has refl

  pub refused_words : length line + 1 ≤ longest shape → length line + 1 ≤ room → (kind : BadLine) (result : Result Event BadLine) → result ≡ Err kind → IsRefusedLine shape line kind
      → ((event : Event) (more tail : List ℕ) → IsInPlace shape event → (Contains line 10 → ⊥) → line ++ 10 ∷ more ≡ line_of event ++ tail → result ≡ Ok event)
      → IsRefused shape room (line ++ 10 ∷ after) kind
  refused_words short within kind result is refused exact = record {
    some = text_some;
    by_kind = by_words short within kind refused;
    none = λ event tail placed same. let e : Err kind ≡ Ok event = sym is ∙ exact event after tail placed lacks same in absurd (cc e);
  }

-- ---- bytes without a line feed

pub full_long : (shape : Option Shape) (most room : ℕ) (text : List ℕ) → longest shape ≡ most → most ≤ room → IsFull most text → IsRefusedBy shape room text Long
full_long shape most room text is within full =
    let long : IsLong most room text = record { within = within; there = full.there; none = full.none } in
    inl (refl, subst (λ (n : ℕ). IsLong n room text) (sym is) long)

pub full_size : (shape : Option Shape) (most room : ℕ) (text : List ℕ) → longest shape ≡ most → room < most → IsFull most text → IsRefusedBy shape room text Size
full_size shape most room text is past full =
    inr (λ long. let within = long.within in absurd (omega arith), inl (refl, record { there = omega (arith, full.there); none = none_shorter text room most (omega arith) full.none }))

pub cut_size : (shape : Option Shape) (n room : ℕ) (text : List ℕ) → n < longest shape → room < n → IsCutOff n text → IsRefusedBy shape room text Size
cut_size shape n room text short past cut =
    let size = cut.size in
    inr (λ long. let there = long.there in absurd (omega arith), inl (refl, record { there = omega arith; none = All-take (λ (x : ℕ). x ≢ 10) room text cut.none }))

pub cut_cut : (shape : Option Shape) (n room : ℕ) (text : List ℕ) → n < longest shape → n ≤ room → IsCutOff n text → IsRefusedBy shape room text Cut
cut_cut shape n room text short within cut =
    let size = cut.size in
    inr (
      λ long. let there = long.there in absurd (omega arith),
      inr (λ past. let there = past.there in absurd (omega arith), inl (refl, record { none = cut.none; some = λ e. absurd (cut.some e) })),
    )

pub empty_cut : (room : ℕ) → IsRefusedBy None room [] Cut
empty_cut room = inr (
  λ long. let there = long.there in absurd (omega arith),
  inr (λ past. let there = past.there in absurd (omega arith), inl (refl, record { none = λ k d h. absurd (omega arith); some = λ e. refl })),
)

-- a full or a cut text is refused
pub refused_full : (shape : Option Shape) (most room : ℕ) (text : List ℕ) (kind : BadLine) → 1 ≤ most → ((event : Event) → IsInPlace shape event → length (line_of event) ≤ most) → IsRefusedBy shape room text kind → IsFull most text
    → IsRefused shape room text kind
refused_full shape most room text kind some fits by full = record {
  some = λ e. let n : length text ≡ 0 = ap length e in let there = full.there in absurd (omega arith);
  by_kind = by;
  none = λ event tail placed is. absurd (no_short_line text (spelling event) tail most is (fits event placed) full.none);
}

pub refused_cut : (shape : Option Shape) (n room : ℕ) (text : List ℕ) (kind : BadLine) → IsRefusedBy shape room text kind → IsCutOff n text → IsRefused shape room text kind
refused_cut shape n room text kind by cut = record {
  some = cut.some;
  by_kind = by;
  none = λ event tail placed is.
      let m = ap length is in
      let k = length-append (line_of event) tail in
      absurd (no_short_line text (spelling event) tail (length text) is (omega arith) (All-take (λ (x : ℕ). x ≢ 10) (length text) text cut.none));
}

-- what a result says that is known
pub ok_of : {T E : Type 0} (P : T → Type 0) (result : Result T E) (x : T) → result ≡ Ok x → IfOk result P → P x
ok_of P (Ok y) x is h = let same : y ≡ x = cc is in subst P same h
ok_of P (Err e) x is h = absurd (cc is)

pub err_of : {T E : Type 0} (P : E → Type 0) (result : Result T E) (x : E) → result ≡ Err x → IfErr result P → P x
err_of P (Ok y) x is h = absurd (cc is)
err_of P (Err e) x is h = let same : e ≡ x = cc is in subst P same h
