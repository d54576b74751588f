-- What is left of lists, one place after another.
use Rattle.std.proofs.Common.{◌≡◌, ◌∙◌, ◌<◌, ◌+◌, ◌++◌, ◌&&◌, ◌||◌, ℕ, Bool, false, List, [], ◌∷◌, length, map, get_or, take, filter, not, sym, ap, arith, cond, if◌then◌else◌, add-one, zero-add}
use Rattle.std.specs.List.{range_with_len}
use Rattle.std.proofs.Math.Seq.{take-suc}
use Rattle.std.proofs.lemmas.List.{get_or_default, map-append, same_lists}
use Rattle.std.proofs.lemmas.List.Elements.{filter-append}
use Rattle.std.proofs.lemmas.List.FromFn.{get_or-map-range_with_len, length-map-range_with_len}
use Rattle.dg_model.proofs.ActionLists.{range_last}
use Rattle.dg_model.specs.Marks.{is_marked}
use Rattle.dg_model.specs.Moves.{count_upto}
use Rattle.dg_volume.specs.Left.{marked_too, unmarked}

-- ---- lists that grow at their end

one_more : (p : ℕ → Bool) (x y : ℕ) → y ≡ x → filter p (y ∷ []) ≡ (if p x then x ∷ [] else [])
one_more p x y e = ap (λ (s : ℕ). if p s then s ∷ [] else []) e

-- the numbers up to one more that pass a test
pub filter_more : (p : ℕ → Bool) (x : ℕ) → filter p (range_with_len 0 (x + 1)) ≡ filter p (range_with_len 0 x) ++ (if p x then x ∷ [] else [])
filter_more p x =
    ap (λ n. filter p (range_with_len 0 n)) (add-one x)
    ∙ ap (filter p) (range_last 0 x)
    ∙ filter-append p (range_with_len 0 x) ((0 + x) ∷ [])
    ∙ ap (λ (xs : List ℕ). filter p (range_with_len 0 x) ++ xs) (one_more p x (0 + x) (zero-add x))

-- the values of one item more
pub map_more : (f : ℕ → ℕ) (xs : List ℕ) (n : ℕ) → n < length xs → map f (take (n + 1) xs) ≡ map f (take n xs) ++ f (get_or xs n 0) ∷ []
map_more f xs n within =
    ap (λ k. map f (take k xs)) (add-one n)
    ∙ ap (map f) (take-suc xs n 0 within)
    ∙ map-append f (take n xs) (get_or xs n 0 ∷ [])

-- ---- counts

pub count_more : (test : ℕ → Bool) (n : ℕ) → count_upto (n + 1) test ≡ count_upto n test + cond (test n) 1 0
count_more test n = ap (λ (k : ℕ). count_upto k test) (add-one n)

-- ---- marks

-- marks are those that a test gives
marks_are : (f : ℕ → Bool) (n : ℕ) (new : List Bool) → length new ≡ n → ((b : ℕ) → b < n → is_marked new b ≡ f b) → new ≡ map f (range_with_len 0 n)
marks_are f n new size each = same_lists new (map f (range_with_len 0 n)) (size ∙ sym (length-map-range_with_len f 0 n)) (λ k d within.
    let low : k < n = omega (arith, size, within) in
    get_or_default new k d false within ∙ each k low ∙ sym (get_or-map-range_with_len f 0 n k k d low (zero-add k)))

pub unmarked_is : (gone : ℕ → Bool) (old new : List Bool) → length new ≡ length old → ((b : ℕ) → b < length old → is_marked new b ≡ (is_marked old b && not (gone b)))
    → new ≡ unmarked gone old
unmarked_is gone old new size each = marks_are (λ b. is_marked old b && not (gone b)) (length old) new size each

pub marked_is : (gone : ℕ → Bool) (old new : List Bool) → length new ≡ length old → ((b : ℕ) → b < length old → is_marked new b ≡ (is_marked old b || gone b))
    → new ≡ marked_too gone old
marked_is gone old new size each = marks_are (λ b. is_marked old b || gone b) (length old) new size each
