-- The lines of writes, one after another.
use Rattle.std.proofs.Common.{◌≡◌, ◌<◌, ◌+◌, ℕ, zero, suc, List, [], ◌∷◌, ◌++◌, length, take, drop, get_or, refl, sym, ◌∙◌, ap, subst, arith, take-append-drop}
use Rattle.std.specs.Prelude.{Option, Some, None, Result, Ok, Err, OnOk, OnErr, map}
use Rattle.std.specs.List.{flat_map}
use Rattle.std.proofs.lemmas.List.{append-nil, take_more}
use Rattle.std.proofs.lemmas.Grind.{flat_map-append}
use Rattle.dg_io.specs.Told.{Told, Took, TookPart}
use Rattle.dg_model.specs.declared.events.Event.{Event}
use Rattle.dg_text.specs.Lines.{input_of, line_of}
use Rattle.dg_text.specs.ToldSteps.{took_both, took_part_after, took_part_of_more}

-- the text of events made of numbers
pub lines_are : (f : ℕ → Event) (xs : List ℕ) → input_of (map f xs) ≡ flat_map (λ x. line_of (f x)) xs
lines_are f [] = refl
lines_are f (x ∷ xs) = ap (λ (l : List ℕ). line_of (f x) ++ l) (lines_are f xs)

text_more : (line : ℕ → List ℕ) (xs : List ℕ) (i x : ℕ) → i < length xs → x ≡ get_or xs i x → flat_map line (take (i + 1) xs) ≡ flat_map line (take i xs) ++ line x
text_more line xs i x lt is =
    ap (λ (l : List ℕ). flat_map line l) (take_more xs i x lt)
    ∙ flat_map-append line (take i xs) (get_or xs i x ∷ [])
    ∙ ap (λ (l : List ℕ). flat_map line (take i xs) ++ l) (append-nil (line (get_or xs i x)) ∙ ap line (sym is))

text_cut : (line : ℕ → List ℕ) (xs : List ℕ) (n : ℕ) → flat_map line xs ≡ flat_map line (take n xs) ++ flat_map line (drop n xs)
text_cut line xs n = ap (λ (l : List ℕ). flat_map line l) (sym (take-append-drop n xs)) ∙ flat_map-append line (take n xs) (drop n xs)

-- an item, whatever is taken past the end
pub item_is : (xs : List ℕ) (i past : ℕ) → i < length xs → get_or xs i past ≡ get_or xs i (get_or xs i past)
item_is [] i past lt = absurd (omega (arith, lt))
item_is (x ∷ xs) zero past lt = refl
item_is (x ∷ xs) (suc i) past lt = item_is xs i past (omega (arith, lt))

-- the lines before this one, and a part of it
pub took_part_of_lines : (line : ℕ → List ℕ) (xs : List ℕ) (i x : ℕ) → i < length xs → x ≡ get_or xs i x → (a b c : Option (List ℕ))
    → Told (Took (flat_map line (take i xs))) a b → Told (TookPart (line x)) b c → Told (TookPart (flat_map line xs)) a c
took_part_of_lines line xs i x lt is a b c before part =
    let so_far = took_part_after (flat_map line (take i xs)) (line x) a b c before part in
    let whole : (flat_map line (take i xs) ++ line x) ++ flat_map line (drop (i + 1) xs) ≡ flat_map line xs =
    ap (λ (l : List ℕ). l ++ flat_map line (drop (i + 1) xs)) (sym (text_more line xs i x lt is)) ∙ sym (text_cut line xs (i + 1)) in
    let Q : List ℕ → Type 0 = λ l. Told (TookPart l) a c in
    subst Q whole (took_part_of_more (flat_map line (take i xs) ++ line x) (flat_map line (drop (i + 1) xs)) a c so_far)

-- the lines before this one, and it
pub took_line_more : (line : ℕ → List ℕ) (xs : List ℕ) (i x : ℕ) → i < length xs → x ≡ get_or xs i x → (a b c : Option (List ℕ))
    → Told (Took (flat_map line (take i xs))) a b → Told (Took (line x)) b c → Told (Took (flat_map line (take (i + 1) xs))) a c
took_line_more line xs i x lt is a b c before next =
    subst (λ (l : List ℕ). Told (Took l) a c) (sym (text_more line xs i x lt is)) (took_both (flat_map line (take i xs)) (line x) a b c before next)

-- nothing of a text is a part of it
pub part_none : (text : List ℕ) (x : Option (List ℕ)) → Told (TookPart text) x x
part_none text None = tt
part_none text (Some a) = (0, sym (append-nil a))

-- a text, and then another one by a call that may fail
pub then_ok : {T E : Type 0} (r : Result T E) (s t u : List ℕ) (x y z : Option (List ℕ)) → t ≡ u → Told (Took s) x y → OnOk r (Told (Took t) y z) → OnOk r (Told (Took (s ++ u)) x z)
then_ok (Ok value) s t u x y z same first second = subst (λ (l : List ℕ). Told (Took (s ++ l)) x z) same (took_both s t x y z first second)
then_ok (Err error) s t u x y z same first second = tt

pub then_part : {T E : Type 0} (r : Result T E) (s t u : List ℕ) (x y z : Option (List ℕ)) → t ≡ u → Told (Took s) x y → OnErr r (Told (TookPart t) y z) → OnErr r (Told (TookPart (s ++ u)) x z)
then_part (Ok value) s t u x y z same first second = tt
then_part (Err error) s t u x y z same first second = subst (λ (l : List ℕ). Told (TookPart (s ++ l)) x z) same (took_part_after s t x y z first second)

-- another way to write what a call wrote
pub ok_as : {T E : Type 0} (r : Result T E) (s t : List ℕ) (x y : Option (List ℕ)) → s ≡ t → OnOk r (Told (Took s) x y) → OnOk r (Told (Took t) x y)
ok_as r s t x y same told = subst (λ (l : List ℕ). OnOk r (Told (Took l) x y)) same told

pub part_as : {T E : Type 0} (r : Result T E) (s t : List ℕ) (x y : Option (List ℕ)) → s ≡ t → OnErr r (Told (TookPart s) x y) → OnErr r (Told (TookPart t) x y)
part_as r s t x y same told = subst (λ (l : List ℕ). OnErr r (Told (TookPart l) x y)) same told
