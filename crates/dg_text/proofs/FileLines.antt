-- Lines, one after the other: those of a file, or of a directory.
use Rattle.std.proofs.Common.{◌≡◌, ◌<◌, ◌≤◌, ◌+◌, ℕ, zero, suc, List, [], ◌∷◌, ◌++◌, length, take, drop, get_or, sym, ◌∙◌, ap, subst, append_assoc, length-append, arith, refl, take-append-drop}
use Rattle.std.specs.List.{concat, flat_map}
use Rattle.std.proofs.lemmas.List.{take_more, append-nil}
use Rattle.std.proofs.lemmas.List.Folds.{concat-append}
use Rattle.std.proofs.lemmas.Grind.{flat_map-append}
use Rattle.std.specs.Prelude.{Option, codes}
use Rattle.std.specs.Fmt.{decimal}
use Rattle.hex.specs.Hex.{encode_lower, encode_with}
use Rattle.dg_io.specs.Told.{Told, Took, TookPart}
use Rattle.dg_text.specs.Lines.{path_word, spelled_byte}
use Rattle.dg_text.specs.ToldSteps.{took_both, took_part_of_more, took_part_after}

-- one line more
pub text_more : {A : Type 0} (line_of : A → List ℕ) (xs : List A) (i : ℕ) (x : A) → i < length xs → x ≡ get_or xs i x
    → flat_map line_of (take (i + 1) xs) ≡ flat_map line_of (take i xs) ++ line_of x
text_more line_of xs i x lt is =
    ap (λ l. flat_map line_of l) (take_more xs i x lt)
    ∙ flat_map-append line_of (take i xs) (get_or xs i x ∷ [])
    ∙ ap (λ (l : List ℕ). flat_map line_of (take i xs) ++ l) (append-nil (line_of (get_or xs i x)) ∙ ap line_of (sym is))

-- and those after it
pub text_cut : {A : Type 0} (line_of : A → List ℕ) (xs : List A) (n : ℕ) → flat_map line_of xs ≡ flat_map line_of (take n xs) ++ flat_map line_of (drop n xs)
text_cut line_of xs n = ap (λ l. flat_map line_of l) (sym (take-append-drop n xs)) ∙ flat_map-append line_of (take n xs) (drop n xs)

pub concat_more : (lines : List (List ℕ)) (i : ℕ) (line : List ℕ) → i < length lines → line ≡ get_or lines i line
    → length (concat (take (i + 1) lines)) ≡ length (concat (take i lines)) + length line
concat_more lines i line lt is =
    ap (λ (l : List (List ℕ)). length (concat l)) (take_more lines i line lt)
    ∙ ap length (concat-append (take i lines) (get_or lines i line ∷ []))
    ∙ length-append (concat (take i lines)) (get_or lines i line ++ [])
    ∙ ap (λ (l : List ℕ). length (concat (take i lines)) + length l) (append-nil (get_or lines i line) ∙ sym is)

pub concat_within : (lines : List (List ℕ)) (n : ℕ) → length (concat (take n lines)) ≤ length (concat lines)
concat_within lines n =
    let whole = ap (λ (l : List (List ℕ)). length (concat l)) (sym (take-append-drop n lines)) in
    let parts = ap length (concat-append (take n lines) (drop n lines)) in
    let sizes = length-append (concat (take n lines)) (concat (drop n lines)) in
    omega arith

-- an item, whatever is taken past the end
pub item_is : {A : Type 0} (xs : List A) (i : ℕ) (past : A) → i < length xs → get_or xs i past ≡ get_or xs i (get_or xs i past)
item_is [] i past lt = absurd (omega (arith, lt))
item_is (x ∷ xs) zero past lt = refl
item_is (x ∷ xs) (suc i) past lt = item_is xs i past (omega (arith, lt))

-- the digits of one byte
abbrev pub digits_of : ℕ → List ℕ
digits_of byte = encode_lower (byte ∷ [])

pub all_digits : (bytes : List ℕ) → flat_map digits_of bytes ≡ encode_lower bytes
unfolding encode_with
all_digits [] = refl
all_digits (b ∷ bytes) = ap (λ (l : List ℕ). digits_of b ++ l) (all_digits bytes)

pub all_bytes : (path : List ℕ) → flat_map spelled_byte path ≡ path_word path
unfolding path_word
all_bytes path = refl

-- ---- what a sink took of the lines

-- the lines before this one, and it
pub took_line_more : {A : Type 0} (line_of : A → List ℕ) (xs : List A) (i : ℕ) (x : A) (line : List ℕ) → i < length xs → x ≡ get_or xs i x → line ≡ line_of x
    → (a b c : Option (List ℕ)) → Told (Took (flat_map line_of (take i xs))) a b → Told (Took line) b c → Told (Took (flat_map line_of (take (i + 1) xs))) a c
took_line_more line_of xs i x line lt is same a b c before last =
    let P : List ℕ → Type 0 = λ l. Told (Took l) b c in
    let Q : List ℕ → Type 0 = λ l. Told (Took l) a c in
    subst Q (sym (text_more line_of xs i x lt is)) (took_both (flat_map line_of (take i xs)) (line_of x) a b c before (subst P same last))

-- the lines before this one, and a part of it
pub took_part_of_lines : {A : Type 0} (line_of : A → List ℕ) (xs : List A) (i : ℕ) (x : A) (line : List ℕ) → i < length xs → x ≡ get_or xs i x → line ≡ line_of x
    → (a b c : Option (List ℕ)) → Told (Took (flat_map line_of (take i xs))) a b → Told (TookPart line) b c → Told (TookPart (flat_map line_of xs)) a c
took_part_of_lines line_of xs i x line lt is same a b c before part =
    let P : List ℕ → Type 0 = λ l. Told (TookPart l) b c in
    let so_far = took_part_after (flat_map line_of (take i xs)) (line_of x) a b c before (subst P same part) in
    let whole : (flat_map line_of (take i xs) ++ line_of x) ++ flat_map line_of (drop (i + 1) xs) ≡ flat_map line_of xs =
    ap (λ (l : List ℕ). l ++ flat_map line_of (drop (i + 1) xs)) (sym (text_more line_of xs i x lt is)) ∙ sym (text_cut line_of xs (i + 1)) in
    let Q : List ℕ → Type 0 = λ l. Told (TookPart l) a c in
    subst Q whole (took_part_of_more (flat_map line_of (take i xs) ++ line_of x) (flat_map line_of (drop (i + 1) xs)) a c so_far)

-- the text of lines and the line that ends them
pub ended : (text word number : List ℕ) → text ++ (word ++ (number ++ codes "\n")) ≡ (text ++ (word ++ number)) ++ codes "\n"
ended text word number = ap (λ (l : List ℕ). text ++ l) (sym (append_assoc word number (codes "\n"))) ∙ sym (append_assoc text (word ++ number) (codes "\n"))

pub took_ended : (text word : List ℕ) (n count : ℕ) → count ≡ n → (x y z : Option (List ℕ)) → Told (Took text) x y → Told (Took (word ++ (decimal count ++ codes "\n"))) y z
    → Told (Took ((text ++ (word ++ decimal n)) ++ codes "\n")) x z
took_ended text word n count is x y z before last =
    let P : List ℕ → Type 0 = λ l. Told (Took l) x z in
    subst P (ap (λ (k : ℕ). text ++ (word ++ (decimal k ++ codes "\n"))) is ∙ ended text word (decimal n)) (took_both text (word ++ (decimal count ++ codes "\n")) x y z before last)

pub took_part_ended : (text word : List ℕ) (n count : ℕ) → count ≡ n → (x y z : Option (List ℕ)) → Told (Took text) x y → Told (TookPart (word ++ (decimal count ++ codes "\n"))) y z
    → Told (TookPart ((text ++ (word ++ decimal n)) ++ codes "\n")) x z
took_part_ended text word n count is x y z before last =
    let P : List ℕ → Type 0 = λ l. Told (TookPart l) x z in
    subst P (ap (λ (k : ℕ). text ++ (word ++ (decimal k ++ codes "\n"))) is ∙ ended text word (decimal n)) (took_part_after text (word ++ (decimal count ++ codes "\n")) x y z before last)

pub took_part_unended : (text word number : List ℕ) (x y : Option (List ℕ)) → Told (TookPart text) x y → Told (TookPart ((text ++ (word ++ number)) ++ codes "\n")) x y
took_part_unended text word number x y part =
    took_part_of_more (text ++ (word ++ number)) (codes "\n") x y (took_part_of_more text (word ++ number) x y part)
