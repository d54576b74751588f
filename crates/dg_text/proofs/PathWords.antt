-- Words of paths: each byte has one spelling.
use Rattle.std.proofs.Common.{◌≡◌, ◌<◌, ◌≤◌, ◌+◌, ◌*◌, inl, inr, Bool, true, false, ℕ, List, [], ◌∷◌, ◌++◌, length, take, drop, slice_index, refl, sym, ◌∙◌, ap, subst, arith, append_assoc, length-append, take-append-drop}
use Rattle.std.specs.Prelude.{All, codes, ◌==◌}
use Rattle.std.specs.List.{flat_map}
use Rattle.std.proofs.lemmas.List.{append-nil, length-drop, drop_all, drop-drop}
use Rattle.std.proofs.lemmas.List.Elements.{All-head, All-tail, All-cons, All-nil, All-weaker, All-append, All-contains, Contains-append_right}
use Rattle.std.proofs.lemmas.Bool.Decides.{nat_tests}
use Rattle.std.proofs.lemmas.Grind.{flat_map-append}
use Rattle.hex.specs.Hex.{encode_lower, encode_with}
use Rattle.dg_text.specs.Lines.{AreBytes, is_plain, spelled_byte, path_word}
use Rattle.dg_text.proofs.HexWords.{IsLowerDigit, encode_is_lower, one_byte}

-- ---- the spelling of one byte

pub plain_is : (x : ℕ) → is_plain x ≡ true → spelled_byte x ≡ x ∷ []
unfolding spelled_byte
plain_is x plain = rw plain refl

pub escaped_is : (x : ℕ) → is_plain x ≡ false → spelled_byte x ≡ codes "\\x" ++ encode_lower (x ∷ [])
unfolding spelled_byte
escaped_is x escaped = rw escaped refl

-- what a byte's spelling begins with tells whether it stands for itself
pub front_tells : (word : List ℕ) (x : ℕ) (rest : List ℕ) (b : Bool) → is_plain x ≡ b → word ≡ spelled_byte x ++ rest → is_plain (slice_index word 0) ≡ b
front_tells word x rest true plain is =
    let begins : word ≡ x ∷ rest = is ∙ ap (λ (l : List ℕ). l ++ rest) (plain_is x plain) in
    ap (λ (l : List ℕ). is_plain (slice_index l 0)) begins ∙ plain
front_tells word x rest false escaped is =
    let begins : word ≡ 92 ∷ 120 ∷ (encode_lower (x ∷ []) ++ rest) = is ∙ ap (λ (l : List ℕ). l ++ rest) (escaped_is x escaped) in
    ap (λ (l : List ℕ). is_plain (slice_index l 0)) begins

pub plain_found : (word : List ℕ) (x : ℕ) → 0 < length word → x ≡ slice_index word 0 → is_plain x ≡ true → word ≡ spelled_byte x ++ drop 1 word
plain_found [] x some head plain = absurd (omega arith)
plain_found (y ∷ word) x some head plain =
    ap (λ (z : ℕ). z ∷ word) (sym head) ∙ ap (λ (l : List ℕ). l ++ word) (sym (plain_is x plain))

pub plain_exact : (word : List ℕ) (x : ℕ) (rest : List ℕ) → is_plain x ≡ true → word ≡ spelled_byte x ++ rest → (slice_index word 0 ≡ x) × (drop 1 word ≡ rest)
plain_exact word x rest plain is =
    let begins : word ≡ x ∷ rest = is ∙ ap (λ (l : List ℕ). l ++ rest) (plain_is x plain) in
    (ap (λ (l : List ℕ). slice_index l 0) begins, ap (λ (l : List ℕ). drop 1 l) begins)

pub escaped_found : (word digits : List ℕ) (x : ℕ) → word ≡ codes "\\x" ++ digits → take 2 digits ≡ encode_lower (x ∷ []) → is_plain x ≡ false → word ≡ spelled_byte x ++ drop 4 word
escaped_found word digits x is two escaped =
    let tail : drop 4 word ≡ drop 2 digits = ap (λ (l : List ℕ). drop 4 l) is in
    let parts : digits ≡ encode_lower (x ∷ []) ++ drop 2 digits = sym (take-append-drop 2 digits) ∙ ap (λ (l : List ℕ). l ++ drop 2 digits) two in
    is ∙ ap (λ (l : List ℕ). codes "\\x" ++ l) parts
    ∙ ap (λ (l : List ℕ). l ++ drop 2 digits) (sym (escaped_is x escaped))
    ∙ ap (λ (l : List ℕ). spelled_byte x ++ l) (sym tail)

pub escaped_exact : (word : List ℕ) (x : ℕ) (rest : List ℕ) → is_plain x ≡ false → word ≡ spelled_byte x ++ rest
    → (word ≡ codes "\\x" ++ (encode_lower (x ∷ []) ++ rest)) × (drop 4 word ≡ rest)
unfolding encode_with
escaped_exact word x rest escaped is =
    let begins : word ≡ codes "\\x" ++ (encode_lower (x ∷ []) ++ rest) = is ∙ ap (λ (l : List ℕ). l ++ rest) (escaped_is x escaped) in
    (begins, ap (λ (l : List ℕ). drop 4 l) begins)

spelled_length : (x : ℕ) (b : Bool) → is_plain x ≡ b → (0 < length (spelled_byte x)) × (length (spelled_byte x) ≤ 4)
unfolding encode_with
spelled_length x true plain = rw (plain_is x plain) (omega arith, omega arith)
spelled_length x false escaped = rw (escaped_is x escaped) (omega arith, omega arith)

pub two_front : (digits : List ℕ) → 2 ≤ length digits → take 2 digits ≡ slice_index digits 0 ∷ slice_index digits 1 ∷ []
two_front [] some = absurd (omega arith)
two_front (a ∷ []) some = absurd (omega arith)
two_front (a ∷ b ∷ more) some = refl

-- two digits at the front
pub two_digits : (digits : List ℕ) (x : ℕ) (rest : List ℕ) → digits ≡ encode_lower (x ∷ []) ++ rest → (take 2 digits ≡ encode_lower (x ∷ [])) × (2 ≤ length digits)
unfolding encode_with
two_digits digits x rest is =
    let front : take 2 digits ≡ encode_lower (x ∷ []) = ap (λ (l : List ℕ). take 2 l) is in
    let size = ap length is in
    (front, omega arith)

pub spelled_some : (word : List ℕ) (x : ℕ) (rest : List ℕ) → word ≡ spelled_byte x ++ rest → 0 < length word
spelled_some word x rest is =
    let first = spelled_length x (is_plain x) refl in
    let size = length-append (spelled_byte x) rest in
    let whole = ap length is in
    omega arith

-- ---- the spelling of a path

pub path_word_none : path_word [] ≡ []
unfolding path_word
path_word_none = refl

pub path_word_first : (x : ℕ) (path : List ℕ) → path_word (x ∷ path) ≡ spelled_byte x ++ path_word path
unfolding path_word
path_word_first x path = refl

pub path_both : (path more : List ℕ) → path_word (path ++ more) ≡ path_word path ++ path_word more
unfolding path_word
path_both path more = flat_map-append spelled_byte path more

pub path_word_last : (path : List ℕ) (x : ℕ) → path_word (path ++ x ∷ []) ≡ path_word path ++ spelled_byte x
unfolding path_word
path_word_last path x = flat_map-append spelled_byte path (x ∷ []) ∙ ap (λ (l : List ℕ). flat_map spelled_byte path ++ l) (append-nil (spelled_byte x))

pub length-path_word : (path : List ℕ) → length (path_word path) ≤ 4 * length path
length-path_word [] = rw path_word_none (omega arith)
length-path_word (x ∷ path) =
    let first = spelled_length x (is_plain x) refl in
    let more = length-path_word path in
    let size = length-append (spelled_byte x) (path_word path) in
    rw (path_word_first x path) (omega arith)

-- a path's word has a byte for each of its bytes
pub path_word_longer : (path : List ℕ) → length path ≤ length (path_word path)
path_word_longer [] = omega arith
path_word_longer (x ∷ path) =
    let first = spelled_length x (is_plain x) refl in
    let more = path_word_longer path in
    let size = length-append (spelled_byte x) (path_word path) in
    rw (path_word_first x path) (omega arith)

-- a word that is empty spells no byte
pub path_none : (path : List ℕ) → [] ≡ path_word path → path ≡ []
path_none [] is = refl
path_none (x ∷ path) is =
    let first = spelled_length x (is_plain x) refl in
    let size = length-append (spelled_byte x) (path_word path) in
    let whole = ap length (is ∙ path_word_first x path) in
    absurd (omega arith)

-- ---- a path that is read from the front of its word

-- the bytes are those of the path that are spelled before this place
pub record IsFront (word bytes : List ℕ) (at : ℕ) (path : List ℕ) : Type 0 where
  pub rest : List ℕ
  pub whole : path ≡ bytes ++ rest
  pub ahead : drop at word ≡ path_word rest

pub front_none : (word path : List ℕ) → word ≡ path_word path → IsFront word [] 0 path
front_none word path is = record { rest = path; whole = refl; ahead = is }

next_of : (word bytes : List ℕ) (at : ℕ) (path rest : List ℕ) → at < length word → AreBytes path → path ≡ bytes ++ rest → drop at word ≡ path_word rest
    → (x : ℕ) × (more : List ℕ) × (x < 256) × (path ≡ bytes ++ x ∷ more) × (drop at word ≡ spelled_byte x ++ path_word more)
next_of word bytes at path [] within are whole ahead =
    let left = length-drop at word in
    let none = ap length (ahead ∙ path_word_none) in
    absurd (omega arith)
next_of word bytes at path (x ∷ more) within are whole ahead =
    let P : List ℕ → Type 0 = λ l. AreBytes l in
    let small = All-contains (λ z. z < 256) (bytes ++ x ∷ more) x (subst P whole are) (Contains-append_right bytes (x ∷ more) x (0, omega arith, refl)) in
    (x, more, small, whole, ahead ∙ path_word_first x more)

-- the byte that the path has at a place, before the end of the word
pub front_next : (word bytes : List ℕ) (at : ℕ) (path : List ℕ) → at < length word → AreBytes path → IsFront word bytes at path
    → (x : ℕ) × (more : List ℕ) × (x < 256) × (path ≡ bytes ++ x ∷ more) × (drop at word ≡ spelled_byte x ++ path_word more)
front_next word bytes at path within are front = next_of word bytes at path front.rest within are front.whole front.ahead

-- one byte more was read
pub front_more : (word bytes : List ℕ) (at count : ℕ) (path : List ℕ) (x : ℕ) (more : List ℕ) → path ≡ bytes ++ x ∷ more → drop (at + count) word ≡ path_word more
    → IsFront word (bytes ++ x ∷ []) (at + count) path
front_more word bytes at count path x more whole ahead = record {
  rest = more;
  whole = whole ∙ sym (append_assoc bytes (x ∷ []) more);
  ahead = ahead;
}

pub front_end : (word bytes : List ℕ) (at : ℕ) (path : List ℕ) → length word ≤ at → IsFront word bytes at path → path ≡ bytes
front_end word bytes at path ended front =
    let none : drop at word ≡ [] = drop_all at word ended in
    let rest = path_none front.rest (sym none ∙ front.ahead) in
    front.whole ∙ ap (λ (l : List ℕ). bytes ++ l) rest ∙ append-nil bytes

-- the word so far, with the spelling of one byte more
pub word_more : (word bytes : List ℕ) (at count x : ℕ) → word ≡ path_word bytes ++ drop at word → drop at word ≡ spelled_byte x ++ drop count (drop at word)
    → word ≡ path_word (bytes ++ x ∷ []) ++ drop (at + count) word
word_more word bytes at count x front next =
    let further : drop count (drop at word) ≡ drop (at + count) word = drop-drop count at word in
    front ∙ ap (λ (l : List ℕ). path_word bytes ++ l) (next ∙ ap (λ (l : List ℕ). spelled_byte x ++ l) further)
    ∙ sym (append_assoc (path_word bytes) (spelled_byte x) (drop (at + count) word))
    ∙ ap (λ (l : List ℕ). l ++ drop (at + count) word) (sym (path_word_last bytes x))

pub nonempty : (word : List ℕ) → (length word == 0) ≡ false → 0 < length word
nonempty [] is = cc is
nonempty (x ∷ word) is = omega arith

-- ---- the characters of a path's word

lower_high : (y : ℕ) → IsLowerDigit y → 33 ≤ y
lower_high y (inl h) = omega arith
lower_high y (inr h) = omega arith

spelled_high : (x : ℕ) (b : Bool) → x < 256 → is_plain x ≡ b → All (λ y. 33 ≤ y) (spelled_byte x)
spelled_high x true small plain = rw (plain_is x plain) (All-cons (λ y. 33 ≤ y) x [] (grind (arith, nat_tests)) (All-nil (λ y. 33 ≤ y)))
spelled_high x false small escaped =
    let digits = All-weaker IsLowerDigit (λ y. 33 ≤ y) lower_high (encode_lower (x ∷ [])) (encode_is_lower (x ∷ []) (one_byte x small)) in
    rw (escaped_is x escaped)
    (All-cons (λ y. 33 ≤ y) 92 (120 ∷ encode_lower (x ∷ [])) (omega arith) (All-cons (λ y. 33 ≤ y) 120 (encode_lower (x ∷ [])) (omega arith) digits))

pub path_word_high : (path : List ℕ) → AreBytes path → All (λ y. 33 ≤ y) (path_word path)
path_word_high [] are = rw path_word_none (All-nil (λ y. 33 ≤ y))
path_word_high (x ∷ path) are =
    rw (path_word_first x path)
    (All-append (λ y. 33 ≤ y) (spelled_byte x) (path_word path)
    (spelled_high x (is_plain x) (All-head (λ z. z < 256) x path are) refl) (path_word_high path (All-tail (λ z. z < 256) x path are)))
