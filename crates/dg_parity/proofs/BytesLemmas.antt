-- Bytes by their places, after a write, a torn write and a read.
use Rattle.std.proofs.Common.{◌≡◌, ℕ, ◌+◌, ◌-◌, ◌<◌, ◌≤◌, inl, inr, Bool, true, false, List, ◌++◌, length, take, drop, get_or, sym, ap, ◌∙◌, arith, length-append, length-drop}
use Rattle.std.specs.Prelude.{slice_index, nat_le, nat_lt, ◌&&◌}
use Rattle.std.proofs.lemmas.List.{get_or-take, get_or-drop, get_or_append_left, get_or-append_right, length-take-le}
use Rattle.std.proofs.lemmas.Bool.{cases_lt}
use Rattle.std.proofs.lemmas.Bool.Decides.{nat_tests}
use Rattle.dg_io.specs.Told.{patch, Torn, Reads}

-- a place inside a piece
abbrev pub is_inside : ℕ → ℕ → ℕ → Bool
is_inside place n x = nat_le place x && nat_lt x (place + n)

pub inside-true : (place n x : ℕ) → place ≤ x → x < place + n → is_inside place n x ≡ true
inside-true place n x a b = grind (arith, nat_tests)

pub inside-before : (place n x : ℕ) → x < place → is_inside place n x ≡ false
inside-before place n x a = grind (arith, nat_tests)

pub inside-behind : (place n x : ℕ) → place + n ≤ x → is_inside place n x ≡ false
inside-behind place n x a = grind (arith, nat_tests)

-- where a place is
pub data Place (place n x : ℕ) : Type 0 where
  Before : x < place → Place place n x
  Inside : place ≤ x → x < place + n → Place place n x
  Behind : place + n ≤ x → Place place n x

pub place_is : (place n x : ℕ) → Place place n x
place_is place n x = elim (cases_lt x place) [
  | inl lt ↦ Before lt
  | inr le ↦ elim (cases_lt x (place + n)) [ inl lt ↦ Inside le lt | inr past ↦ Behind past ]
]

pub patch-inside : (bytes piece : List ℕ) (place x : ℕ) → place ≤ length bytes → place ≤ x → x < place + length piece
    → slice_index (patch bytes place piece) x ≡ slice_index piece (x - place)
patch-inside bytes piece place x fits low high =
    let front : length (take place bytes) ≡ place = length-take-le place bytes fits in
    let both : x < length (take place bytes ++ piece) = omega (arith, length-append (take place bytes) piece) in
    get_or_append_left (take place bytes ++ piece) (drop (place + length piece) bytes) 0 x both
    ∙ get_or-append_right (take place bytes) piece place x 0 front low

pub patch-before : (bytes piece : List ℕ) (place x : ℕ) → place ≤ length bytes → x < place
    → slice_index (patch bytes place piece) x ≡ slice_index bytes x
patch-before bytes piece place x fits low =
    let front : length (take place bytes) ≡ place = length-take-le place bytes fits in
    let both : x < length (take place bytes ++ piece) = omega (arith, length-append (take place bytes) piece) in
    get_or_append_left (take place bytes ++ piece) (drop (place + length piece) bytes) 0 x both
    ∙ get_or_append_left (take place bytes) piece 0 x (omega arith) ∙ get_or-take place bytes x 0 low

pub patch-behind : (bytes piece : List ℕ) (place x : ℕ) → place ≤ length bytes → place + length piece ≤ x
    → slice_index (patch bytes place piece) x ≡ slice_index bytes x
patch-behind bytes piece place x fits high =
    let front : length (take place bytes) ≡ place = length-take-le place bytes fits in
    let both : length (take place bytes ++ piece) ≡ place + length piece = omega (arith, length-append (take place bytes) piece) in
    get_or-append_right (take place bytes ++ piece) (drop (place + length piece) bytes) (place + length piece) x 0 both high
    ∙ get_or-drop (place + length piece) bytes (x - (place + length piece)) 0
    ∙ ap (λ (k : ℕ). get_or bytes k 0) (omega arith)

pub patch-length : (bytes piece : List ℕ) (place : ℕ) → place + length piece ≤ length bytes → length (patch bytes place piece) ≡ length bytes
patch-length bytes piece place fits =
    let front : length (take place bytes) ≡ place = length-take-le place bytes (omega arith) in
    omega (arith, length-append (take place bytes ++ piece) (drop (place + length piece) bytes), length-append (take place bytes) piece, length-drop (place + length piece) bytes)

pub torn-before : (before after : List ℕ) (place n x : ℕ) → Torn place n before after → x < place → slice_index after x ≡ slice_index before x
torn-before before after place n x h lt =
    sym (get_or-take place after x 0 lt) ∙ ap (λ (l : List ℕ). get_or l x 0) h.front ∙ get_or-take place before x 0 lt

pub torn-behind : (before after : List ℕ) (place n x : ℕ) → Torn place n before after → place + n ≤ x → slice_index after x ≡ slice_index before x
torn-behind before after place n x h le =
    let e : place + n + (x - (place + n)) ≡ x = omega arith in
    ap (λ (k : ℕ). get_or after k 0) (sym e) ∙ sym (get_or-drop (place + n) after (x - (place + n)) 0)
    ∙ ap (λ (l : List ℕ). get_or l (x - (place + n)) 0) h.back
    ∙ get_or-drop (place + n) before (x - (place + n)) 0 ∙ ap (λ (k : ℕ). get_or before k 0) e

pub reads-at : (place k : ℕ) (piece before after : List ℕ) → Reads place piece before after → k < length piece → slice_index piece k ≡ slice_index before (place + k)
reads-at place k piece before after h lt =
    ap (λ (l : List ℕ). get_or l k 0) h.there ∙ get_or-take (place + length piece - place) (drop place before) k 0 (omega arith)
    ∙ get_or-drop place before k 0
