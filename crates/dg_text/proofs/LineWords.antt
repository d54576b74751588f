-- The words of a line: they make it up, and a text without a space is one word.
use Rattle.std.proofs.Common.{◌≡◌, ◌≢◌, ◌<◌, ◌==◌, Bool, true, false, ℕ, zero, suc, List, [], ◌∷◌, ◌++◌, length, take, refl, sym, ◌∙◌, ap, subst, arith}
use Rattle.std.specs.Prelude.{All, Contains, IsTrue}
use Rattle.std.proofs.lemmas.Bool.{eqb-true}
use Rattle.std.proofs.lemmas.Bool.Decides.{nat_tests}
use Rattle.std.proofs.lemmas.List.Elements.{All-nil, All-cons, All-head, All-tail, All-append}
use Rattle.dg_text.specs.Refusals.{IsNumberWord, in_front, words}
use Rattle.dg_text.proofs.Cuts.{Lacks}

-- words with a space between each two
abbrev pub joined : List (List ℕ) → List ℕ
joined [] = []
joined (word ∷ []) = word
joined (word ∷ next ∷ more) = word ++ 32 ∷ joined (next ∷ more)

pub joined_lacks : (c : ℕ) (ws : List (List ℕ)) → 32 ≢ c → All (Lacks c) ws → Lacks c (joined ws)
joined_lacks c [] other lacks = All-nil (λ x. x ≢ c)
joined_lacks c (word ∷ []) other lacks = All-head (Lacks c) word [] lacks
joined_lacks c (word ∷ next ∷ more) other lacks =
    let rest = joined_lacks c (next ∷ more) other (All-tail (Lacks c) word (next ∷ more) lacks) in
    All-append (λ x. x ≢ c) word (32 ∷ joined (next ∷ more)) (All-head (Lacks c) word (next ∷ more) lacks) (All-cons (λ x. x ≢ c) 32 (joined (next ∷ more)) other rest)

words_none : words [] ≡ [] ∷ []
unfolding words
words_none = refl

words_space : (line : List ℕ) → words (32 ∷ line) ≡ [] ∷ words line
unfolding words
words_space line = refl

words_letter : (c : ℕ) (line : List ℕ) → (c == 32) ≡ false → words (c ∷ line) ≡ in_front c (words line)
unfolding words
words_letter c line is = rw is refl

not_space : (c : ℕ) → c ≢ 32 → (c == 32) ≡ false
not_space c other = grind (arith, nat_tests)

-- a text without a space is one word
pub words_whole : (word : List ℕ) → Lacks 32 word → words word ≡ word ∷ []
words_whole [] lacks = words_none
words_whole (c ∷ word) lacks =
    words_letter c word (not_space c (All-head (λ z. z ≢ 32) c word lacks))
    ∙ ap (λ (l : List (List ℕ)). in_front c l) (words_whole word (All-tail (λ z. z ≢ 32) c word lacks))

-- a text is cut into words at its first space
pub words_cut : (word rest : List ℕ) → Lacks 32 word → words (word ++ 32 ∷ rest) ≡ word ∷ words rest
words_cut [] rest lacks = words_space rest
words_cut (c ∷ word) rest lacks =
    words_letter c (word ++ 32 ∷ rest) (not_space c (All-head (λ z. z ≢ 32) c word lacks))
    ∙ ap (λ (l : List (List ℕ)). in_front c l) (words_cut word rest (All-tail (λ z. z ≢ 32) c word lacks))

-- and words put together are these words
pub words_joined : (word : List ℕ) (more : List (List ℕ)) → All (Lacks 32) (word ∷ more) → words (joined (word ∷ more)) ≡ word ∷ more
words_joined word [] lacks = words_whole word (All-head (Lacks 32) word [] lacks)
words_joined word (next ∷ more) lacks =
    words_cut word (joined (next ∷ more)) (All-head (Lacks 32) word (next ∷ more) lacks)
    ∙ ap (λ (l : List (List ℕ)). word ∷ l) (words_joined next more (All-tail (Lacks 32) word (next ∷ more) lacks))

some_front : (c : ℕ) (ws : List (List ℕ)) → 0 < length (in_front c ws)
some_front c [] = omega arith
some_front c (word ∷ more) = omega arith

some_step : (c : ℕ) (line : List ℕ) (b : Bool) → (c == 32) ≡ b → 0 < length (words (c ∷ line))
some_step c line true is =
    let e : words (c ∷ line) ≡ [] ∷ words line = ap (λ (x : ℕ). words (x ∷ line)) (eqb-true c 32 is) ∙ words_space line in
    rw e (omega arith)
some_step c line false is = rw (words_letter c line is) (some_front c (words line))

empty_behind : (word : List ℕ) (later : List (List ℕ)) → 0 < length word → Contains (word ∷ later) [] → Contains later []
empty_behind [] later some has = absurd (omega arith)
empty_behind (c ∷ word) later some (zero, lt, e) = absurd (cc e)
empty_behind (c ∷ word) later some (suc k, lt, e) = (k, omega arith, e)

empty_later : (word : List ℕ) (later : List (List ℕ)) → Contains later [] → Contains (word ∷ later) []
empty_later word later (k, lt, e) = (suc k, omega arith, e)

-- a line has a word
pub words_some : (line : List ℕ) → 0 < length (words line)
words_some [] = rw words_none (omega arith)
words_some (c ∷ line) = some_step c line (c == 32) refl

joined_front : (c : ℕ) (ws : List (List ℕ)) → 0 < length ws → joined (in_front c ws) ≡ c ∷ joined ws
joined_front c [] some = absurd (omega arith)
joined_front c (word ∷ []) some = refl
joined_front c (word ∷ next ∷ more) some = refl

joined_space : (ws : List (List ℕ)) → 0 < length ws → joined ([] ∷ ws) ≡ 32 ∷ joined ws
joined_space [] some = absurd (omega arith)
joined_space (word ∷ more) some = refl

joined_step : (c : ℕ) (line : List ℕ) (b : Bool) → (c == 32) ≡ b → joined (words line) ≡ line → joined (words (c ∷ line)) ≡ c ∷ line
joined_step c line true is more =
    let e : c ≡ 32 = eqb-true c 32 is in
    let begins : words (c ∷ line) ≡ [] ∷ words line = ap (λ (x : ℕ). words (x ∷ line)) e ∙ words_space line in
    ap joined begins ∙ joined_space (words line) (words_some line) ∙ ap (λ (l : List ℕ). 32 ∷ l) more ∙ ap (λ (x : ℕ). x ∷ line) (sym e)
joined_step c line false is more =
    ap joined (words_letter c line is) ∙ joined_front c (words line) (words_some line) ∙ ap (λ (l : List ℕ). c ∷ l) more

-- the words of a line make it up
pub joined_words : (line : List ℕ) → joined (words line) ≡ line
joined_words [] = ap joined words_none
joined_words (c ∷ line) = joined_step c line (c == 32) refl (joined_words line)

-- one word more, which isn't empty
pub one_more : (ws later : List (List ℕ)) (word : List ℕ) (count less : ℕ) (r : Bool) → ws ≡ word ∷ later → 0 < length word → count ≡ suc less
    → (IsTrue r → (length later ≡ less) × (Contains later [] → ⊥)) → ((length later ≡ less) × (Contains later [] → ⊥) → IsTrue r)
    → (IsTrue r → (length ws ≡ count) × (Contains ws [] → ⊥)) × ((length ws ≡ count) × (Contains ws [] → ⊥) → IsTrue r)
one_more ws later word count less r is some more to from =
    let size : length ws ≡ suc (length later) = ap length is in (
      λ yes. let h = to yes in (omega (arith, h.0), λ has. h.1 (empty_behind word later some (subst (λ l. Contains l []) is has))),
      λ h. from (omega (arith, h.0), λ has. h.1 (subst (λ l. Contains l []) (sym is) (empty_later word later has))),
    )

-- lines with the same words are one
pub words_same : (one other : List ℕ) → words one ≡ words other → one ≡ other
words_same one other e = sym (joined_words one) ∙ ap joined e ∙ joined_words other

-- numbers, one more
pub number_more : (ws later : List (List ℕ)) (word : List ℕ) (count less : ℕ) (r : Bool) → ws ≡ word ∷ later → IsNumberWord word → count ≡ suc less
    → (IsTrue r → All IsNumberWord (take less later)) → (All IsNumberWord (take less later) → IsTrue r)
    → (IsTrue r → All IsNumberWord (take count ws)) × (All IsNumberWord (take count ws) → IsTrue r)
number_more ws later word count less r is number size to from =
    let front : take count ws ≡ word ∷ take less later = λ i. take (size i) (is i) in (
      λ yes. subst (All IsNumberWord) (sym front) (All-cons IsNumberWord word (take less later) number (to yes)),
      λ all. from (All-tail IsNumberWord word (take less later) (subst (All IsNumberWord) front all)),
    )
