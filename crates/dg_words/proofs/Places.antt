-- A parse by `clap` in which each word is the value of the next positional.
use Rattle.std.proofs.Common.{◌≡◌, ◌∙◌, ◌&&◌, ◌||◌, ℕ, Bool, List, [], ◌∷◌, true, false, refl, sym, ap, ap₂, subst, Option, None}
use Rattle.std.specs.Prelude.{fold, option_and_then}
use Rattle.std.proofs.lemmas.Bool.{true≢false}
use Rattle.std.specs.Str.{bytes_eq}
use Rattle.clap.specs.Lexer.{strip_byte, long_of, long_of_rest, short_of, short_of_rest}
use Rattle.clap.specs.Simple.{Shape}
use Rattle.clap.specs.Takes.{step_passes, turn_passes, walk_passes, word_passes}
use Rattle.clap.specs.Walk.{Held, Rule, Step, Text, Walk, idle, value, after_step, arg_by_index, to_positional, walked, word_met}
use Rattle.dg_words.specs.Values.{any_has_hyphen, has_hyphen}

-- no word begins with `-`
abbrev pub AllPlain : List Text → Type 0
AllPlain [] = Unit {0}
AllPlain (word ∷ words) = (has_hyphen word ≡ false) × AllPlain words

neither : (a b : Bool) → a || b ≡ false → (a ≡ false) × (b ≡ false)
neither false b h = (refl, h)
neither true b h = absurd (true≢false h)

pub all_plain : (words : List Text) → any_has_hyphen words ≡ false → AllPlain words
all_plain [] h = tt
all_plain (word ∷ words) h =
    let both = neither (has_hyphen word) (any_has_hyphen words) h in
    (both.0, all_plain words both.1)

no_dashes : (word : Text) → has_hyphen word ≡ false → bytes_eq word (45 ∷ 45 ∷ []) ≡ false
no_dashes [] h = refl
no_dashes (c ∷ rest) h = rw h refl

no_hyphen : (word : Text) → has_hyphen word ≡ false → strip_byte 45 word ≡ None
no_hyphen [] h = refl
no_hyphen (c ∷ rest) h = rw h refl

no_long : (word : Text) → has_hyphen word ≡ false → long_of word ≡ None
no_long word h = ap (λ (s : Option Text). option_and_then long_of_rest (option_and_then (strip_byte 45) s)) (no_hyphen word h)

no_short : (word : Text) → has_hyphen word ≡ false → short_of word ≡ None
no_short word h = ap (option_and_then short_of_rest) (no_hyphen word h)

-- a walk that waits for a value of the positional of this place
abbrev pub waits_at : Held → ℕ → Walk
waits_at h p = record { held = h; waiting = idle; position = p; is_trailing = false; stopped = None }

-- it took the word as that value
abbrev pub placed : List Rule → Walk → Text → Walk
placed rules w word = to_positional rules (arg_by_index rules w.position) word w w.held

abbrev pub all_placed : List Rule → Walk → List Text → Walk
all_placed rules w [] = w
all_placed rules w (word ∷ words) = all_placed rules (placed rules w word) words

-- at each word it waits for the value of a positional
abbrev pub WaitsAtEach : List Rule → Walk → List Text → Type 0
WaitsAtEach rules w [] = Unit {0}
WaitsAtEach rules w (word ∷ words) = (w ≡ waits_at w.held w.position) × WaitsAtEach rules (placed rules w word) words

abbrev pub each_passes : Shape → Walk → List Text → Bool
each_passes s w [] = true
each_passes s w (word ∷ words) = step_passes s w.position w.held value && each_passes s (placed s.rules w word) words

word_is_value : (rules : List Rule) (h : Held) (p : ℕ) (word : Text) → has_hyphen word ≡ false → word_met rules [] false idle p word h ≡ (h, value)
word_is_value rules h p word h0 = rw (no_dashes word h0, no_long word h0, no_short word h0) refl

turn_at : (rules : List Rule) (h : Held) (p : ℕ) (word : Text) → has_hyphen word ≡ false → walked rules [] (waits_at h p) word ≡ placed rules (waits_at h p) word
unfolding walked
turn_at rules h p word h0 = ap (λ (m : Held × Step). after_step rules word (waits_at h p) m.0 m.1) (word_is_value rules h p word h0)

turn : (rules : List Rule) (w : Walk) (word : Text) → has_hyphen word ≡ false → w ≡ waits_at w.held w.position → walked rules [] w word ≡ placed rules w word
turn rules w word h0 is = subst (λ (v : Walk). walked rules [] v word ≡ placed rules v word) (sym is) (turn_at rules w.held w.position word h0)

word_is_let_pass : (s : Shape) (h : Held) (word : Text) → has_hyphen word ≡ false → word_passes s [] false idle word h ≡ true
word_is_let_pass s h word h0 = rw (no_dashes word h0, no_long word h0, no_short word h0) refl

turn_passes_at : (s : Shape) (h : Held) (p : ℕ) (word : Text) → has_hyphen word ≡ false → turn_passes s [] (waits_at h p) word ≡ step_passes s p h value
turn_passes_at s h p word h0 =
    ap₂ (λ (a : Bool) (m : Held × Step). a && step_passes s p m.0 m.1) (word_is_let_pass s h word h0) (word_is_value s.rules h p word h0)

turn_does_pass : (s : Shape) (w : Walk) (word : Text) → has_hyphen word ≡ false → w ≡ waits_at w.held w.position → turn_passes s [] w word ≡ step_passes s w.position w.held value
turn_does_pass s w word h0 is = subst (λ (v : Walk). turn_passes s [] v word ≡ step_passes s v.position v.held value) (sym is) (turn_passes_at s w.held w.position word h0)

-- a walk over words none of which begins with `-`
pub walk_places : (rules : List Rule) (w : Walk) (words : List Text) → AllPlain words → WaitsAtEach rules w words → fold (walked rules []) w words ≡ all_placed rules w words
walk_places rules w [] h0 waits = refl
walk_places rules w (word ∷ words) h0 waits =
    ap (λ (v : Walk). fold (walked rules []) v words) (turn rules w word h0.0 waits.0) ∙ walk_places rules (placed rules w word) words h0.1 waits.1

pub walk_does_pass : (s : Shape) (w : Walk) (words : List Text) → AllPlain words → WaitsAtEach s.rules w words → walk_passes s [] w words ≡ each_passes s w words
unfolding walk_passes
walk_does_pass s w [] h0 waits = refl
walk_does_pass s w (word ∷ words) h0 waits =
    ap₂ (λ (a : Bool) (v : Walk). a && walk_passes s [] v words) (turn_does_pass s w word h0.0 waits.0) (turn s.rules w word h0.0 waits.0)
    ∙ ap (λ (b : Bool). step_passes s w.position w.held value && b) (walk_does_pass s (placed s.rules w word) words h0.1 waits.1)
