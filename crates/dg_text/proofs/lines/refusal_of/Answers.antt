use Rattle.std.proofs.Common.{◌≡◌, ◌≢◌, ◌⊎◌, ◌∷◌, ◌∙◌, Bool, ℕ, List, [], length, take, true, false, sym, ap, subst}
use Rattle.std.specs.Prelude.{All, Contains, IsTrue, Option}
use Rattle.std.specs.Option.{option_copied}
use Rattle.dg_model.specs.declared.shapes.Shape.{Shape}
use Rattle.dg_text.specs.Refusals.{Begins, IsNumberWord, IsOutOfOrder, count_of, numbers_of, word_of, words, words_behind}
use Rattle.dg_text.specs.declared.kinds.EventKind.{EventKind}
use Rattle.dg_text.proofs.Decisions.{wrong_form}
use Rattle.dg_text.proofs.Reasons.{IsFormed, by_order, by_form, by_number, left_limits, left_hex, left_path}
use Rattle.dg_text.proofs.lines.refusal_of.Goals as goal
use Rattle.dg_text.proofs.lines.refusal_of.Goals.{After-tail}

-- the line begins with this event's first word
abbrev begins : (line first : List ℕ) (later : List (List ℕ)) (kind : EventKind) → words line ≡ first ∷ later → first ≡ word_of kind → Begins line
begins line first later kind split word = record { kind = kind; later = later; split = split ∙ ap (λ (w : List ℕ). w ∷ later) word }

fails : (P : Type 0) (r : Bool) → (P → IsTrue r) → r ≡ false → P → ⊥
fails P r from is holds =
    let yes : r ≡ true = from holds in
    cc (yes, is)

-- the words are as many as they should be
formed : (shape : Option Shape) (line : List ℕ) (b : Begins line) (r s : Bool) (count : ℕ) → (IsOutOfOrder shape b.kind → IsTrue r) → r ≡ false → count ≡ count_of b.kind
    → (IsTrue s → (length b.later ≡ count) × (Contains b.later [] → ⊥)) → s ≡ true → IsFormed shape line b
formed shape line b r s count out in_order size has is =
    let h = has is in
    record { order = fails (IsOutOfOrder shape b.kind) r out in_order; count = h.0 ∙ size; filled = h.1 }

pub returns-then-is_out_of_order : goal.returns-then-is_out_of_order
returns-then-is_out_of_order c =
    let b = begins c.args.line.now c.cut_word.result.0.now (words_behind (option_copied c.cut_word.result.1)) c.in-Some.kind c.cut_word.ensures.words (rw c.in-Some.is at c.kind_with.ensures.found) in
    by_order (option_copied c.args.shape) c.args.line.now b (c.is_out_of_order.ensures.0 c.if-is_out_of_order.true)

pub returns-then-not-has_words : goal.returns-then-not-has_words
returns-then-not-has_words c =
    let later = words_behind (option_copied c.cut_word.result.1) in
    let b = begins c.args.line.now c.cut_word.result.0.now later c.in-Some.kind c.cut_word.ensures.words (rw c.in-Some.is at c.kind_with.ensures.found) in
    let wrong : (length later ≢ count_of c.in-Some.kind) ⊎ Contains later [] =
    subst (λ n. (length later ≢ n) ⊎ Contains later []) c.words.ensures (wrong_form later c.words.result c.has_words.result c.has_words.ensures.1 c.if-not-has_words.true) in
    by_form (option_copied c.args.shape) c.args.line.now b
    (fails (IsOutOfOrder (option_copied c.args.shape) c.in-Some.kind) c.is_out_of_order.result c.is_out_of_order.ensures.1 c.if-is_out_of_order.false) wrong

pub returns-then-not-begins_with_numbers : goal.returns-then-not-begins_with_numbers
returns-then-not-begins_with_numbers c =
    let shape = option_copied c.args.shape in
    let line = c.args.line.now in
    let later = words_behind (option_copied c.cut_word.result.1) in
    let b = begins line c.cut_word.result.0.now later c.in-Some.kind c.cut_word.ensures.words (rw c.in-Some.is at c.kind_with.ensures.found) in
    let form = formed shape line b c.is_out_of_order.result c.has_words.result c.words.result c.is_out_of_order.ensures.1 c.if-is_out_of_order.false c.words.ensures
    c.has_words.ensures.0 c.if-not-has_words.false in
    let wrong = fails (All IsNumberWord (take c.numbers.result later)) c.begins_with_numbers.result c.begins_with_numbers.ensures.1 c.if-not-begins_with_numbers.true in
    by_number shape line b form (subst (λ n. All IsNumberWord (take n later) → ⊥) c.numbers.ensures wrong)

-- ---- where only what stands behind the numbers can be wrong

abbrev start : (c : After-tail) → Begins c.args.line.now
start c = begins c.args.line.now c.cut_word.result.0.now (words_behind (option_copied c.cut_word.result.1)) c.in-Some.kind c.cut_word.ensures.words (rw c.in-Some.is at c.kind_with.ensures.found)

form : (c : After-tail) → IsFormed (option_copied c.args.shape) c.args.line.now (start c)
form c =
    formed (option_copied c.args.shape) c.args.line.now (start c) c.is_out_of_order.result c.has_words.result c.words.result c.is_out_of_order.ensures.1 c.if-is_out_of_order.false c.words.ensures
    c.has_words.ensures.0 c.if-not-has_words.false

numbers : (c : After-tail) → All IsNumberWord (take (numbers_of c.in-Some.kind) (words_behind (option_copied c.cut_word.result.1)))
numbers c =
    subst (λ n. All IsNumberWord (take n (words_behind (option_copied c.cut_word.result.1)))) c.numbers.ensures (c.begins_with_numbers.ensures.0 c.if-not-begins_with_numbers.false)

pub returns-in-Nothing : goal.returns-in-Nothing
returns-in-Nothing c =
    let l = (goal.at.returns-in-Nothing c).After-tail in
    left_limits (option_copied c.args.shape) c.args.line.now (start l) (form l) (numbers l) c.requires (sym c.tail.ensures ∙ c.in-Nothing.is)

pub returns-in-Bytes : goal.returns-in-Bytes
returns-in-Bytes c =
    let l = (goal.at.returns-in-Bytes c).After-tail in
    left_hex (option_copied c.args.shape) c.args.line.now (start l) (form l) (numbers l) c.requires (sym c.tail.ensures ∙ c.in-Bytes.is)

pub returns-in-Path : goal.returns-in-Path
returns-in-Path c =
    let l = (goal.at.returns-in-Path c).After-tail in
    left_path (option_copied c.args.shape) c.args.line.now (start l) (form l) (numbers l) c.requires (sym c.tail.ensures ∙ c.in-Path.is)
