use Rattle.std.proofs.Common.{◌≡◌, ◌∷◌, ◌++◌, [], ◌∙◌, ℕ, List, length, refl, sym, ap, subst, Bor, arith}
use Rattle.std.specs.Prelude.{Option, Some, None, IfSome, IfNone, MatchOption}
use Rattle.std.specs.Option.{option_copied}
use Rattle.std.proofs.lemmas.Result.{IfOk-weaker}
use Rattle.dg_model.specs.declared.shapes.Shape.{Shape}
use Rattle.dg_model.specs.declared.events.Event.{Event}
use Rattle.dg_text.specs.Lines.{IsInPlace, spelling}
use Rattle.dg_text.specs.Refusals.{IsEventOf, count_of, word_of, words, words_behind}
use Rattle.dg_text.specs.Texts.{IsEventWith, event_kind}
use Rattle.dg_text.specs.declared.kinds.EventKind.{EventKind}
use Rattle.dg_text.proofs.EventWords.{begins_of, later_of, later_some, right_event, text_is}
use Rattle.dg_text.proofs.KindWords.{kind_same}
use Rattle.dg_text.proofs.LineWords.{words_some}
use Rattle.dg_text.proofs.lines.event_of.Goals as goal

-- the first word of a line that spells an event
first_is : (shape : Option Shape) (line first : List ℕ) (later : List (List ℕ)) (event : Event) → words line ≡ first ∷ later → IsInPlace shape event → line ≡ spelling event
    → (first ≡ word_of (event_kind event)) × (later ≡ later_of event)
first_is shape line first later event split place is =
    let own = begins_of shape line event place is in
    let both : first ∷ later ≡ word_of (event_kind event) ∷ later_of event = sym split ∙ own.split in
    (cc both, cc both)

-- what the text behind the first word spells, the line does
with_text : (shape : Option Shape) (line first text : List ℕ) (kind : EventKind) (r : Option Event) → line ≡ first ++ 32 ∷ text → words line ≡ first ∷ words text → first ≡ word_of kind
    → IsEventWith shape kind text r → IsEventOf shape line r
with_text shape line first text kind (Some event) whole split word found = (found.0, whole ∙ ap (λ (w : List ℕ). w ++ 32 ∷ text) word ∙ found.1)
with_text shape line first text kind None whole split word none =
    λ event place is. none (text_is shape line event kind text place is (split ∙ ap (λ (w : List ℕ). w ∷ words text) word) (words_some text))

-- and a first word alone
with_word : (shape : Shape) (line first : List ℕ) (kind : EventKind) (r : Option Event) → line ≡ first → words line ≡ first ∷ [] → first ≡ word_of kind
    → IfSome r (λ event. IsInPlace (Some shape) event × (word_of kind ≡ spelling event)) → IfNone r (count_of kind ≡ 0 → ⊥) → IsEventOf (Some shape) line r
with_word shape line first kind (Some event) whole split word found none = (found.0, whole ∙ word ∙ found.1)
with_word shape line first kind None whole split word found none = λ event place is.
    let own = first_is (Some shape) line first [] event split place is in
    let same = kind_same kind (event_kind event) (sym word ∙ own.0) in
    let right = right_event (Some shape) event place in
    none (ap count_of same ∙ sym right.count ∙ sym (ap length own.1))

-- before the array no event stands as its first word alone
no_first : (line first : List ℕ) → words line ≡ first ∷ [] → IsEventOf None line None
no_first line first split event place is =
    let own = first_is None line first [] event split place is in
    absurd (omega (arith, later_some event place, ap length own.1))

module _ {B : Type 0} (now : B → List ℕ) where
  with_first : (line first : List ℕ) (later : List (List ℕ)) (rest : Option B) (kind : EventKind) (r : Option Event) → words line ≡ first ∷ later
      → (rest ≡ None → later ≡ []) → ((b : B) → rest ≡ Some b → later ≡ words (now b)) → first ≡ word_of kind → MatchOption rest (line ≡ first) (λ (b : B). line ≡ first ++ 32 ∷ now b)
      → MatchOption rest (r ≡ None) (λ (b : B). IsEventWith None kind (now b) r) → IsEventOf None line r
  with_first line first later (Some b) kind r split none behind word whole found =
      with_text None line first (now b) kind r whole (split ∙ ap (λ (ws : List (List ℕ)). first ∷ ws) (behind b refl)) word found
  with_first line first later None kind r split none behind word whole found =
      let P : Option Event → Type 0 = λ s. IsEventOf None line s in
      subst P (sym found) (no_first line first (split ∙ ap (λ (ws : List (List ℕ)). first ∷ ws) (none refl)))

pub returns-in_default : goal.returns-in_default
returns-in_default c = λ event place is.
    let own = first_is (option_copied c.args.shape) c.args.line.now c.cut_word.result.0.now (words_behind (option_copied c.cut_word.result.1)) event c.cut_word.ensures.words place is in
    cc (c.kind_with.ensures.exact (event_kind event) own.0, c.in_default.is)

pub returns-in-Some-rest : goal.returns-in-Some-rest
returns-in-Some-rest c =
    let shape = c.in-Some-shape.shape.now in
    let text = c.in-Some-rest.text.now in
    let line = c.args.line.now in
    let whole : line ≡ c.cut_word.result.0.now ++ 32 ∷ text = rw c.in-Some-rest.is at c.cut_word.ensures.text in
    let split : words line ≡ c.cut_word.result.0.now ∷ words text = rw c.in-Some-rest.is at c.cut_word.ensures.words in
    let word : c.cut_word.result.0.now ≡ word_of c.in-Some.kind = rw c.in-Some.is at c.kind_with.ensures.found in
    rw c.in-Some-shape.is
    (IfOk-weaker c.event_with.result (IsEventWith (Some shape) c.in-Some.kind text) (IsEventOf (Some shape) line)
    (λ r h. with_text (Some shape) line c.cut_word.result.0.now text c.in-Some.kind r whole split word h) c.event_with.ensures)

pub returns-in-None : goal.returns-in-None
returns-in-None c =
    let shape = c.in-Some-shape.shape.now in
    let line = c.args.line.now in
    let whole : line ≡ c.cut_word.result.0.now = rw c.in-None.is at c.cut_word.ensures.text in
    let split : words line ≡ c.cut_word.result.0.now ∷ [] = rw c.in-None.is at c.cut_word.ensures.words in
    let word : c.cut_word.result.0.now ≡ word_of c.in-Some.kind = rw c.in-Some.is at c.kind_with.ensures.found in
    rw c.in-Some-shape.is
    (with_word shape line c.cut_word.result.0.now c.in-Some.kind c.bare_event.result whole split word (c.bare_event.ensures.found shape) c.bare_event.ensures.none)

pub returns-in_default-shape : goal.returns-in_default-shape
returns-in_default-shape c =
    let rest = c.cut_word.result.1 in
    let word : c.cut_word.result.0.now ≡ word_of c.in-Some.kind = rw c.in-Some.is at c.kind_with.ensures.found in
    rw c.in_default-shape.is
    (with_first (λ (text : Bor (List ℕ)). text.now) c.args.line.now c.cut_word.result.0.now (words_behind (option_copied rest)) rest c.in-Some.kind c.first_event.result c.cut_word.ensures.words
    (λ none. ap (λ (r : Option (Bor (List ℕ))). words_behind (option_copied r)) none)
    (λ text some. ap (λ (r : Option (Bor (List ℕ))). words_behind (option_copied r)) some) word c.cut_word.ensures.text c.first_event.ensures)
