use Rattle.std.proofs.Common.{◌≡◌, ◌∙◌, ◌++◌, ◌∷◌, [], ℕ, List, ap, arith, map}
use Rattle.std.specs.Prelude.{codes, string_bytes}
use Rattle.dg_uses.proofs.BlankRows.{words_are}
use Rattle.dg_uses.proofs.blanks.trace_words.Goals as goal

pub returns : goal.returns
returns c =
    let none : map string_bytes c.new-words.result.items ≡ [] = ap (map string_bytes) c.new-words.ensures.items in
    let one = c.in_ok-push_word.ensures ∙ ap (λ (l : List (List ℕ)). l ++ codes "trace" ∷ []) none in
    let two = c.in_ok-push_word-2.ensures ∙ ap (λ (l : List (List ℕ)). l ++ codes "up" ∷ []) one in
    let three = c.in_ok-push_word-3.ensures ∙ ap (λ (l : List (List ℕ)). l ++ codes "4" ∷ []) two in
    let four = c.in_ok-push_word-4.ensures ∙ ap (λ (l : List (List ℕ)). l ++ codes "64" ∷ []) three in
    record {
      written = c.in_ok-push_word-5.ensures ∙ ap (λ (l : List (List ℕ)). l ++ codes "2" ∷ []) four ∙ words_are;
      values = (omega arith, omega arith, omega arith);
    }
