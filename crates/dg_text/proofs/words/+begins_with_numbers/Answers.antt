use Rattle.std.proofs.Common.{◌≡◌, ◌<◌, ◌^◌, ◌∷◌, ◌∙◌, ◌-◌, ℕ, List, true, ap, arith}
use Rattle.std.specs.Prelude.{Option, Some, None, IfSome, is_some, not}
use Rattle.std.specs.Fmt.{decimal}
use Rattle.std.specs.Option.{option_copied}
use Rattle.dg_text.specs.Refusals.{IsNumberWord, words_behind}
use Rattle.dg_text.proofs.LineWords.{number_more}
use Rattle.dg_text.proofs.words.+begins_with_numbers.Goals as goal

number_read : (word : List ℕ) (r : Option ℕ) → IfSome r (λ n. (n < 2 ^ 32) × (word ≡ decimal n)) → is_some r ≡ true → IsNumberWord word
number_read word (Some n) found is = (n, found.0, found.1)
number_read word None found is = absurd (cc is)

pub returns : goal.returns
returns t c =
    let own : words_behind (option_copied c.args.rest) ≡ c.cut_word.result.0.now ∷ words_behind (option_copied c.cut_word.result.1) = rw c.in-Some.is c.cut_word.ensures.words in
    let number = number_read c.cut_word.result.0.now c.whole_number.result c.whole_number.ensures.found (c.is_none.ensures ∙ ap not c.if-is_none.false) in
    number_more _ _ _ c.args.count (c.args.count - 1) c.begins_with_numbers.result own number (omega (arith, c.if-count-eq0.false)) c.begins_with_numbers.ensures.0 c.begins_with_numbers.ensures.1
