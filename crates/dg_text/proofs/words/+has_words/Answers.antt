use Rattle.std.proofs.Common.{◌≡◌, ◌∷◌, ◌∙◌, ◌-◌, sym, arith}
use Rattle.std.specs.Option.{option_copied}
use Rattle.dg_text.specs.Refusals.{words_behind}
use Rattle.dg_text.proofs.LineWords.{one_more}
use Rattle.dg_text.proofs.PathWords.{nonempty}
use Rattle.dg_text.proofs.words.+has_words.Goals as goal

pub returns : goal.returns
returns t c =
    let own : words_behind (option_copied c.args.rest) ≡ c.cut_word.result.0.now ∷ words_behind (option_copied c.cut_word.result.1) = rw c.in-Some.is c.cut_word.ensures.words in
    let some = nonempty c.cut_word.result.0.now (sym c.is_empty.ensures ∙ c.if-is_empty.false) in
    one_more _ _ _ c.args.count (c.args.count - 1) c.has_words.result own some (omega (arith, c.if-count-eq0.false)) c.has_words.ensures.0 c.has_words.ensures.1
