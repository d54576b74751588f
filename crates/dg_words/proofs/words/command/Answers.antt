use Rattle.std.proofs.Common.{◌≡◌, ◌∷◌, ◌∙◌, ℕ, List, sym, ap, map, drop, string_bytes, rules, true, false}
use Rattle.std.proofs.lemmas.Bool.{false≢true}
use Rattle.dg_words.specs.Commands.{words_of}
use Rattle.dg_words.specs.Values.{any_has_hyphen}
use Rattle.dg_words.proofs.Plain.{values_plain}
use Rattle.dg_words.proofs.words.command.Goals as goal

pub returns-then-any_has_hyphen-clause-exact : goal.returns-then-any_has_hyphen-clause-exact
returns-then-any_has_hyphen-clause-exact c = λ d is.
    let split : c.args.words.now.items ≡ c.in-Some.name.now ∷ c.in-Some.values.now = search rules in
    let values : map string_bytes c.in-Some.values.now ≡ drop 1 (words_of d) = ap (λ (l : List (List ℕ)). drop 1 l) (sym (ap (map string_bytes) split) ∙ is.written) in
    let plain : any_has_hyphen (map string_bytes c.in-Some.values.now) ≡ false = ap any_has_hyphen values ∙ values_plain d is.values in
    let some : any_has_hyphen (map string_bytes c.in-Some.values.now) ≡ true = search rules in
    absurd (false≢true (sym plain ∙ some))
