use Rattle.std.proofs.Common.{◌∙◌, rules, tests, string_bytes}
use Rattle.std.proofs.lemmas.Iterator.{YieldsList-from_slice}
use Rattle.std.proofs.lemmas.Iterator.Search.{any_from_yields_List}
use Rattle.clap.proofs.WalkLemmas.{list_any-map}
use Rattle.dg_words.specs.Values.{has_hyphen}
use Rattle.dg_words.proofs.words.any_has_hyphen.Goals as goal

pub returns : goal.returns
returns c =
    let words = c.args.words.now in
    any_from_yields_List (λ s. has_hyphen (string_bytes s)) _ _ c.any.result c.any.ensures.ran (YieldsList-from_slice words cc) (λ x b q k. search (rules, tests))
    ∙ list_any-map has_hyphen string_bytes words
