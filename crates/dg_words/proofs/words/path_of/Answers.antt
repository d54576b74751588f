use Rattle.std.proofs.Common.{◌≡◌, ◌∙◌, ◌∷◌, [], true, sym, ap, inl, rules}
use Rattle.std.specs.Prelude.{Ok}
use Rattle.ufs_model.specs.Paths.{is_path}
use Rattle.dg_text.specs.Lines.{AreBytes, path_word}
use Rattle.dg_words.proofs.words.path_of.Goals as goal

pub returns-in-Ok-Some-clause-exact : goal.returns-in-Ok-Some-clause-exact
returns-in-Ok-Some-clause-exact c = λ path is.
    let values : c.in-Ok.word.now ∷ [] ≡ path_word path ∷ [] = sym c.in-Ok.ensures ∙ is.spelled in
    let word : c.in-Ok.word.now ≡ path_word path = cc in
    let bytes : c.as_bytes.result.now ≡ path_word path = c.as_bytes.ensures.value ∙ word in
    let found : (c.as_bytes.result.now ≡ path_word c.in-Ok-Some.path) × (is_path c.in-Ok-Some.path ≡ true) × AreBytes c.in-Ok-Some.path = search rules in
    let same : c.in-Ok-Some.path ≡ path = c.paths_are_unique.ensures c.in-Ok-Some.path path found.1 found.2 is.well is.bytes (sym found.0 ∙ bytes) in
    inl (ap Ok same)
