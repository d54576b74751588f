use Rattle.std.proofs.Common.{◌≡◌, ◌++◌, [], ℕ, List, codes, ap}
use Rattle.std.specs.Prelude.{Some}
use Rattle.dg_model.specs.declared.shapes.Shape.{Shape}
use Rattle.dg_model.specs.declared.events.Event.TheVariants.{Cat}
use Rattle.dg_text.specs.Lines.{path_word}
use Rattle.dg_words.proofs.words.paths_are_unique.Goals as goal

shape : Shape
shape = record { l = 0; n = 0; b = 0; k = 0; m = 0 }

pub returns : goal.returns
returns c = λ p q a b d f e.
    let text : (codes "cat " ++ path_word p) ++ codes "\n" ≡ (codes "cat " ++ path_word q) ++ codes "\n" = ap (λ (w : List ℕ). (codes "cat " ++ w) ++ codes "\n") e in
    let same : Cat p ≡ Cat q = (c.line_is_unique.ensures (Some shape) (Cat p) (Cat q) [] [] (a, b) (d, f) (ap (λ (l : List ℕ). l ++ []) text)).0 in
    cc
