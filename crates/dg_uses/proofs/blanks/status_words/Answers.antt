use Rattle.std.proofs.Common.{◌∙◌, ◌++◌, ◌∷◌, [], ℕ, List, ap, map}
use Rattle.std.specs.Prelude.{codes, string_bytes}
use Rattle.dg_uses.proofs.blanks.status_words.Goals as goal

pub returns : goal.returns
returns c = record {
  written = c.in_ok-push_word.ensures ∙ ap (λ (l : List (List ℕ)). l ++ codes "status" ∷ []) (ap (map string_bytes) c.new-words.ensures.items);
  values = tt;
}
