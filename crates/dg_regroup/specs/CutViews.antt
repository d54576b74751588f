-- A view of which some blocks were cut.
use Rattle.std.specs.Prelude.{not, ℕ, Bool, List, filter}
use Rattle.dg_model.specs.Marks.{is_marked}

-- those of some blocks that weren't cut: the ones that the view below is asked for
abbrev pub uncut : List Bool → List ℕ → List ℕ
uncut cut blocks = filter (λ b. not (is_marked cut b)) blocks
