-- What is left of the lists of an array without its lost boundaries.
use Rattle.std.specs.Prelude.{◌||◌, ◌&&◌, ℕ, Bool, List, length, map, not}
use Rattle.std.specs.List.{range_with_len}
use Rattle.dg_model.specs.Marks.{is_marked}

-- the marks, but for those of blocks that are gone
abbrev pub unmarked : (ℕ → Bool) → List Bool → List Bool
unmarked gone marks = map (λ b. is_marked marks b && not (gone b)) (range_with_len 0 (length marks))

-- the marks, and one for each block that is gone
abbrev pub marked_too : (ℕ → Bool) → List Bool → List Bool
marked_too gone marks = map (λ b. is_marked marks b || gone b) (range_with_len 0 (length marks))
