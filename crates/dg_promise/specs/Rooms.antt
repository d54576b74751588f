-- Room for a plan. The words are this project's own.
use Rattle.std.specs.Prelude.{ℕ, ◌+◌, ◌*◌, ◌<◌, ◌≤◌, List, Option, length}
use Rattle.dg_model.specs.Plans.{blocks_with, count_of, is_kept}
use Rattle.dg_model.specs.declared.shapes.Shape.{Shape}
use Rattle.dg_model.specs.declared.wants.Want.{Want}

-- At most so many blocks are kept, and no file has more than so many. Each boundary has a slot for each place of a kept block, and all boundaries
-- together have slots for these, for each block once more, and for so many blocks of one file on each boundary.
pub record HasRoom (shape : Shape) (wants : List (Option Want)) (kept most : ℕ) : Type 0 where
  pub some : 0 < shape.b
  pub few : length (blocks_with is_kept wants) ≤ kept
  pub small : (i : ℕ) → count_of wants i ≤ most
  pub each : shape.m * kept ≤ shape.k
  pub all : shape.b * most + shape.m * kept + length wants ≤ shape.b * shape.k
