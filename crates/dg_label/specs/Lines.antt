-- The numbers of an array as it was made. Boundaries may be out of use since: the array has fewer then, and each member is as long as it was.
use Rattle.std.specs.Prelude.{◌≡◌, ◌≤◌}
use Rattle.dg_model.specs.Shapes.{IsShape}
use Rattle.dg_model.specs.declared.shapes.Shape.{Shape}

-- An array that was made with the numbers of the line has this shape now: its numbers are those of the line, but that it may have fewer boundaries.
pub record IsLineOf (line shape : Shape) : Type 0 where
  pub is : IsShape line
  pub fewer : shape.b ≤ line.b
  pub numbers : shape ≡ record line { b = shape.b }
