-- A label stands before the slots of a member.
use Rattle.std.proofs.Common.{ℕ, List, length, ◌≤◌, arith}
use Rattle.std.specs.Prelude.{IfSome, Option, Some, None}
use Rattle.dg_model.specs.Saves.{member_length}
use Rattle.dg_model.specs.declared.shapes.Shape.{Shape}

pub label_fits : (shape : Shape) (told : Option (List ℕ)) → IfSome told (λ all. member_length 1 shape ≤ length all) → IfSome told (λ all. 512 ≤ length all)
label_fits shape None long = tt
label_fits shape (Some all) long = omega (arith, long)
