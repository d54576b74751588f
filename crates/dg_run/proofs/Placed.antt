-- Whether an event is in its place rests on the bytes of a block alone.
use Rattle.std.proofs.Common.{◌≡◌, arith}
use Rattle.std.specs.Prelude.{Some}
use Rattle.dg_model.specs.declared.events.Event.{Event}
use Rattle.dg_model.specs.declared.events.Event.TheVariants.{Array, Safe, Parity, Write, Read, Fail, Replace, Rebuild, Settle, Tend, Diffuse, Who, Pending, Cat, Ls, Tree, Home, Save, Regroup, LostFiles, Audit, DropDisk, MendDisk}
use Rattle.dg_model.specs.declared.shapes.Shape.{Shape}
use Rattle.dg_text.specs.Lines.{IsInPlace}

pub placed_by : (one other : Shape) → one.l ≡ other.l → (event : Event) → IsInPlace (Some one) event → IsInPlace (Some other) event
placed_by one other same (Array s) placed = absurd placed
placed_by one other same (Safe s) placed = absurd placed
placed_by one other same (Parity s n) placed = absurd placed
placed_by one other same (Write b x) placed = (placed.0, omega (arith, same, placed.1), placed.2)
placed_by one other same (Read b) placed = placed
placed_by one other same (Fail s j) placed = placed
placed_by one other same (Replace s j) placed = placed
placed_by one other same (Rebuild s n) placed = placed
placed_by one other same Settle placed = placed
placed_by one other same (Tend n) placed = placed
placed_by one other same Diffuse placed = placed
placed_by one other same (Who b) placed = placed
placed_by one other same Pending placed = placed
placed_by one other same (Cat p) placed = placed
placed_by one other same (Ls p) placed = placed
placed_by one other same Tree placed = placed
placed_by one other same (Home p) placed = placed
placed_by one other same Save placed = placed
placed_by one other same Regroup placed = placed
placed_by one other same LostFiles placed = placed
placed_by one other same Audit placed = placed
placed_by one other same (DropDisk s j) placed = placed
placed_by one other same (MendDisk s j) placed = placed
