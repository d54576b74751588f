use Rattle.std.proofs.Common.{◌≡◌, take}
use Rattle.dg_save.specs.Parts.{rows_in}
use Rattle.dg_volume.proofs.saves.copy_rows.Given as goal

abbrev pub invariant-loop-block : goal.invariant-loop-block
invariant-loop-block l = rows_in l.lists.items ≡ take l.block l.map.rows
