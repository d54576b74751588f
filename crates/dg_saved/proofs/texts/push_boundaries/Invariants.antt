use Rattle.std.proofs.Common.{◌≡◌, ◌++◌}
use Rattle.std.specs.List.{flat_map, range_with_len}
use Rattle.dg_saved.specs.Texts.{boundary_line}
use Rattle.dg_volume.specs.Volumes.{live_of, members_of, table_of}
use Rattle.dg_saved.proofs.texts.push_boundaries.Given as goal

abbrev pub invariant-loop-s : goal.invariant-loop-s
invariant-loop-s g l = l.text.items ≡ l.fn.text.items ++ flat_map (boundary_line (table_of l.volume) (live_of l.volume) (members_of l.volume)) (range_with_len 0 l.s)
