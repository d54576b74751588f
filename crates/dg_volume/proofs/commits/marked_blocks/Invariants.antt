use Rattle.std.proofs.Common.{◌≡◌, filter}
use Rattle.std.specs.List.{range_with_len}
use Rattle.dg_model.specs.Marks.{is_marked}
use Rattle.dg_volume.proofs.commits.marked_blocks.Given as goal

abbrev pub invariant-loop-block : goal.invariant-loop-block
invariant-loop-block l = l.blocks.items ≡ filter (λ b. is_marked l.marks b) (range_with_len 0 l.block)
