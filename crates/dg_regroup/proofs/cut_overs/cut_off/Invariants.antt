use Rattle.std.proofs.Common.{◌≡◌, filter}
use Rattle.std.specs.List.{range_with_len}
use Rattle.dg_regroup.specs.Cuts.{loses_sites}
use Rattle.dg_regroup.proofs.cut_overs.cut_off.Given as goal

abbrev pub invariant-loop-block : goal.invariant-loop-block
invariant-loop-block l = l.cut.items ≡ filter (loses_sites l.map l.now) (range_with_len 0 l.block)
