use Rattle.std.proofs.Common.{◌≡◌, ◌++◌, [], false, get_or}
use Rattle.std.specs.Prelude.{flat_map}
use Rattle.std.specs.List.{range_with_len}
use Rattle.dg_model.specs.Saves.{block_bytes}
use Rattle.dg_save.specs.Parts.{rows_in}
use Rattle.dg_save.proofs.encodes.push_blocks.Given as goal

abbrev pub invariant-loop-block : goal.invariant-loop-block
invariant-loop-block l =
    l.bytes.items ≡ l.fn.bytes.items ++ flat_map (λ b. block_bytes (get_or (rows_in l.lists.items) b []) (get_or l.pending b false)) (range_with_len 0 l.block)
