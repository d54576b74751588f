use Rattle.std.proofs.Common.{◌<◌, ◌∙◌, [], ap, arith, get_or, false, length, List, ◌++◌}
use Rattle.std.proofs.lemmas.List.{length-map}
use Rattle.dg_model.specs.Saves.{block_bytes}
use Rattle.dg_model.specs.declared.sites.Site.{Site}
use Rattle.dg_save.specs.Parts.{rows_in}
use Rattle.dg_save.proofs.EncodeLemmas.{push_next, row_at}
use Rattle.dg_save.proofs.encodes.push_blocks.Goals as goal

pub push_block-requires : goal.push_block-requires
push_block-requires c =
    let low : c.loop-block.block < length c.args.lists.now.items = omega (arith, c.requires.blocks) in
    let row = c.deref.ensures.value ∙ ap (λ v. v.items) c.index.ensures ∙ row_at c.args.lists.now.items c.loop-block.block _ low in
    rw row (c.requires.short c.loop-block.block [] (rw length-map low))

pub loop-block-preserved : goal.loop-block-preserved
loop-block-preserved c =
    let low : c.loop-block.block < length c.args.lists.now.items = omega (arith, c.requires.blocks) in
    let row = c.deref.ensures.value ∙ ap (λ v. v.items) c.index.ensures ∙ row_at c.args.lists.now.items c.loop-block.block _ low in
    push_next (λ b. block_bytes (get_or (rows_in c.args.lists.now.items) b []) (get_or c.args.pending.now b false)) _ _ _ c.loop-block.block c.loop-block.invariant
    (c.in_ok-push_block.ensures ∙ ap (λ (s : List Site). c.loop-block.bytes.items ++ block_bytes s (get_or c.args.pending.now c.loop-block.block false)) row)
