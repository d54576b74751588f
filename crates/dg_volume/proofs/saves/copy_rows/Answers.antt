use Rattle.std.proofs.Common.{◌∙◌, ◌<◌, ◌≤◌, length, ap, arith}
use Rattle.std.proofs.lemmas.List.{take_all}
use Rattle.dg_model.specs.declared.shapes.Shape.{Shape}
use Rattle.dg_save.specs.Parts.{rows_in}
use Rattle.dg_volume.proofs.SaveLaws.{row_more}
use Rattle.dg_volume.proofs.saves.copy_rows.Goals as goal

pub loop-block-preserved : goal.loop-block-preserved
loop-block-preserved c =
    let n = ap (λ (sh : Shape). sh.n) c.shape.ensures.shape in
    let size = c.shape.ensures.table.size in
    let low : c.loop-block.block < length c.args.map.now.rows = omega (arith, n, size, c.loop-block-test.true) in
    ap rows_in c.in-Ok-push.ensures.items
    ∙ row_more c.args.map.now.rows c.loop-block.lists.items c.in_ok-row.row c.loop-block.block low c.loop-block.invariant (c.in_ok-row.ensures ∙ c.sites.ensures.sites)

pub returns : goal.returns
returns c =
    let n = ap (λ (sh : Shape). sh.n) c.shape.ensures.shape in
    let size = c.shape.ensures.table.size in
    let all : length c.args.map.now.rows ≤ c.loop-block.block = omega (arith, n, size, c.loop-block-test.false) in
    c.new.ensures ∙ c.loop-block.invariant ∙ take_all c.loop-block.block c.args.map.now.rows all
