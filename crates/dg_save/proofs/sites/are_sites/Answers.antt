use Rattle.std.proofs.Common.{◌<◌, ◌∙◌, [], ap, arith, length, refl, subst}
use Rattle.std.proofs.lemmas.Bool.{false≢true}
use Rattle.std.proofs.lemmas.List.{length-map, take_all, take_more}
use Rattle.dg_save.specs.Checks.{AreRows, CanTake, Marks}
use Rattle.dg_save.specs.Parts.{rows_in}
use Rattle.dg_save.proofs.EncodeLemmas.{row_at}
use Rattle.dg_save.proofs.SiteLemmas.{can_take, marked_more, rows_more, table_from}
use Rattle.dg_save.proofs.sites.are_sites.Goals as goal

pub returns-then-not-take_sites : goal.returns-then-not-take_sites
returns-then-not-take_sites c =
    let rows = rows_in c.args.lists.now.items in
    let within : c.loop-block.block < length c.args.lists.now.items = omega (arith, c.requires.blocks, c.loop-block-test.true) in
    let row = c.deref.ensures.value ∙ ap (λ v. v.items) c.index.ensures ∙ row_at c.args.lists.now.items c.loop-block.block _ within in (
      λ e. absurd (false≢true e),
      λ table.
          let low : c.loop-block.block < length rows = rw length-map within in
          absurd (false≢true (c.if-not-take_sites.ensures.can.1
          (rw row (can_take c.args.shape.now rows c.loop-block.block c.loop-block.taken.items table low c.loop-block.invariant.marks)))),
    )

pub loop-block-preserved : goal.loop-block-preserved
loop-block-preserved c =
    let rows = rows_in c.args.lists.now.items in
    let within : c.loop-block.block < length c.args.lists.now.items = omega (arith, c.requires.blocks, c.loop-block-test.true) in
    let row = c.deref.ensures.value ∙ ap (λ v. v.items) c.index.ensures ∙ row_at c.args.lists.now.items c.loop-block.block _ within in
    let low : c.loop-block.block < length rows = rw length-map within in
    let can = subst (CanTake c.args.shape.now c.loop-block.taken.items) row (c.if-not-take_sites.ensures.can.0 refl) in
    let marks = subst (λ l. Marks c.args.shape.now c.loop-block.taken.items l c.take_sites.new.taken.items) row c.if-not-take_sites.ensures.taken in
    record {
      rows = rw (take_more rows c.loop-block.block [] low) (rows_more c.args.shape.now _ _ _ c.loop-block.invariant.rows c.loop-block.invariant.marks can);
      marks = rw (take_more rows c.loop-block.block [] low) (marked_more c.args.shape.now _ _ _ _ c.loop-block.invariant.marks marks);
    }

pub returns : goal.returns
returns c =
    let rows = rows_in c.args.lists.now.items in (
      λ e. table_from c.args.shape.now rows c.requires.shape (rw length-map c.requires.blocks)
          (subst (AreRows c.args.shape.now) (take_all c.loop-block.block rows (rw length-map (omega (arith, c.requires.blocks, c.loop-block-test.false)))) c.loop-block.invariant.rows),
      λ table. refl,
    )
