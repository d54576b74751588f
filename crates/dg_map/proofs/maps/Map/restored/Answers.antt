use Rattle.std.proofs.Common.{◌≡◌, ◌<◌, length, sym, ◌∙◌, ap, subst, arith, List}
use Rattle.std.proofs.lemmas.List.{length-map}
use Rattle.std.specs.Global.{Vec}
use Rattle.dg_model.specs.Tables.{sites_in}
use Rattle.dg_model.specs.declared.shapes.Shape.{Shape}
use Rattle.dg_model.specs.declared.sites.Site.{Site}
use Rattle.dg_map.specs.Restores.{CanHave, set_sites, table_with}
use Rattle.dg_map.proofs.RestoreLemmas.{can_have, list_at, restored_all, restored_more}
use Rattle.dg_map.proofs.maps.Map.restored.Goals as goal

pub take_all-requires-clause-can : goal.take_all-requires-clause-can
take_all-requires-clause-can c =
    let lists = c.args.sites.now.items in
    let block = c.loop-block.block in
    let whole = table_with c.args.shape lists in
    let inside : block < length lists = omega (arith, c.requires.size, length-map lists (λ (v : Vec Site). v.items), c.loop-block-test.true) in
    let row : sites_in whole block ≡ c.deref.result.now = list_at c.args.shape lists block c.index.result.now inside c.index.ensures ∙ sym c.deref.ensures.value in
    subst (λ (sites : List Site). CanHave c.loop-block.map block sites) row (can_have whole c.requires c.loop-block.map block c.loop-block.invariant.now c.loop-block-test.true)

pub loop-block-preserved : goal.loop-block-preserved
loop-block-preserved c =
    let lists = c.args.sites.now.items in
    let block = c.loop-block.block in
    let now = c.loop-block.map in
    let whole = table_with c.args.shape lists in
    let inside : block < length lists = omega (arith, c.requires.size, length-map lists (λ (v : Vec Site). v.items), c.loop-block-test.true) in
    let row : c.deref.result.now ≡ sites_in whole block = c.deref.ensures.value ∙ sym (list_at c.args.shape lists block c.index.result.now inside c.index.ensures) in
    let size = ap (λ (s : Shape). s.n) c.loop-block.invariant.now.shape in
    let long : block < length now.rows = omega (arith, c.loop-block.invariant.table.size, size, c.loop-block-test.true) in
    record {
      now = restored_more whole c.requires now c.take_all.new.map block c.loop-block.invariant.now long
          (c.in_ok-take_all.ensures.taken ∙ ap (λ (sites : List Site). set_sites now block sites) row);
      table = c.take_all.ensures.table;
    }

pub returns-clause-sites : goal.returns-clause-sites
returns-clause-sites c =
    let whole = table_with c.args.shape c.args.sites.now.items in
    restored_all whole c.requires c.loop-block.map c.loop-block.block c.loop-block.invariant.table c.loop-block.invariant.now
    (let end = c.loop-block.auto.block-end in let past = c.loop-block-test.false in omega arith)
