use Rattle.std.proofs.Common.{◌≡◌, ◌∙◌, ◌<◌, List, length, sym, ap, subst, arith, refl}
use Rattle.std.proofs.lemmas.List.{length-map}
use Rattle.dg_model.specs.Tables.{empty_table}
use Rattle.dg_model.specs.declared.shapes.Shape.{Shape}
use Rattle.dg_model.specs.declared.sites.Site.{Site}
use Rattle.dg_map.specs.Renumbers.{renumbered, renumbered_sites}
use Rattle.dg_map.specs.Restores.{CanHave, set_sites}
use Rattle.dg_map.proofs.BegunLemmas.{begun_map, row_is_few, rows_more, slots_none, slots_whole}
use Rattle.dg_map.proofs.RenumberLemmas.{renumbered_row}
use Rattle.dg_map.proofs.RestoreLemmas.{can_have, restored_more, restored_none}
use Rattle.dg_map.proofs.maps.Map.renumbered.Goals as goal

pub loop-block-init : goal.loop-block-init
loop-block-init c =
    let whole = renumbered c.args.shape c.args.numbers.now c.args.self.now in
    let begun = c.in_ok-lists.ensures in
    record {
      rows = record { sound = begun.sound; width = begun.width; bound = begun.bound; size = begun.size; rows = λ b low. absurd (omega (arith, low)) };
      slots = (
        empty_table c.args.shape,
        restored_none whole c.requires (empty_table c.args.shape) refl,
        slots_none c.args.shape c.in_ok-boundaries.boundaries.items c.requires.shape c.in_ok-boundaries.ensures.count c.in_ok-boundaries.ensures.unused,
      );
    }

pub append-requires-clause-few : goal.append-requires-clause-few
append-requires-clause-few c =
    let numbers = c.args.numbers.now in
    let old = c.args.self.now in
    let block = c.loop-block.block in
    let inside : block < length old.rows = omega (arith, c.requires.size, length-map old.rows (renumbered_sites numbers), c.loop-block-test.true) in
    let row = renumbered_row c.args.shape numbers old block c.clear.new.self.items c.sites.result.now c.deref.result.now inside c.clear.ensures.items c.sites.ensures.sites
    (c.deref.ensures.value ∙ c.in_ok-push_renumbered.ensures) in
    row_is_few (renumbered c.args.shape numbers old) block c.deref.result.now c.loop-block.lists.width c.requires row c.loop-block.invariant.rows.width

pub take_slots-requires : goal.take_slots-requires
take_slots-requires c =
    let numbers = c.args.numbers.now in
    let old = c.args.self.now in
    let block = c.loop-block.block in
    let whole = renumbered c.args.shape numbers old in
    let inv = c.loop-block.invariant.slots in
    let inside : block < length old.rows = omega (arith, c.requires.size, length-map old.rows (renumbered_sites numbers), c.loop-block-test.true) in
    let row = renumbered_row c.args.shape numbers old block c.clear.new.self.items c.sites.result.now c.deref-in-loop-block.result.now inside c.clear.ensures.items c.sites.ensures.sites
    (c.deref-in-loop-block.ensures.value ∙ c.in_ok-push_renumbered.ensures) in
    (inv.0, inv.2, subst (λ (sites : List Site). CanHave inv.0 block sites) (sym row) (can_have whole c.requires inv.0 block inv.1 c.loop-block-test.true))

pub loop-block-preserved : goal.loop-block-preserved
loop-block-preserved c =
    let numbers = c.args.numbers.now in
    let old = c.args.self.now in
    let block = c.loop-block.block in
    let whole = renumbered c.args.shape numbers old in
    let inv = c.loop-block.invariant.slots in
    let inside : block < length old.rows = omega (arith, c.requires.size, length-map old.rows (renumbered_sites numbers), c.loop-block-test.true) in
    let first = renumbered_row c.args.shape numbers old block c.clear.new.self.items c.sites.result.now c.deref.result.now inside c.clear.ensures.items c.sites.ensures.sites
    (c.deref.ensures.value ∙ c.in_ok-push_renumbered.ensures) in
    let row = renumbered_row c.args.shape numbers old block c.clear.new.self.items c.sites.result.now c.deref-in-loop-block.result.now inside c.clear.ensures.items c.sites.ensures.sites
    (c.deref-in-loop-block.ensures.value ∙ c.in_ok-push_renumbered.ensures) in
    let can : CanHave inv.0 block c.deref-in-loop-block.result.now =
    subst (λ (sites : List Site). CanHave inv.0 block sites) (sym row) (can_have whole c.requires inv.0 block inv.1 c.loop-block-test.true) in
    let size = ap (λ (s : Shape). s.n) inv.1.shape in
    let long : block < length inv.0.rows = omega (arith, inv.2.is_table.size, size, c.loop-block-test.true) in
    record {
      rows = rows_more whole block c.loop-block.lists c.append.new.self c.deref.result.now c.loop-block.invariant.rows c.in_ok-append.ensures first;
      slots = (
        set_sites inv.0 block c.deref-in-loop-block.result.now,
        restored_more whole c.requires inv.0 (set_sites inv.0 block c.deref-in-loop-block.result.now) block inv.1 long (ap (λ (sites : List Site). set_sites inv.0 block sites) row),
        c.take_slots.ensures inv.0 inv.2 can,
      );
    }

pub invariant_of-result : goal.invariant_of-result
invariant_of-result c =
    let whole = renumbered c.args.shape c.args.numbers.now c.args.self.now in
    let inv = c.loop-block.invariant in
    let all : c.loop-block.block ≡ c.args.shape.n = (let end = c.loop-block.auto.block-end in let past = c.loop-block-test.false in omega arith) in
    (begun_map whole c.loop-block.block c.loop-block.lists c.loop-block.boundaries c.requires inv.rows all (slots_whole whole c.requires c.loop-block.block c.loop-block.boundaries.items all inv.slots)).0

pub returns-clause-sites : goal.returns-clause-sites
returns-clause-sites c =
    let whole = renumbered c.args.shape c.args.numbers.now c.args.self.now in
    let inv = c.loop-block.invariant in
    let all : c.loop-block.block ≡ c.args.shape.n = (let end = c.loop-block.auto.block-end in let past = c.loop-block-test.false in omega arith) in
    (begun_map whole c.loop-block.block c.loop-block.lists c.loop-block.boundaries c.requires inv.rows all (slots_whole whole c.requires c.loop-block.block c.loop-block.boundaries.items all inv.slots)).1

pub returns-clause-table : goal.returns-clause-table
returns-clause-table c =
    let whole = renumbered c.args.shape c.args.numbers.now c.args.self.now in
    let inv = c.loop-block.invariant in
    let all : c.loop-block.block ≡ c.args.shape.n = (let end = c.loop-block.auto.block-end in let past = c.loop-block-test.false in omega arith) in
    (begun_map whole c.loop-block.block c.loop-block.lists c.loop-block.boundaries c.requires inv.rows all (slots_whole whole c.requires c.loop-block.block c.loop-block.boundaries.items all inv.slots)).0.table
