use Rattle.std.proofs.Common.{◌≡◌, ◌<◌, false, List, [], length, sym, ◌∙◌, ap, subst, arith}
use Rattle.std.proofs.lemmas.List.Elements.{All-nil, All-push, Contains-push}
use Rattle.std.specs.List.{Contains}
use Rattle.dg_model.specs.Sites.{all_lost, has_site}
use Rattle.dg_model.specs.Tables.{Table}
use Rattle.dg_model.specs.declared.sites.Site.{Site}
use Rattle.dg_store.specs.Rows.{members_in}
use Rattle.dg_store.specs.Slots.{SitesHold}
use Rattle.dg_store.proofs.Blocks.{first_fewer, stands_fewer, stands_kept, stands_written, thinned_fewer}
use Rattle.dg_store.proofs.PlaceLemmas.{IsHeld, but_these, lost_one, one_live, slot_kept}
use Rattle.dg_store.proofs.RowLaws.{keeps_none}
use Rattle.dg_store.proofs.Sound.{leaves_of, row_of}
use Rattle.dg_store.proofs.TableLemmas.{only_slot, sited_first}
use Rattle.dg_store.proofs.store.Store.write_first.Goals as goal

-- no memory for the first site

pub returns-in_default-clause-leaves : goal.returns-in_default-clause-leaves
returns-in_default-clause-leaves g c =
    let s = c.requires.1.1.0 in
    leaves_of g.R.Rack g.met.R.Rack.told c.args.self.now _ c.in_default.ensures.err.shape c.in_default.ensures.table s.built.block c.clear.ensures.items
    (keeps_none g.R.Rack c.args.self.now.map.shape _ _ (row_of g.R.Rack c.args.self.now s))

pub returns-in_default-clause-err : goal.returns-in_default-clause-err
returns-in_default-clause-err g c =
    let thinned = c.in_default.ensures.err in
    record { written = thinned.written; stands = λ V st. stands_fewer _ _ V c.args.self.now.map _ (thinned_fewer _ _ thinned) st }

-- the write of the first site

pub write_slot-requires-clause-row : goal.write_slot-requires-clause-row
write_slot-requires-clause-row g c = rw (c.shape-shape.ensures.shape, c.in-Ok.ensures.others.shape) (row_of g.R.Rack c.args.self.now c.requires.1.1.0)

pub write_slot-requires-clause-within : goal.write_slot-requires-clause-within
write_slot-requires-clause-within g c =
    let low = (only_slot c.give_first.new.map c.args.block c.in-Ok.site c.in-Ok.ensures.last c.in-Ok.ensures.table).0 in
    let shape = c.in-Ok.ensures.others.shape in
    let below : c.in-Ok.site.boundary < c.args.self.now.map.shape.b = rw shape at low in
    omega (arith, below, c.requires.1.1.0.built.count)

pub write_slot-requires-clause-slot : goal.write_slot-requires-clause-slot
write_slot-requires-clause-slot g c = rw c.shape-shape.ensures.shape (only_slot c.give_first.new.map c.args.block c.in-Ok.site c.in-Ok.ensures.last c.in-Ok.ensures.table).1

pub returns-in-Kept-clause-leaves : goal.returns-in-Kept-clause-leaves
returns-in-Kept-clause-leaves g c =
    let s = c.requires.1.1.0 in
    let shape = c.in-Ok.ensures.others.shape in
    let k = rw (c.shape-shape.ensures.shape, shape) at c.write_slot.ensures in
    leaves_of g.R.Rack g.met.R.Rack.told c.args.self.now _ shape c.in-Ok.ensures.table s.built.block c.clear-in-Kept.ensures.items k.keeps

pub returns-in-Kept-clause-stored : goal.returns-in-Kept-clause-stored
returns-in-Kept-clause-stored g c is =
    let first = c.in-Ok.ensures in
    let new = c.give_first.new.map in
    let site = c.in-Ok.site in
    let k = rw c.shape-shape.ensures.shape at c.write_slot.ensures in
    let there = subst (λ (xs : List Site). Contains xs site) (sym first.last) (Contains-push [] site) in
    let one = All-push (IsHeld new.shape.l (members_in c.write_slot.new.row.items) (g.R.Rack.bytes c.write_slot.new.rack) c.args.buf.now) [] site (All-nil _) k.put in
    let held = subst (λ (xs : List Site). SitesHold new.shape.l (members_in c.write_slot.new.row.items) (g.R.Rack.bytes c.write_slot.new.rack) c.args.buf.now xs) (sym first.last) one in
    record {
      sited = sited_first _ _ c.args.block c.requires.1.1.1.1.1 first.given;
      live = subst (λ (xs : List Site). all_lost (members_in c.write_slot.new.row.items) xs ≡ false) (sym first.last)
          (one_live (members_in c.write_slot.new.row.items) site (λ lost. let e = c.write_slot.ensures.lost.1 lost in absurd (cc (c.in-Kept.is, e))));
      sets = λ V st. stands_written _ _ _ _ V c.args.self.now.map new c.args.block c.args.buf.now first.table c.requires.1.1.1.0 (first_fewer _ _ c.args.block site.boundary first.others) (ap has_site first.last)
          (but_these new.shape.l _ _ _ _ _ site.boundary site.slot there k.kept) held st;
      most = omega (arith, c.write_slot.ensures.most, ap (λ (xs : List Site). length xs) first.last);
    }

-- the boundary of the first site is lost

pub returns-in-Ok-undone-clause-leaves : goal.returns-in-Ok-undone-clause-leaves
returns-in-Ok-undone-clause-leaves g c =
    let s = c.requires.1.1.0 in
    let shape = c.in-Ok.ensures.others.shape in
    let k = rw (c.shape-shape.ensures.shape, shape) at c.write_slot.ensures in
    let back = c.in-Ok-undone.ensures.ok ∙ c.requires.1.0 in
    leaves_of g.R.Rack g.met.R.Rack.told c.args.self.now _ (ap (λ (t : Table). t.shape) back) c.take_back-undone.ensures.table s.built.block c.clear-in-Lost.ensures.items k.keeps

pub returns-in-Ok-undone-clause-lost : goal.returns-in-Ok-undone-clause-lost
returns-in-Ok-undone-clause-lost g c is =
    let first = c.in-Ok.ensures in
    let site = c.in-Ok.site in
    let k = rw (c.shape-shape.ensures.shape, first.others.shape) at c.write_slot.ensures in
    let back = c.in-Ok-undone.ensures.ok ∙ c.requires.1.0 in
    let lost = c.write_slot.ensures.lost.0 c.in-Lost.is in
    record {
      lost = record {
        sited = c.give_first.new.map;
        is = sited_first _ _ c.args.block c.requires.1.1.1.1.1 first.given;
        lost = ap (all_lost (members_in c.write_slot.new.row.items)) first.last ∙ lost_one (members_in c.write_slot.new.row.items) site lost;
      };
      table = back;
      stands = λ V st. rw back (stands_kept _ _ _ _ V c.args.self.now.map (slot_kept c.args.self.now.map.shape.l _ _ _ _ site.boundary site.slot (k.out c.in-Lost.is) k.kept) st);
    }

pub returns-in-Err-clause-leaves : goal.returns-in-Err-clause-leaves
returns-in-Err-clause-leaves g c =
    let s = c.requires.1.1.0 in
    let shape = c.in-Ok.ensures.others.shape in
    let k = rw (c.shape-shape.ensures.shape, shape) at c.write_slot.ensures in
    let thinned = rw c.requires.1.0 at c.in-Err.ensures.err in
    leaves_of g.R.Rack g.met.R.Rack.told c.args.self.now _ thinned.shape c.take_back-undone.ensures.table s.built.block c.clear-in-Lost.ensures.items k.keeps

pub returns-in-Err-clause-err : goal.returns-in-Err-clause-err
returns-in-Err-clause-err g c =
    let k = rw (c.shape-shape.ensures.shape, c.in-Ok.ensures.others.shape) at c.write_slot.ensures in
    let thinned = rw c.requires.1.0 at c.in-Err.ensures.err in
    record {
      written = thinned.written;
      stands = λ V st. stands_fewer _ _ V c.args.self.now.map _ (thinned_fewer _ _ thinned)
          (stands_kept _ _ _ _ V c.args.self.now.map (slot_kept c.args.self.now.map.shape.l _ _ _ _ c.in-Ok.site.boundary c.in-Ok.site.slot (k.out c.in-Lost.is) k.kept) st);
    }
