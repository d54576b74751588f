use Rattle.std.proofs.Common.{◌≡◌, refl, true, sym, ◌∙◌}
use Rattle.dg_model.specs.Sites.{all_lost}
use Rattle.dg_store.specs.Rows.{members_in}
use Rattle.dg_store.proofs.Blocks.{same_fewer, stands_kept, stands_written}
use Rattle.dg_store.proofs.PlaceLemmas.{all_kept}
use Rattle.dg_store.proofs.Sound.{leaves_of, row_of}
use Rattle.dg_store.proofs.TableLemmas.{are_slots}
use Rattle.dg_store.proofs.store.Store.write_again.Goals as goal

pub write_sites-requires-clause-row : goal.write_sites-requires-clause-row
write_sites-requires-clause-row g c = rw c.shape-shape.ensures.shape (row_of g.R.Rack c.args.self.now c.requires.sound)

pub write_sites-requires-clause-within : goal.write_sites-requires-clause-within
write_sites-requires-clause-within g c = rw (c.shape-shape.ensures.shape, c.sites-sites.ensures.sites) (are_slots c.args.self.now.map c.args.block _ c.requires.sound.table c.requires.sound.built.count)

pub all_lost_at-requires-clause-stands : goal.all_lost_at-requires-clause-stands
all_lost_at-requires-clause-stands g c = c.write_sites.ensures.keeps.row.stands

pub all_lost_at-requires-clause-within : goal.all_lost_at-requires-clause-within
all_lost_at-requires-clause-within g c =
    let k = rw c.shape-shape.ensures.shape at c.write_sites.ensures in
    rw (c.shape-shape.ensures.shape, c.sites-sites.ensures.sites) (are_slots c.args.self.now.map c.args.block _ c.requires.sound.table k.keeps.row.count)

pub returns-then-all_lost_at-clause-leaves : goal.returns-then-all_lost_at-clause-leaves
returns-then-all_lost_at-clause-leaves g c =
    let s = c.requires.sound in
    let k = rw c.shape-shape.ensures.shape at c.write_sites.ensures in
    leaves_of g.R.Rack g.met.R.Rack.told c.args.self.now _ refl s.table s.built.block s.built.given_up k.keeps

pub returns-else-all_lost_at-clause-leaves : goal.returns-else-all_lost_at-clause-leaves
returns-else-all_lost_at-clause-leaves g c =
    let s = c.requires.sound in
    let k = rw c.shape-shape.ensures.shape at c.write_sites.ensures in
    leaves_of g.R.Rack g.met.R.Rack.told c.args.self.now _ refl s.table s.built.block s.built.given_up k.keeps

pub returns-then-all_lost_at-clause-same : goal.returns-then-all_lost_at-clause-same
returns-then-all_lost_at-clause-same g c is V st =
    let k = rw c.shape-shape.ensures.shape at c.write_sites.ensures in
    let lost : all_lost (members_in c.write_sites.new.row.items) c.sites-sites.result.now ≡ true = sym c.all_lost_at.ensures ∙ c.if-all_lost_at.true in
    stands_kept _ _ _ _ V c.args.self.now.map (all_kept _ _ _ _ _ c.sites-sites.result.now k.out lost k.kept) st

pub returns-else-all_lost_at-clause-value : goal.returns-else-all_lost_at-clause-value
returns-else-all_lost_at-clause-value g c is V st =
    let k = rw (c.shape-shape.ensures.shape, c.sites-sites.ensures.sites) at c.write_sites.ensures in
    stands_written _ _ _ _ V c.args.self.now.map c.args.self.now.map c.args.block c.args.buf.now c.requires.sound.table c.requires.range (same_fewer c.args.block c.args.self.now.map) c.requires.written k.kept k.put st
