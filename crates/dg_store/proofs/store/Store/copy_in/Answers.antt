use Rattle.std.proofs.Common.{◌<◌, ℕ, length, sym, ◌∙◌, ap, subst, arith, refl}
use Rattle.dg_model.specs.Tables.{Table, IsFree, sites_in, without_site}
use Rattle.dg_store.proofs.Blocks.{stands_free, stands_kept, stands_put}
use Rattle.dg_store.proofs.PlaceLemmas.{lost_alike, slot_kept}
use Rattle.dg_store.proofs.RowLaws.{keeps_none}
use Rattle.dg_store.proofs.Sound.{leaves_of, row_of}
use Rattle.dg_store.proofs.TableLemmas.{count_put, none_on, put_back, put_here, put_slot}
use Rattle.dg_store.proofs.store.Store.copy_in.Goals as goal

-- no site was taken

pub returns-in-Err-Full-clause-leaves : goal.returns-in-Err-Full-clause-leaves
returns-in-Err-Full-clause-leaves g c =
    let s = c.requires.sound in
    leaves_of g.R.Rack g.met.R.Rack.told c.args.self.now _ (ap (λ (t : Table). t.shape) c.in-Err-Full.ensures.refused) c.take_spare.ensures.table s.built.block s.built.given_up
    (keeps_none g.R.Rack c.args.self.now.map.shape _ _ (row_of g.R.Rack c.args.self.now s))

pub returns-in-Err-Full-clause-same : goal.returns-in-Err-Full-clause-same
returns-in-Err-Full-clause-same g c other V st = rw c.in-Err-Full.ensures.refused st

pub returns-in-Err-NoMemory-clause-leaves : goal.returns-in-Err-NoMemory-clause-leaves
returns-in-Err-NoMemory-clause-leaves g c =
    let s = c.requires.sound in
    leaves_of g.R.Rack g.met.R.Rack.told c.args.self.now _ (ap (λ (t : Table). t.shape) c.in-Err-NoMemory.ensures.refused) c.take_spare.ensures.table s.built.block s.built.given_up
    (keeps_none g.R.Rack c.args.self.now.map.shape _ _ (row_of g.R.Rack c.args.self.now s))

pub returns-in-Err-NoMemory-clause-err_same : goal.returns-in-Err-NoMemory-clause-err_same
returns-in-Err-NoMemory-clause-err_same g c V st = rw c.in-Err-NoMemory.ensures.refused st

-- the write of the new site

pub write_slot-requires-clause-row : goal.write_slot-requires-clause-row
write_slot-requires-clause-row g c =
    let shape = c.shape-shape.ensures.shape ∙ ap (λ (t : Table). t.shape) c.in-Ok.ensures.taken.taken in
    rw shape (row_of g.R.Rack c.args.self.now c.requires.sound)

pub write_slot-requires-clause-slot : goal.write_slot-requires-clause-slot
write_slot-requires-clause-slot g c =
    let shape = c.shape-shape.ensures.shape ∙ ap (λ (t : Table). t.shape) c.in-Ok.ensures.taken.taken in
    let within : c.args.block < length c.args.self.now.map.rows = omega (arith, c.requires.sound.table.size, c.requires.range) in
    rw shape (put_slot c.args.self.now.map c.take_spare.new.self c.args.block c.in-Ok.site c.in-Ok.ensures.taken.taken c.take_spare.ensures.table within)

pub drop_site-requires-clause-one : goal.drop_site-requires-clause-one
drop_site-requires-clause-one g c =
    let table = c.args.self.now.map in
    let within : c.args.block < length table.rows = omega (arith, c.requires.sound.table.size, c.requires.range) in
    let row = ap (λ (t : Table). sites_in t c.args.block) c.in-Ok.ensures.taken.taken ∙ put_here table c.args.block c.in-Ok.site within in
    rw row (count_put c.in-Ok.site.boundary (sites_in table c.args.block) c.in-Ok.site refl)

pub returns-in-Kept-clause-leaves : goal.returns-in-Kept-clause-leaves
returns-in-Kept-clause-leaves g c =
    let s = c.requires.sound in
    let put = ap (λ (t : Table). t.shape) c.in-Ok.ensures.taken.taken in
    let shape = c.shape-shape.ensures.shape ∙ put in
    let k = rw shape at c.write_slot.ensures in
    leaves_of g.R.Rack g.met.R.Rack.told c.args.self.now _ put c.take_spare.ensures.table s.built.block s.built.given_up k.keeps

pub returns-in-Kept-clause-members : goal.returns-in-Kept-clause-members
returns-in-Kept-clause-members g c q off = c.write_slot.ensures.others q (λ at. off (at ∙ c.in-Ok.ensures.taken.on))

pub returns-in-Kept-clause-live : goal.returns-in-Kept-clause-live
returns-in-Kept-clause-live g c =
    let sites = sites_in c.args.self.now.map c.args.block in
    lost_alike _ _ c.args.boundary sites (λ q off. c.write_slot.ensures.others q (λ at. off (at ∙ c.in-Ok.ensures.taken.on))) (none_on c.args.boundary sites c.requires.none)

pub returns-in-Kept-clause-placed : goal.returns-in-Kept-clause-placed
returns-in-Kept-clause-placed g c is = record { site = c.in-Ok.site; takes = c.in-Ok.ensures.taken }

pub returns-in-Kept-clause-stands : goal.returns-in-Kept-clause-stands
returns-in-Kept-clause-stands g c is V st copied =
    let table = c.args.self.now.map in
    let taken = c.in-Ok.ensures.taken in
    let shape = c.shape-shape.ensures.shape ∙ ap (λ (t : Table). t.shape) taken.taken in
    let k = rw (shape, c.deref.ensures.value, copied) at c.write_slot.ensures in
    let free = subst (λ (s : ℕ). IsFree table s c.in-Ok.site.slot) (sym taken.on) taken.lowest.free in
    rw taken.taken
    (stands_put _ _ V table c.args.block c.in-Ok.site c.requires.sound.table c.requires.range k.put
    (stands_free _ _ _ _ V table c.in-Ok.site.boundary c.in-Ok.site.slot free k.kept st))

-- the boundary of the new site is lost

pub returns-in-Lost-clause-refused : goal.returns-in-Lost-clause-refused
returns-in-Lost-clause-refused g c other =
    let table = c.args.self.now.map in
    let within : c.args.block < length table.rows = omega (arith, c.requires.sound.table.size, c.requires.range) in
    c.drop_site.ensures.dropped
    ∙ ap (λ (t : Table). without_site t c.args.block c.in-Ok.site.boundary) c.in-Ok.ensures.taken.taken
    ∙ put_back table c.args.block c.in-Ok.site.boundary c.in-Ok.site within (rw c.in-Ok.ensures.taken.on c.requires.none) refl

pub returns-in-Lost-clause-leaves : goal.returns-in-Lost-clause-leaves
returns-in-Lost-clause-leaves g c =
    let s = c.requires.sound in
    let put = ap (λ (t : Table). t.shape) c.in-Ok.ensures.taken.taken in
    let shape = c.shape-shape.ensures.shape ∙ put in
    let k = rw shape at c.write_slot.ensures in
    leaves_of g.R.Rack g.met.R.Rack.told c.args.self.now _ (ap (λ (t : Table). t.shape) c.drop_site.ensures.dropped ∙ put) c.drop_site.ensures.table s.built.block s.built.given_up k.keeps

pub returns-in-Lost-clause-members : goal.returns-in-Lost-clause-members
returns-in-Lost-clause-members g c q off = c.write_slot.ensures.others q (λ at. off (at ∙ c.in-Ok.ensures.taken.on))

pub returns-in-Lost-clause-live : goal.returns-in-Lost-clause-live
returns-in-Lost-clause-live g c =
    let sites = sites_in c.args.self.now.map c.args.block in
    lost_alike _ _ c.args.boundary sites (λ q off. c.write_slot.ensures.others q (λ at. off (at ∙ c.in-Ok.ensures.taken.on))) (none_on c.args.boundary sites c.requires.none)

pub returns-in-Lost-clause-same : goal.returns-in-Lost-clause-same
returns-in-Lost-clause-same g c other V st =
    let table = c.args.self.now.map in
    let taken = c.in-Ok.ensures.taken in
    let shape = c.shape-shape.ensures.shape ∙ ap (λ (t : Table). t.shape) taken.taken in
    let k = rw shape at c.write_slot.ensures in
    let within : c.args.block < length table.rows = omega (arith, c.requires.sound.table.size, c.requires.range) in
    let back =
    c.drop_site.ensures.dropped
    ∙ ap (λ (t : Table). without_site t c.args.block c.in-Ok.site.boundary) taken.taken
    ∙ put_back table c.args.block c.in-Ok.site.boundary c.in-Ok.site within (rw taken.on c.requires.none) refl in
    rw back (stands_kept _ _ _ _ V table (slot_kept table.shape.l _ _ _ _ c.in-Ok.site.boundary c.in-Ok.site.slot (k.out c.in-Lost.is) k.kept) st)
