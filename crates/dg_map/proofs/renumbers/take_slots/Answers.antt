use Rattle.std.proofs.Common.{◌<◌, ◌+◌, get_or, set, length, take, refl, sym, subst, arith}
use Rattle.dg_model.specs.Tables.{Table}
use Rattle.dg_map.specs.Begun.{AreSlotsOf}
use Rattle.dg_map.specs.Maps.{Agrees}
use Rattle.dg_map.specs.declared.boundary_slots.Slots.{Slots}
use Rattle.dg_map.specs.Restores.{CanHave, set_sites}
use Rattle.dg_map.proofs.BegunLemmas.{slot_empty, slots_put}
use Rattle.dg_map.proofs.RestoreLemmas.{no_site, put_next, put_none, still_free, still_none}
use Rattle.dg_map.proofs.renumbers.take_slots.Goals as goal

pub loop-site-init : goal.loop-site-init
loop-site-init c = λ table are can.
    (let size = are.is_table.size in
    let within = can.within in
    subst (λ (t : Table). AreSlotsOf t c.args.boundaries.now.items) (put_none table c.args.block c.args.sites.now can (omega (arith, size, within))) are)

pub take_at-requires-clause-free : goal.take_at-requires-clause-free
take_at-requires-clause-free c =
    let table = c.requires.0 in
    let can : CanHave table c.args.block c.args.sites.now = c.requires.2 in
    let size = c.requires.1.is_table.size in
    let within = can.within in
    let k = c.loop-site.site-index in
    let site = get_or c.args.sites.now k no_site in
    let are : AreSlotsOf (set_sites table c.args.block (take k c.args.sites.now)) c.loop-site.boundaries.items = c.loop-site.invariant table c.requires.1 can in
    let on : site.boundary < table.shape.b = (can.open_sites k no_site c.loop-site-test.true).boundary in
    slot_empty (set_sites table c.args.block (take k c.args.sites.now)) site.boundary site.slot c.index_mut-slots.result.now
    (subst (λ (slots : Slots). Agrees (set_sites table c.args.block (take k c.args.sites.now)) site.boundary slots) (sym c.index_mut-slots.ensures.value) (are.each site.boundary c.index_mut-slots.result.now on))
    (still_free table c.args.block c.args.sites.now can (omega (arith, size, within)) k no_site c.loop-site-test.true)

pub loop-site-preserved : goal.loop-site-preserved
loop-site-preserved c = λ table first can.
    (let size = first.is_table.size in
    let within = can.within in
    let k = c.loop-site.site-index in
    let old = set_sites table c.args.block (take k c.args.sites.now) in
    let site = get_or c.args.sites.now k no_site in
    let are : AreSlotsOf old c.loop-site.boundaries.items = c.loop-site.invariant table first can in
    let long : c.args.block < length table.rows = omega (arith, size, within) in
    let longer : c.args.block < length old.rows = (let all = are.is_table.size in omega (arith, all, within)) in
    subst (λ (t : Table). AreSlotsOf t (set c.loop-site.boundaries.items site.boundary c.take_at.new.self)) (put_next table c.args.block c.args.sites.now can long k (k + 1) no_site c.loop-site-test.true refl)
    (slots_put old c.args.block c.loop-site.boundaries.items c.index_mut-slots.result.now c.take_at.new.self site are longer (can.open_sites k no_site c.loop-site-test.true).boundary
    (still_none table c.args.block c.args.sites.now can long k no_site c.loop-site-test.true) c.index_mut-slots.ensures.value c.take_at.ensures))
