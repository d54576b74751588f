use Rattle.std.proofs.Common.{◌<◌, ◌∙◌, length, get_or, refl, sym, ap, subst}
use Rattle.dg_model.specs.Tables.{Table, count_on, sites_in, without_site}
use Rattle.dg_store.specs.Stores.{table_of}
use Rattle.dg_hot.proofs.StoreLaws.{give_done, give_one, give_other, give_within, moved_both, moved_none}
use Rattle.dg_hot.proofs.copies.give_up.Goals as goal

pub unplace-requires-clause-range : goal.unplace-requires-clause-range
unplace-requires-clause-range g c =
    subst (λ (t : Table). get_or c.args.blocks.now c.loop-place.place 0 < t.shape.n) (sym c.loop-place.invariant.table)
    (give_within (table_of c.args.store.now) c.args.boundary c.args.blocks.now c.loop-place.place c.requires.apart c.requires.can c.loop-place-test.true)

pub unplace-requires-clause-one : goal.unplace-requires-clause-one
unplace-requires-clause-one g c =
    subst (λ (t : Table). 0 < count_on c.args.boundary (sites_in t (get_or c.args.blocks.now c.loop-place.place 0))) (sym c.loop-place.invariant.table)
    (give_one (table_of c.args.store.now) c.args.boundary c.args.blocks.now c.loop-place.place c.requires.apart c.requires.can c.loop-place-test.true)

pub unplace-requires-clause-other : goal.unplace-requires-clause-other
unplace-requires-clause-other g c =
    subst (λ (t : Table). 1 < length (sites_in t (get_or c.args.blocks.now c.loop-place.place 0))) (sym c.loop-place.invariant.table)
    (give_other (table_of c.args.store.now) c.args.boundary c.args.blocks.now c.loop-place.place c.requires.apart c.requires.can c.loop-place-test.true)

pub loop-place-preserved : goal.loop-place-preserved
loop-place-preserved g c =
    let did = c.unplace.ensures in
    let old = c.loop-place.invariant in
    record {
      moved = moved_both g.R.Rack _ _ _ old.moved (record { leaves = did.leaves; written = did.written; stands = λ told. did.stands });
      rack = did.rack ∙ old.rack;
      members = λ q. did.members q ∙ old.members q;
      table = give_done (table_of c.args.store.now) c.args.boundary c.args.blocks.now c.loop-place.place c.requires.apart c.requires.can c.loop-place-test.true
          (table_of c.unplace.new.self)
          (did.table ∙ ap (λ (t : Table). without_site t (get_or c.args.blocks.now c.loop-place.place 0) c.args.boundary) old.table);
    }

pub loop-place-init : goal.loop-place-init
loop-place-init g c = record { moved = moved_none g.R.Rack c.args.store.now c.requires.sound; rack = refl; members = λ q. refl; table = refl }
