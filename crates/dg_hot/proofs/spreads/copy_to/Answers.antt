use Rattle.std.proofs.Common.{◌≡◌, ◌∙◌, length, refl, sym, ap, subst, arith}
use Rattle.std.specs.Prelude.{Some}
use Rattle.dg_model.specs.Copies.{fitted}
use Rattle.dg_model.specs.Moves.{all_done}
use Rattle.dg_model.specs.Tables.{Table}
use Rattle.dg_model.specs.declared.shapes.Shape.{Shape}
use Rattle.dg_store.specs.Stores.{table_of}
use Rattle.dg_hot.specs.Copied.{CanGiveUp, give_ups_on}
use Rattle.dg_hot.specs.Spreads.{copy_calls, spread_of}
use Rattle.dg_hot.proofs.CallLaws.{calls_none, calls_same}
use Rattle.dg_hot.proofs.CopyLaws.{given_back}
use Rattle.dg_hot.proofs.FileLaws.{kept_one, map_err, not_kept, same_spread, spreads_cut, spreads_not}
use Rattle.dg_hot.proofs.SpreadLaws.{not_fitted}
use Rattle.dg_hot.proofs.StoreLaws.{can_give_up, moved_both, moved_none}
use Rattle.dg_hot.proofs.spreads.copy_to.Goals as goal

pub returns-then-wanted-most-clause-moved : goal.returns-then-wanted-most-clause-moved
returns-then-wanted-most-clause-moved g c = moved_none g.R.Rack c.args.store.now c.requires.sound

pub returns-then-wanted-most-clause-spread : goal.returns-then-wanted-most-clause-spread
returns-then-wanted-most-clause-spread g c =
    let k = ap (λ (sh : Shape). sh.k) c.shape.ensures in
    spreads_not (fitted c.args.copy.inode (Some c.args.copy.boundary) c.args.blocks.now (spread_of c.args.store.now c.args.copies.now)) c.args.copies.now c.args.store.now
    (not_fitted c.args.copy.inode c.args.copy.boundary c.args.blocks.now (spread_of c.args.store.now c.args.copies.now)
    (omega (arith, k, rw c.map.ensures at c.used.ensures, c.if-wanted-most.true)))

pub copy_all-requires-clause-room : goal.copy_all-requires-clause-room
copy_all-requires-clause-room g c =
    let k = ap (λ (sh : Shape). sh.k) c.shape.ensures in
    omega (arith, k, rw c.map.ensures at c.used.ensures, c.if-wanted-most.false)

pub keep_copy-requires-clause-can : goal.keep_copy-requires-clause-can
keep_copy-requires-clause-can g c =
    subst (λ (t : Table). CanGiveUp t c.args.copy.boundary c.args.blocks.now) (sym (c.in-Ok-true.ensures.copied c.in-Ok-true.field-0-test))
    (can_give_up (table_of c.args.store.now) c.args.copy.boundary c.requires.sound.table c.args.blocks.now c.requires.apart c.requires.can)

pub returns-in-Ok-true-clause-moved : goal.returns-in-Ok-true-clause-moved
returns-in-Ok-true-clause-moved g c = moved_both g.R.Rack _ _ _ c.copy_all.ensures.moved c.keep_copy.ensures.moved

pub returns-in-Ok-true-clause-spread : goal.returns-in-Ok-true-clause-spread
returns-in-Ok-true-clause-spread g c =
    let k = ap (λ (sh : Shape). sh.k) c.shape.ensures in
    kept_one c.keep_copy.result c.args.copies.now c.keep_copy.new.copies c.args.copy c.args.store.now c.copy_all.new.store c.keep_copy.new.store c.args.blocks.now
    c.keep_copy.ensures.one c.keep_copy.ensures.added c.keep_copy.ensures.stays (c.in-Ok-true.ensures.copied c.in-Ok-true.field-0-test)
    (omega (arith, k, rw c.map.ensures at c.used.ensures, c.if-wanted-most.false))

pub returns-in-Ok-true-clause-err : goal.returns-in-Ok-true-clause-err
returns-in-Ok-true-clause-err g c =
    not_kept c.keep_copy.result c.args.copies.now c.keep_copy.new.copies c.args.store.now c.keep_copy.new.store c.keep_copy.ensures.err
    (map_err c.keep_copy.result
    (table_of c.keep_copy.new.store ≡ all_done (table_of c.copy_all.new.store) (give_ups_on c.args.copy.boundary c.args.blocks.now))
    (table_of c.keep_copy.new.store ≡ table_of c.args.store.now)
    (λ back. back ∙ ap (λ (t : Table). all_done t (give_ups_on c.args.copy.boundary c.args.blocks.now)) (c.in-Ok-true.ensures.copied c.in-Ok-true.field-0-test)
    ∙ given_back c.args.copy.boundary (table_of c.args.store.now) c.args.blocks.now c.requires.apart c.requires.can.none)
    c.keep_copy.ensures.back)

pub returns-in-Ok-false-clause-spread : goal.returns-in-Ok-false-clause-spread
returns-in-Ok-false-clause-spread g c =
    spreads_cut _ c.args.copies.now c.args.store.now c.copy_all.new.store (c.in-Ok-false.ensures.lost c.in-Ok-false.field-0-test)
    (c.in-Ok-false.ensures.same c.in-Ok-false.field-0-test)

pub returns-in-Err-clause-err : goal.returns-in-Err-clause-err
returns-in-Err-clause-err g c = same_spread c.args.copies.now c.args.copies.now c.args.store.now c.copy_all.new.store refl c.in-Err.ensures.err

pub returns-then-wanted-most-clause-most : goal.returns-then-wanted-most-clause-most
returns-then-wanted-most-clause-most g c =
    calls_none g.R.Rack c.args.store.now c.args.store.now (copy_calls (table_of c.args.store.now) (length c.args.blocks.now)) refl

pub returns-in-Ok-true-clause-most : goal.returns-in-Ok-true-clause-most
returns-in-Ok-true-clause-most g c =
    calls_same g.R.Rack c.args.store.now c.copy_all.new.store c.keep_copy.new.store (copy_calls (table_of c.args.store.now) (length c.args.blocks.now))
    c.copy_all.ensures.most c.keep_copy.ensures.rack
