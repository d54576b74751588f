use Rattle.std.proofs.Common.{◌∙◌, ℕ, length, refl, sym, ap}
use Rattle.std.specs.Prelude.{Option}
use Rattle.dg_model.specs.Homes.{home_of}
use Rattle.dg_store.specs.Stores.{table_of}
use Rattle.dg_hot.specs.Spreads.{copy_calls, spread_of, spread_with}
use Rattle.dg_hot.proofs.CallLaws.{calls_none}
use Rattle.dg_hot.proofs.FileLaws.{map_ok, spreads_as, spreads_not}
use Rattle.dg_hot.proofs.StillLaws.{has_copy}
use Rattle.dg_hot.proofs.StoreLaws.{moved_none}
use Rattle.dg_hot.proofs.spreads.spread_file.Goals as goal

pub returns-in-None-clause-moved : goal.returns-in-None-clause-moved
returns-in-None-clause-moved g c = moved_none g.R.Rack c.args.store.now c.requires.sound

pub returns-in-None-clause-spread : goal.returns-in-None-clause-spread
returns-in-None-clause-spread g c =
    spreads_not _ c.args.copies.now c.args.store.now
    (ap (λ (o : Option ℕ). spread_with c.args.blocks.now c.args.inode o (home_of c.args.copies.now c.args.inode) (spread_of c.args.store.now c.args.copies.now))
    (sym c.home_of.ensures ∙ c.in-None.is))

pub spread_homed-requires-clause-can : goal.spread_homed-requires-clause-can
spread_homed-requires-clause-can g c s off none = c.requires.can c.in-Some.boundary s (sym c.home_of.ensures ∙ c.in-Some.is) off none

pub returns-in-Some-clause-spread : goal.returns-in-Some-clause-spread
returns-in-Some-clause-spread g c =
    map_ok c.spread_homed.result _ _
    (λ n is. spreads_as _ _ n c.args.copies.now c.spread_homed.new.copies c.args.store.now c.spread_homed.new.store
    (ap (λ (o : Option ℕ). spread_with c.args.blocks.now c.args.inode o (home_of c.args.copies.now c.args.inode) (spread_of c.args.store.now c.args.copies.now))
    (sym c.in-Some.is ∙ c.home_of.ensures)) is)
    c.spread_homed.ensures.spread

pub returns-in-Some-clause-still : goal.returns-in-Some-clause-still
returns-in-Some-clause-still g c none =
    c.spread_homed.ensures.still
    (has_copy (home_of c.args.homes.now c.args.inode) (home_of c.args.copies.now c.args.inode) c.in-Some.boundary (sym c.home_of.ensures ∙ c.in-Some.is) none)

pub returns-in-None-clause-most : goal.returns-in-None-clause-most
returns-in-None-clause-most g c =
    calls_none g.R.Rack c.args.store.now c.args.store.now (copy_calls (table_of c.args.store.now) (length c.args.blocks.now)) refl
