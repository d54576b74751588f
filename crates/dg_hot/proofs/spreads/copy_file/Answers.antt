use Rattle.std.proofs.Common.{◌∙◌, ℕ, length, refl, sym, ap}
use Rattle.std.specs.Prelude.{Option}
use Rattle.dg_model.specs.Copies.{fitted}
use Rattle.dg_store.specs.Stores.{table_of}
use Rattle.dg_hot.specs.Spreads.{copy_calls, spread_of}
use Rattle.dg_hot.proofs.CallLaws.{calls_none}
use Rattle.dg_hot.proofs.FileLaws.{map_ok, spreads_as, spreads_not}
use Rattle.dg_hot.proofs.StoreLaws.{moved_none}
use Rattle.dg_hot.proofs.spreads.copy_file.Goals as goal

pub returns-in-None-clause-moved : goal.returns-in-None-clause-moved
returns-in-None-clause-moved g c = moved_none g.R.Rack c.args.store.now c.requires.sound

pub returns-in-None-clause-spread : goal.returns-in-None-clause-spread
returns-in-None-clause-spread g c =
    spreads_not _ c.args.copies.now c.args.store.now
    (ap (λ (o : Option ℕ). fitted c.args.home.inode o c.args.blocks.now (spread_of c.args.store.now c.args.copies.now)) (sym c.emptiest.ensures.emptiest ∙ c.in-None.is))

pub copy_to-requires-clause-can : goal.copy_to-requires-clause-can
copy_to-requires-clause-can g c = c.requires.can c.in-Some.boundary c.in-Some.ensures.other

pub returns-in-Some-clause-spread : goal.returns-in-Some-clause-spread
returns-in-Some-clause-spread g c =
    map_ok c.copy_to.result _ _
    (λ n is. spreads_as _ _ n c.args.copies.now c.copy_to.new.copies c.args.store.now c.copy_to.new.store
    (ap (λ (o : Option ℕ). fitted c.args.home.inode o c.args.blocks.now (spread_of c.args.store.now c.args.copies.now)) (sym c.in-Some.is ∙ c.emptiest.ensures.emptiest)) is)
    c.copy_to.ensures.spread

pub returns-in-None-clause-most : goal.returns-in-None-clause-most
returns-in-None-clause-most g c =
    calls_none g.R.Rack c.args.store.now c.args.store.now (copy_calls (table_of c.args.store.now) (length c.args.blocks.now)) refl
