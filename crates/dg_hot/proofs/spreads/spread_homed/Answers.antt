use Rattle.std.proofs.Common.{◌∙◌, ℕ, length, refl, sym, ap}
use Rattle.std.specs.Prelude.{Option, Some, is_some}
use Rattle.std.proofs.lemmas.Bool.{false≢true}
use Rattle.dg_store.specs.Stores.{table_of}
use Rattle.dg_hot.specs.Spreads.{copy_calls, spread_of, spread_with}
use Rattle.dg_hot.proofs.CallLaws.{calls_none}
use Rattle.dg_hot.proofs.FileLaws.{map_ok, spreads_as, spreads_not}
use Rattle.dg_hot.proofs.StoreLaws.{moved_none}
use Rattle.dg_hot.proofs.spreads.spread_homed.Goals as goal

pub returns-in-Some-clause-moved : goal.returns-in-Some-clause-moved
returns-in-Some-clause-moved g c = moved_none g.R.Rack c.args.store.now c.requires.sound

pub returns-in-Some-clause-spread : goal.returns-in-Some-clause-spread
returns-in-Some-clause-spread g c =
    spreads_not _ c.args.copies.now c.args.store.now
    (ap (λ (o : Option ℕ). spread_with c.args.blocks.now c.args.home.inode (Some c.args.home.boundary) o (spread_of c.args.store.now c.args.copies.now))
    (sym c.home_of.ensures ∙ c.in-Some.is))

pub copy_file-requires-clause-can : goal.copy_file-requires-clause-can
copy_file-requires-clause-can g c s off = c.requires.can s off (sym c.home_of.ensures ∙ c.in-None.is)

pub returns-in-None-clause-spread : goal.returns-in-None-clause-spread
returns-in-None-clause-spread g c =
    map_ok c.copy_file.result _ _
    (λ n is. spreads_as _ _ n c.args.copies.now c.copy_file.new.copies c.args.store.now c.copy_file.new.store
    (ap (λ (o : Option ℕ). spread_with c.args.blocks.now c.args.home.inode (Some c.args.home.boundary) o (spread_of c.args.store.now c.args.copies.now))
    (sym c.in-None.is ∙ c.home_of.ensures)) is)
    c.copy_file.ensures.spread

pub returns-in-None-clause-still : goal.returns-in-None-clause-still
returns-in-None-clause-still g c has = absurd (false≢true (sym (ap is_some (sym c.home_of.ensures ∙ c.in-None.is)) ∙ has))

pub returns-in-Some-clause-most : goal.returns-in-Some-clause-most
returns-in-Some-clause-most g c =
    calls_none g.R.Rack c.args.store.now c.args.store.now (copy_calls (table_of c.args.store.now) (length c.args.blocks.now)) refl
