-- What is read of a store by paths, of which some blocks were cut: these are gone, whatever the store has.
use Rattle.std.specs.Prelude.{◌≡◌, ◌||◌, ℕ, Bool, true, List, Option}
use Rattle.dg_io.specs.declared.outside.Rack.{Ghosts}
use Rattle.dg_model.specs.Marks.{is_marked}
use Rattle.dg_model.specs.Sites.{is_gone}
use Rattle.dg_store.specs.Stores.{StandsFor, TellsAll, members_of, table_of}
use Rattle.dg_store.specs.declared.store.Store.{Store}
use Rattle.ufs_model.specs.Blocks.{Reading}
use Rattle.ufs_model.specs.Readings.{ReadsAs}

-- whether block b was cut, or is gone
abbrev pub gone_with : {R : Type 0} → List Bool → Store R → ℕ → Bool
gone_with cut store b = is_marked cut b || is_gone (table_of store) (members_of store) b

-- some block is so
abbrev pub LosesOne : {R : Type 0} → List Bool → Store R → Type 0
LosesOne cut store = (b : ℕ) × (gone_with cut store b ≡ true)

-- fetches gave this result of a reading of the blocks that the store stood for
abbrev pub ReadsCut : {R A : Type 0} → Ghosts R → List Bool → Store R → Store R → Reading A → Option A → Type 0
ReadsCut rack cut old new reading result = ReadsAs (StandsFor rack old) (gone_with cut old) (TellsAll rack new) (gone_with cut new) reading result
