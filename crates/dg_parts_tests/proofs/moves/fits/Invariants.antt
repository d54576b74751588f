use Rattle.std.proofs.Common.{◌≡◌, ◌<◌, ℕ}
use Rattle.std.specs.Option.{is_some}
use Rattle.dg_model.specs.Sites.{has_site}
use Rattle.dg_model.specs.Tables.{sites_in}
use Rattle.dg_model.specs.Wants.{want_of}
use Rattle.dg_store.specs.Stores.{table_of}
use Rattle.dg_parts_tests.proofs.moves.fits.Given as goal

abbrev pub invariant-loop-block : goal.invariant-loop-block
invariant-loop-block g l = (b : ℕ) → b < l.block → is_some (want_of l.wants b) ≡ has_site (sites_in (table_of l.store) b)
