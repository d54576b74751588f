use Rattle.std.proofs.Common.{◌<◌, ℕ, get_or}
use Rattle.dg_store.specs.Stores.{table_of}
use Rattle.dg_volume.specs.Besides.{CanBeCut}
use Rattle.dg_volume.proofs.besides.fits_extra.Given as goal

abbrev pub invariant-loop-place : goal.invariant-loop-place
invariant-loop-place g l = (k d : ℕ) → k < l.place → CanBeCut (table_of l.store) (get_or l.cut k d)
