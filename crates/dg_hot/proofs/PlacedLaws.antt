-- The blocks of a file that has a home and no copy can be copied to another boundary.
use Rattle.std.proofs.Common.{◌≡◌, ◌≢◌, ℕ, List, length, sym, ◌∙◌, ap, arith}
use Rattle.std.specs.Prelude.{Option, Some, None, is_some}
use Rattle.dg_model.specs.Homes.{home_of}
use Rattle.dg_model.specs.Placed.{IsPlaced}
use Rattle.dg_model.specs.Plans.{blocks_of}
use Rattle.dg_model.specs.Tables.{Table}
use Rattle.dg_model.specs.Wants.{FitWants}
use Rattle.dg_model.specs.declared.homes.Home.{Home}
use Rattle.dg_model.specs.declared.wants.Want.{Want}
use Rattle.dg_model.specs.declared.wants.Want.TheVariants.{File}
use Rattle.dg_model.proofs.PlacedLaws.{block_is, not_copied, wanted_within}
use Rattle.dg_hot.specs.Copied.{CanCopy}

pub can_copy : (wants : List (Option Want)) (table : Table) (homes copies : List Home) (i h s : ℕ) → IsPlaced wants table homes copies → FitWants table wants
    → length table.rows ≡ table.shape.n → home_of homes i ≡ Some h → home_of copies i ≡ None → s ≢ h → CanCopy table s (blocks_of wants i)
can_copy wants table homes copies i h s placed fit sized home none off = record {
  within = λ b there.
      let e = block_is wants i b there in
      let low = wanted_within wants i b (File i) e in
      let size = fit.size in
      omega (arith, low, size);
  written = λ b there. sym (fit.written b) ∙ ap is_some (block_is wants i b there);
  none = λ b there. not_copied wants table homes copies i h s placed fit sized home none off b (block_is wants i b there);
}
