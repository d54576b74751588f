-- That a table of sites is one of the blocks that an inference is of.
use Rattle.std.specs.Prelude.{◌≡◌, ℕ, Bool}
use Rattle.dg_model.specs.Sites.{has_site}
use Rattle.dg_model.specs.Tables.{Table, sites_in}
use Rattle.dg_infer.specs.Meanings.{KeptInference}

-- There are as many blocks, of as many bytes, and a block is written or not.
pub record FitsTable (kept : KeptInference) (table : Table) (block : ℕ) (written : Bool) : Type 0 where
  pub bytes : table.shape.l ≡ kept.l
  pub number : table.shape.n ≡ kept.n
  pub site : has_site (sites_in table block) ≡ written
