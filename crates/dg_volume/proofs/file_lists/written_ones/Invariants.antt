use Rattle.std.proofs.Common.{◌≡◌, take}
use Rattle.std.specs.Prelude.{filter}
use Rattle.dg_model.specs.Sites.{has_site}
use Rattle.dg_model.specs.Tables.{sites_in}
use Rattle.dg_store.specs.Stores.{table_of}
use Rattle.dg_volume.proofs.file_lists.written_ones.Given as goal

abbrev pub invariant-loop-place : goal.invariant-loop-place
invariant-loop-place g l = l.written.items ≡ filter (λ b. has_site (sites_in (table_of l.store) b)) (take l.place l.blocks)
