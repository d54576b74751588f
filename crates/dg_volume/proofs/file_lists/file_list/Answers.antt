use Rattle.std.proofs.Common.{◌∙◌, ap}
use Rattle.std.specs.Prelude.{filter}
use Rattle.std.proofs.lemmas.Result.{IfOk-weaker}
use Rattle.dg_model.specs.Sites.{has_site}
use Rattle.dg_model.specs.Tables.{sites_in}
use Rattle.dg_store.specs.Stores.{table_of}
use Rattle.dg_volume.proofs.ListedLaws.{listed_is}
use Rattle.dg_volume.proofs.file_lists.file_list.Goals as goal

pub returns : goal.returns
returns g c =
    IfOk-weaker c.written_ones.result _ _
    (λ list is wants wanted.
    is ∙ ap (filter (λ b. has_site (sites_in (table_of c.args.store.now) b))) c.deref.ensures.value
    ∙ listed_is (table_of c.args.store.now) c.args.inference.now wants wanted c.args.inode c.in_ok-blocks.blocks.items c.in_ok-blocks.ensures.ascend c.in_ok-blocks.ensures.are)
    c.written_ones.ensures
