use Rattle.std.proofs.Common.{◌∙◌, ◌+◌, List, sym, subst}
use Rattle.std.specs.Prelude.{Option}
use Rattle.dg_model.specs.declared.wants.Want.{Want}
use Rattle.dg_store.specs.Stores.{table_of}
use Rattle.dg_volume.proofs.WantLaws.{AreFirst, one_more, pushed}
use Rattle.dg_volume.proofs.plans.all_wants.Goals as goal

pub loop-block-preserved : goal.loop-block-preserved
loop-block-preserved g c =
    let table = table_of c.args.store.now in
    let kept = c.args.inference.now in
    let before = c.loop-block.wants.items in
    let after = pushed c.push.result before c.push.new.self.items c.want_of.result (sym c.is_err.ensures.value ∙ c.if-is_err.false) c.push.ensures.items in
    subst (λ (wants : List (Option Want)). AreFirst table kept wants (c.loop-block.block + 1)) (sym after)
    (one_more table kept before c.loop-block.block c.want_of.result c.loop-block.invariant c.want_of.ensures)
