use Rattle.std.proofs.Common.{◌∙◌, ◌++◌, List, sym, ap, arith}
use Rattle.std.specs.Prelude.{option_to_list}
use Rattle.dg_model.specs.declared.homes.Home.{Home}
use Rattle.dg_regroup.proofs.CutLemmas.{homes_more}
use Rattle.dg_regroup.proofs.cut_overs.homes_left.Goals as goal

pub loop-home-preserved : goal.loop-home-preserved
loop-home-preserved c =
    c.in_ok-push_some.ensures
    ∙ ap (λ (xs : List Home). xs ++ option_to_list c.home_left.result) c.loop-home.invariant
    ∙ sym (homes_more c.args.places.now c.args.copies.now _ c.loop-home.home-index _ c.home_left.result (omega arith) (sym c.home_left.ensures))
