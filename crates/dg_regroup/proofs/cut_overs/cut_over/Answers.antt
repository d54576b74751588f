use Rattle.dg_regroup.proofs.CutLemmas.{are_left, cut_over_is, some_none}
use Rattle.dg_regroup.proofs.cut_overs.cut_over.Goals as goal

pub renumbered-requires : goal.renumbered-requires
renumbered-requires c =
    are_left c.args.lost c.args.map.now c.new-places.result c.as_slice.result.now c.args.shape c.in-Some.left c.new-places.ensures c.as_slice.ensures c.requires.shape
    c.in-Some.ensures.shape c.shape.ensures.table (λ few. some_none c.in-Some.left (c.in-Some.ensures.few.1 few))

pub returns-clause-left : goal.returns-clause-left
returns-clause-left c =
    cut_over_is c.args.lost c.args.map.now c.new-places.result c.as_slice.result.now c.args.shape c.in-Some.left c.new-places.ensures c.as_slice.ensures c.requires.shape
    c.in-Some.ensures.shape c.shape.ensures.table (λ few. some_none c.in-Some.left (c.in-Some.ensures.few.1 few))
    c.args.homes.now c.args.copies.now c.in_ok-homes_left.field-0 c.in_ok-now.now _ c.in_ok-cut.cut c.now.view_is c.in_ok-now.ensures.sites c.in_ok-cut.ensures c.in_ok-homes_left.ensures
