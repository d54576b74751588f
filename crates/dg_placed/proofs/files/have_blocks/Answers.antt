use Rattle.dg_placed.proofs.UseLaws.{all_marked}
use Rattle.dg_placed.proofs.files.have_blocks.Goals as goal

pub returns : goal.returns
returns c =
    let used = c.in_ok-used.used.items in
    all_marked c.args.homes.now c.args.wants.now used c.deref.result.now c.are_set.result c.deref.ensures.value c.in_ok-used.ensures c.are_set.ensures
