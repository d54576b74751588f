use Rattle.std.proofs.Common.{◌∙◌, ap, length}
use Rattle.dg_save.specs.States.{state_of}
use Rattle.dg_save.specs.Parts.{rows_in}
use Rattle.dg_save.proofs.EncodeLemmas.{front_joined}
use Rattle.dg_save.proofs.encodes.push_front.Goals as goal

pub returns : goal.returns
returns c =
    front_joined (state_of c.args.state.now) c.byte_of.result c.as_slice.result.now c.as_slice-2.result.now (rows_in c.as_vec.result.now.items) c.as_slice-3.result.now _ _ _ _ _
    c.byte_of.ensures c.as_slice.ensures c.as_slice-2.ensures c.as_vec.ensures c.as_slice-3.ensures
    (ap length c.as_slice-2.ensures ∙ c.requires.marks) c.in_ok-push.ensures c.in_ok-push_good.ensures c.in_ok-push_blocks.ensures c.in_ok-push_homes.ensures
