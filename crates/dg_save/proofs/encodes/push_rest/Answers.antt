use Rattle.dg_save.specs.States.{state_of}
use Rattle.dg_save.proofs.EncodeLemmas.{rest_joined}
use Rattle.dg_save.proofs.encodes.push_rest.Goals as goal

pub returns : goal.returns
returns c =
    rest_joined (state_of c.args.state.now) c.as_slice.result.now c.as_slice-recent.result.now _ _ _ _ c.as_slice.ensures c.as_slice-recent.ensures c.in_ok-push_homes.ensures
    c.in_ok-push.ensures c.in_ok-push_numbers.ensures
