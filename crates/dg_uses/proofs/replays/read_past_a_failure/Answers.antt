use Rattle.dg_uses.proofs.Results.{if_ok}
use Rattle.dg_uses.proofs.Rows.{prints_failed}
use Rattle.dg_uses.proofs.replays.read_past_a_failure.Goals as goal

pub returns : goal.returns
returns c = if_ok c.replay_text.result _ _ (λ end h. λ done never. prints_failed c.input_is_unique.ensures end (h done) never) c.replay_text.ensures.done
