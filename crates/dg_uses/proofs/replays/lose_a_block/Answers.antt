use Rattle.dg_uses.proofs.LossRows.{prints_lost}
use Rattle.dg_uses.proofs.Results.{if_ok}
use Rattle.dg_uses.proofs.replays.lose_a_block.Goals as goal

pub returns : goal.returns
returns c = if_ok c.replay_text.result _ _ (λ end h. λ done never. prints_lost c.input_is_unique.ensures end (h done) never) c.replay_text.ensures.done
