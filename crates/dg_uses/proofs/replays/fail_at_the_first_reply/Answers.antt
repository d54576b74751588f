use Rattle.dg_uses.proofs.Results.{if_ok}
use Rattle.dg_uses.proofs.RefusedRows.{prints_front}
use Rattle.dg_uses.proofs.replays.fail_at_the_first_reply.Goals as goal

pub returns : goal.returns
returns c = if_ok c.replay_text.result _ _ (λ end h. λ cut. prints_front c.line_is_unique.ensures end (h cut)) c.replay_text.ensures.part
