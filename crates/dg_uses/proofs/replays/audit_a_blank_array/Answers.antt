use Rattle.dg_uses.proofs.AuditRows.{prints_no_volume}
use Rattle.dg_uses.proofs.Results.{if_ok}
use Rattle.dg_uses.proofs.replays.audit_a_blank_array.Goals as goal

pub returns : goal.returns
returns c = if_ok c.replay_text.result _ _ (λ end h. λ done never. prints_no_volume c.input_is_unique.ensures end (h done) never) c.replay_text.ensures.done
