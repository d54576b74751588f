use Rattle.dg_uses.proofs.Results.{if_ok}
use Rattle.dg_uses.proofs.SafeRows.{keeps_written}
use Rattle.dg_uses.proofs.safes.keep_what_was_written.Goals as goal

pub returns : goal.returns
returns c = if_ok c.replay_kept.result _ _ (λ end h. λ done is. keeps_written c.input_is_unique.ensures end (h done) is) c.replay_kept.ensures
