use Rattle.dg_uses.proofs.Results.{if_ok}
use Rattle.dg_uses.proofs.RefusedRows.{prints_refused_safe}
use Rattle.dg_uses.proofs.safes.refuse_behind_safe.Goals as goal

pub returns : goal.returns
returns c = if_ok c.replay_text.result _ _ (λ end h. λ bad. prints_refused_safe c.line_is_unique.ensures end (h bad)) c.replay_text.ensures.bad_line
