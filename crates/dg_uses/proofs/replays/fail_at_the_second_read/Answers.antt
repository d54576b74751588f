use Rattle.dg_uses.proofs.BrokenRows.{prints_broken}
use Rattle.dg_uses.proofs.Results.{if_ok}
use Rattle.dg_uses.proofs.replays.fail_at_the_second_read.Goals as goal

pub returns : goal.returns
returns c = if_ok c.replay_failing.result _ _ (λ end h. λ fault never all. prints_broken c.line_is_unique.ensures end (h fault) never all) c.replay_failing.ensures.broke
