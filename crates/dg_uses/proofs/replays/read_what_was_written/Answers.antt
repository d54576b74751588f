use Rattle.std.proofs.Common.{◌≡◌, ◌∙◌, arith, sym}
use Rattle.dg_run.specs.declared.top.Status.TheVariants.{Done, WriteFault}
use Rattle.dg_uses.proofs.FewCalls.{three_calls}
use Rattle.dg_uses.proofs.Results.{if_ok, if_ok_both}
use Rattle.dg_uses.proofs.Rows.{prints_written}
use Rattle.dg_uses.proofs.replays.read_what_was_written.Goals as goal

pub returns-clause-prints : goal.returns-clause-prints
returns-clause-prints c = if_ok c.replay_text.result _ _ (λ end h. λ done never. prints_written c.input_is_unique.ensures end (h done) never) c.replay_text.ensures.done

pub returns-clause-calls : goal.returns-clause-calls
returns-clause-calls c = if_ok_both c.replay_text.result _ _ _ (λ end h lines. λ done never.
    three_calls end.sink (prints_written c.input_is_unique.ensures end (h done) never) (lines (λ is. let both : Done ≡ WriteFault = sym done ∙ is in absurd (cc both))))
    c.replay_text.ensures.done c.replay_text.ensures.lines

pub returns-clause-reads : goal.returns-clause-reads
returns-clause-reads c = if_ok c.replay_text.result _ _ (λ end h. omega (arith, h)) c.replay_text.ensures.reads
