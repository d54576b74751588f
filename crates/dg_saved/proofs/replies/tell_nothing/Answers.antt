use Rattle.dg_saved.proofs.replies.tell_nothing.Goals as goal

pub returns-in-Ok-clause-lines : goal.returns-in-Ok-clause-lines
returns-in-Ok-clause-lines g c = λ w other. c.in-Ok.ensures.lines w
