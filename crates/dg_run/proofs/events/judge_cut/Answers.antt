use Rattle.std.proofs.Common.{arith}
use Rattle.dg_run.proofs.Refusing.{cut_cut, cut_size}
use Rattle.dg_run.proofs.events.judge_cut.Goals as goal

pub returns-then-n-room : goal.returns-then-n-room
returns-then-n-room c = record { fits = λ shape text short cut. cut_size shape c.args.n c.args.room text short (omega arith) cut }

pub returns-else-n-room : goal.returns-else-n-room
returns-else-n-room c = record { fits = λ shape text short cut. cut_cut shape c.args.n c.args.room text short (omega arith) cut }
