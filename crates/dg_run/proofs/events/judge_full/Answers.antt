use Rattle.std.proofs.Common.{arith}
use Rattle.dg_run.proofs.Refusing.{full_long, full_size}
use Rattle.dg_run.proofs.events.judge_full.Goals as goal

pub returns-then-most-room : goal.returns-then-most-room
returns-then-most-room c = record { fits = λ shape text is full. full_long shape c.args.most c.args.room text is (omega arith) full }

pub returns-else-most-room : goal.returns-else-most-room
returns-else-most-room c = record { fits = λ shape text is full. full_size shape c.args.most c.args.room text is (omega arith) full }
