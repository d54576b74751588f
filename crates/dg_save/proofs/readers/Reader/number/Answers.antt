use Rattle.std.proofs.Common.{arith}
use Rattle.dg_save.proofs.ReadLemmas.{number_read}
use Rattle.dg_save.proofs.readers.Reader.number.Goals as goal

pub returns : goal.returns
returns c = rw (← c.self.view_is) (number_read c.self.inside.rest.now c.split_at.result.1.now c.number_of.result (omega arith) c.split_at.ensures.back c.number_of.ensures (omega arith))
