use Rattle.dg_parity_tests.proofs.NoteRows.{noted_rows}
use Rattle.dg_parity_tests.proofs.laws.noted_on.Goals as goal

pub returns : goal.returns
returns g c old new q same goes served noted = noted_rows g.R.Rack old new q same goes served noted
