use Rattle.std.proofs.Common.{inr}
use Rattle.dg_parity.proofs.RunLemmas.{window-room, window-begins}
use Rattle.dg_parity.proofs.windows.in_window.Goals as goal

pub returns-clause-whole : goal.returns-clause-whole
returns-clause-whole c = inr (window-room c.args.n c.from-data.result c.args.at c.from-data.ensures c.requires.least)

pub returns-clause-begins : goal.returns-clause-begins
returns-clause-begins c = inr (window-begins c.args.n c.from-data.result c.args.at c.from-data.ensures c.requires.least)
