use Rattle.dg_label.proofs.LengthLaws.{first_labeled}
use Rattle.dg_label.proofs.tests.first_form.Goals as goal

pub returns : goal.returns
returns g c = first_labeled g.R.Rack c.args.line.now c.args.store.now c.requires.sound c.requires.labeled
