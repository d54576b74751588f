use Rattle.dg_label.proofs.LabelLaws.{made_labeled, made_sound}
use Rattle.dg_label.proofs.tests.array.Goals as goal

pub returns-clause-sound : goal.returns-clause-sound
returns-clause-sound g c = made_sound g.R.Rack c.args.shape c.args.rack c.new.result c.new.ensures

pub returns-clause-labeled : goal.returns-clause-labeled
returns-clause-labeled g c = made_labeled g.R.Rack c.args.shape c.args.rack c.new.result c.new.ensures
