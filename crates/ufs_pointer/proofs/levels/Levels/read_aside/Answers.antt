use Rattle.ufs_pointer.proofs.AreaFetches.{area_gone, area_once}
use Rattle.ufs_pointer.proofs.levels.Levels.read_aside.Goals as goal

pub returns-clause-once : goal.returns-clause-once
returns-clause-once g c = area_once c.args.a c.read_area.result c.read_area.ensures.area

pub returns-clause-gone : goal.returns-clause-gone
returns-clause-gone g c = area_gone c.args.a c.read_area.result c.read_area.ensures.area
