use Rattle.std.specs.Prelude.{Ok, Err}
use Rattle.ufs_path.proofs.SuperLaws.{geometry_read, geometry_unread}
use Rattle.ufs_path.proofs.ConsultLaws.{consults_fetches}
use Rattle.ufs_path.proofs.NeedLaws.{geometry_needed}
use Rattle.ufs_path.proofs.superblocks.geometry.Goals as goal

pub returns-in-Some-Ok-clause-rule : goal.returns-in-Some-Ok-clause-rule
returns-in-Some-Ok-clause-rule g c =
    geometry_read (g.V.View.size c.args.view.now) (g.V.View.count c.args.view.now) (Ok c.in-Some-Ok.g) c.read_geometry.ensures.keeps.stays (rw c.in-Some-Ok.field-0-is at c.in-Some-Ok.ensures.rule)

pub returns-in-Some-Err-clause-rule : goal.returns-in-Some-Err-clause-rule
returns-in-Some-Err-clause-rule g c =
    geometry_read (g.V.View.size c.args.view.now) (g.V.View.count c.args.view.now) (Err c.in-Some-Err.kind) c.read_geometry.ensures.keeps.stays (rw c.in-Some-Err.field-0-is at c.in-Some-Err.ensures.rule)

pub returns-in-None-clause-rule : goal.returns-in-None-clause-rule
returns-in-None-clause-rule g c = geometry_unread (g.V.View.size c.args.view.now) (g.V.View.count c.args.view.now) c.in-None.ensures.rule

pub returns-in-Some-Ok-clause-consults : goal.returns-in-Some-Ok-clause-consults
returns-in-Some-Ok-clause-consults g c = consults_fetches g.V.View (geometry_needed (g.V.View.size c.args.view.now) (g.V.View.count c.args.view.now)) (λ h. absurd h) c.read_geometry.ensures.fetched

pub returns-in-Some-Err-clause-consults : goal.returns-in-Some-Err-clause-consults
returns-in-Some-Err-clause-consults g c = consults_fetches g.V.View (geometry_needed (g.V.View.size c.args.view.now) (g.V.View.count c.args.view.now)) (λ h. absurd h) c.read_geometry.ensures.fetched

pub returns-in-None-clause-consults : goal.returns-in-None-clause-consults
returns-in-None-clause-consults g c = consults_fetches g.V.View (geometry_needed (g.V.View.size c.args.view.now) (g.V.View.count c.args.view.now)) (λ h. c.in-None.ensures.lost) c.read_geometry.ensures.fetched
