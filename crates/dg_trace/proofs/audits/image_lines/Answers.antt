use Rattle.std.proofs.Common.{◌≡◌, ◌≤◌, ◌*◌, length, rules}
use Rattle.std.specs.Prelude.{Ok}
use Rattle.dg_trace.proofs.AuditSteps.{volume_told}
use Rattle.dg_trace.specs.Answers.{IsInSize}
use Rattle.dg_trace.specs.Volumes.{volume_on}
use Rattle.dg_trace.proofs.audits.image_lines.Goals as goal

pub returns : goal.returns
returns c =
    let is : volume_on c.args.image.items ≡ Ok c.in-Ok.g = search rules in
    let size : IsInSize c.args.image.items = search rules in
    let whole : c.in-Ok.g.size * c.in-Ok.g.fsize ≤ length c.args.image.items = search rules in
    volume_told c.args.image.items _ c.in-Ok.g _ c.in_ok-volume_lines.ensures (search rules) is size whole
