use Rattle.std.proofs.lemmas.Bool.{false≢true}
use Rattle.dg_trace.proofs.AuditSteps.{findings_told, image_blocks}
use Rattle.dg_trace.specs.Audits.{blocks_in}
use Rattle.dg_trace.proofs.audits.volume_lines.Goals as goal

pub unreachable-requires : goal.unreachable-requires
unreachable-requires c =
    let gone = rw c.in_default.is at c.in_ok-found.ensures.gone in
    false≢true gone.lost

pub returns : goal.returns
returns c =
    let v = blocks_in c.args.g.now c.args.volume.items in
    let stands = rw (c.new-view.ensures.size, c.new-view.ensures.count) at (c.new-view.ensures.blocks v (image_blocks c.args.g.now c.args.volume.items)) in
    let found = rw (c.in-Some.is, c.new-view.ensures.size, c.new-view.ensures.count) at c.in_ok-found.ensures.found in
    findings_told c.args.g.now.fsize c.args.g.now.size v c.in-Some.found c.in_ok-lines.lines c.in_ok-lines.ensures (found tt v stands)
