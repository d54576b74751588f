use Rattle.std.proofs.Common.{ap, sym}
use Rattle.dg_text.specs.Replies.{finding_line}
use Rattle.dg_text.proofs.ReplyLines.{took_part_as}
use Rattle.dg_text.proofs.audits.write_finding.Goals as goal

pub returns-in-Unclaimed-clause-err : goal.returns-in-Unclaimed-clause-err
returns-in-Unclaimed-clause-err g c =
    took_part_as c.write_number-in-Unclaimed.result _ (finding_line c.args.finding) _ _ (ap finding_line (sym c.in-Unclaimed.is)) c.write_number-in-Unclaimed.ensures.err
