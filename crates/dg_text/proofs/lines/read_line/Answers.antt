use Rattle.std.proofs.Common.{sym, ◌∙◌, ap}
use Rattle.std.specs.Prelude.{Ok, Some, None}
use Rattle.std.specs.Option.{option_copied}
use Rattle.dg_text.specs.Refusals.{IsEventOf}
use Rattle.dg_text.proofs.Spellings.{spelling_same}
use Rattle.dg_text.proofs.WholeLines.{whole_line}
use Rattle.dg_text.proofs.lines.read_line.Goals as goal

pub returns-in-Some-clause-exact : goal.returns-in-Some-clause-exact
returns-in-Some-clause-exact c event more tail place lacks is =
    let spelled = whole_line (option_copied c.args.shape) event c.args.line.now more tail place lacks is in
    let found : IsEventOf (option_copied c.args.shape) c.args.line.now (Some c.in-Some.event) = rw c.in-Some.is at c.in_ok-event.ensures in
    ap Ok (spelling_same (option_copied c.args.shape) c.in-Some.event event found.0 place (sym found.1 ∙ spelled))

pub returns-in-None-clause-exact : goal.returns-in-None-clause-exact
returns-in-None-clause-exact c event more tail place lacks is =
    let spelled = whole_line (option_copied c.args.shape) event c.args.line.now more tail place lacks is in
    let none : IsEventOf (option_copied c.args.shape) c.args.line.now None = rw c.in-None.is at c.in_ok-event.ensures in
    absurd (none event place spelled)
