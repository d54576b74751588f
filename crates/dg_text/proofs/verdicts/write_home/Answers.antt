use Rattle.dg_text.proofs.ReplyLines.{copy_line, home_line, took_as, took_part_as}
use Rattle.dg_text.proofs.verdicts.write_home.Goals as goal

pub returns-in-Some-clause-ok : goal.returns-in-Some-clause-ok
returns-in-Some-clause-ok g c = took_as c.write_numbers.result _ _ _ _ (copy_line c.args.s c.in-Some.t c.args.copy c.in-Some.is) c.write_numbers.ensures.ok

pub returns-in-Some-clause-err : goal.returns-in-Some-clause-err
returns-in-Some-clause-err g c = took_part_as c.write_numbers.result _ _ _ _ (copy_line c.args.s c.in-Some.t c.args.copy c.in-Some.is) c.write_numbers.ensures.err

pub returns-in-None-clause-ok : goal.returns-in-None-clause-ok
returns-in-None-clause-ok g c = took_as c.write_number.result _ _ _ _ (home_line c.args.s c.args.copy c.in-None.is) c.write_number.ensures.ok

pub returns-in-None-clause-err : goal.returns-in-None-clause-err
returns-in-None-clause-err g c = took_part_as c.write_number.result _ _ _ _ (home_line c.args.s c.args.copy c.in-None.is) c.write_number.ensures.err
