use Rattle.dg_parity.proofs.BlankLemmas.{blanked-done, blanked-failed}
use Rattle.dg_parity.proofs.blanks.blank_disk.Goals as goal

pub returns-in-Ok : goal.returns-in-Ok
returns-in-Ok g c =
    blanked-done g.R.Rack c.args.group.now c.unmark.new.self c.args.j c.disk.result c.args.length c.in-Ok.field-0 c.args.rack.now c.blank.new.self c.disk.ensures c.requires.size
    c.in-Ok.ensures.leaves c.in-Ok.ensures.stands c.in-Ok.ensures.ok c.unmark.ensures.same c.unmark.ensures.out c.unmark.ensures.others c.unmark.ensures.noted

pub returns-in-Err : goal.returns-in-Err
returns-in-Err g c =
    blanked-failed g.R.Rack c.args.group.now c.args.j c.disk.result c.in-Err.field-0 c.args.rack.now c.blank.new.self c.disk.ensures c.in-Err.ensures.leaves c.requires.out c.requires.renewed
