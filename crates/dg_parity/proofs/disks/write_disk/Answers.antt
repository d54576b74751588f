use Rattle.std.proofs.Common.{sym, ◌∙◌}
use Rattle.dg_parity.proofs.GroupLemmas.{Marks, failed-at, number-behind, write-done-at}
use Rattle.dg_parity.proofs.CallLemmas.{put-failed-at, put-done-at}
use Rattle.std.proofs.Common.{inl, inr, refl}
use Rattle.dg_parity.proofs.disks.write_disk.Goals as goal

pub returns-in-Err-clause-leaves : goal.returns-in-Err-clause-leaves
returns-in-Err-clause-leaves g c =
    let m : Marks c.args.group.now c.mark.new.self c.args.j = record { later = c.mark.ensures.later; others = c.mark.ensures.others; out = c.mark.ensures.out; noted = c.mark.ensures.noted } in
    failed-at g.R.Rack c.args.group.now c.mark.new.self c.args.j c.disk.result c.in-Err.field-0 c.args.rack.now c.write.new.self
    c.disk.ensures c.requires.disk (sym c.is_out.ensures ∙ c.if-is_out.false) c.in-Err.ensures.leaves c.requires.ready m

pub returns-in-Err-clause-holds : goal.returns-in-Err-clause-holds
returns-in-Err-clause-holds g c =
    let m : Marks c.args.group.now c.mark.new.self c.args.j = record { later = c.mark.ensures.later; others = c.mark.ensures.others; out = c.mark.ensures.out; noted = c.mark.ensures.noted } in
    put-failed-at g.R.Rack c.args.group.now c.mark.new.self c.args.j c.disk.result c.args.place c.args.piece.now
    c.args.rack.now c.write.new.self c.disk.ensures m c.in-Err.ensures.leaves.others

pub returns-in-Ok-clause-leaves : goal.returns-in-Ok-clause-leaves
returns-in-Ok-clause-leaves g c =
    write-done-at g.R.Rack c.args.group.now c.args.j c.disk.result c.args.place c.args.piece.now c.in-Ok.field-0 c.args.rack.now c.write.new.self c.disk.ensures c.requires.disk
    (sym c.is_out.ensures ∙ c.if-is_out.false) c.in-Ok.ensures.leaves c.requires.ready (λ noted. c.requires.behind) c.requires.below c.in-Ok.ensures.ok
    (number-behind g.R.Rack c.args.group.now c.args.j c.disk.result c.args.place c.args.piece.now c.args.rack.now c.write.new.self c.disk.ensures c.requires.disk
    (sym c.is_out.ensures ∙ c.if-is_out.false) c.requires.ready c.requires.behind c.requires.below c.in-Ok.ensures.ok)

pub returns-in-Ok-clause-holds : goal.returns-in-Ok-clause-holds
returns-in-Ok-clause-holds g c has all held =
    put-done-at g.R.Rack c.args.group.now c.args.j c.disk.result c.args.place c.args.rack.now c.write.new.self c.args.piece.now has c.disk.ensures
    c.requires.disk (sym c.is_out.ensures ∙ c.if-is_out.false) c.requires.ready c.requires.below c.in-Ok.ensures.ok c.in-Ok.ensures.leaves.others all held

pub returns-then-is_out-clause-steady : goal.returns-then-is_out-clause-steady
returns-then-is_out-clause-steady g c = inl refl

pub returns-in-Ok-clause-steady : goal.returns-in-Ok-clause-steady
returns-in-Ok-clause-steady g c = inl refl

pub returns-in-Err-clause-steady : goal.returns-in-Err-clause-steady
returns-in-Err-clause-steady g c = inr (record { disk = c.args.j; before = sym c.is_out.ensures ∙ c.if-is_out.false; now = c.mark.ensures.out })
