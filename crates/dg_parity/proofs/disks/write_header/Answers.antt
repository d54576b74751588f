use Rattle.std.proofs.Common.{sym, ◌∙◌, ap, length, ℕ, List, arith}
use Rattle.std.proofs.lemmas.Bool.{false≢true}
use Rattle.dg_parity.specs.Headers.{header_bytes}
use Rattle.dg_parity.proofs.GroupLemmas.{Marks, failed-at, some-own, write-done-at}
use Rattle.dg_parity.proofs.CallLemmas.{headed-at, head-at, head-other, held-failed-at}
use Rattle.dg_parity.proofs.PageLemmas.{header_size}
use Rattle.dg_parity.proofs.disks.write_header.Goals as goal

pub returns-then-is_out-clause-headed : goal.returns-then-is_out-clause-headed
returns-then-is_out-clause-headed g c in0 = absurd (false≢true (sym in0 ∙ sym c.is_out.ensures ∙ c.if-is_out.true))

pub returns-in-Ok-clause-leaves : goal.returns-in-Ok-clause-leaves
returns-in-Ok-clause-leaves g c =
    let size = ap (λ (l : List ℕ). length l) c.fill_header.ensures ∙ header_size c.header.result in
    write-done-at g.R.Rack c.args.group.now c.args.j c.disk.result 0 c.fill_header.new.page c.in-Ok.field-0 c.args.rack.now c.write.new.self c.disk.ensures c.requires.disk
    (sym c.is_out.ensures ∙ c.if-is_out.false) c.in-Ok.ensures.leaves c.requires.ready (λ noted. absurd (false≢true (sym c.requires.renewed ∙ noted)))
    (omega (arith, size)) c.in-Ok.ensures.ok
    (λ h. some-own c.args.group.now c.args.j _ c.requires.disk
    (head-at g.R.Rack c.args.group.now c.args.j c.disk.result c.args.rack.now c.write.new.self c.fill_header.new.page c.disk.ensures size
    (c.fill_header.ensures ∙ ap header_bytes c.header.ensures) c.in-Ok.ensures.ok))

pub returns-in-Ok-clause-holds : goal.returns-in-Ok-clause-holds
returns-in-Ok-clause-holds g c has all held =
    let size = ap (λ (l : List ℕ). length l) c.fill_header.ensures ∙ header_size c.header.result in
    headed-at g.R.Rack c.args.group.now c.args.j c.disk.result c.args.rack.now c.write.new.self c.fill_header.new.page has c.disk.ensures c.requires.disk
    (sym c.is_out.ensures ∙ c.if-is_out.false) c.requires.ready size c.in-Ok.ensures.ok c.in-Ok.ensures.leaves.others all held

pub returns-in-Ok-clause-headed : goal.returns-in-Ok-clause-headed
returns-in-Ok-clause-headed g c in0 =
    let size = ap (λ (l : List ℕ). length l) c.fill_header.ensures ∙ header_size c.header.result in
    head-at g.R.Rack c.args.group.now c.args.j c.disk.result c.args.rack.now c.write.new.self c.fill_header.new.page c.disk.ensures size
    (c.fill_header.ensures ∙ ap header_bytes c.header.ensures) c.in-Ok.ensures.ok

pub returns-in-Ok-clause-heads : goal.returns-in-Ok-clause-heads
returns-in-Ok-clause-heads g c =
    head-other g.R.Rack c.args.group.now c.args.j c.disk.result c.args.rack.now c.write.new.self c.disk.ensures c.in-Ok.ensures.leaves.others

pub returns-in-Err-clause-leaves : goal.returns-in-Err-clause-leaves
returns-in-Err-clause-leaves g c =
    let m : Marks c.args.group.now c.mark.new.self c.args.j = record { later = c.mark.ensures.later; others = c.mark.ensures.others; out = c.mark.ensures.out; noted = c.mark.ensures.noted } in
    failed-at g.R.Rack c.args.group.now c.mark.new.self c.args.j c.disk.result c.in-Err.field-0 c.args.rack.now c.write.new.self
    c.disk.ensures c.requires.disk (sym c.is_out.ensures ∙ c.if-is_out.false) c.in-Err.ensures.leaves c.requires.ready m

pub returns-in-Err-clause-holds : goal.returns-in-Err-clause-holds
returns-in-Err-clause-holds g c =
    let m : Marks c.args.group.now c.mark.new.self c.args.j = record { later = c.mark.ensures.later; others = c.mark.ensures.others; out = c.mark.ensures.out; noted = c.mark.ensures.noted } in
    held-failed-at g.R.Rack c.args.group.now c.mark.new.self c.args.j c.disk.result c.args.rack.now c.write.new.self c.disk.ensures m c.in-Err.ensures.leaves.others
