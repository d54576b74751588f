use Rattle.std.proofs.Common.{◌≡◌, ◌*◌, ℕ, arith, sym, ap, ◌∙◌}
use Rattle.dg_parity.specs.Stripes.{stripes_of}
use Rattle.dg_parity.specs.Runs.{runs_of}
use Rattle.dg_parity.specs.declared.groups.Group.{Group}
use Rattle.dg_parity.proofs.MendLemmas.{Unmarks, mended-ready}
use Rattle.dg_parity.proofs.ReturnLemmas.{returned-of, returned-kept, returned-same, unfilled-kept, unfilled-same}
use Rattle.dg_parity.proofs.BlankLemmas.{others-none}
use Rattle.dg_parity.proofs.FallLemmas.{fall-none, fall-but, others-but, returned-fall, returned-others}
use Rattle.std.proofs.lemmas.Bool.{false≢true}
use Rattle.dg_parity.proofs.KeptLemmas.{kept_lost}
use Rattle.dg_parity.proofs.returns.mend.Goals as goal

pub note-requires : goal.note-requires
note-requires g c =
    let m : Unmarks c.fill_disk.new.group c.unmark.new.self c.args.j = record { number = c.unmark.ensures.same.number; disks = c.unmark.ensures.same.disks; size = c.unmark.ensures.same.size; sure = c.unmark.ensures.same.sure; back = c.unmark.ensures.out; others = c.unmark.ensures.others; noted = c.unmark.ensures.noted } in
    record { ready = mended-ready g.R.Rack c.fill_disk.new.group c.unmark.new.self c.fill_disk.new.rack c.args.j m c.if-not-fill_disk.ensures.refilled c.fill_disk.ensures.leaves.ready }

pub returns-then-is_out-clause-kept : goal.returns-then-is_out-clause-kept
returns-then-is_out-clause-kept g c =
    returned-kept g.R.Rack c.args.j c.args.group.now c.unmark.new.self c.note.new.group c.args.rack.now c.fill_disk.new.rack c.note.new.rack
    (sym c.is_lost.ensures ∙ c.if-is_lost.false)
    (returned-of g.R.Rack c.args.j c.stripes-count.result c.args.group.now c.fill_disk.new.group c.unmark.new.self c.note.new.group c.args.rack.now c.fill_disk.new.rack c.note.new.rack
    c.if-not-fill_disk.ensures.done c.stripes-count.ensures c.fill_disk.ensures.leaves c.fill_disk.ensures.holds c.if-not-fill_disk.ensures.filled
    (record { number = c.unmark.ensures.same.number; disks = c.unmark.ensures.same.disks; size = c.unmark.ensures.same.size; sure = c.unmark.ensures.same.sure; back = c.unmark.ensures.out; others = c.unmark.ensures.others; noted = c.unmark.ensures.noted })
    c.note.ensures.leaves c.note.ensures.noted c.note.ensures.holds)
    c.requires.kept

pub returns-then-is_out-clause-same : goal.returns-then-is_out-clause-same
returns-then-is_out-clause-same g c alive =
    returned-same g.R.Rack c.args.j c.args.group.now c.unmark.new.self c.note.new.group c.args.rack.now c.fill_disk.new.rack c.note.new.rack c.args.group.now.least
    (sym c.is_lost.ensures ∙ c.if-is_lost.false) alive (c.unmark.ensures.same.told ∙ ap (λ (k : Group). k.told) c.if-not-fill_disk.ensures.done)
    (returned-of g.R.Rack c.args.j c.stripes-count.result c.args.group.now c.fill_disk.new.group c.unmark.new.self c.note.new.group c.args.rack.now c.fill_disk.new.rack c.note.new.rack
    c.if-not-fill_disk.ensures.done c.stripes-count.ensures c.fill_disk.ensures.leaves c.fill_disk.ensures.holds c.if-not-fill_disk.ensures.filled
    (record { number = c.unmark.ensures.same.number; disks = c.unmark.ensures.same.disks; size = c.unmark.ensures.same.size; sure = c.unmark.ensures.same.sure; back = c.unmark.ensures.out; others = c.unmark.ensures.others; noted = c.unmark.ensures.noted })
    c.note.ensures.leaves c.note.ensures.noted c.note.ensures.holds)
    c.requires.kept

pub returns-clause-kept : goal.returns-clause-kept
returns-clause-kept g c =
    returned-kept g.R.Rack c.args.j c.args.group.now c.unmark.new.self c.note.new.group c.args.rack.now c.fill_disk.new.rack c.note.new.rack
    (sym c.is_lost.ensures ∙ c.if-is_lost.false)
    (returned-of g.R.Rack c.args.j c.stripes-count.result c.args.group.now c.fill_disk.new.group c.unmark.new.self c.note.new.group c.args.rack.now c.fill_disk.new.rack c.note.new.rack
    c.if-not-fill_disk.ensures.done c.stripes-count.ensures c.fill_disk.ensures.leaves c.fill_disk.ensures.holds c.if-not-fill_disk.ensures.filled
    (record { number = c.unmark.ensures.same.number; disks = c.unmark.ensures.same.disks; size = c.unmark.ensures.same.size; sure = c.unmark.ensures.same.sure; back = c.unmark.ensures.out; others = c.unmark.ensures.others; noted = c.unmark.ensures.noted })
    c.note.ensures.leaves c.note.ensures.noted c.note.ensures.holds)
    c.requires.kept

pub returns-clause-same : goal.returns-clause-same
returns-clause-same g c alive =
    returned-same g.R.Rack c.args.j c.args.group.now c.unmark.new.self c.note.new.group c.args.rack.now c.fill_disk.new.rack c.note.new.rack c.args.group.now.least
    (sym c.is_lost.ensures ∙ c.if-is_lost.false) alive (c.unmark.ensures.same.told ∙ ap (λ (k : Group). k.told) c.if-not-fill_disk.ensures.done)
    (returned-of g.R.Rack c.args.j c.stripes-count.result c.args.group.now c.fill_disk.new.group c.unmark.new.self c.note.new.group c.args.rack.now c.fill_disk.new.rack c.note.new.rack
    c.if-not-fill_disk.ensures.done c.stripes-count.ensures c.fill_disk.ensures.leaves c.fill_disk.ensures.holds c.if-not-fill_disk.ensures.filled
    (record { number = c.unmark.ensures.same.number; disks = c.unmark.ensures.same.disks; size = c.unmark.ensures.same.size; sure = c.unmark.ensures.same.sure; back = c.unmark.ensures.out; others = c.unmark.ensures.others; noted = c.unmark.ensures.noted })
    c.note.ensures.leaves c.note.ensures.noted c.note.ensures.holds)
    c.requires.kept

pub returns-then-not-fill_disk-clause-kept : goal.returns-then-not-fill_disk-clause-kept
returns-then-not-fill_disk-clause-kept g c =
    unfilled-kept g.R.Rack c.args.j c.args.group.now c.fill_disk.new.group c.args.rack.now c.fill_disk.new.rack (sym c.is_lost.ensures ∙ c.if-is_lost.false)
    c.fill_disk.ensures.leaves c.fill_disk.ensures.holds c.requires.kept

pub returns-then-not-fill_disk-clause-same : goal.returns-then-not-fill_disk-clause-same
returns-then-not-fill_disk-clause-same g c alive =
    unfilled-same g.R.Rack c.args.j c.args.group.now c.fill_disk.new.group c.args.rack.now c.fill_disk.new.rack c.args.group.now.least (sym c.is_lost.ensures ∙ c.if-is_lost.false) alive
    c.fill_disk.ensures.leaves c.fill_disk.ensures.holds c.requires.kept

pub returns-then-is_lost-clause-fall : goal.returns-then-is_lost-clause-fall
returns-then-is_lost-clause-fall g c = fall-none g.R.Rack c.args.j c.args.group.now c.args.rack.now

pub returns-then-is_lost-clause-leaves : goal.returns-then-is_lost-clause-leaves
returns-then-is_lost-clause-leaves g c = others-none g.R.Rack c.args.group.now c.args.rack.now

pub returns-then-not-is_out-clause-fall : goal.returns-then-not-is_out-clause-fall
returns-then-not-is_out-clause-fall g c = fall-none g.R.Rack c.args.j c.args.group.now c.args.rack.now

pub returns-then-not-is_out-clause-leaves : goal.returns-then-not-is_out-clause-leaves
returns-then-not-is_out-clause-leaves g c = others-none g.R.Rack c.args.group.now c.args.rack.now

pub returns-then-is_lost-2-clause-fall : goal.returns-then-is_lost-2-clause-fall
returns-then-is_lost-2-clause-fall g c =
    let f = fall-but g.R.Rack c.args.j c.args.group.now c.fill_disk.new.group c.args.rack.now c.fill_disk.new.rack c.fill_disk.ensures.leaves in
    record { cause = f.cause; stays = f.stays }

pub returns-then-is_lost-2-clause-leaves : goal.returns-then-is_lost-2-clause-leaves
returns-then-is_lost-2-clause-leaves g c = others-but g.R.Rack c.args.j c.args.group.now c.fill_disk.new.group c.args.rack.now c.fill_disk.new.rack c.requires.disk c.fill_disk.ensures.leaves

pub returns-then-not-fill_disk-clause-fall : goal.returns-then-not-fill_disk-clause-fall
returns-then-not-fill_disk-clause-fall g c = fall-but g.R.Rack c.args.j c.args.group.now c.fill_disk.new.group c.args.rack.now c.fill_disk.new.rack c.fill_disk.ensures.leaves

pub returns-then-not-fill_disk-clause-leaves : goal.returns-then-not-fill_disk-clause-leaves
returns-then-not-fill_disk-clause-leaves g c = others-but g.R.Rack c.args.j c.args.group.now c.fill_disk.new.group c.args.rack.now c.fill_disk.new.rack c.requires.disk c.fill_disk.ensures.leaves

pub returns-then-is_lost-3-clause-fall : goal.returns-then-is_lost-3-clause-fall
returns-then-is_lost-3-clause-fall g c =
    let f = returned-fall g.R.Rack c.args.j c.args.group.now c.fill_disk.new.group c.unmark.new.self c.note.new.group c.args.rack.now c.fill_disk.new.rack c.note.new.rack c.requires.disk
    c.fill_disk.ensures.leaves (record { number = c.unmark.ensures.same.number; disks = c.unmark.ensures.same.disks; size = c.unmark.ensures.same.size; sure = c.unmark.ensures.same.sure; back = c.unmark.ensures.out; others = c.unmark.ensures.others; noted = c.unmark.ensures.noted }) c.note.ensures.leaves in
    record { cause = f.cause; stays = f.stays }

pub returns-then-is_lost-3-clause-leaves : goal.returns-then-is_lost-3-clause-leaves
returns-then-is_lost-3-clause-leaves g c =
    returned-others g.R.Rack c.args.j c.args.group.now c.fill_disk.new.group c.unmark.new.self c.note.new.group c.args.rack.now c.fill_disk.new.rack c.note.new.rack c.requires.disk
    c.fill_disk.ensures.leaves (record { number = c.unmark.ensures.same.number; disks = c.unmark.ensures.same.disks; size = c.unmark.ensures.same.size; sure = c.unmark.ensures.same.sure; back = c.unmark.ensures.out; others = c.unmark.ensures.others; noted = c.unmark.ensures.noted }) c.note.ensures.leaves

pub returns-then-is_out-clause-fall : goal.returns-then-is_out-clause-fall
returns-then-is_out-clause-fall g c =
    returned-fall g.R.Rack c.args.j c.args.group.now c.fill_disk.new.group c.unmark.new.self c.note.new.group c.args.rack.now c.fill_disk.new.rack c.note.new.rack c.requires.disk
    c.fill_disk.ensures.leaves (record { number = c.unmark.ensures.same.number; disks = c.unmark.ensures.same.disks; size = c.unmark.ensures.same.size; sure = c.unmark.ensures.same.sure; back = c.unmark.ensures.out; others = c.unmark.ensures.others; noted = c.unmark.ensures.noted }) c.note.ensures.leaves

pub returns-then-is_out-clause-leaves : goal.returns-then-is_out-clause-leaves
returns-then-is_out-clause-leaves g c =
    returned-others g.R.Rack c.args.j c.args.group.now c.fill_disk.new.group c.unmark.new.self c.note.new.group c.args.rack.now c.fill_disk.new.rack c.note.new.rack c.requires.disk
    c.fill_disk.ensures.leaves (record { number = c.unmark.ensures.same.number; disks = c.unmark.ensures.same.disks; size = c.unmark.ensures.same.size; sure = c.unmark.ensures.same.sure; back = c.unmark.ensures.out; others = c.unmark.ensures.others; noted = c.unmark.ensures.noted }) c.note.ensures.leaves

pub returns-clause-fall : goal.returns-clause-fall
returns-clause-fall g c =
    returned-fall g.R.Rack c.args.j c.args.group.now c.fill_disk.new.group c.unmark.new.self c.note.new.group c.args.rack.now c.fill_disk.new.rack c.note.new.rack c.requires.disk
    c.fill_disk.ensures.leaves (record { number = c.unmark.ensures.same.number; disks = c.unmark.ensures.same.disks; size = c.unmark.ensures.same.size; sure = c.unmark.ensures.same.sure; back = c.unmark.ensures.out; others = c.unmark.ensures.others; noted = c.unmark.ensures.noted }) c.note.ensures.leaves

pub returns-clause-leaves : goal.returns-clause-leaves
returns-clause-leaves g c =
    returned-others g.R.Rack c.args.j c.args.group.now c.fill_disk.new.group c.unmark.new.self c.note.new.group c.args.rack.now c.fill_disk.new.rack c.note.new.rack c.requires.disk
    c.fill_disk.ensures.leaves (record { number = c.unmark.ensures.same.number; disks = c.unmark.ensures.same.disks; size = c.unmark.ensures.same.size; sure = c.unmark.ensures.same.sure; back = c.unmark.ensures.out; others = c.unmark.ensures.others; noted = c.unmark.ensures.noted }) c.note.ensures.leaves

pub returns-then-not-fill_disk-clause-calls : goal.returns-then-not-fill_disk-clause-calls
returns-then-not-fill_disk-clause-calls g c =
    let runs : c.args.group.now.disks * runs_of c.stripes-count.result ≡ c.args.group.now.disks * runs_of (stripes_of c.args.group.now.disks c.args.group.now.length) =
    ap (λ (k : ℕ). c.args.group.now.disks * runs_of k) c.stripes-count.ensures in
    omega (arith, c.fill_disk.ensures.calls, runs)

pub returns-then-is_lost-2-clause-calls : goal.returns-then-is_lost-2-clause-calls
returns-then-is_lost-2-clause-calls g c =
    let runs : c.args.group.now.disks * runs_of c.stripes-count.result ≡ c.args.group.now.disks * runs_of (stripes_of c.args.group.now.disks c.args.group.now.length) =
    ap (λ (k : ℕ). c.args.group.now.disks * runs_of k) c.stripes-count.ensures in
    omega (arith, c.fill_disk.ensures.calls, runs)

pub returns-then-is_lost-3-clause-calls : goal.returns-then-is_lost-3-clause-calls
returns-then-is_lost-3-clause-calls g c =
    let runs : c.args.group.now.disks * runs_of c.stripes-count.result ≡ c.args.group.now.disks * runs_of (stripes_of c.args.group.now.disks c.args.group.now.length) =
    ap (λ (k : ℕ). c.args.group.now.disks * runs_of k) c.stripes-count.ensures in
    omega (arith, c.fill_disk.ensures.calls, runs, c.note.ensures.calls, c.unmark.ensures.same.disks, c.fill_disk.ensures.leaves.later.disks)

pub returns-then-is_out-clause-calls : goal.returns-then-is_out-clause-calls
returns-then-is_out-clause-calls g c =
    let runs : c.args.group.now.disks * runs_of c.stripes-count.result ≡ c.args.group.now.disks * runs_of (stripes_of c.args.group.now.disks c.args.group.now.length) =
    ap (λ (k : ℕ). c.args.group.now.disks * runs_of k) c.stripes-count.ensures in
    omega (arith, c.fill_disk.ensures.calls, runs, c.note.ensures.calls, c.unmark.ensures.same.disks, c.fill_disk.ensures.leaves.later.disks)

pub returns-clause-calls : goal.returns-clause-calls
returns-clause-calls g c =
    let runs : c.args.group.now.disks * runs_of c.stripes-count.result ≡ c.args.group.now.disks * runs_of (stripes_of c.args.group.now.disks c.args.group.now.length) =
    ap (λ (k : ℕ). c.args.group.now.disks * runs_of k) c.stripes-count.ensures in
    omega (arith, c.fill_disk.ensures.calls, runs, c.note.ensures.calls, c.unmark.ensures.same.disks, c.fill_disk.ensures.leaves.later.disks)

pub returns-then-is_out-clause-telling : goal.returns-then-is_out-clause-telling
returns-then-is_out-clause-telling g c told alive =
    c.note.ensures.leaves.later.telling (c.unmark.ensures.same.told ∙ ap (λ (k : Group). k.told) c.if-not-fill_disk.ensures.done ∙ told) alive

pub returns-clause-telling : goal.returns-clause-telling
returns-clause-telling g c told alive =
    c.note.ensures.leaves.later.telling (c.unmark.ensures.same.told ∙ ap (λ (k : Group). k.told) c.if-not-fill_disk.ensures.done ∙ told) alive

pub returns-then-not-fill_disk-clause-telling : goal.returns-then-not-fill_disk-clause-telling
returns-then-not-fill_disk-clause-telling g c told alive = c.fill_disk.ensures.leaves.later.telling told alive

pub returns-then-not-fill_disk-clause-noted_on : goal.returns-then-not-fill_disk-clause-noted_on
returns-then-not-fill_disk-clause-noted_on g c noted alive = ap (λ (k : Group). k.noted) (c.fill_disk.ensures.calm alive) ∙ noted

pub returns-then-is_out-clause-noted_on : goal.returns-then-is_out-clause-noted_on
returns-then-is_out-clause-noted_on g c noted alive = c.note.ensures.noted alive

pub returns-clause-noted_on : goal.returns-clause-noted_on
returns-clause-noted_on g c noted alive = c.note.ensures.noted alive

pub returns-then-is_lost-2-clause-noted_on : goal.returns-then-is_lost-2-clause-noted_on
returns-then-is_lost-2-clause-noted_on g c noted alive = absurd (false≢true (sym alive ∙ sym c.is_lost-then-not-fill_disk.ensures ∙ c.if-is_lost-2.true))

pub returns-then-is_lost-3-clause-noted_on : goal.returns-then-is_lost-3-clause-noted_on
returns-then-is_lost-3-clause-noted_on g c noted alive = absurd (false≢true (sym alive ∙ sym c.is_lost-2.ensures ∙ c.if-is_lost-3.true))

pub returns-then-is_lost-2-clause-telling : goal.returns-then-is_lost-2-clause-telling
returns-then-is_lost-2-clause-telling g c told alive = absurd (false≢true (sym alive ∙ sym c.is_lost-then-not-fill_disk.ensures ∙ c.if-is_lost-2.true))

pub returns-then-is_lost-3-clause-telling : goal.returns-then-is_lost-3-clause-telling
returns-then-is_lost-3-clause-telling g c told alive = absurd (false≢true (sym alive ∙ sym c.is_lost-2.ensures ∙ c.if-is_lost-3.true))

pub returns-then-is_lost-2-clause-kept : goal.returns-then-is_lost-2-clause-kept
returns-then-is_lost-2-clause-kept g c = kept_lost g.R.Rack _ _ (sym c.is_lost-then-not-fill_disk.ensures ∙ c.if-is_lost-2.true)

pub returns-then-is_lost-3-clause-kept : goal.returns-then-is_lost-3-clause-kept
returns-then-is_lost-3-clause-kept g c = kept_lost g.R.Rack _ _ (sym c.is_lost-2.ensures ∙ c.if-is_lost-3.true)
