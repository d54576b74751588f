use Rattle.std.proofs.lemmas.List.{length-take-le}
use Rattle.std.proofs.Common.{◌≡◌, ◌∙◌, ◌+◌, ◌-◌, ◌*◌, length, take, drop, refl, arith, inl}
use Rattle.dg_io.specs.Told.{patch}
use Rattle.dg_parity.specs.Groups.{is_out}
use Rattle.dg_parity.specs.Stripes.{put}
use Rattle.dg_parity.specs.Runs.{mixed}
use Rattle.dg_parity.proofs.GroupLemmas.{later-same}
use Rattle.dg_parity.proofs.HoldLemmas.{put-other}
use Rattle.dg_parity.proofs.LaidSteps.{patched, row-own, row-none, row-put, pages-of}
use Rattle.dg_parity.proofs.UpdateLemmas.{row-calls}
use Rattle.dg_parity.proofs.run_writes.write_row.Goals as goal

pub returns-then-span-clause-put : goal.returns-then-span-clause-put
returns-then-span-clause-put g c bytes size all pages held =
    let n = c.args.group.now.disks in
    let next = patch bytes c.args.at c.args.piece.now in
    let span = c.span_of-span.result in
    row-put g.R.Rack c.args.group.now c.args.group.now c.args.rack.now n c.args.j bytes next (mixed n bytes next c.args.j) (later-same c.args.group.now) held
    (λ i x ne. refl)
    (λ in0 x behind. row-none n c.args.j c.args.at c.args.window span.low span.high c.args.piece.now c.args.parities.now c.gather.new.row bytes next
    c.args.group.now.least c.requires.disk c.requires.some c.requires.window (patched bytes c.args.piece.now c.args.at (omega (arith, size, c.requires.range))) c.span_of-span.ensures c.gather.ensures
    (pages-of n c.args.window.first c.args.window.count c.args.j (is_out c.args.group.now) next c.args.parities.now pages in0)
    c.if-span.true x behind)

pub returns-clause-put : goal.returns-clause-put
returns-clause-put g c bytes size all pages held =
    let n = c.args.group.now.disks in
    let next = patch bytes c.args.at c.args.piece.now in
    let span = c.span_of-span.result in
    let place = 512 + 512 * c.args.window.first + span.low in
    let long : length c.gather.new.row ≡ 512 * c.args.window.count = c.gather.auto.row ∙ length-take-le (512 * c.args.window.count) _ (omega (arith, c.requires.window.most)) in
    let sub = take (span.high - span.low) (drop span.low c.gather.new.row) in
    row-put g.R.Rack c.args.group.now c.write_disk.new.group c.write_disk.new.rack n c.args.j bytes next (put (mixed n bytes next c.args.j) c.args.j place sub)
    c.write_disk.ensures.leaves.later (c.write_disk.ensures.holds (mixed n bytes next c.args.j) all held)
    (λ i x ne. put-other (mixed n bytes next c.args.j) c.args.j place i x sub ne)
    (λ in0 x behind. row-own n c.args.j c.args.at c.args.window span.low span.high c.args.piece.now c.args.parities.now c.gather.new.row bytes next
    c.args.group.now.least c.requires.disk c.requires.some c.requires.window (patched bytes c.args.piece.now c.args.at (omega (arith, size, c.requires.range))) c.span_of-span.ensures c.gather.ensures
    (pages-of n c.args.window.first c.args.window.count c.args.j (is_out c.args.group.now) next c.args.parities.now pages in0)
    sub (omega (arith, c.if-span.false)) refl (omega (arith, c.span_of-span.ensures.fits, long)) x behind)

pub returns-then-span-clause-steady : goal.returns-then-span-clause-steady
returns-then-span-clause-steady g c = inl refl

pub returns-clause-steady : goal.returns-clause-steady
returns-clause-steady g c = c.write_disk.ensures.steady

pub returns-clause-few : goal.returns-clause-few
returns-clause-few g c =
    row-calls g.R.Rack c.args.group.now.disks (is_out c.args.group.now) c.args.j c.args.at (length c.args.piece.now) c.args.window c.span_of-span.result.low c.span_of-span.result.high
    c.args.rack.now c.write_disk.new.rack c.span_of-span.ensures (omega (arith, c.if-span.false)) c.write_disk.ensures.idle c.write_disk.ensures.calls
