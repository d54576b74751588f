use Rattle.std.proofs.Common.{◌≡◌, ◌≤◌, ◌+◌, ◌-◌, length, refl, ◌∙◌, ap, arith}
use Rattle.std.specs.Prelude.{is_ok}
use Rattle.dg_io.specs.MadeLaws.{same_both}
use Rattle.dg_io.specs.MakesLaws.{makes_both}
use Rattle.dg_stop.proofs.PageCounts.{pages_same, pages_turn}
use Rattle.dg_stop.proofs.PieceLemmas.{serves_done, serves_then}
use Rattle.dg_stop.proofs.TurnLemmas.{part_long, read_all, read_long, read_none, read_same, read_turn}
use Rattle.dg_stop.specs.Layouts.{bit_in, double_size, table_size}
use Rattle.dg_stop.specs.Serving.{IsOn}
use Rattle.dg_stop.proofs.page_calls.read_pages.Goals as goal

pub loop-done-init : goal.loop-done-init
loop-done-init g c = (
  read_none g.R.Rack c.args.number (table_size c.args.size c.args.room) c.args.size (bit_in c.args.bits.now) c.args.place c.args.buf.now c.args.rack.now (omega (arith, c.requires.range)),
  omega (arith, pages_same (c.args.place + 0) c.args.place (length c.args.buf.now - 0) (length c.args.buf.now) (omega arith) (omega arith)),
)

pub read_page-requires-clause-stands : goal.read_page-requires-clause-stands
read_page-requires-clause-stands g c = (c.loop-done.invariant.0).serves.stands_on c.requires.stands

pub read_page-requires-clause-page : goal.read_page-requires-clause-page
read_page-requires-clause-page g c =
    omega (arith, part_long c.loop-done.done c.on_page-n.result c.loop-done.buf (omega (arith, c.on_page-n.ensures.rest, c.loop-done-test.true)), c.on_page-n.ensures.page)

pub read_page-requires-clause-some : goal.read_page-requires-clause-some
read_page-requires-clause-some g c =
    let some = c.on_page-n.ensures.some (omega (arith, c.loop-done-test.true)) in
    omega (arith, part_long c.loop-done.done c.on_page-n.result c.loop-done.buf (omega (arith, c.on_page-n.ensures.rest, c.loop-done-test.true)), some)

pub read_page-requires-clause-range : goal.read_page-requires-clause-range
read_page-requires-clause-range g c =
    let fits : c.loop-done.done + c.on_page-n.result ≤ length c.loop-done.buf = omega (arith, c.on_page-n.ensures.rest, c.loop-done-test.true) in
    omega (arith, part_long c.loop-done.done c.on_page-n.result c.loop-done.buf fits, fits, (c.loop-done.invariant.0).long, c.requires.range)

pub read_page-requires-clause-long : goal.read_page-requires-clause-long
read_page-requires-clause-long g c =
    read_long g.R.Rack c.args.number (table_size c.args.size c.args.room) c.args.size (bit_in c.args.bits.now) c.args.place c.loop-done.done (double_size c.args.size c.args.room) c.args.buf.now c.loop-done.buf
    c.args.rack.now c.loop-done.rack (c.loop-done.invariant.0) c.requires.long

pub returns-in-Err-clause-made : goal.returns-in-Err-clause-made
returns-in-Err-clause-made g c = makes_both g.R.Rack (IsOn c.args.number) c.args.rack.now c.loop-done.rack c.read_page.new.rack (c.loop-done.invariant.0).made c.read_page.ensures.made

pub returns-in-Err-clause-serves : goal.returns-in-Err-clause-serves
returns-in-Err-clause-serves g c = serves_then g.R.Rack c.args.number c.args.rack.now c.loop-done.rack c.read_page.new.rack (c.loop-done.invariant.0).serves _ c.in-Err.ensures.serves

pub returns-in-Err-clause-same : goal.returns-in-Err-clause-same
returns-in-Err-clause-same g c =
    same_both (g.R.Rack.bytes c.args.rack.now c.args.number) (g.R.Rack.bytes c.loop-done.rack c.args.number) (g.R.Rack.bytes c.read_page.new.rack c.args.number)
    (read_same g.R.Rack c.args.number (table_size c.args.size c.args.room) c.args.size (bit_in c.args.bits.now) c.args.place c.loop-done.done c.args.buf.now c.loop-done.buf c.args.rack.now c.loop-done.rack (c.loop-done.invariant.0))
    c.read_page.ensures.same

pub loop-done-preserved : goal.loop-done-preserved
loop-done-preserved g c =
    let d = c.loop-done.done in
    let n = c.on_page-n.result in
    let fits : d + n ≤ length c.loop-done.buf = omega (arith, c.on_page-n.ensures.rest, c.loop-done-test.true) in
    let same : d + n - d ≡ n = omega arith in
    let calls = pages_turn (c.args.place + d) n (length c.args.buf.now - d) (c.on_page-n.ensures.some (omega (arith, c.loop-done-test.true))) (omega (arith, fits, (c.loop-done.invariant.0).long)) c.on_page-n.ensures.page
    (λ less. c.on_page-n.ensures.full (omega (arith, less, (c.loop-done.invariant.0).long))) in (
      read_turn g.R.Rack c.args.number (table_size c.args.size c.args.room) c.args.size (bit_in c.args.bits.now) c.args.place d n (d + n - d) c.args.buf.now c.loop-done.buf c.read_page.new.buf _
          c.read_page.result c.args.rack.now c.loop-done.rack c.read_page.new.rack (c.loop-done.invariant.0) (c.read_page.ensures.length ∙ part_long d n c.loop-done.buf fits) same
          (omega (arith, fits, (c.loop-done.invariant.0).long)) refl c.read_page.ensures.made (ap is_ok c.in-Ok.is) c.read_page.ensures.serves c.in-Ok.ensures.done,
      omega (
        arith,
        calls,
        c.loop-done.invariant.1,
        c.read_page.ensures.calls,
        pages_same (c.args.place + (d + n)) (c.args.place + d + n) (length c.args.buf.now - (d + n)) (length c.args.buf.now - d - n) (omega arith) (omega arith),
      ),
    )

pub returns-clause-made : goal.returns-clause-made
returns-clause-made g c = (c.loop-done.invariant.0).made

pub returns-clause-serves : goal.returns-clause-serves
returns-clause-serves g c = serves_done g.R.Rack c.args.number tt c.args.rack.now c.loop-done.rack (c.loop-done.invariant.0).serves

pub returns-clause-same : goal.returns-clause-same
returns-clause-same g c = read_same g.R.Rack c.args.number (table_size c.args.size c.args.room) c.args.size (bit_in c.args.bits.now) c.args.place c.loop-done.done c.args.buf.now c.loop-done.buf c.args.rack.now c.loop-done.rack (c.loop-done.invariant.0)

pub returns-clause-done : goal.returns-clause-done
returns-clause-done g c = read_all g.R.Rack c.args.number (table_size c.args.size c.args.room) c.args.size (bit_in c.args.bits.now) c.args.place c.loop-done.done c.args.buf.now c.loop-done.buf c.args.rack.now c.loop-done.rack
    (c.loop-done.invariant.0) (omega (arith, c.loop-done-test.false))

pub returns-in-Err-clause-calls : goal.returns-in-Err-clause-calls
returns-in-Err-clause-calls g c =
    let d = c.loop-done.done in
    let n = c.on_page-n.result in
    let fits : d + n ≤ length c.loop-done.buf = omega (arith, c.on_page-n.ensures.rest, c.loop-done-test.true) in
    let calls = pages_turn (c.args.place + d) n (length c.args.buf.now - d) (c.on_page-n.ensures.some (omega (arith, c.loop-done-test.true))) (omega (arith, fits, (c.loop-done.invariant.0).long)) c.on_page-n.ensures.page
    (λ less. c.on_page-n.ensures.full (omega (arith, less, (c.loop-done.invariant.0).long))) in
    omega (arith, calls, c.loop-done.invariant.1, c.read_page.ensures.calls)

pub returns-clause-calls : goal.returns-clause-calls
returns-clause-calls g c = omega (arith, c.loop-done.invariant.1)
