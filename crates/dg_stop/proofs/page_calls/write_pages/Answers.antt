use Rattle.std.proofs.Common.{◌≡◌, ◌≤◌, ◌+◌, ◌-◌, ◌/◌, ℕ, length, take, drop, refl, ◌∙◌, ap, arith, subst, sym}
use Rattle.std.specs.Prelude.{IfSome, is_ok, not}
use Rattle.dg_io.specs.Told.{Told}
use Rattle.dg_stop.proofs.PageCounts.{calls_turn, pages_same, parts_same}
use Rattle.dg_stop.proofs.PieceLemmas.{serves_done}
use Rattle.dg_stop.proofs.TurnLemmas.{part_is, part_long, turn_made, turn_pages, turn_serves, turn_torn, wrote_all, wrote_long, wrote_none, wrote_turn}
use Rattle.dg_stop.specs.Behind.{MostCalls, calls_on_page}
use Rattle.dg_stop.specs.Layouts.{bit_in, bits_of, double_size, table_size}
use Rattle.dg_stop.specs.Pages.{PutsPiece, TearsPiece, TornPages, moved}
use Rattle.dg_stop.proofs.page_calls.write_pages.Goals as goal

pub loop-done-init : goal.loop-done-init
loop-done-init g c = (
  wrote_none g.R.Rack c.args.number (table_size c.args.now.now.size c.args.room) c.args.now.now.size (bit_in c.args.last.now) (bit_in c.args.now.now.bits.items) c.args.place c.args.piece.now c.args.rack.now (omega (arith, c.requires.range)),
  refl,
  refl,
  refl,
  omega (
    arith,
    pages_same (c.args.place + 0) c.args.place (length c.args.piece.now - 0) (length c.args.piece.now) (omega arith) (omega arith),
    parts_same (bit_in c.args.now.now.bits.items) (bit_in c.args.last.now) (c.args.place + 0) c.args.place (length c.args.piece.now - 0) (length c.args.piece.now) (omega arith) (omega arith),
  ),
)

pub write_page-requires-clause-stands : goal.write_page-requires-clause-stands
write_page-requires-clause-stands g c = (c.loop-done.invariant.0).serves.stands_on c.requires.stands

pub write_page-requires-clause-small : goal.write_page-requires-clause-small
write_page-requires-clause-small g c = omega (arith, c.requires.small, c.loop-done.invariant.1)

pub write_page-requires-clause-bits : goal.write_page-requires-clause-bits
write_page-requires-clause-bits g c = c.loop-done.invariant.2 ∙ c.requires.bits ∙ ap bits_of (sym c.loop-done.invariant.1)

pub write_page-requires-clause-page : goal.write_page-requires-clause-page
write_page-requires-clause-page g c =
    omega (arith, part_long c.loop-done.done c.on_page-n.result c.args.piece.now (omega (arith, c.on_page-n.ensures.rest, c.loop-done-test.true)), c.on_page-n.ensures.page)

pub write_page-requires-clause-some : goal.write_page-requires-clause-some
write_page-requires-clause-some g c =
    let some = c.on_page-n.ensures.some (omega (arith, c.loop-done-test.true)) in
    omega (arith, part_long c.loop-done.done c.on_page-n.result c.args.piece.now (omega (arith, c.on_page-n.ensures.rest, c.loop-done-test.true)), some)

pub write_page-requires-clause-range : goal.write_page-requires-clause-range
write_page-requires-clause-range g c =
    let fits : c.loop-done.done + c.on_page-n.result ≤ length c.args.piece.now = omega (arith, c.on_page-n.ensures.rest, c.loop-done-test.true) in
    omega (arith, part_long c.loop-done.done c.on_page-n.result c.args.piece.now fits, fits, c.requires.range, c.loop-done.invariant.1)

pub write_page-requires-clause-long : goal.write_page-requires-clause-long
write_page-requires-clause-long g c =
    subst (λ (k : ℕ). IfSome (g.R.Rack.bytes c.loop-done.rack c.args.number) (λ all. length all ≡ double_size k c.args.room)) (sym c.loop-done.invariant.1)
    (wrote_long g.R.Rack c.args.number (table_size c.args.now.now.size c.args.room) c.args.now.now.size (double_size c.args.now.now.size c.args.room) (bit_in c.args.last.now) (bit_in c.args.now.now.bits.items)
    (bit_in c.loop-done.now.bits.items) c.args.place c.loop-done.done c.args.piece.now c.args.rack.now c.loop-done.rack (c.loop-done.invariant.0) c.requires.long)

pub returns-in-Err-clause-made : goal.returns-in-Err-clause-made
returns-in-Err-clause-made g c =
    let d = c.loop-done.done in
    let n = c.on_page-n.result in
    let t = table_size c.args.now.now.size c.args.room in
    let fits : d + n ≤ length c.args.piece.now = omega (arith, c.on_page-n.ensures.rest, c.loop-done-test.true) in
    let pages : Told (TornPages t c.args.now.now.size (bit_in c.args.last.now)) (g.R.Rack.bytes c.loop-done.rack c.args.number) (g.R.Rack.bytes c.write_page.new.rack c.args.number) =
    subst (λ (k : ℕ). Told (TornPages (table_size k c.args.room) k (bit_in c.args.last.now)) (g.R.Rack.bytes c.loop-done.rack c.args.number) (g.R.Rack.bytes c.write_page.new.rack c.args.number)) c.loop-done.invariant.1 c.write_page.ensures.pages in
    turn_made g.R.Rack c.args.number t c.args.now.now.size (bit_in c.args.last.now) (bit_in c.args.now.now.bits.items) (bit_in c.loop-done.now.bits.items) (bit_in c.write_page.new.now.bits.items) c.args.place d n
    c.args.piece.now (take (d + n - d) (drop d c.args.piece.now)) c.write_page.result c.args.rack.now c.loop-done.rack c.write_page.new.rack (c.loop-done.invariant.0) (part_is d n c.args.piece.now) fits c.requires.range
    c.write_page.ensures.made c.write_page.ensures.serves pages

pub returns-in-Err-clause-serves : goal.returns-in-Err-clause-serves
returns-in-Err-clause-serves g c =
    let d = c.loop-done.done in
    let n = c.on_page-n.result in
    let t = table_size c.args.now.now.size c.args.room in
    let fits : d + n ≤ length c.args.piece.now = omega (arith, c.on_page-n.ensures.rest, c.loop-done-test.true) in
    let pages : Told (TornPages t c.args.now.now.size (bit_in c.args.last.now)) (g.R.Rack.bytes c.loop-done.rack c.args.number) (g.R.Rack.bytes c.write_page.new.rack c.args.number) =
    subst (λ (k : ℕ). Told (TornPages (table_size k c.args.room) k (bit_in c.args.last.now)) (g.R.Rack.bytes c.loop-done.rack c.args.number) (g.R.Rack.bytes c.write_page.new.rack c.args.number)) c.loop-done.invariant.1 c.write_page.ensures.pages in
    turn_serves g.R.Rack c.args.number t c.args.now.now.size (bit_in c.args.last.now) (bit_in c.args.now.now.bits.items) (bit_in c.loop-done.now.bits.items) (bit_in c.write_page.new.now.bits.items) c.args.place d n
    c.args.piece.now (take (d + n - d) (drop d c.args.piece.now)) _ c.args.rack.now c.loop-done.rack c.write_page.new.rack (c.loop-done.invariant.0) (part_is d n c.args.piece.now) fits c.requires.range
    c.write_page.ensures.made c.in-Err.ensures.serves pages

pub returns-in-Err-clause-size : goal.returns-in-Err-clause-size
returns-in-Err-clause-size g c = c.write_page.ensures.size ∙ c.loop-done.invariant.1

pub returns-in-Err-clause-length : goal.returns-in-Err-clause-length
returns-in-Err-clause-length g c = c.write_page.ensures.length ∙ c.loop-done.invariant.2

pub returns-in-Err-clause-most : goal.returns-in-Err-clause-most
returns-in-Err-clause-most g c = c.write_page.ensures.most ∙ c.loop-done.invariant.3

pub returns-in-Err-clause-pages : goal.returns-in-Err-clause-pages
returns-in-Err-clause-pages g c =
    let d = c.loop-done.done in
    let n = c.on_page-n.result in
    let t = table_size c.args.now.now.size c.args.room in
    let fits : d + n ≤ length c.args.piece.now = omega (arith, c.on_page-n.ensures.rest, c.loop-done-test.true) in
    let pages : Told (TornPages t c.args.now.now.size (bit_in c.args.last.now)) (g.R.Rack.bytes c.loop-done.rack c.args.number) (g.R.Rack.bytes c.write_page.new.rack c.args.number) =
    subst (λ (k : ℕ). Told (TornPages (table_size k c.args.room) k (bit_in c.args.last.now)) (g.R.Rack.bytes c.loop-done.rack c.args.number) (g.R.Rack.bytes c.write_page.new.rack c.args.number)) c.loop-done.invariant.1 c.write_page.ensures.pages in
    turn_pages g.R.Rack c.args.number t c.args.now.now.size (bit_in c.args.last.now) (bit_in c.args.now.now.bits.items) (bit_in c.loop-done.now.bits.items) (bit_in c.write_page.new.now.bits.items) c.args.place d n
    c.args.piece.now (take (d + n - d) (drop d c.args.piece.now)) c.write_page.result c.args.rack.now c.loop-done.rack c.write_page.new.rack (c.loop-done.invariant.0) (part_is d n c.args.piece.now) fits c.requires.range
    c.write_page.ensures.made c.write_page.ensures.serves pages

pub returns-in-Err-clause-torn : goal.returns-in-Err-clause-torn
returns-in-Err-clause-torn g c =
    let d = c.loop-done.done in
    let n = c.on_page-n.result in
    let t = table_size c.args.now.now.size c.args.room in
    let part = take (d + n - d) (drop d c.args.piece.now) in
    let fits : d + n ≤ length c.args.piece.now = omega (arith, c.on_page-n.ensures.rest, c.loop-done-test.true) in
    let pages : Told (TornPages t c.args.now.now.size (bit_in c.args.last.now)) (g.R.Rack.bytes c.loop-done.rack c.args.number) (g.R.Rack.bytes c.write_page.new.rack c.args.number) =
    subst (λ (k : ℕ). Told (TornPages (table_size k c.args.room) k (bit_in c.args.last.now)) (g.R.Rack.bytes c.loop-done.rack c.args.number) (g.R.Rack.bytes c.write_page.new.rack c.args.number)) c.loop-done.invariant.1 c.write_page.ensures.pages in
    let torn : Told (TearsPiece t c.args.now.now.size (bit_in c.loop-done.now.bits.items) (bit_in c.write_page.new.now.bits.items) (c.args.place + d) (length part)) (g.R.Rack.bytes c.loop-done.rack c.args.number) (g.R.Rack.bytes c.write_page.new.rack c.args.number) =
    subst (λ (k : ℕ). Told (TearsPiece (table_size k c.args.room) k (bit_in c.loop-done.now.bits.items) (bit_in c.write_page.new.now.bits.items) (c.args.place + d) (length part))
    (g.R.Rack.bytes c.loop-done.rack c.args.number) (g.R.Rack.bytes c.write_page.new.rack c.args.number)) c.loop-done.invariant.1 c.in-Err.ensures.torn in
    turn_torn g.R.Rack c.args.number t c.args.now.now.size (bit_in c.args.last.now) (bit_in c.args.now.now.bits.items) (bit_in c.loop-done.now.bits.items) (bit_in c.write_page.new.now.bits.items) c.args.place d n
    c.args.piece.now part c.write_page.result c.args.rack.now c.loop-done.rack c.write_page.new.rack (c.loop-done.invariant.0) (part_is d n c.args.piece.now) fits c.requires.range
    c.write_page.ensures.made c.write_page.ensures.serves pages torn

pub loop-done-preserved : goal.loop-done-preserved
loop-done-preserved g c =
    let d = c.loop-done.done in
    let n = c.on_page-n.result in
    let t = table_size c.args.now.now.size c.args.room in
    let part = take (d + n - d) (drop d c.args.piece.now) in
    let fits : d + n ≤ length c.args.piece.now = omega (arith, c.on_page-n.ensures.rest, c.loop-done-test.true) in
    let pages : Told (TornPages t c.args.now.now.size (bit_in c.args.last.now)) (g.R.Rack.bytes c.loop-done.rack c.args.number) (g.R.Rack.bytes c.write_page.new.rack c.args.number) =
    subst (λ (k : ℕ). Told (TornPages (table_size k c.args.room) k (bit_in c.args.last.now)) (g.R.Rack.bytes c.loop-done.rack c.args.number) (g.R.Rack.bytes c.write_page.new.rack c.args.number)) c.loop-done.invariant.1 c.write_page.ensures.pages in
    let puts : Told (PutsPiece t c.args.now.now.size (bit_in c.loop-done.now.bits.items) (bit_in c.write_page.new.now.bits.items) (c.args.place + d) part) (g.R.Rack.bytes c.loop-done.rack c.args.number) (g.R.Rack.bytes c.write_page.new.rack c.args.number) =
    subst (λ (k : ℕ). Told (PutsPiece (table_size k c.args.room) k (bit_in c.loop-done.now.bits.items) (bit_in c.write_page.new.now.bits.items) (c.args.place + d) part)
    (g.R.Rack.bytes c.loop-done.rack c.args.number) (g.R.Rack.bytes c.write_page.new.rack c.args.number)) c.loop-done.invariant.1 c.in-Ok.ensures.done in
    let calls = calls_turn (c.args.place + d) n (length c.args.piece.now - d) (bit_in c.loop-done.now.bits.items) (bit_in c.args.last.now) (bit_in c.write_page.new.now.bits.items)
    (c.on_page-n.ensures.some (omega (arith, c.loop-done-test.true))) (omega (arith, fits)) c.on_page-n.ensures.page c.on_page-n.ensures.full c.in-Ok.ensures.bits in
    let long : length part ≡ n = part_long d n c.args.piece.now fits in
    let own : MostCalls g.R.Rack (calls_on_page (bit_in c.loop-done.now.bits.items ((c.args.place + d) / 512)) (not (bit_in c.args.last.now ((c.args.place + d) / 512))) n) c.loop-done.rack c.write_page.new.rack =
    subst (λ (k : ℕ). MostCalls g.R.Rack (calls_on_page (bit_in c.loop-done.now.bits.items ((c.args.place + d) / 512)) (not (bit_in c.args.last.now ((c.args.place + d) / 512))) k) c.loop-done.rack c.write_page.new.rack) long c.write_page.ensures.calls in (
      wrote_turn g.R.Rack c.args.number t c.args.now.now.size (bit_in c.args.last.now) (bit_in c.args.now.now.bits.items) (bit_in c.loop-done.now.bits.items) (bit_in c.write_page.new.now.bits.items) c.args.place d n
          c.args.piece.now part c.write_page.result c.args.rack.now c.loop-done.rack c.write_page.new.rack (c.loop-done.invariant.0) (part_is d n c.args.piece.now) fits c.requires.range
          c.write_page.ensures.made c.write_page.ensures.serves pages (ap is_ok c.in-Ok.is) puts,
      c.write_page.ensures.size ∙ c.loop-done.invariant.1,
      c.write_page.ensures.length ∙ c.loop-done.invariant.2,
      c.write_page.ensures.most ∙ c.loop-done.invariant.3,
      omega (
        arith,
        calls,
        c.loop-done.invariant.4,
        own,
        pages_same (c.args.place + (d + n)) (c.args.place + d + n) (length c.args.piece.now - (d + n)) (length c.args.piece.now - d - n) (omega arith) (omega arith),
        parts_same (bit_in c.write_page.new.now.bits.items) (bit_in c.args.last.now) (c.args.place + (d + n)) (c.args.place + d + n) (length c.args.piece.now - (d + n)) (length c.args.piece.now - d - n)
            (omega arith) (omega arith),
      ),
    )

pub returns-clause-made : goal.returns-clause-made
returns-clause-made g c = (c.loop-done.invariant.0).made

pub returns-clause-serves : goal.returns-clause-serves
returns-clause-serves g c = serves_done g.R.Rack c.args.number tt c.args.rack.now c.loop-done.rack (c.loop-done.invariant.0).serves

pub returns-clause-size : goal.returns-clause-size
returns-clause-size g c = c.loop-done.invariant.1

pub returns-clause-length : goal.returns-clause-length
returns-clause-length g c = c.loop-done.invariant.2

pub returns-clause-most : goal.returns-clause-most
returns-clause-most g c = c.loop-done.invariant.3

pub returns-clause-pages : goal.returns-clause-pages
returns-clause-pages g c = (c.loop-done.invariant.0).pages

pub returns-clause-done : goal.returns-clause-done
returns-clause-done g c = wrote_all g.R.Rack c.args.number (table_size c.args.now.now.size c.args.room) c.args.now.now.size (bit_in c.args.last.now) (bit_in c.args.now.now.bits.items) (bit_in c.loop-done.now.bits.items)
    c.args.place c.loop-done.done c.args.piece.now c.args.rack.now c.loop-done.rack (c.loop-done.invariant.0) (omega (arith, c.loop-done-test.false))

pub returns-in-Err-clause-calls : goal.returns-in-Err-clause-calls
returns-in-Err-clause-calls g c =
    let d = c.loop-done.done in
    let n = c.on_page-n.result in
    let part = take (d + n - d) (drop d c.args.piece.now) in
    let page = (c.args.place + d) / 512 in
    let fits : d + n ≤ length c.args.piece.now = omega (arith, c.on_page-n.ensures.rest, c.loop-done-test.true) in
    let calls = calls_turn (c.args.place + d) n (length c.args.piece.now - d) (bit_in c.loop-done.now.bits.items) (bit_in c.args.last.now)
    (moved page (not (bit_in c.args.last.now page)) (bit_in c.loop-done.now.bits.items))
    (c.on_page-n.ensures.some (omega (arith, c.loop-done-test.true))) (omega (arith, fits)) c.on_page-n.ensures.page c.on_page-n.ensures.full (λ p. refl) in
    let long : length part ≡ n = part_long d n c.args.piece.now fits in
    let own : MostCalls g.R.Rack (calls_on_page (bit_in c.loop-done.now.bits.items page) (not (bit_in c.args.last.now page)) n) c.loop-done.rack c.write_page.new.rack =
    subst (λ (k : ℕ). MostCalls g.R.Rack (calls_on_page (bit_in c.loop-done.now.bits.items page) (not (bit_in c.args.last.now page)) k) c.loop-done.rack c.write_page.new.rack) long c.write_page.ensures.calls in
    omega (arith, calls, c.loop-done.invariant.4, own)

pub returns-clause-calls : goal.returns-clause-calls
returns-clause-calls g c = omega (arith, c.loop-done.invariant.4)
