use Rattle.std.proofs.Common.{◌≡◌, ◌≤◌, ◌+◌, ◌-◌, length}
use Rattle.dg_stop.proofs.PieceLemmas.{WroteSoFar}
use Rattle.dg_stop.specs.Layouts.{bit_in, table_size}
use Rattle.dg_stop.specs.Behind.{pages_on, parts_on}
use Rattle.dg_stop.proofs.page_calls.write_pages.Given as goal

abbrev pub invariant-loop-done : goal.invariant-loop-done
invariant-loop-done g l =
    WroteSoFar g.R.Rack l.number (table_size l.initial.now.size l.room) l.initial.now.size (bit_in l.last) (bit_in l.initial.now.bits.items) (bit_in l.now.bits.items) l.place l.done l.piece l.initial.rack l.rack
    × (l.now.size ≡ l.initial.now.size) × (length l.now.bits.items ≡ length l.initial.now.bits.items) × (l.now.most ≡ l.initial.now.most)
    × (
    (g.R.Rack.counts l.rack).calls + (pages_on (l.place + l.done) (length l.piece - l.done) + parts_on (bit_in l.now.bits.items) (bit_in l.last) (l.place + l.done) (length l.piece - l.done))
    ≤ (g.R.Rack.counts l.initial.rack).calls + (pages_on l.place (length l.piece) + parts_on (bit_in l.initial.now.bits.items) (bit_in l.last) l.place (length l.piece))
    )

abbrev pub decreases-loop-done : goal.decreases-loop-done
decreases-loop-done g l = length l.piece - l.done
