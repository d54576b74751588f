use Rattle.std.proofs.Common.{◌≤◌, ◌+◌, ◌-◌, length}
use Rattle.dg_stop.proofs.PieceLemmas.{ReadSoFar}
use Rattle.dg_stop.specs.Layouts.{bit_in, table_size}
use Rattle.dg_stop.specs.Behind.{pages_on}
use Rattle.dg_stop.proofs.page_calls.read_pages.Given as goal

abbrev pub invariant-loop-done : goal.invariant-loop-done
invariant-loop-done g l =
    ReadSoFar g.R.Rack l.number (table_size l.size l.room) l.size (bit_in l.bits) l.place l.done l.initial.buf l.buf l.initial.rack l.rack
    × ((g.R.Rack.counts l.rack).calls + pages_on (l.place + l.done) (length l.initial.buf - l.done) ≤ (g.R.Rack.counts l.initial.rack).calls + pages_on l.place (length l.initial.buf))

abbrev pub decreases-loop-done : goal.decreases-loop-done
decreases-loop-done g l = length l.initial.buf - l.done
