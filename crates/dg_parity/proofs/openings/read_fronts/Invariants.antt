use Rattle.std.proofs.Common.{◌≡◌, ◌<◌, ◌*◌, ℕ, length}
use Rattle.dg_parity.specs.Groups.{disk_number, MostCalls}
use Rattle.dg_parity.specs.Openings.{IsFound, LeavesRead, fronts_in}
use Rattle.dg_parity.proofs.openings.read_fronts.Given as goal

abbrev pub invariant-loop-j : goal.invariant-loop-j
invariant-loop-j g l = record {
  size : length l.fronts ≡ 8;
  leaves : LeavesRead g.R.Rack (disk_number l.fn.s 0) (disk_number l.fn.s l.j) l.fn.rack l.rack;
  found : (i : ℕ) → i < l.j → IsFound g.R.Rack l.fn.rack l.rack l.fn.s i (fronts_in l.fronts i);
  calls : MostCalls g.R.Rack (2 * l.j) l.fn.rack l.rack;
}
