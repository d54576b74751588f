use Rattle.std.proofs.Common.{◌≡◌, ◌<◌, ◌*◌, ℕ, length}
use Rattle.dg_parity.specs.Groups.{disk_number, MostCalls}
use Rattle.dg_parity.specs.Openings.{IsFound, LeavesRead, fronts_by}
use Rattle.dg_parity.proofs.array_openings.read_rows.Given as goal

abbrev pub invariant-loop-s : goal.invariant-loop-s
invariant-loop-s g l = record {
  size : length l.rows ≡ 16;
  leaves : LeavesRead g.R.Rack (disk_number 0 0) (disk_number l.s 0) l.fn.rack l.rack;
  found : (t j : ℕ) → t < l.s → j < 8 → IsFound g.R.Rack l.fn.rack l.rack t j (fronts_by l.rows t j);
  calls : MostCalls g.R.Rack (16 * l.s) l.fn.rack l.rack;
}
