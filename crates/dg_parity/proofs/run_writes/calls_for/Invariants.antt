use Rattle.std.proofs.Common.{◌≡◌, ◌*◌, ◌≤◌, false}
use Rattle.dg_model.specs.Moves.{sum_upto}
use Rattle.dg_parity.specs.Groups.{is_out}
use Rattle.dg_parity.specs.Runs.{IsWhole}
use Rattle.dg_parity.specs.Updates.{reads_on}
use Rattle.dg_parity.proofs.run_writes.calls_for.Given as goal

abbrev pub invariant-loop-j : goal.invariant-loop-j
invariant-loop-j l = record {
  end : l.j-end ≡ l.group.disks;
  exact : l.calls ≡ sum_upto l.j (reads_on l.group.disks (is_out l.group) l.at l.size l.t l.by_change);
  most : l.calls ≤ 7 * l.j;
  whole : l.by_change ≡ false → IsWhole l.group.disks l.t l.at l.size → l.calls ≡ 0;
}
