use Rattle.std.proofs.Common.{◌≡◌, ◌<◌, ℕ, false}
use Rattle.dg_parity.specs.Groups.{is_out}
use Rattle.dg_parity.proofs.groups.Group.out_disk.Given as goal

abbrev pub invariant-loop-j : goal.invariant-loop-j
invariant-loop-j l = record {
  end : l.j-end ≡ l.self.disks;
  none : (i : ℕ) → i < l.j → is_out l.self i ≡ false;
}
