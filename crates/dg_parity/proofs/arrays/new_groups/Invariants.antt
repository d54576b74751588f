use Rattle.std.proofs.Common.{◌≡◌, ℕ, length, slice_get}
use Rattle.std.specs.Prelude.{Some}
use Rattle.dg_parity.specs.Arrays.{IsNewGroup}
use Rattle.dg_parity.specs.declared.groups.Group.{Group}
use Rattle.dg_parity.proofs.arrays.new_groups.Given as goal

abbrev pub invariant-loop-number : goal.invariant-loop-number
invariant-loop-number l = record {
  size : length l.groups.items ≡ l.number;
  each : (s : ℕ) (group : Group) → slice_get l.groups.items s ≡ Some group → IsNewGroup l.disks s group;
}
