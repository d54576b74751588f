use Rattle.std.proofs.Common.{◌≡◌}
use Rattle.dg_parity.specs.Blanks.{IsBlanked}
use Rattle.dg_parity.specs.Groups.{length_of}
use Rattle.dg_parity.proofs.blanks.blank_disks.Given as goal

abbrev pub invariant-loop-j : goal.invariant-loop-j
invariant-loop-j g l = record {
  end : l.j-end ≡ l.fn.group.disks;
  size : l.length ≡ length_of l.group;
  blanked : IsBlanked g.R.Rack l.fn.group l.group l.fn.rack l.rack l.j;
}
