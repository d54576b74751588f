use Rattle.std.proofs.Common.{◌≡◌, ◌<◌, ℕ, true}
use Rattle.dg_parity.specs.Groups.{is_out, IsLater}
use Rattle.dg_parity.proofs.groups.Group.mark_all.Given as goal

abbrev pub invariant-loop-j : goal.invariant-loop-j
invariant-loop-j l = record {
  end : l.j-end ≡ l.fn.self.disks;
  told : l.self.told ≡ l.fn.self.told;
  later : IsLater l.fn.self l.self;
  out : (i : ℕ) → i < l.j → is_out l.self i ≡ true;
}
