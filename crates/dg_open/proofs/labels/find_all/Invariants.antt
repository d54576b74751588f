use Rattle.std.proofs.Common.{◌≡◌, ◌≤◌, ℕ, false}
use Rattle.dg_io.specs.Commits.{is_marked}
use Rattle.dg_open.specs.Seen.{AllStand, AreMeasured, AreQuiet, AreSeen}
use Rattle.dg_open.proofs.labels.find_all.Given as goal

abbrev pub invariant-loop-member : goal.invariant-loop-member
invariant-loop-member g l = record {
  seen : AreSeen g.R.Rack l.fn.rack l.rack l.labels l.member;
  stand : AllStand g.R.Rack l.rack l.labels l.member;
  quiet : AreQuiet g.R.Rack l.fn.rack l.rack l.labels l.member;
  measured : AreMeasured g.R.Rack l.rack l.labels l.long l.member;
  clear : (q : ℕ) → l.member ≤ q → is_marked l.long q ≡ false;
}
