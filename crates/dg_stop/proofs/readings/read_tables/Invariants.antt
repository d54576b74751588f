use Rattle.std.proofs.Common.{◌≡◌, length}
use Rattle.dg_stop.specs.Readings.{ReadsOn}
use Rattle.dg_stop.specs.Tries.{count_in}
use Rattle.dg_stop.proofs.readings.read_tables.Given as goal

abbrev pub invariant-loop-lead : goal.invariant-loop-lead
invariant-loop-lead g l = record {
  on : ReadsOn g.R.Rack l.initial.found l.initial.known l.initial.failed l.initial.rack l.found l.known l.failed l.rack;
  many : length l.found ≡ 32;
  all : length l.known ≡ 32;
  marks : length l.failed ≡ 32;
}

abbrev pub decreases-loop-lead : goal.decreases-loop-lead
decreases-loop-lead g l = count_in l.known
