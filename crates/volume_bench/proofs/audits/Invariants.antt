use Rattle.std.proofs.Common.{◌≡◌}
use Rattle.dg_io.specs.Fetches.{size_of}
use Rattle.volume_bench.proofs.audits.Given as goal

abbrev pub invariant-loop : goal.invariant-loop
invariant-loop l = (l.levels.fragment ≡ 512) × (size_of l.view ≡ 512)
