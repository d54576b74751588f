-- How a replay between objects in memory ended, by its status.
use Rattle.std.proofs.Common.{◌≡◌, ℕ, subst}
use Rattle.std.specs.Prelude.{Some}
use Rattle.dg_io.specs.Racks.{counts_in, member_in}
use Rattle.dg_io.specs.Sinks.{taken_in}
use Rattle.dg_io.specs.Sources.{left_in}
use Rattle.dg_io.specs.declared.racks.MemRack.{MemRack}
use Rattle.dg_io.specs.declared.sinks.MemSink.{MemSink}
use Rattle.dg_io.specs.declared.sources.MemSource.{MemSource}
use Rattle.dg_run.specs.Calls.{Facts}
use Rattle.dg_run.specs.Ends.{EndsReplay}
use Rattle.dg_run.specs.declared.top.Status.{Status}

-- what the call met
abbrev pub met : MemSource → MemSource → MemSink → MemSink → MemRack → MemRack → Facts
met source source_now sink sink_now old new = record {
  before = counts_in old;
  now = counts_in new;
  images = member_in old;
  bytes = member_in new;
  left = Some (left_in source);
  rest = Some (left_in source_now);
  taken = Some (taken_in sink);
  given = Some (taken_in sink_now);
}

pub ended : (steady : Type 0) (tells : ℕ → Type 0) (f : Facts) (status other : Status) → EndsReplay steady tells f status → status ≡ other → EndsReplay steady tells f other
ended steady tells f status other ends is = subst (λ (s : Status). EndsReplay steady tells f s) is ends
