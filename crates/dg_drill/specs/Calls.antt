-- What a drill met outside.
use Rattle.std.specs.Prelude.{ℕ, List, Option}
use Rattle.dg_io.specs.declared.outside.Rack as racks
use Rattle.dg_io.specs.declared.outside.Sink as sinks
use Rattle.dg_model.specs.States.{Counts}

-- The counts of the rack and the bytes of its members, before the drill and now; and what the sink had taken, and has been given by now.
pub record Facts : Type 0 where
  pub before : Counts
  pub now : Counts
  pub images : ℕ → Option (List ℕ)
  pub bytes : ℕ → Option (List ℕ)
  pub taken : Option (List ℕ)
  pub given : Option (List ℕ)

-- by what the sink told
abbrev pub rack_facts : {R : Type 0} → racks.Ghosts R → R → R → Option (List ℕ) → Option (List ℕ) → Facts
rack_facts rack old new taken given = record {
  before = rack.counts old;
  now = rack.counts new;
  images = rack.bytes old;
  bytes = rack.bytes new;
  taken = taken;
  given = given;
}

abbrev pub facts_of : {K R : Type 0} → sinks.Ghosts K → racks.Ghosts R → K → K → R → R → Facts
facts_of out_ghosts rack sink sink_now old new = rack_facts rack old new (out_ghosts.taken sink) (out_ghosts.taken sink_now)
