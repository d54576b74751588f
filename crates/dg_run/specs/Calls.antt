-- What a call of the program met outside.
use Rattle.std.specs.Prelude.{ℕ, List, [], None, Option}
use Rattle.dg_drill.specs.Calls as drills
use Rattle.dg_io.specs.declared.outside.Rack as racks
use Rattle.dg_io.specs.declared.outside.Sink as sinks
use Rattle.dg_io.specs.declared.outside.Source as sources
use Rattle.dg_model.specs.States.{Counts}
use Rattle.dg_saved.specs.Calls as commands
use Rattle.dg_trace.specs.Calls as traces

-- The counts of the rack and the bytes of its members, before the call and now; what the source had left, and the rest of it; and what the
-- sink had taken, and has been given by now.
pub record Facts : Type 0 where
  pub before : Counts
  pub now : Counts
  pub images : ℕ → Option (List ℕ)
  pub bytes : ℕ → Option (List ℕ)
  pub left : Option (List ℕ)
  pub rest : Option (List ℕ)
  pub taken : Option (List ℕ)
  pub given : Option (List ℕ)

abbrev pub facts_of : {S K R : Type 0} → sources.Ghosts S → sinks.Ghosts K → racks.Ghosts R → S → S → K → K → R → R → Facts
facts_of in_ghosts out_ghosts rack source source_now sink sink_now old new = record {
  before = rack.counts old;
  now = rack.counts new;
  images = rack.bytes old;
  bytes = rack.bytes new;
  left = in_ghosts.left source;
  rest = in_ghosts.left source_now;
  taken = out_ghosts.taken sink;
  given = out_ghosts.taken sink_now;
}

-- ---- what a crate below met of it

-- a command on a saved array that keeps nothing beside its state: the sink and the rack
abbrev pub met_by : Facts → commands.Facts
met_by facts = record {
  before = facts.before;
  now = facts.now;
  images = facts.images;
  bytes = facts.bytes;
  extra = [];
  room = None;
  taken = facts.taken;
  given = facts.given;
}

-- where no source is at hand
abbrev pub rack_met : {K R : Type 0} → sinks.Ghosts K → racks.Ghosts R → K → K → R → R → commands.Facts
rack_met out_ghosts rack sink sink_now old new = record {
  before = rack.counts old;
  now = rack.counts new;
  images = rack.bytes old;
  bytes = rack.bytes new;
  extra = [];
  room = None;
  taken = out_ghosts.taken sink;
  given = out_ghosts.taken sink_now;
}

-- a trace that is made of an image: the source and the sink
abbrev pub streams_of : Facts → traces.Facts
streams_of facts = record { left = facts.left; rest = facts.rest; taken = facts.taken; given = facts.given }

-- a drill: the sink and the rack
abbrev pub drill_met : Facts → drills.Facts
drill_met facts = record {
  before = facts.before;
  now = facts.now;
  images = facts.images;
  bytes = facts.bytes;
  taken = facts.taken;
  given = facts.given;
}
