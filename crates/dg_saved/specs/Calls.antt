-- What a command on a saved array met outside.
use Rattle.std.specs.Prelude.{ℕ, List, Option}
use Rattle.dg_io.specs.declared.outside.Rack as racks
use Rattle.dg_io.specs.declared.outside.Sink as sinks
use Rattle.dg_model.specs.States.{Counts}

-- The counts of the rack and the bytes of its members, before the command and now; what it keeps beside the state, and its room for that; and what
-- the sink had taken, and has been given by now.
pub record Facts : Type 0 where
  pub before : Counts
  pub now : Counts
  pub images : ℕ → Option (List ℕ)
  pub bytes : ℕ → Option (List ℕ)
  pub extra : List ℕ
  pub room : Option ℕ
  pub taken : Option (List ℕ)
  pub given : Option (List ℕ)

-- by the word for a rack's room, and the extra bytes that are handed in with it
abbrev pub facts_of : {K R : Type 0} → sinks.Ghosts K → racks.Ghosts R → (R → Option ℕ) → List ℕ → K → K → R → R → Facts
facts_of out_ghosts rack room extra sink sink_now old new = record {
  before = rack.counts old;
  now = rack.counts new;
  images = rack.bytes old;
  bytes = rack.bytes new;
  extra = extra;
  room = room old;
  taken = out_ghosts.taken sink;
  given = out_ghosts.taken sink_now;
}
