-- What a trace met outside.
use Rattle.std.specs.Prelude.{ℕ, List, Option}
use Rattle.dg_io.specs.declared.outside.Sink as sinks
use Rattle.dg_io.specs.declared.outside.Source as sources

-- What the source had left before, and has left now; and what the sink had taken, and has been given by now.
pub record Facts : Type 0 where
  pub left : Option (List ℕ)
  pub rest : Option (List ℕ)
  pub taken : Option (List ℕ)
  pub given : Option (List ℕ)

abbrev pub facts_of : {S K : Type 0} → sources.Ghosts S → sinks.Ghosts K → S → S → K → K → Facts
facts_of in_ghosts out_ghosts source source_now sink sink_now = record {
  left = in_ghosts.left source;
  rest = in_ghosts.left source_now;
  taken = out_ghosts.taken sink;
  given = out_ghosts.taken sink_now;
}
