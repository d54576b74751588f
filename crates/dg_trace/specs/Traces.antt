-- The events of a trace.
use Rattle.std.specs.Prelude.{ℕ, List, ◌∷◌, map}
use Rattle.dg_model.specs.Blocks.{stripped}
use Rattle.dg_model.specs.declared.events.Event.{Event}
use Rattle.dg_model.specs.declared.events.Event.TheVariants.{Array, Write}
use Rattle.dg_model.specs.declared.shapes.Shape.{Shape}
use Rattle.dg_words.specs.declared.commands.Order.{Order}
use Rattle.ufs_build.specs.Traces.{block_in, trace_of}
use Rattle.ufs_model.specs.declared.geometries.Geometry.{Geometry}

-- the write of block b of an image whose blocks have l bytes, without the zeros at its end
abbrev pub write_of : ℕ → List ℕ → ℕ → Event
write_of l image b = Write b (stripped (block_in l image b))

-- the writes of some blocks
abbrev pub writes_of : ℕ → List ℕ → List ℕ → List Event
writes_of l image blocks = map (write_of l image) blocks

-- the array is made, and each block that isn't all zero is written, in an order
abbrev pub trace_events : Order → Geometry → Shape → List ℕ → List Event
trace_events order g shape volume = Array shape ∷ writes_of g.fsize volume (trace_of order g volume)
