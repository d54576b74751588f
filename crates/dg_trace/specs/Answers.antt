-- What an image is answered by: the volume of which a trace is made, or why there is none. The refusals and their order are this project's own.
use Rattle.std.specs.Prelude.{◌≡◌, ◌⊎◌, ◌≤◌, ◌<◌, ◌*◌, ◌^◌, ℕ, List, length, take, codes, Result, Ok, Err}
use Rattle.dg_model.specs.Shapes.{IsShape}
use Rattle.dg_model.specs.declared.events.Event.{Event}
use Rattle.dg_model.specs.declared.replies.Reply.TheVariants.{Refused}
use Rattle.dg_text.specs.Lines.{input_of}
use Rattle.dg_text.specs.Replies.{reply_line}
use Rattle.dg_trace.specs.Traces.{trace_events}
use Rattle.dg_trace.specs.Volumes.{shape_for, volume_on}
use Rattle.dg_trace.specs.declared.asked.Asked.{Asked}
use Rattle.dg_trace.specs.declared.asked.TraceRefusal.{TraceRefusal}
use Rattle.dg_trace.specs.declared.asked.TraceRefusal.TheVariants.{Length, Limits, Super}
use Rattle.ufs_model.specs.declared.geometries.Geometry.{Geometry}
use Rattle.ufs_model.specs.declared.reads.BadRead.TheVariants.{Super as BadSuperblock}
use Rattle.ufs_model.specs.declared.reads.PathRefusal.TheVariants.{Bad}

-- an image has all bytes of a superblock, and no more than 2^28
pub record IsInSize (image : List ℕ) : Type 0 where
  pub least : 9568 ≤ length image
  pub most : length image ≤ 2 ^ 28

-- and this volume
pub record HasVolume (image : List ℕ) (g : Geometry) : Type 0 where
  pub size : IsInSize image
  pub volume : volume_on image ≡ Ok g

-- and all bytes of the volume
pub record HasWhole (image : List ℕ) (g : Geometry) : Type 0 where
  pub has : HasVolume image g
  pub whole : g.size * g.fsize ≤ length image

-- An image of a wrong length: too long, or too short for a superblock or for its volume.
abbrev pub IsWrongLength : List ℕ → Type 0
IsWrongLength image = (IsInSize image → ⊥) ⊎ ((g : Geometry) × HasVolume image g × (length image < g.size * g.fsize))

-- A trace is made of it: there is an array for the volume.
pub record IsAccepted (asked : Asked) (image : List ℕ) (g : Geometry) : Type 0 where
  pub has : HasWhole image g
  pub limits : IsShape (shape_for asked g)

-- Why there is none, in this order: the image is too long or too short; its superblock fails a test; it ends before its volume does; or an array
-- for the volume breaks a limit.
abbrev pub IsRefused : Asked → List ℕ → TraceRefusal → Type 0
IsRefused asked image Length = IsWrongLength image
IsRefused asked image (Super bad) = IsInSize image × (volume_on image ≡ Err bad)
IsRefused asked image Limits = (g : Geometry) × HasWhole image g × (IsShape (shape_for asked g) → ⊥)

-- one of the two
abbrev pub IsAnswer : Asked → List ℕ → Result Geometry TraceRefusal → Type 0
IsAnswer asked image (Ok g) = IsAccepted asked image g
IsAnswer asked image (Err refusal) = IsRefused asked image refusal

-- ---- what is printed

-- the bytes of the volume on an image
abbrev pub volume_bytes : Geometry → List ℕ → List ℕ
volume_bytes g image = take (g.size * g.fsize) image

-- the events of the trace of an image with this volume
abbrev pub events_of : Asked → List ℕ → Geometry → List Event
events_of asked image g = trace_events asked.order g (shape_for asked g) (volume_bytes g image)

-- why there is none, as a line
abbrev pub refusal_text : TraceRefusal → List ℕ
refusal_text Length = codes "bad length\n"
refusal_text (Super bad) = reply_line (Refused (Bad (BadSuperblock bad)))
refusal_text Limits = codes "bad limits\n"

-- the lines of the trace, or that line
abbrev pub answer_text : Asked → List ℕ → Result Geometry TraceRefusal → List ℕ
answer_text asked image (Ok g) = input_of (events_of asked image g)
answer_text asked image (Err refusal) = refusal_text refusal
