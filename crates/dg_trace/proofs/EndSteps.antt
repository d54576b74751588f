-- How a trace ends.
use Rattle.std.proofs.Common.{◌≡◌, ℕ, List, refl, ◌∙◌, ap, subst, inr}
use Rattle.std.specs.Prelude.{Option, Result, Ok, Err}
use Rattle.dg_io.specs.Told.{Told, Took, TookPart}
use Rattle.dg_text.specs.Lines.{AreBytes, input_of}
use Rattle.dg_model.specs.declared.shapes.Shape.{Shape}
use Rattle.dg_trace.specs.Answers.{IsAccepted, IsRefused, events_of, refusal_text, volume_bytes}
use Rattle.dg_trace.specs.Calls.{Facts}
use Rattle.dg_trace.specs.Ends.{Ends, EndsImage}
use Rattle.dg_trace.specs.Images.{GaveImage}
use Rattle.dg_trace.specs.Traces.{trace_events}
use Rattle.dg_trace.specs.Volumes.{shape_for}
use Rattle.dg_trace.specs.declared.asked.Asked.{Asked}
use Rattle.dg_trace.specs.declared.asked.TraceEnd.{TraceEnd}
use Rattle.dg_trace.specs.declared.asked.TraceEnd.TheVariants.{Refused, Written}
use Rattle.dg_trace.specs.declared.asked.TraceFault.{TraceFault}
use Rattle.dg_trace.specs.declared.asked.TraceFault.TheVariants.{NoMemory, Read, Write}
use Rattle.dg_trace.specs.declared.asked.TraceRefusal.{TraceRefusal}
use Rattle.ufs_model.specs.declared.geometries.Geometry.{Geometry}

-- the events by what the code has at hand
events_are : (asked : Asked) (image volume : List ℕ) (g : Geometry) (shape : Shape) → shape ≡ shape_for asked g → volume ≡ volume_bytes g image
    → input_of (trace_events asked.order g shape volume) ≡ input_of (events_of asked image g)
events_are asked image volume g shape same whole =
    ap (λ (s : Shape). input_of (trace_events asked.order g s volume)) same ∙ ap (λ (l : List ℕ). input_of (trace_events asked.order g (shape_for asked g) l)) whole

pub ends_written : (asked : Asked) (image volume : List ℕ) (g : Geometry) (shape : Shape) (x y : Option (List ℕ)) → IsAccepted asked image g
    → shape ≡ shape_for asked g → volume ≡ volume_bytes g image → Told (Took (input_of (trace_events asked.order g shape volume))) x y
    → EndsImage asked image x y (Ok Written)
ends_written asked image volume g shape x y is same whole told =
    (g, record { is = is; output = subst (λ (l : List ℕ). Told (Took l) x y) (events_are asked image volume g shape same whole) told })

pub ends_in_part : (asked : Asked) (image volume : List ℕ) (g : Geometry) (shape : Shape) (x y : Option (List ℕ)) (fault : TraceFault) → (fault ≡ Read → ⊥)
    → IsAccepted asked image g → shape ≡ shape_for asked g → volume ≡ volume_bytes g image
    → Told (TookPart (input_of (trace_events asked.order g shape volume))) x y → EndsImage asked image x y (Err fault)
ends_in_part asked image volume g shape x y Read other is same whole told = absurd (other refl)
ends_in_part asked image volume g shape x y Write other is same whole told =
    (Ok g, record { is = is; output = subst (λ (l : List ℕ). Told (TookPart l) x y) (events_are asked image volume g shape same whole) told })
ends_in_part asked image volume g shape x y NoMemory other is same whole told =
    (g, record { is = is; output = subst (λ (l : List ℕ). Told (TookPart l) x y) (events_are asked image volume g shape same whole) told })

pub ends_refused : (asked : Asked) (image : List ℕ) (refusal : TraceRefusal) (x y : Option (List ℕ)) → IsRefused asked image refusal
    → Told (Took (refusal_text refusal)) x y → EndsImage asked image x y (Ok (Refused refusal))
ends_refused asked image refusal x y is told = record { is = is; output = told }

pub ends_refused_in_part : (asked : Asked) (image : List ℕ) (refusal : TraceRefusal) (x y : Option (List ℕ)) → IsRefused asked image refusal
    → Told (TookPart (refusal_text refusal)) x y → EndsImage asked image x y (Err Write)
ends_refused_in_part asked image refusal x y is told = (Err refusal, record { is = is; output = told })

-- an image that was read, and what followed
pub ends_read : (facts : Facts) (asked : Asked) (image : List ℕ) (end : Result TraceEnd TraceFault) → AreBytes image → Told (GaveImage image) facts.left facts.rest
    → EndsImage asked image facts.taken facts.given end → Ends facts asked end
ends_read facts asked image (Ok end) bytes read ends = record { image = image; bytes = bytes; read = read; ends = ends }
ends_read facts asked image (Err Read) bytes read ends = absurd ends
ends_read facts asked image (Err Write) bytes read ends = record { image = image; bytes = bytes; read = read; ends = ends }
ends_read facts asked image (Err NoMemory) bytes read ends = inr (record { image = image; bytes = bytes; read = read; ends = ends })
