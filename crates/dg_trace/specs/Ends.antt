-- How a trace ends, and what it leaves.
use Rattle.std.specs.Prelude.{◌≡◌, ◌⊎◌, ℕ, List, Option, Result, Ok, Err}
use Rattle.dg_io.specs.Told.{Told, Took, TookPart}
use Rattle.dg_text.specs.Lines.{AreBytes}
use Rattle.dg_trace.specs.Answers.{IsAnswer, answer_text}
use Rattle.dg_trace.specs.Calls.{Facts}
use Rattle.dg_trace.specs.Images.{GaveImage, GavePart}
use Rattle.dg_trace.specs.declared.asked.Asked.{Asked}
use Rattle.dg_trace.specs.declared.asked.TraceEnd.{TraceEnd}
use Rattle.dg_trace.specs.declared.asked.TraceEnd.TheVariants.{Refused, Written}
use Rattle.dg_trace.specs.declared.asked.TraceFault.{TraceFault}
use Rattle.dg_trace.specs.declared.asked.TraceFault.TheVariants.{NoMemory, Read, Write}
use Rattle.dg_trace.specs.declared.asked.TraceRefusal.{TraceRefusal}
use Rattle.ufs_model.specs.declared.geometries.Geometry.{Geometry}

-- an image is answered so, and that was printed, whole (`Took`) or in part (`TookPart`)
pub record Prints (asked : Asked) (image : List ℕ) (answer : Result Geometry TraceRefusal) (printed : List ℕ → List ℕ → List ℕ → Type 0)
    (taken given : Option (List ℕ)) : Type 0 where
  pub is : IsAnswer asked image answer
  pub output : Told (printed (answer_text asked image answer)) taken given

-- By the end: the trace was written; or why there is none; or the sink failed behind a part of what was to be printed; or memory was wanting behind
-- a part of the trace, which may be empty.
abbrev pub EndsImage : Asked → List ℕ → Option (List ℕ) → Option (List ℕ) → Result TraceEnd TraceFault → Type 0
EndsImage asked image taken given (Ok Written) = (g : Geometry) × Prints asked image (Ok g) Took taken given
EndsImage asked image taken given (Ok (Refused refusal)) = Prints asked image (Err refusal) Took taken given
EndsImage asked image taken given (Err Read) = ⊥
EndsImage asked image taken given (Err Write) = (answer : Result Geometry TraceRefusal) × Prints asked image answer TookPart taken given
EndsImage asked image taken given (Err NoMemory) = (g : Geometry) × Prints asked image (Ok g) TookPart taken given

-- An image was read to its end, or one byte past what an image may have, and what follows ended so.
pub record Answered (facts : Facts) (asked : Asked) (end : Result TraceEnd TraceFault) : Type 0 where
  pub image : List ℕ
  pub bytes : AreBytes image
  pub read : Told (GaveImage image) facts.left facts.rest
  pub ends : EndsImage asked image facts.taken facts.given end

-- the image was read in part at most, and nothing was printed
pub record BrokeOff (facts : Facts) : Type 0 where
  pub read : Told GavePart facts.left facts.rest
  pub output : facts.given ≡ facts.taken

-- By the end: an image was read and answered; or the source failed, or memory was wanting, before that.
abbrev pub Ends : Facts → Asked → Result TraceEnd TraceFault → Type 0
Ends facts asked (Ok end) = Answered facts asked (Ok end)
Ends facts asked (Err Read) = BrokeOff facts
Ends facts asked (Err Write) = Answered facts asked (Err Write)
Ends facts asked (Err NoMemory) = BrokeOff facts ⊎ Answered facts asked (Err NoMemory)
