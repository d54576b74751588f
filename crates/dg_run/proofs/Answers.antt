-- An event is answered.
use Rattle.std.proofs.Common.{◌≡◌, ℕ, List, [], ◌∷◌}
use Rattle.std.specs.Prelude.{Option, Result, Ok, Err, OnErr, OnOk}
use Rattle.dg_model.specs.declared.events.Event.{Event}
use Rattle.dg_model.specs.declared.replies.Reply.{Reply}
use Rattle.dg_io.specs.Told.{Told, Took, TookPart}
use Rattle.dg_io.specs.declared.outside.Rack.{Ghosts}
use Rattle.dg_run.specs.declared.arrays.Array.{Array}
use Rattle.dg_text.specs.Replies.{reply_line}
use Rattle.dg_run.specs.Histories.{EventAnswered, EventCut, RunsTo, VolumeRunsTo, Running}
use Rattle.dg_run.specs.Steps.{Answered, AnsweredPart, StepsTo, VolumeStepsTo}

-- a step was made, and where its reply was written, the event is answered
pub answered : {R T E : Type 0} (rack : Ghosts R) (event : Event) (reply : Reply) (taken given : Option (List ℕ)) (old new : Array R) (result : Result T E)
    → StepsTo rack old event reply new → OnOk result (Told (Took (reply_line reply)) taken given) → OnOk result (Answered rack event taken given old new)
answered rack event reply taken given old new (Ok done) steps told = record { reply = reply; steps = steps; output = told }
answered rack event reply taken given old new (Err failed) steps told = tt

-- the same of a part of its reply
pub answered_part : {R T E : Type 0} (rack : Ghosts R) (event : Event) (reply : Reply) (taken given : Option (List ℕ)) (old new : Array R) (result : Result T E)
    → VolumeStepsTo rack old event reply new → OnErr result (Told (TookPart (reply_line reply)) taken given) → OnErr result (AnsweredPart rack event taken given old new)
answered_part rack event reply taken given old new (Ok done) steps told = tt
answered_part rack event reply taken given old new (Err failed) steps told = record { reply = reply; steps = steps; output = told }

-- the same of an array of the boundaries in use
pub event_done_by : {R T E : Type 0} (rack : Ghosts R) (event : Event) (reply : Reply) (taken given : Option (List ℕ)) (old new : Running R) (result : Result T E)
    → RunsTo rack old (event ∷ []) (reply ∷ []) new → OnOk result (Told (Took (reply_line reply)) taken given) → OnOk result (EventAnswered rack event taken given old new)
event_done_by rack event reply taken given old new (Ok done) runs told = record { reply = reply; runs = runs; output = told }
event_done_by rack event reply taken given old new (Err failed) runs told = tt

pub event_part_by : {R T E : Type 0} (rack : Ghosts R) (event : Event) (reply : Reply) (taken given : Option (List ℕ)) (old new : Running R) (result : Result T E)
    → VolumeRunsTo rack old (event ∷ []) (reply ∷ []) new → OnErr result (Told (TookPart (reply_line reply)) taken given) → OnErr result (EventCut rack event taken given old new)
event_part_by rack event reply taken given old new (Ok done) runs told = tt
event_part_by rack event reply taken given old new (Err failed) runs told = record { reply = reply; runs = runs; output = told }

-- what is so at an error
pub at_err : {T E P : Type 0} (result : Result T E) (fault : E) → result ≡ Err fault → OnErr result P → P
at_err (Ok done) fault is all = absurd (cc is)
at_err (Err failed) fault is all = all

-- what is so where there is no such error
pub at_ok : {T E P : Type 0} (result : Result T E) (fault : E) → OnErr result (result ≡ Err fault) → OnOk result P → (result ≡ Err fault → ⊥) → P
at_ok (Ok done) fault only all none = all
at_ok (Err failed) fault only all none = absurd (none only)
