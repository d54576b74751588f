-- One reply answers an event.
use Rattle.std.proofs.Common.{◌≡◌, subst}
use Rattle.std.specs.Prelude.{Result, Err, OnErr, OnOk}
use Rattle.dg_io.specs.SinkLines.{LeavesLines}
use Rattle.dg_io.specs.Told.{Told, Took, TookPart}
use Rattle.dg_io.specs.declared.outside.Rack.{Ghosts}
use Rattle.dg_io.specs.declared.outside.Sink as sinks
use Rattle.dg_model.specs.declared.events.Event.{Event}
use Rattle.dg_model.specs.declared.replies.Reply.{Reply}
use Rattle.dg_run.proofs.Answers.{answered, answered_part, at_err, at_ok}
use Rattle.dg_run.proofs.ArraySteps.{weaker_steps}
use Rattle.dg_run.specs.Steps.{Answered, AnsweredPart, StepsTo}
use Rattle.dg_run.specs.declared.arrays.Array.{Array}
use Rattle.dg_run.specs.declared.events.Fault.{Fault}
use Rattle.dg_run.specs.declared.events.Fault.TheVariants.{Write}
use Rattle.dg_text.specs.Replies.{reply_line}

-- what is said of the event then
pub record Sent {K R T : Type 0} (ghosts : sinks.Ghosts K) (rack : Ghosts R) (event : Event) (sink out : K) (a b : Array R) (result : Result T Fault) : Type 0 where
  pub answered : OnOk result (Answered rack event (ghosts.taken sink) (ghosts.taken out) a b)
  pub part : result ≡ Err Write → AnsweredPart rack event (ghosts.taken sink) (ghosts.taken out) a b
  pub lines : (result ≡ Err Write → ⊥) → LeavesLines 255 ghosts.whole ghosts.calls ghosts.taken sink out

-- the sink that it was sent to had been lent before, and took nothing
pub sent : {K R T : Type 0} (ghosts : sinks.Ghosts K) (rack : Ghosts R) (event : Event) (reply : Reply) {sink start out : K} (a b : Array R) (result : Result T Fault) → StepsTo rack a event reply b
    → OnOk result (Told (Took (reply_line reply)) (ghosts.taken start) (ghosts.taken out)) → OnErr result (Told (TookPart (reply_line reply)) (ghosts.taken start) (ghosts.taken out))
    → OnErr result (result ≡ Err Write) → OnOk result (LeavesLines 255 ghosts.whole ghosts.calls ghosts.taken start out) → start ≡ sink → Sent ghosts rack event sink out a b result
sent {K = K} ghosts rack event reply {start = start} {out = out} a b result steps ok err only lines same = subst (λ (s : K). Sent ghosts rack event s out a b result) same (record {
  answered = answered rack event reply (ghosts.taken start) (ghosts.taken out) a b result steps ok;
  part = λ is. at_err result Write is (answered_part rack event reply (ghosts.taken start) (ghosts.taken out) a b result (weaker_steps rack a b event reply steps) err);
  lines = at_ok result Write only lines;
})
