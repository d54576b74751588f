use Rattle.std.proofs.Common.{◌≡◌, ◌<◌, ℕ, ap, arith, rules}
use Rattle.std.specs.Prelude.{Err}
use Rattle.std.proofs.lemmas.List.Elements.{All-from_get_or}
use Rattle.dg_trace.proofs.EndSteps.{ends_in_part, ends_refused_in_part, ends_written}
use Rattle.dg_trace.specs.Answers.{volume_bytes}
use Rattle.dg_trace.proofs.traces.write_answer.Goals as goal

pub returns-in-Ok-write_lines-clause-ends : goal.returns-in-Ok-write_lines-clause-ends
returns-in-Ok-write_lines-clause-ends g c =
    let whole : c.split_at.result.0.now ≡ volume_bytes c.in-Ok.accepted.geometry c.args.image.now = search rules in
    ends_written c.args.asked.now c.args.image.now c.split_at.result.0.now c.in-Ok.accepted.geometry c.in-Ok.accepted.shape _ _ c.in-Ok.ensures.ok c.in-Ok.ensures.shape
    whole c.in-Ok-write_lines.ensures.ok

pub returns-in-Err-write_lines-clause-ends : goal.returns-in-Err-write_lines-clause-ends
returns-in-Err-write_lines-clause-ends g c =
    let whole : c.split_at.result.0.now ≡ volume_bytes c.in-Ok.accepted.geometry c.args.image.now = search rules in
    ends_in_part c.args.asked.now c.args.image.now c.split_at.result.0.now c.in-Ok.accepted.geometry c.in-Ok.accepted.shape _ _ c.in-Err-write_lines.fault
    (λ e. c.in-Err-write_lines.ensures.read (ap Err e)) c.in-Ok.ensures.ok c.in-Ok.ensures.shape whole c.in-Err-write_lines.ensures.part

pub returns-in-Err-write_refusal-clause-ends : goal.returns-in-Err-write_refusal-clause-ends
returns-in-Err-write_refusal-clause-ends g c =
    ends_refused_in_part c.args.asked.now c.args.image.now c.in-Err.refusal _ _ c.in-Err.ensures.err c.in-Err-write_refusal.ensures.err

pub returns-in-Ok-write_lines-clause-bytes : goal.returns-in-Ok-write_lines-clause-bytes
returns-in-Ok-write_lines-clause-bytes g c = All-from_get_or (λ (x : ℕ). x < 256) c.args.image.now 0 (λ i lt. omega (arith, c.type_inv.image i))

pub returns-in-Err-write_lines-clause-bytes : goal.returns-in-Err-write_lines-clause-bytes
returns-in-Err-write_lines-clause-bytes g c = All-from_get_or (λ (x : ℕ). x < 256) c.args.image.now 0 (λ i lt. omega (arith, c.type_inv.image i))

pub returns-in-Ok-write_refusal-clause-bytes : goal.returns-in-Ok-write_refusal-clause-bytes
returns-in-Ok-write_refusal-clause-bytes g c = All-from_get_or (λ (x : ℕ). x < 256) c.args.image.now 0 (λ i lt. omega (arith, c.type_inv.image i))

pub returns-in-Err-write_refusal-clause-bytes : goal.returns-in-Err-write_refusal-clause-bytes
returns-in-Err-write_refusal-clause-bytes g c = All-from_get_or (λ (x : ℕ). x < 256) c.args.image.now 0 (λ i lt. omega (arith, c.type_inv.image i))
