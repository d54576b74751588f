-- How often a sink and a source in memory were called, which weren't before.
use Rattle.std.proofs.Common.{◌≡◌, ◌≤◌, ◌+◌, ◌*◌, ℕ, List, [], ap, arith, length, refl, subst, sym}
use Rattle.std.specs.Prelude.{Option, Some, codes}
use Rattle.dg_io.specs.SinkLines.{LeavesLines, MayWrite, weight_of}
use Rattle.dg_io.specs.Sinks.{sink_calls, sure_calls, sure_taken, taken_in}
use Rattle.dg_io.specs.SourceReads.{LeavesSource}
use Rattle.dg_io.specs.Sources.{left_in, source_calls}
use Rattle.dg_io.specs.Told.{Told}
use Rattle.dg_io.specs.declared.sinks.MemSink.{MemSink}
use Rattle.dg_io.specs.declared.sinks.SureSink.{SureSink}
use Rattle.dg_io.specs.declared.sources.MemSource.{MemSource}
use Rattle.dg_text.specs.Replies.{usage}

-- no more often than there are lines, and 255 bytes
pub lines_from_none : (old new : MemSink) → taken_in old ≡ [] → sink_calls old ≡ 0 → LeavesLines 255 (λ s. Unit {0}) sink_calls (λ s. Some (taken_in s)) old new
    → MayWrite 255 (sink_calls new) (taken_in new)
lines_from_none old new nothing none leaves =
    let few : 255 * sink_calls new + weight_of 255 (taken_in old) ≤ 255 * sink_calls old + weight_of 255 (taken_in new) = leaves.few_calls tt in
    omega (arith, few, ap (λ (n : ℕ). 255 * n) none)

-- no more often than there are bytes, and once more
pub reads_from_none : (old new : MemSource) (text : List ℕ) → left_in old ≡ text → source_calls old ≡ 0 → LeavesSource source_calls (λ s. Some (left_in s)) 1 old new
    → source_calls new + length (left_in new) ≤ length text + 1
reads_from_none old new text is none leaves =
    let few : source_calls new + length (left_in new) ≤ source_calls old + length (left_in old) + 1 = leaves in
    let size : length (left_in old) ≡ length text = ap length is in
    omega (arith, few, size, none)

-- three short lines
pub three_calls : (sink : MemSink) → taken_in sink ≡ codes "ok\nok\ndata 6869\n" → MayWrite 255 (sink_calls sink) (taken_in sink) → sink_calls sink ≤ 3
three_calls sink is may =
    let few : 255 * sink_calls sink ≤ weight_of 255 (codes "ok\nok\ndata 6869\n") = subst (MayWrite 255 (sink_calls sink)) is may in
    let weight : weight_of 255 (codes "ok\nok\ndata 6869\n") ≡ 781 = refl in
    omega (arith, few, weight)

-- the usage line
pub one_call : (old new : SureSink) (text : List ℕ) → sure_taken old ≡ Some [] → sure_calls old ≡ 0 → LeavesLines 255 (λ s. Unit {0}) sure_calls sure_taken old new
    → sure_taken new ≡ Some text → text ≡ usage → sure_calls new ≤ 1
one_call old new text nothing none leaves some is =
    let within : (before after : List ℕ) → Type 0 = λ before after. 255 * sure_calls new + weight_of 255 before ≤ 255 * sure_calls old + weight_of 255 after in
    let first : Told within (Some []) (sure_taken new) = subst (λ (t : Option (List ℕ)). Told within t (sure_taken new)) nothing (leaves.few_calls tt) in
    let few : 255 * sure_calls new + weight_of 255 [] ≤ 255 * sure_calls old + weight_of 255 text = subst (Told within (Some [])) some first in
    let short : weight_of 255 text ≤ 400 = subst (λ (t : List ℕ). weight_of 255 t ≤ 400) (sym is) (omega arith) in
    omega (arith, few, short, ap (λ (n : ℕ). 255 * n) none)
