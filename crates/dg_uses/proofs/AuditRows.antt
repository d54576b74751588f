-- What a replay prints that audits a blank array.
use Rattle.std.proofs.Common.{◌≡◌, ◌∙◌, ℕ, List, [], ◌∷◌, ap, refl}
use Rattle.std.specs.Prelude.{codes}
use Rattle.std.specs.Fmt.{digits}
use Rattle.std.proofs.lemmas.List.Elements.{All-cons, All-nil}
use Rattle.dg_io.specs.Racks.{told_in}
use Rattle.dg_io.specs.Sinks.{taken_in}
use Rattle.dg_model.specs.Runs.{Run}
use Rattle.dg_model.specs.States.{Counts, IsBlank, State}
use Rattle.dg_model.specs.declared.events.Event.TheVariants.{Array, Audit}
use Rattle.dg_model.specs.declared.findings.Finding.TheVariants.{Bad}
use Rattle.dg_model.specs.declared.replies.Reply.{Reply}
use Rattle.dg_model.specs.declared.replies.Reply.TheVariants.{Audited, Done}
use Rattle.dg_model.proofs.MomentLaws.{history_traces}
use Rattle.dg_model.proofs.RunLaws.{trace_more}
use Rattle.dg_promise.specs.Promises.{AreTold}
use Rattle.dg_text.specs.Lines.{AreInPlace, input_of}
use Rattle.dg_text.specs.Replies.{output_of}
use Rattle.dg_uses.proofs.BlankAudits.{blank_reply}
use Rattle.dg_uses.proofs.Lines.{AreReplies, OneInput, prints}
use Rattle.dg_run.specs.Replays.{TellsBoundaries}
use Rattle.dg_uses.proofs.Promised.{trace_told}
use Rattle.dg_uses.proofs.Rows.{IsHere, shape_here, shape_is}
use Rattle.dg_uses.specs.Replays.{HasReplayed, NeverFailed}
use Rattle.dg_uses.specs.declared.replays.Replay.{Replay}
use Rattle.ufs_model.specs.declared.geometries.BadSuper.TheVariants.{Magic}
use Rattle.ufs_model.specs.declared.malformations.BadKind.TheVariants.{Super}

abbrev no_volume_told : List Reply
no_volume_told = Audited (Bad (Super Magic) 0 ∷ []) ∷ []

audit_placed : AreInPlace (Array shape_here ∷ Audit ∷ [])
audit_placed = (shape_is, All-cons IsHere Audit [] tt (All-nil IsHere))

audit_text : codes "array 1024 64 4 32 2\naudit\n" ≡ input_of (Array shape_here ∷ Audit ∷ [])
unfolding digits
audit_text = refl

audit_output : output_of (Done ∷ no_volume_told) ≡ codes "ok\nbad magic 0\nend 1\n"
unfolding digits
audit_output = refl

run_replies : (before : Counts) (blank x : State) (replies : List Reply) → IsBlank shape_here before blank → Run AreTold blank (Audit ∷ []) replies x → replies ≡ no_volume_told
run_replies before blank x [] is run = absurd run
run_replies before blank x (reply ∷ []) is run = ap (λ (z : Reply). z ∷ []) (blank_reply shape_here before blank run.0 reply refl refl is run.1)
run_replies before blank x (reply ∷ other ∷ replies) is run = absurd run.2

audit_replies : (steady : Type 0) (tells : ℕ → Type 0) → AreReplies steady tells shape_here (Audit ∷ []) no_volume_told
audit_replies steady tells replies run =
    let known = history_traces (TellsBoundaries tells run.ran.final.state) run.before (Array shape_here ∷ Audit ∷ []) replies run.ran.final run.ran.history in
    let trace = trace_told known.0 shape_here (Audit ∷ []) replies run.ran.final.state run.told known.1 in
    let t = trace_more AreTold known.0 shape_here (Audit ∷ []) replies run.ran.final.state trace in
    t.is ∙ ap (λ (l : List Reply). Done ∷ l) (run_replies known.0 t.blank run.ran.final.state t.rest t.is_blank t.run)

pub prints_no_volume : OneInput → (end : Replay) → HasReplayed (codes "array 1024 64 4 32 2\naudit\n") end → NeverFailed end
    → taken_in end.sink ≡ codes "ok\nbad magic 0\nend 1\n"
prints_no_volume one end did never =
    prints one shape_here (Audit ∷ []) no_volume_told audit_placed (codes "array 1024 64 4 32 2\naudit\n") audit_text end (audit_replies (Unit {0}) (told_in end.rack)) did never ∙ audit_output
