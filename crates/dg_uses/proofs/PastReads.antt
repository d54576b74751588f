-- A read past the last block of an array that was opened.
use Rattle.std.proofs.Common.{◌≡◌, ◌∙◌, ◌≤◌, ℕ, List, [], ◌∷◌, length, refl, sym, ap, subst, arith}
use Rattle.std.specs.Prelude.{Option, replicate}
use Rattle.std.proofs.lemmas.List.{length-replicate}
use Rattle.dg_io.specs.Kept.{Kept}
use Rattle.dg_model.proofs.MomentLaws.{history_runs}
use Rattle.dg_model.proofs.RunLaws.{run_more, run_none}
use Rattle.dg_model.specs.Moments.Kind.{double, plain}
use Rattle.dg_model.specs.Runs.{Run}
use Rattle.dg_model.specs.States.{State}
use Rattle.dg_model.specs.Steps.{Step}
use Rattle.dg_model.specs.Tables.{Table}
use Rattle.dg_model.specs.declared.events.Event.TheVariants.{Read}
use Rattle.dg_model.specs.declared.replies.Reply.{Reply}
use Rattle.dg_model.specs.declared.replies.Reply.TheVariants.{Data, Range, Unavailable}
use Rattle.dg_regroup.specs.declared.extras.Extra.{Extra}
use Rattle.dg_run.specs.Calls.{Facts}
use Rattle.dg_run.specs.Opened.{kept_moment, opened_moment}
use Rattle.dg_run.specs.Resumes.{RanOn, RanOnKept}
use Rattle.dg_saved.specs.Calls.{Facts as SeenFacts}
use Rattle.dg_uses.specs.Promises.{resumed_from}

refused : (Known : Type 0) (old new : State) (b : ℕ) (reply : Reply) → old.table.shape.n ≤ b → Step Known old (Read b) reply new → reply ≡ Range
refused Known old new b Range past h = refl
refused Known old new b Unavailable past h = let low = h.0 in absurd (omega (arith, past, low))
refused Known old new b (Data bytes) past h = let low = h.0 in absurd (omega (arith, past, low))
refused Known old new b reply past h = absurd h

one_refused : (Known : Type 0) (old new : State) (b : ℕ) (replies : List Reply) → old.table.shape.n ≤ b → Run Known old (Read b ∷ []) replies new → replies ≡ Range ∷ []
one_refused Known old new b replies past run =
    let first = run_more Known old (Read b) [] replies new run in
    let end = run_none Known first.mid new first.rest first.run in
    first.is ∙ ap (λ (r : Reply). r ∷ first.rest) (refused Known old first.mid b first.reply past first.step) ∙ ap (λ (l : List Reply). Range ∷ l) end.0

pub past_read : (tells : ℕ → Type 0) (facts : Facts) (b : ℕ) (replies : List Reply) (ran : RanOn tells facts (Read b ∷ []) replies) → ran.source.saved.table.shape.n ≤ b
    → replies ≡ Range ∷ []
past_read tells facts b replies ran past =
    let blocks : List (List ℕ) = replicate ran.source.saved.table.shape.n [] in
    let size : length blocks ≡ ran.source.saved.table.shape.n = length-replicate ran.source.saved.table.shape.n [] in
    let resumed = (ran.runs blocks size).resumed in
    one_refused _ (resumed_from resumed) resumed.final.state b replies (subst (λ (t : Table). t.shape.n ≤ b) (sym resumed.is.table) past)
    (history_runs _ plain (opened_moment resumed.state resumed.first ran.opened) (Read b ∷ []) replies resumed.final resumed.history)

-- the same of an array that keeps a checkpoint
pub past_read_kept : (tells : ℕ → Type 0) (WasKept : Kept → Type 0) (facts : Facts) (seen : SeenFacts) (said : Option Extra) (b : ℕ) (replies : List Reply)
    (ran : RanOnKept tells WasKept facts seen said (Read b ∷ []) replies) → ran.source.saved.table.shape.n ≤ b → replies ≡ Range ∷ []
past_read_kept tells WasKept facts seen said b replies ran past =
    let blocks : List (List ℕ) = replicate ran.source.saved.table.shape.n [] in
    let size : length blocks ≡ ran.source.saved.table.shape.n = length-replicate ran.source.saved.table.shape.n [] in
    let resumed = (ran.runs blocks size).resumed in
    one_refused _ resumed.state resumed.final.state b replies (subst (λ (t : Table). t.shape.n ≤ b) (sym resumed.is.table) past)
    (history_runs _ double (kept_moment resumed.state resumed.beneath) (Read b ∷ []) replies resumed.final resumed.history)
