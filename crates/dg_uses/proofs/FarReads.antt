-- The read of a block that no array has, of one that was opened.
use Rattle.std.proofs.Common.{◌≡◌, ◌∙◌, ◌≤◌, ◌<◌, ◌^◌, ℕ, List, [], ◌∷◌, arith, inl, inr, subst, sym}
use Rattle.std.specs.Prelude.{IsSome, Some, codes}
use Rattle.dg_io.specs.Kept.{Kept}
use Rattle.dg_io.specs.Told.{Told, Took}
use Rattle.dg_model.specs.Shapes.{IsShape}
use Rattle.dg_model.specs.States.{Counts}
use Rattle.dg_model.specs.declared.events.Event.{Event}
use Rattle.dg_model.specs.declared.events.Event.TheVariants.{Read}
use Rattle.dg_model.specs.declared.replies.Reply.{Reply}
use Rattle.dg_run.specs.Calls.{Facts, met_by}
use Rattle.dg_run.specs.Finds.{Sees}
use Rattle.dg_run.specs.Resumes.{AllResumedBy, EndsResume, EndsResumeKept, EndsResumed, RanOn, RanOnKept, WasFound}
use Rattle.dg_run.specs.declared.top.Status.{Status}
use Rattle.dg_run.specs.declared.top.Status.TheVariants.{Done, NoMemory}
use Rattle.dg_saved.specs.Calls.{Facts as SavedFacts}
use Rattle.dg_saved.specs.Saved.{HasSource}
use Rattle.dg_text.specs.Lines.{input_of}
use Rattle.dg_uses.proofs.OpenedShapes.{RefusesRead, opened_as, range_told}
use Rattle.dg_uses.proofs.PastReads.{past_read, past_read_kept}
use Rattle.dg_uses.proofs.RefusedRows.{OneLine}
use Rattle.dg_uses.proofs.Seeing.{seen_told}
use Rattle.dg_uses.specs.Answers.{TellsEach}

-- an array that is opened keeps the limits, where its members are told
opened_shape : (facts : SavedFacts) (opened : Counts) (source : HasSource facts opened) → TellsEach facts.images → TellsEach facts.bytes → IsShape source.saved.table.shape
opened_shape facts opened source held told = opened_as IsShape facts opened source held told (λ q all label low there begins. begins.is.shape)

module _ (one : OneLine) (tells : ℕ → Type 0) (facts : Facts) (b : ℕ) (past : 2 ^ 20 ≤ b) (low : b < 2 ^ 32) (told : TellsEach facts.bytes)
    (left : facts.left ≡ Some (input_of (Read b ∷ []))) (some : IsSome facts.rest) where
  range_given : (Runs : List Event → List Reply → Type 0) → RefusesRead Runs b → AllResumedBy Runs facts → Told (Took (codes "range\n")) facts.taken facts.given
  range_given = range_told one facts b low left some

  refuses_plain : TellsEach facts.images → RefusesRead (RanOn tells facts) b
  refuses_plain held events replies ran =
      let most = (opened_shape (met_by facts) ran.opened ran.source held told).most_blocks in
      let under : ran.source.saved.table.shape.n ≤ b = omega (arith, most, past) in (
        ran.source.saved.table.shape,
        ran.lines.in_place,
        λ same.
            let there = subst (λ (es : List Event). (r : RanOn tells facts es replies) × (r.source.saved.table.shape.n ≤ b)) same (ran, under) in
            past_read tells facts b replies there.0 there.1,
      )

  refuses_kept : (WasKept : Kept → Type 0) (seen : SavedFacts) (sees : Sees tells (met_by facts) seen) → RefusesRead (RanOnKept tells WasKept facts seen sees.said) b
  refuses_kept WasKept seen sees events replies ran =
      let now : TellsEach seen.bytes = seen_told tells (met_by facts) seen sees told in
      let most = (opened_shape seen ran.opened ran.source (λ q. sees.still q (now q)) now).most_blocks in
      let under : ran.source.saved.table.shape.n ≤ b = omega (arith, most, past) in (
        ran.source.saved.table.shape,
        ran.lines.in_place,
        λ same.
            let there = subst (λ (es : List Event). (r : RanOnKept tells WasKept facts seen sees.said es replies) × (r.source.saved.table.shape.n ≤ b)) same (ran, under) in
            past_read_kept tells WasKept facts seen sees.said b replies there.0 there.1,
      )

  pub far_read : (steady : Type 0) → TellsEach facts.images → (status : Status) → EndsResumed steady tells facts status → status ≡ Done → Told (Took (codes "range\n")) facts.taken facts.given
  far_read steady held status (inl first) is = let both : Done ≡ NoMemory = sym is ∙ first.is in absurd (cc both)
  far_read steady held status (inr (inl plain)) is =
      range_given (RanOn tells facts) (refuses_plain held) (subst (λ (s : Status). EndsResume tells facts s) is plain.ends)
  far_read steady held status (inr (inr kept)) is =
      let WasKept = WasFound steady kept.sees.known facts in
      range_given (RanOnKept tells WasKept facts kept.seen kept.sees.said) (refuses_kept WasKept kept.seen kept.sees)
      (subst (λ (s : Status). EndsResumeKept tells WasKept facts kept.seen kept.sees.said s) is kept.ends)
