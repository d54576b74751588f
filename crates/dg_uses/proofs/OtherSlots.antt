-- A read past the last block of what is opened from members that begin as those on which a save was left.
use Rattle.std.proofs.Common.{◌≡◌, ◌∙◌, ◌≤◌, ◌<◌, ◌/◌, ℕ, List, [], ◌∷◌, ap, arith, inl, inr, length, refl, subst, sym, take}
use Rattle.std.specs.Prelude.{◌⊎◌, IfSome, IsSome, None, Option, Some, codes}
use Rattle.std.specs.Fmt.{digits}
use Rattle.std.proofs.lemmas.Bool.{cases_lt, false≢true}
use Rattle.dg_io.specs.Told.{Told, Took}
use Rattle.dg_kept.specs.Saved.{HasSaved}
use Rattle.dg_model.specs.Saves.{BeginsWith, Label, SavedState}
use Rattle.dg_model.specs.Seals.{label_on}
use Rattle.dg_model.specs.declared.events.Event.{Event}
use Rattle.dg_model.specs.declared.events.Event.TheVariants.{Read}
use Rattle.dg_model.specs.declared.replies.Reply.{Reply}
use Rattle.dg_model.specs.declared.shapes.Shape.{Shape}
use Rattle.dg_run.specs.Calls.{Facts, met_by}
use Rattle.dg_run.specs.Resumes.{EndsResumed, RanOn}
use Rattle.dg_run.specs.declared.top.Status.{Status}
use Rattle.dg_run.specs.declared.top.Status.TheVariants.{Done}
use Rattle.dg_save.specs.Laws.{LabelsAreUnique}
use Rattle.dg_stop.specs.Headers.{HasNoHeader, IsLabeled}
use Rattle.dg_text.specs.Lines.{input_of}
use Rattle.dg_uses.proofs.Headers.{is_labeled, none_there, resumed_plain}
use Rattle.dg_uses.proofs.OpenedShapes.{RefusesRead, opened_as, range_told}
use Rattle.dg_uses.proofs.PastReads.{past_read}
use Rattle.dg_uses.proofs.RefusedRows.{OneLine}
use Rattle.dg_uses.proofs.Rows.{shape_here}
use Rattle.dg_uses.proofs.SavedReads.{IsSavedOn}
use Rattle.dg_uses.specs.Answers.{TellsEach}
use Rattle.dg_uses.specs.Mirrors.{BeginAs}
use Rattle.dg_uses.specs.Saves.{HaveNoHeaders}

far_text : codes "read 64\n" ≡ input_of (Read 64 ∷ [])
unfolding digits
far_text = refl

-- ---- members that begin with nothing

no_front : (all : List ℕ) → take 512 all ≡ [] → all ≡ []
no_front [] is = refl
no_front (x ∷ all) is = absurd (cc is)

no_name : (all : List ℕ) → all ≡ [] → IsLabeled all → ⊥
no_name all none labeled = elim labeled [
  | inl one ↦ let is : take 8 [] ≡ codes "DGRAID-1" = subst (λ (x : List ℕ). take 8 x ≡ codes "DGRAID-1") none one in absurd (cc is)
  | inr two ↦ let is : take 8 [] ≡ codes "DGRAID-2" = subst (λ (x : List ℕ). take 8 x ≡ codes "DGRAID-2") none two in absurd (cc is)
]

no_header : (q : ℕ) (all : List ℕ) → all ≡ [] → HasNoHeader q all
no_header q all none h has = let long = has.long in omega (arith, long, ap length none)

-- ---- members that begin as those on which a save was left

module _ (held images : ℕ → Option (List ℕ)) (told : TellsEach held) (on_it : IsSavedOn held) (begin : BeginAs held images) where
  -- the member has what was saved, or no bytes
  abbrev WasLeft : ℕ → Option (List ℕ) → Type 0
  WasLeft q o = IfSome o (HasSaved on_it.save q) ⊎ (o ≡ Some [])

  was_left : (q : ℕ) → WasLeft q (held q)
  was_left q = elim (cases_lt (q / 2) 4) [
    | inl own ↦ inl (on_it.left.has q (on_it.good q own))
    | inr past ↦ inr (on_it.behind q past)
  ]

  headed : (q : ℕ) (o image : Option (List ℕ)) → IsSome o → WasLeft q o → Told (λ all other. take 512 other ≡ take 512 all) o image
      → IfSome image (λ all. IsLabeled all ⊎ HasNoHeader q all)
  headed q None image some was same = absurd (false≢true some)
  headed q (Some before) None some was same = tt
  headed q (Some before) (Some all) some (inl has) same =
      inl (is_labeled all (label_on on_it.save.label q) (record { is = has.label.is; bytes = same ∙ has.label.bytes }))
  headed q (Some before) (Some all) some (inr none) same =
      let nothing : before ≡ [] = cc none in
      inr (no_header q all (no_front all (same ∙ ap (take 512) nothing)))

  headers : HaveNoHeaders images
  headers q low = elim (begin q) [
    | inl gone ↦ none_there q (images q) gone
    | inr same ↦ headed q (held q) (images q) (told q) (was_left q) same
  ]

  saved_shape : on_it.save.label.shape ≡ shape_here
  saved_shape = on_it.left.is.shape ∙ ap (λ (s : SavedState). s.table.shape) on_it.left.state ∙ on_it.fine.within.numbers

  module _ (labels : LabelsAreUnique) where
    shape_as : (q : ℕ) (o : Option (List ℕ)) (all : List ℕ) (label : Label) → IsSome o → WasLeft q o → Told (λ x y. take 512 y ≡ take 512 x) o (Some all) → BeginsWith all label
        → label.shape ≡ shape_here
    shape_as q None all label some was same begins = absurd (false≢true some)
    shape_as q (Some before) all label some (inl has) same begins =
        let one = labels label (label_on on_it.save.label q) begins.is has.label.is (sym begins.bytes ∙ same ∙ has.label.bytes) in
        ap (λ (l : Label). l.shape) one ∙ saved_shape
    shape_as q (Some before) all label some (inr none) same begins =
        let nothing : before ≡ [] = cc none in
        absurd (no_name all (no_front all (same ∙ ap (take 512) nothing)) (is_labeled all label begins))

    label_shape : (q : ℕ) (all : List ℕ) (label : Label) → images q ≡ Some all → BeginsWith all label → label.shape ≡ shape_here
    label_shape q all label is begins = elim (begin q) [
      | inl gone ↦
          let both : Some all ≡ Some [] = sym is ∙ gone in
          absurd (no_name all (cc both) (is_labeled all label begins))
      | inr same ↦
          shape_as q (held q) all label (told q) (was_left q) (subst (λ (o : Option (List ℕ)). Told (λ x y. take 512 y ≡ take 512 x) (held q) o) is same) begins
    ]

-- ---- the second call

pub reads_past : LabelsAreUnique → OneLine → (held : ℕ → Option (List ℕ)) → TellsEach held → IsSavedOn held → (steady : Type 0) (tells : ℕ → Type 0) (facts : Facts)
    → BeginAs held facts.images → TellsEach facts.images → TellsEach facts.bytes → facts.left ≡ Some (codes "read 64\n") → IsSome facts.rest → (status : Status)
    → EndsResumed steady tells facts status → status ≡ Done → Told (Took (codes "range\n")) facts.taken facts.given
reads_past labels one held told on_it steady tells facts begin images bytes left some status ends is =
    let all = resumed_plain steady tells facts bytes (headers held facts.images told on_it begin) status Done (λ e. cc e) ends is in
    range_told one facts 64 (omega arith) (left ∙ ap Some far_text) some (RanOn tells facts) refuses all
  where
    refuses : RefusesRead (RanOn tells facts) 64
    refuses events replies ran =
        let shape : ran.source.saved.table.shape ≡ shape_here = opened_as (λ (s : Shape). s ≡ shape_here) (met_by facts) ran.opened ran.source images bytes
        (λ q all label low there begins. label_shape held facts.images told on_it begin labels q all label there begins) in
        let blocks : ran.source.saved.table.shape.n ≡ 64 = ap (λ (s : Shape). s.n) shape in
        let under : ran.source.saved.table.shape.n ≤ 64 = omega (arith, blocks) in (
          ran.source.saved.table.shape,
          ran.lines.in_place,
          λ same.
              let there = subst (λ (es : List Event). (r : RanOn tells facts es replies) × (r.source.saved.table.shape.n ≤ 64)) same (ran, under) in
              past_read tells facts 64 replies there.0 there.1,
        )
