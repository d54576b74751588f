-- Members without the header of an array that keeps a checkpoint, and how a command ends on them.
use Rattle.std.proofs.Common.{◌≡◌, ◌≢◌, ◌∙◌, ◌+◌, ◌≤◌, ◌<◌, ◌/◌, ◌++◌, ◌∷◌, ℕ, List, [], true, ap, arith, inl, inr, subst, sym, take}
use Rattle.std.specs.Prelude.{◌⊎◌, Option, Some, None, IfSome, IsSome, codes}
use Rattle.std.proofs.lemmas.Bool.{cases_eq, cases_lt, false≢true}
use Rattle.std.proofs.lemmas.List.{take-take}
use Rattle.dg_io.specs.Told.{Told}
use Rattle.dg_kept.specs.Saved.{HasSaved, Save}
use Rattle.dg_kept.specs.SavedRuns.{LeavesSave}
use Rattle.dg_model.specs.Members.{is_good}
use Rattle.dg_model.specs.Saves.{BeginsWith, Label, label_bytes}
use Rattle.dg_model.specs.Seals.{label_on}
use Rattle.dg_model.specs.States.{State}
use Rattle.dg_run.specs.Calls.{Facts, met_by}
use Rattle.dg_run.specs.Ends.{EndsSaved}
use Rattle.dg_run.specs.Finds.{AreKnown, Finds, HadHeader}
use Rattle.dg_run.specs.Resumes.{EndsResume, EndsResumed}
use Rattle.dg_run.specs.declared.top.Status.{Status}
use Rattle.dg_run.specs.declared.top.Status.TheVariants.{Done, NoMemory, NoState, Refused, Unclean, WriteFault}
use Rattle.dg_saved.specs.Calls.{Facts as SavedFacts}
use Rattle.dg_saved.specs.declared.ends.SavedEnd.{SavedEnd}
use Rattle.dg_saved.specs.declared.ends.SavedEnd.TheVariants.{Done as SavedDone, NoState as SavedNoState, Refused as SavedRefused, Unclean as SavedUnclean, WriteFault as SavedWriteFault}
use Rattle.dg_stop.specs.Headers.{HasHeader, HasNoHeader, Header, IsBareLabeled, IsLabeled}
use Rattle.dg_uses.specs.Answers.{TellsEach}
use Rattle.dg_uses.specs.Saves.{HaveNoHeaders}

-- ---- members without one

no_bytes : (q : ℕ) → HasNoHeader q []
no_bytes q h has = let long = has.long in omega (arith, long)

pub none_there : (q : ℕ) (o : Option (List ℕ)) → o ≡ Some [] → IfSome o (λ all. IsLabeled all ⊎ HasNoHeader q all)
none_there q o is = subst (λ (x : Option (List ℕ)). IfSome x (λ all. IsLabeled all ⊎ HasNoHeader q all)) (sym is) (inr (no_bytes q))

-- bytes that begin with a label
first_bytes : (all : List ℕ) (label : Label) (name : List ℕ) → take 8 (label_bytes label) ≡ name → take 512 all ≡ label_bytes label → take 8 all ≡ name
first_bytes all label name front is = sym (take-take 8 512 all (omega arith)) ∙ ap (take 8) is ∙ front

begins_with : (label : Label) (f : ℕ) → label.format ≡ f → take 8 (label_bytes label) ≡ codes "DGRAID-" ++ (48 + f) ∷ []
unfolding label_bytes
begins_with label f is = ap (λ (x : ℕ). codes "DGRAID-" ++ (48 + x) ∷ []) is

pub is_labeled : (all : List ℕ) (label : Label) → BeginsWith all label → IsLabeled all
is_labeled all label h = elim h.is.formats [
  | inl one ↦ inl (first_bytes all label (codes "DGRAID-1") (begins_with label 1 one) h.bytes)
  | inr two ↦ inr (first_bytes all label (codes "DGRAID-2") (begins_with label 2 two) h.bytes)
]

saved_labeled : (save : Save) (q : ℕ) (o : Option (List ℕ)) → IfSome o (HasSaved save q) → IfSome o (λ all. IsLabeled all ⊎ HasNoHeader q all)
saved_labeled save q None has = tt
saved_labeled save q (Some all) has = inl (is_labeled all (label_on save.label q) has.label)

-- a save whose array has good members alone, and none has bytes behind its own
pub saved_headers : (old last : State) (number : ℕ) (held : ℕ → Option (List ℕ)) (save : Save) → LeavesSave old number last held save
    → ((q : ℕ) → q / 2 < last.table.shape.b → is_good (last.members q) ≡ true) → ((q : ℕ) → last.table.shape.b ≤ q / 2 → held q ≡ Some []) → HaveNoHeaders held
saved_headers old last number held save left good behind q low = elim (cases_lt (q / 2) last.table.shape.b) [
  | inl own ↦ saved_labeled save q (held q) (left.has q (good q own))
  | inr past ↦ none_there q (held q) (behind q past)
]

-- one more member that is taken away
pub headers_without : (old new : ℕ → Option (List ℕ)) (m : ℕ) → new m ≡ Some [] → ((q : ℕ) → q ≢ m → new q ≡ old q) → HaveNoHeaders old → HaveNoHeaders new
headers_without old new m gone others none q low = elim (cases_eq q m) [
  | inl here ↦ none_there q (new q) (ap new here ∙ gone)
  | inr other ↦ subst (λ (o : Option (List ℕ)). IfSome o (λ all. IsLabeled all ⊎ HasNoHeader q all)) (sym (others q other)) (none q low)
]

-- ---- what a command finds there

by_either : (q : ℕ) (h : Header) (all : List ℕ) → IsBareLabeled q all → IsLabeled all ⊎ HasNoHeader q all → HasHeader q all h → ⊥
by_either q h all bare (inl labeled) has = bare labeled h has
by_either q h all bare (inr none) has = none h has

had_none : (q : ℕ) (h : Header) (image all : Option (List ℕ)) → IsSome all → Told (λ before after. HasHeader q before h) image all
    → Told (λ before after. IsBareLabeled q before) image all → IfSome image (λ b. IsLabeled b ⊎ HasNoHeader q b) → ⊥
had_none q h image None some told bare none = absurd (false≢true some)
had_none q h None (Some all) some told bare none = told
had_none q h (Some before) (Some all) some told bare none = by_either q h before bare none told

module _ (facts : SavedFacts) (told : TellsEach facts.bytes) (none : HaveNoHeaders facts.images) where
  never_had : (known : _) → AreKnown facts known → HadHeader facts known → ⊥
  never_had known are had =
      let q = had.member in
      had_none q had.header (facts.images q) (facts.bytes q) (told q) had.had (are.bare q had.is_known) (none q (are.low q had.is_known))

  module _ (tells : ℕ → Type 0) where
    -- it ends as one without a checkpoint does
    pub finds_plain : (by : (ℕ → Type 0) → SavedFacts → Type 0) → Finds tells facts by → by tells facts
    finds_plain by (inl plain) = plain.ends
    finds_plain by (inr kept) = absurd (never_had kept.sees.known kept.sees.are kept.sees.some)

    pub saved_plain : (by : (ℕ → Type 0) → SavedFacts → SavedEnd → Type 0) (taken given : Option (List ℕ)) (status : Status)
        → EndsSaved (λ end. Finds tells facts (λ t f. by t f end)) taken given status → EndsSaved (λ end. by tells facts end) taken given status
    saved_plain by taken given Done h = finds_plain (λ t f. by t f SavedDone) h
    saved_plain by taken given Refused h = finds_plain (λ t f. by t f SavedRefused) h
    saved_plain by taken given NoState h = finds_plain (λ t f. by t f SavedNoState) h
    saved_plain by taken given Unclean h = finds_plain (λ t f. by t f SavedUnclean) h
    saved_plain by taken given WriteFault h = finds_plain (λ t f. by t f SavedWriteFault) h
    saved_plain by taken given NoMemory h = h
    saved_plain by taken given status h = h

-- and so does a resumed one, where memory isn't wanting
pub resumed_plain : (steady : Type 0) (tells : ℕ → Type 0) (facts : Facts) → TellsEach facts.bytes → HaveNoHeaders facts.images → (status other : Status) → (other ≡ NoMemory → ⊥)
    → EndsResumed steady tells facts status → status ≡ other → EndsResume tells facts other
resumed_plain steady tells facts told none status other memory (inl first) is = absurd (memory (sym is ∙ first.is))
resumed_plain steady tells facts told none status other memory (inr (inl plain)) is = subst (λ (s : Status). EndsResume tells facts s) is plain.ends
resumed_plain steady tells facts told none status other memory (inr (inr kept)) is =
    absurd (never_had (met_by facts) told none kept.sees.known kept.sees.are kept.sees.some)
