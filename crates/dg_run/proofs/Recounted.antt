-- A state and a step that reads are the same with other counts, where these go with the first ones for the members below 32 and stay for all others, which are out.
use Rattle.std.proofs.Common.{◌≡◌, ◌≢◌, ◌⊎◌, ◌∙◌, ◌<◌, ◌≤◌, ℕ, Bool, true, false, List, ap, arith, inl, inr, refl, subst, sym}
use Rattle.std.specs.Prelude.{◌&&◌, ◌||◌, not, IfSome, None, Option, Some, length, take, if◌then◌else◌}
use Rattle.std.proofs.lemmas.Bool.{false≢true}
use Rattle.dg_io.specs.Told.{IsSame, Told}
use Rattle.dg_model.specs.Causes.{Rose}
use Rattle.dg_model.specs.Changes.{FaultsTell, Goes, MayRead, Stays}
use Rattle.dg_model.specs.Members.{HasFallen, MembersFall, is_filling, is_good, partner_of}
use Rattle.dg_model.specs.Saves.{BeginsWith, HasBody, HasLength}
use Rattle.dg_model.specs.Seals.{HoldsLabel, KeepsLabel, LastLabel, label_after, label_on, next_label}
use Rattle.dg_model.specs.States.{Counts, CountsRise, HoldsAll, State}
use Rattle.dg_model.specs.Steps.{Step, Touches}
use Rattle.dg_model.specs.declared.events.Event.TheVariants.{Cat, Ls}
use Rattle.dg_model.specs.declared.members.MemberState.{MemberState}
use Rattle.dg_model.specs.declared.members.MemberState.TheVariants.{Out}
use Rattle.dg_model.specs.declared.replies.Reply.{Reply}
use Rattle.dg_model.specs.declared.replies.Reply.TheVariants.{Cut, Given, Listed, ListedCut, Refused, Unavailable}
use Rattle.dg_model.specs.Blocks.{zeros}
use Rattle.dg_run.proofs.PlainFacts.{low_or_past, stands_by}
use Rattle.ufs_model.specs.Blocks.{Reading}

-- ---- counts

-- These counts go with those ones.
pub record Recounts (old new before now : Counts) : Type 0 where
  pub first : (q : ℕ) → q < 32 → before.faults q ≡ old.faults q
  pub last : (q : ℕ) → q < 32 → now.faults q ≡ new.faults q
  pub past : (q : ℕ) → 32 ≤ q → now.faults q ≡ before.faults q
  pub calls_first : before.calls ≡ old.calls
  pub calls_last : now.calls ≡ new.calls
  pub writes_first : before.writes ≡ old.writes
  pub writes_last : now.writes ≡ new.writes

abbrev pub recounted : State → Counts → State
recounted state counts = record state { counts = counts }

module _ (old new : State) (before now : Counts) (are : Recounts old.counts new.counts before now) (outside : (q : ℕ) → 32 ≤ q → old.members q ≡ Out) where
  rises : CountsRise old.counts new.counts → CountsRise before now
  rises h = record {
    faults = λ q. elim (low_or_past q) [
      | inl low ↦ (let up = h.faults q in let one = are.first q low in let other = are.last q low in omega (arith, up, one, other))
      | inr past ↦ (let same = are.past q past in omega (arith, same))
    ];
    calls = omega (arith, h.calls, are.calls_first, are.calls_last);
    writes = omega (arith, h.writes, are.writes_first, are.writes_last);
  }

  rose : (q : ℕ) → q < 32 → Rose (old.counts.faults q) (new.counts.faults q) → Rose (before.faults q) (now.faults q)
  rose q low h = let one = are.first q low in let other = are.last q low in omega (arith, h, one, other)

  falls : MembersFall old.counts.faults new.counts.faults old.members new.members → MembersFall before.faults now.faults old.members new.members
  falls h q = by (low_or_past q) (h q) where
    caused : q < 32 → Rose (old.counts.faults q) (new.counts.faults q) ⊎ ((is_filling (old.members q) ≡ true) × (new.members (partner_of q) ≡ Out))
        → Rose (before.faults q) (now.faults q) ⊎ ((is_filling (old.members q) ≡ true) × (new.members (partner_of q) ≡ Out))
    caused low (inl up) = inl (rose q low up)
    caused low (inr pair) = inr pair

    by : (q < 32) ⊎ (32 ≤ q) → (new.members q ≡ old.members q) ⊎ HasFallen old.counts.faults new.counts.faults old.members new.members q
        → (new.members q ≡ old.members q) ⊎ HasFallen before.faults now.faults old.members new.members q
    by low (inl same) = inl same
    by (inl low) (inr fell) = inr (record { out = fell.out; caused = caused low fell.caused })
    by (inr past) (inr fell) = inl (fell.out ∙ sym (outside q past))

  keeps_label_on : KeepsLabel old.counts.writes new.counts.writes old.members new.members old.label new.label → KeepsLabel before.writes now.writes old.members new.members old.label new.label
  keeps_label_on h =
      subst (λ (n : ℕ). KeepsLabel n now.writes old.members new.members old.label new.label) (sym are.writes_first)
      (subst (λ (n : ℕ). KeepsLabel old.counts.writes n old.members new.members old.label new.label) (sym are.writes_last) h)

  tell : FaultsTell old new → FaultsTell (recounted old before) (recounted new now)
  tell h = record {
    fell = λ q low up. elim (low_or_past q) [
      | inl less ↦ h.fell q low (let one = are.first q less in let other = are.last q less in omega (arith, up, one, other))
      | inr past ↦ absurd (let same = are.past q past in omega (arith, up, same))
    ];
    beyond = λ q far. elim (low_or_past q) [
      | inl less ↦ (let one = are.first q less in let other = are.last q less in let same = h.beyond q far in omega (arith, one, other, same))
      | inr past ↦ are.past q past
    ];
  }

  goes : Goes old new → Goes (recounted old before) (recounted new now)
  goes h = record {
    passes = record { counts = rises h.passes.counts; label = keeps_label_on h.passes.label; paired = h.passes.paired; faults = tell h.passes.faults };
    members = falls h.members;
    out = λ q out. elim (low_or_past q) [
      | inl less ↦ (let one = are.first q less in let other = are.last q less in let same = h.out q out in omega (arith, one, other, same))
      | inr past ↦ are.past q past
    ];
  }

  stays : Stays old new → Stays (recounted old before) (recounted new now)
  stays h = record { goes = goes h.goes; rest = ap (λ (s : State). recounted s now) h.rest }

  touches : {K : Type 0} (path : List ℕ) → Touches K old path new → Touches K (recounted old before) path (recounted new now)
  touches path h = record { goes = goes h.goes; i = h.i; is = h.is; rest = ap (λ (s : State). recounted s now) h.rest }

  reads : {A K : Type 0} (reading : Reading A) (answer : Option A) → MayRead K old new reading answer → MayRead K (recounted old before) (recounted new now) reading answer
  reads reading answer h = record { rule = h.rule; cause = h.cause; unwritten = omega (arith, h.unwritten, are.writes_first, are.writes_last) }

  pub cat_again : (K : Type 0) (path : List ℕ) (reply : Reply) → Step K old (Cat path) reply new → Step K (recounted old before) (Cat path) reply (recounted new now)
  cat_again K path (Given lines) h = (h.0, reads _ _ h.1, touches path h.2)
  cat_again K path (Refused refusal) h = (reads _ _ h.0, stays h.1)
  cat_again K path Unavailable h = (reads _ _ h.0, stays h.1)
  cat_again K path (Cut lines) h = (h.0, (h.1.0, reads _ _ h.1.1), h.2, stays h.3)
  cat_again K path reply h = absurd h

  pub ls_again : (K : Type 0) (path : List ℕ) (reply : Reply) → Step K old (Ls path) reply new → Step K (recounted old before) (Ls path) reply (recounted new now)
  ls_again K path (Listed entries) h = (reads _ _ h.0, stays h.1)
  ls_again K path (Refused refusal) h = (reads _ _ h.0, stays h.1)
  ls_again K path Unavailable h = (reads _ _ h.0, stays h.1)
  ls_again K path (ListedCut entries) h = ((h.0.0, reads _ _ h.0.1), h.1, stays h.2)
  ls_again K path reply h = absurd h

pub cat_goes : (K : Type 0) (old new : State) (path : List ℕ) (reply : Reply) → Step K old (Cat path) reply new → Goes old new
cat_goes K old new path (Given lines) h = h.2.goes
cat_goes K old new path (Refused refusal) h = h.1.goes
cat_goes K old new path Unavailable h = h.1.goes
cat_goes K old new path (Cut lines) h = h.3.goes
cat_goes K old new path reply h = absurd h

pub ls_goes : (K : Type 0) (old new : State) (path : List ℕ) (reply : Reply) → Step K old (Ls path) reply new → Goes old new
ls_goes K old new path (Listed entries) h = h.1.goes
ls_goes K old new path (Refused refusal) h = h.1.goes
ls_goes K old new path Unavailable h = h.1.goes
ls_goes K old new path (ListedCut entries) h = h.2.goes
ls_goes K old new path reply h = absurd h

-- ---- bytes of members that are out

-- the member doesn't keep this label, nor is it said to have its body
abbrev pub IsFreeOf : ℕ → Option LastLabel → Type 0
IsFreeOf q label = IfSome label (λ last. (last.keepers q ≡ false) × (last.sealed ≡ true → last.bodies q ≡ false))

-- it is out, and nothing is said of its label
abbrev pub IsGone : State → ℕ → Type 0
IsGone state q = (state.members q ≡ Out) × IsFreeOf q state.label

and_false : (a : Bool) → a && false ≡ false
and_false true = refl
and_false false = refl

free_next : (q : ℕ) (opens : Bool) (old new : ℕ → MemberState) (last : LastLabel) → old q ≡ Out → (last.keepers q ≡ false) × (last.sealed ≡ true → last.bodies q ≡ false)
    → IsFreeOf q (Some (next_label opens old new last))
free_next q opens old new last out free = by (last.sealed && not opens) where
  out_kept : (last.sealed || last.keepers q) && (is_good (old q) && is_good (new q)) ≡ false
  out_kept = ap (λ (m : MemberState). (last.sealed || last.keepers q) && (is_good m && is_good (new q))) out ∙ and_false (last.sealed || last.keepers q)

  by : (stays : Bool) → IsFreeOf q (Some (if stays then last else record last {
    sealed = false;
    keepers = λ q. (last.sealed || last.keepers q) && (is_good (old q) && is_good (new q));
  }))
  by true = free
  by false = (out_kept, λ sealed. absurd (false≢true sealed))

free_after : (q : ℕ) (opens : Bool) (old new : ℕ → MemberState) (label : Option LastLabel) → old q ≡ Out → IsFreeOf q label → IsFreeOf q (label_after opens old new label)
free_after q opens old new None out free = tt
free_after q opens old new (Some last) out free = free_next q opens old new last out free

-- over such a step it stays so
pub gone_on : (old new : State) → Goes old new → (q : ℕ) → IsGone old q → IsGone new q
gone_on old new goes q gone = (
  elim (goes.members q) [ inl same ↦ same ∙ gone.0 | inr fell ↦ fell.out ],
  subst (λ (l : Option LastLabel). IsFreeOf q l) (sym goes.passes.label.is) (free_after q goes.passes.label.opens old.members new.members old.label gone.0 gone.1),
)

-- bytes of such members don't matter
pub holds_as : (x y : ℕ → Option (List ℕ)) (state : State) → ((q : ℕ) → (x q ≡ y q) ⊎ IsGone state q) → HoldsAll x state → HoldsAll y state
holds_as x y state same h = record {
  blocks = stands_by state.table state.members x y state.blocks (λ q. blocks_at q (same q)) h.blocks;
  label = labeled state.label h.label (λ q. label_at q (same q));
  sizes = λ whole. sized state.label (h.sizes whole) (λ q. label_at q (same q));
  fresh = λ q low serving keeps. fresh_at q (same q) serving (h.fresh q low serving keeps);
} where
  itself : (a b : Option (List ℕ)) → a ≡ b → Told IsSame a b
  itself None None e = tt
  itself None (Some b) e = absurd (cc e)
  itself (Some a) None e = tt
  itself (Some a) (Some b) e = let same : a ≡ b = cc e in sym same

  blocks_at : (q : ℕ) → (x q ≡ y q) ⊎ IsGone state q → (state.members q ≡ Out) ⊎ Told IsSame (x q) (y q)
  blocks_at q (inl e) = inr (itself (x q) (y q) e)
  blocks_at q (inr gone) = inl gone.0

  label_at : (q : ℕ) → (x q ≡ y q) ⊎ IsGone state q → (x q ≡ y q) ⊎ IsFreeOf q state.label
  label_at q (inl e) = inl e
  label_at q (inr gone) = inr gone.1

  labeled : (label : Option LastLabel) → IfSome label (λ last. HoldsLabel last x) → ((q : ℕ) → (x q ≡ y q) ⊎ IsFreeOf q label) → IfSome label (λ last. HoldsLabel last y)
  labeled None h free = tt
  labeled (Some last) h free = record {
    label = λ q keeps. elim (free q) [
      | inl e ↦ subst (λ (o : Option (List ℕ)). IfSome o (λ all. BeginsWith all (label_on last q))) e (h.label q keeps)
      | inr gone ↦ absurd (false≢true (sym gone.0 ∙ keeps))
    ];
    body = λ q has sealed. elim (free q) [
      | inl e ↦ subst (λ (o : Option (List ℕ)). IfSome o (λ all. HasBody all last.shape last.body)) e (h.body q has sealed)
      | inr gone ↦ absurd (false≢true (sym (gone.1 sealed) ∙ has))
    ];
  }

  sized : (label : Option LastLabel) → IfSome label (λ last. (q : ℕ) → last.keepers q ≡ true → IfSome (x q) (λ all. HasLength (label_on last q) (length all)))
      → ((q : ℕ) → (x q ≡ y q) ⊎ IsFreeOf q label) → IfSome label (λ last. (q : ℕ) → last.keepers q ≡ true → IfSome (y q) (λ all. HasLength (label_on last q) (length all)))
  sized None h free = tt
  sized (Some last) h free = λ q keeps. elim (free q) [
    | inl e ↦ subst (λ (o : Option (List ℕ)). IfSome o (λ all. HasLength (label_on last q) (length all))) e (h q keeps)
    | inr gone ↦ absurd (false≢true (sym gone.0 ∙ keeps))
  ]

  fresh_at : (q : ℕ) → (x q ≡ y q) ⊎ IsGone state q → state.members q ≢ Out → IfSome (x q) (λ all. take 512 all ≡ zeros 512) → IfSome (y q) (λ all. take 512 all ≡ zeros 512)
  fresh_at q (inl e) serving h = subst (λ (o : Option (List ℕ)). IfSome o (λ all. take 512 all ≡ zeros 512)) e h
  fresh_at q (inr gone) serving h = absurd (serving gone.0)
