-- A cat in which no member's count of faults rose loses no boundary.
use Rattle.std.proofs.Common.{◌≡◌, ◌∙◌, ℕ, ◌+◌, ◌*◌, inl, inr, Bool, true, false, not, List, refl, sym, ap}
use Rattle.std.proofs.lemmas.Bool.{and_from, and_parts, cases_Bool, false≢true}
use Rattle.dg_model.specs.Causes.{NoneRose}
use Rattle.dg_model.specs.Changes.{Goes}
use Rattle.dg_model.specs.Members.{MembersFall, is_filling, is_good, is_lost}
use Rattle.dg_model.specs.States.{State}
use Rattle.dg_model.specs.Steps.{Step}
use Rattle.dg_model.specs.declared.events.Event.TheVariants.{Cat}
use Rattle.dg_model.specs.declared.members.MemberState.{MemberState}
use Rattle.dg_model.specs.declared.members.MemberState.TheVariants.{Filling, Good, Out}
use Rattle.dg_model.specs.declared.replies.Reply.{Reply}
use Rattle.dg_model.specs.declared.replies.Reply.TheVariants.{Cut, Given, Refused, Unavailable}
use Rattle.dg_promise.specs.Promises.{LosesNone}

good_not_filling : (member : MemberState) → is_good member ≡ true → is_filling member ≡ true → ⊥
good_not_filling Good good filling = false≢true filling
good_not_filling (Filling have) good filling = false≢true good
good_not_filling Out good filling = false≢true good

good_stays : (before now : ℕ → ℕ) (old new : ℕ → MemberState) (q : ℕ) → NoneRose before now → MembersFall before now old new → is_good (old q) ≡ true → is_good (new q) ≡ true
good_stays before now old new q none falls good = elim (falls q) [
  | inl same ↦ ap is_good same ∙ good
  | inr fell ↦ elim fell.caused [
    | inl rose ↦ absurd (none q rose)
    | inr left ↦ absurd (good_not_filling (old q) good left.0)
  ]
]

not_good : (a b : Bool) → (a ≡ true → b ≡ true) → not b ≡ true → not a ≡ true
not_good true b keeps fails = absurd (false≢true (sym (ap not (keeps refl)) ∙ fails))
not_good false b keeps fails = refl

none_becomes_lost : (before now : ℕ → ℕ) (old new : ℕ → MemberState) (s : ℕ) → NoneRose before now → MembersFall before now old new → is_lost old s ≡ false → is_lost new s ≡ false
none_becomes_lost before now old new s none falls stands = elim (cases_Bool (is_lost new s)) [
  | inl lost ↦
      let parts = and_parts (not (is_good (new (2 * s)))) (not (is_good (new (2 * s + 1)))) lost in
      let was = and_from (not (is_good (old (2 * s)))) (not (is_good (old (2 * s + 1))))
      (not_good (is_good (old (2 * s))) (is_good (new (2 * s))) (good_stays before now old new (2 * s) none falls) parts.0)
      (not_good (is_good (old (2 * s + 1))) (is_good (new (2 * s + 1))) (good_stays before now old new (2 * s + 1) none falls) parts.1) in
      absurd (false≢true (sym stands ∙ was))
  | inr still ↦ still
]

cat_goes : (Known : Type 0) (old : State) (path : List ℕ) (reply : Reply) (new : State) → Step Known old (Cat path) reply new → Goes old new
cat_goes Known old path (Given lines) new h = h.2.goes
cat_goes Known old path (Refused refusal) new h = h.1.goes
cat_goes Known old path Unavailable new h = h.1.goes
cat_goes Known old path (Cut lines) new h = h.3.goes
cat_goes Known old path reply new h = absurd h

pub cat_loses_none : (Known : Type 0) (old : State) (path : List ℕ) (reply : Reply) (new : State) → Step Known old (Cat path) reply new → NoneRose old.counts.faults new.counts.faults → LosesNone old new
cat_loses_none Known old path reply new step none = λ s low stands.
    none_becomes_lost old.counts.faults new.counts.faults old.members new.members s none (cat_goes Known old path reply new step).members stands
