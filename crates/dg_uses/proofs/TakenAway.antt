-- Members that are taken away one after another.
use Rattle.std.proofs.Common.{◌≡◌, ◌∙◌, ℕ, List, [], ap, arith, inl, inr, refl, subst, sym}
use Rattle.std.specs.Prelude.{◌≢◌, ◌≤◌, ◌<◌, ◌/◌, ◌⊎◌, true, Option, Some, IsSomeAnd}
use Rattle.dg_kept.specs.Saved.{HasSaved, IsOlder, Save}
use Rattle.dg_kept.specs.SavedRuns.{AreTakenAway, IsLeft, StandsStill}
use Rattle.dg_model.specs.Members.{is_good}
use Rattle.dg_model.specs.States.{State}
use Rattle.dg_model.specs.declared.members.MemberState.TheVariants.{Out}
use Rattle.dg_uses.specs.Answers.{TellsEach}

same_or_not : (a b : ℕ) → (a ≡ b) ⊎ (a ≢ b)
same_or_not a b = grind arith

below_or_not : (a b : ℕ) → (a < b) ⊎ (b ≤ a)
below_or_not a b = grind arith

-- a member without bytes is older than any save
abbrev pub BlankIsOlder : Type 0
BlankIsOlder = (save : Save) (q : ℕ) → IsOlder save q []

blank_there : BlankIsOlder → (save : Save) (q : ℕ) (o : Option (List ℕ)) → o ≡ Some [] → IsSomeAnd o (λ all. HasSaved save q all ⊎ IsOlder save q all)
blank_there older save q o is = subst (λ (x : Option (List ℕ)). IsSomeAnd x (λ all. HasSaved save q all ⊎ IsOlder save q all)) (sym is) (inr (older save q))

-- before any is taken away
pub all_stand : BlankIsOlder → (save : Save) (last : State) (held : ℕ → Option (List ℕ)) (one : ℕ) → one < 32 → is_good (last.members one) ≡ true
    → TellsEach held → ((q : ℕ) → q / 2 < last.table.shape.b → last.members q ≢ Out) → ((q : ℕ) → last.table.shape.b ≤ q / 2 → held q ≡ Some [])
    → (away : AreTakenAway save last held held) × (away.one.0 ≡ one)
all_stand older save last held one low good tells own behind = (
  record {
    one = (one, low, good, record { told = tells one; same = refl });
    each = λ q small. elim (below_or_not (q / 2) last.table.shape.b) [
      | inl inside ↦ inl (record { own = inside; stood = own q inside; left = record { told = tells q; same = refl } })
      | inr past ↦ inr (blank_there older save q (held q) (behind q past))
    ];
  },
  refl,
)

-- member m is taken away, and all others stay
module _ (older : BlankIsOlder) (save : Save) (last : State) (held old new : ℕ → Option (List ℕ)) (m : ℕ) (gone : new m ≡ Some [])
    (others : (q : ℕ) → q ≢ m → new q ≡ old q) where
  left_still : (q : ℕ) → q ≢ m → IsLeft held old q → IsLeft held new q
  left_still q other was = record { told = was.told; same = others q other ∙ was.same }

  abbrev Others : (ℕ → Option (List ℕ)) → ℕ → Type 0
  Others images q = StandsStill last held images q ⊎ IsSomeAnd (images q) (λ all. HasSaved save q all ⊎ IsOlder save q all)

  other_still : (q : ℕ) → q ≢ m → Others old q → Others new q
  other_still q other (inl stands) = inl (record { own = stands.own; stood = stands.stood; left = left_still q other stands.left })
  other_still q other (inr there) =
      inr (subst (λ (x : Option (List ℕ)). IsSomeAnd x (λ all. HasSaved save q all ⊎ IsOlder save q all)) (sym (others q other)) there)

  pub taken_away : (away : AreTakenAway save last held old) → away.one.0 ≢ m → (next : AreTakenAway save last held new) × (next.one.0 ≡ away.one.0)
  taken_away away other = (
    record {
      one = (away.one.0, away.one.1, away.one.2, left_still away.one.0 other away.one.3);
      each = λ q small. elim (same_or_not q m) [
        | inl same ↦ inr (blank_there older save q (new q) (ap new same ∙ gone))
        | inr apart ↦ other_still q apart (away.each q small)
      ];
    },
    refl,
  )
