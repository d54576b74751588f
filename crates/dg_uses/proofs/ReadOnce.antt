-- A reading in which no count of faults rises has one answer.
use Rattle.std.proofs.Common.{◌≡◌, ◌∙◌, ◌||◌, ℕ, Bool, true, false, Option, Some, None, refl, sym, ap, inl, inr}
use Rattle.std.specs.List.{list_any}
use Rattle.std.proofs.lemmas.Bool.{cases_Bool, false≢true}
use Rattle.ufs_model.specs.Blocks.{Reading}
use Rattle.dg_model.specs.Changes.{IsCutShort, MayRead}
use Rattle.dg_model.specs.Marks.{is_marked}
use Rattle.dg_model.specs.Seals.{LastLabel}
use Rattle.dg_model.specs.Sites.{is_gone}
use Rattle.dg_model.specs.States.{Counts, State}
use Rattle.dg_promise.specs.Promises.{AreTold}
use Rattle.dg_uses.proofs.Seen.{Seen, seen_of, state_of}

-- whether block b is gone
abbrev pub gone_seen : Seen → ℕ → Bool
gone_seen c b = is_gone c.table c.members b || is_marked c.cut b

not_true : (x : Bool) → (x ≡ true → ⊥) → x ≡ false
not_true x not = elim (cases_Bool x) [ inl there ↦ absurd (not there) | inr other ↦ other ]

module _ {A : Type 0} (c : Seen) (reading : Reading A) where
  -- some block is gone that is needed
  abbrev pub some_gone : Bool
  some_gone = list_any (gone_seen c) ((reading c.blocks).needs)

  -- what the reading answers: its value, or none where a needed block is gone
  abbrev pub IsAnswer : Option A → Type 0
  IsAnswer (Some a) = (some_gone ≡ false) × (a ≡ (reading c.blocks).value)
  IsAnswer None = some_gone ≡ true

  pub one_answer : (a b : Option A) → IsAnswer a → IsAnswer b → a ≡ b
  one_answer (Some a) (Some b) x y = ap Some (x.1 ∙ sym y.1)
  one_answer (Some a) None x y = absurd (false≢true (sym x.0 ∙ y))
  one_answer None (Some b) x y = absurd (false≢true (sym y.0 ∙ x))
  one_answer None None x y = refl

  module _ (l : Option LastLabel) (n : Counts) (x : State) where
    pub answer_some : (a : A) → MayRead AreTold (state_of c l n) x reading (Some a) → IsAnswer (Some a)
    answer_some a h = (not_true some_gone (λ e. false≢true (sym ((h.rule tt).unavailable e))), (h.rule tt).answer)

    module _ (same : seen_of x ≡ c) where
      gone_after : list_any (gone_seen (seen_of x)) ((reading c.blocks).needs) ≡ true → some_gone ≡ true
      gone_after h = sym (ap (λ (d : Seen). list_any (gone_seen d) ((reading c.blocks).needs)) same) ∙ h

      pub answer_is : (a : Option A) → MayRead AreTold (state_of c l n) x reading a → IsAnswer a
      answer_is (Some a) h = answer_some a h
      answer_is None h = gone_after ((h.rule tt).only)

      pub not_cut_short : (a : A) → MayRead AreTold (state_of c l n) x reading (Some a) → IsCutShort AreTold (state_of c l n) x reading → ⊥
      not_cut_short a h cut = false≢true (sym (answer_some a h).0 ∙ gone_after (cut tt))
