-- What calls on one member after another leave of those that fell.
use Rattle.std.proofs.Common.{◌≡◌, ◌≢◌, ◌∙◌, ℕ, true, false, List, inl, inr, refl, sym, ap, subst, arith}
use Rattle.std.specs.Prelude.{◌↔◌, None, Option, Some}
use Rattle.std.proofs.lemmas.Bool.{both_ways, cases_Bool, cases_eq}
use Rattle.dg_io.specs.RackCalls.{RackCall}
use Rattle.dg_io.specs.Told.{IsSame, Told}
use Rattle.dg_io.specs.declared.outside.Rack.{Ghosts}
use Rattle.dg_label.specs.Pages.{LeavesFallen, PageFails, page_of}
use Rattle.dg_label.specs.Passes.{PassesBy, TouchesBy}
use Rattle.dg_label.specs.Seals.{KeepsArrayBy}
use Rattle.dg_label.specs.declared.labels.KeptLabel.{KeptLabel}
use Rattle.dg_label.proofs.PassLaws.{bad_stays, good_fills, good_or, same_as, then_told, told_same, told_then}
use Rattle.dg_model.specs.Members.{IsStruck, is_good}
use Rattle.dg_model.specs.declared.members.MemberState.TheVariants.{Good}
use Rattle.dg_pair.specs.declared.boundaries.ExtendAnswer.{ExtendAnswer}
use Rattle.dg_pair.specs.declared.boundaries.ExtendAnswer.TheVariants as extended
use Rattle.dg_pair.specs.declared.boundaries.NoteAnswer.{NoteAnswer}
use Rattle.dg_pair.specs.declared.boundaries.NoteAnswer.TheVariants as noted
use Rattle.dg_model.specs.declared.shapes.Shape.{Shape}
use Rattle.dg_store.specs.Leaves.{BytesChange, OnlyBytesOf, Stays}
use Rattle.dg_store.specs.Stores.{members_of, rack_of, shape_of}
use Rattle.dg_store.specs.declared.store.Store.{Store}

-- a page that failed on a rack that is steady where another one is
pub fails_map : {S T : Type 0} → (S → T) → (page : List ℕ) (a b : Option (List ℕ)) → Told (PageFails T page) a b → Told (PageFails S page) a b
fails_map on page a None fails = tt
fails_map on page None (Some y) fails = absurd fails
fails_map on page (Some x) (Some y) fails = record { torn = fails.torn; whole = λ steady. fails.whole (on steady) }

module _ {R : Type 0} (rack : Ghosts R) where
  -- ---- one call

  module _ (q : ℕ) (fails : ℕ → List ℕ → List ℕ → Type 0) (a b : Store R) (others : OnlyBytesOf rack a b q) where
    abbrev AreSame : Type 0
    AreSame = (p : ℕ) → members_of b p ≡ members_of a p

    -- a member that is good before and not afterwards
    same_good : (p : ℕ) → AreSame → is_good (members_of a p) ≡ true → is_good (members_of b p) ≡ false → ⊥
    same_good p same good bad = both_ways (is_good (members_of a p)) (ap is_good (sym (same p)) ∙ bad) good

    fallen_not : AreSame → rack_of b ≡ rack_of a → LeavesFallen rack fails a b
    fallen_not same quiet = record {
      fell = λ p good bad. absurd (same_good p same good bad);
      bad = λ p bad. same_as _ _ (ap (λ (r : R). rack.bytes r p) quiet);
    }

    -- one that wasn't good isn't the one that was called
    bad_same : members_of a q ≡ Good → (p : ℕ) → is_good (members_of a p) ≡ false → BytesChange rack a b p IsSame
    bad_same was p bad = others p (λ e. both_ways (is_good (members_of a q)) (subst (λ (k : ℕ). is_good (members_of a k) ≡ false) e bad) (ap is_good was))

    fallen_done : members_of a q ≡ Good → AreSame → LeavesFallen rack fails a b
    fallen_done was same = record {
      fell = λ p good bad. absurd (same_good p same good bad);
      bad = bad_same was;
    }

    struck_good : (p : ℕ) → IsStruck q (members_of a) (members_of b) → p ≢ q → is_good (members_of a p) ≡ true → is_good (members_of b p) ≡ false → ⊥
    struck_good p struck other good bad = elim (struck.others p other) [
      | inl same ↦ both_ways (is_good (members_of a p)) (ap is_good (sym same) ∙ bad) good
      | inr left ↦ good_fills (members_of a p) good left.0
    ]

    fallen_fell : members_of a q ≡ Good → IsStruck q (members_of a) (members_of b) → BytesChange rack a b q (fails q) → LeavesFallen rack fails a b
    fallen_fell was struck failed = record {
      fell = λ p good bad. elim (cases_eq p q) [
        | inl e ↦ subst (λ (k : ℕ). BytesChange rack a b k (fails k)) (sym e) failed
        | inr other ↦ absurd (struck_good p struck other good bad)
      ];
      bad = bad_same was;
    }

    pub fallen_by_note : (answer : NoteAnswer) → (answer ≡ noted.NotGood) ↔ (members_of a q ≢ Good) → (answer ≢ noted.Fell → AreSame)
        → (answer ≡ noted.Fell → IsStruck q (members_of a) (members_of b)) → (answer ≡ noted.Fell → BytesChange rack a b q (fails q))
        → (answer ≡ noted.NotGood → rack_of b ≡ rack_of a) → LeavesFallen rack fails a b
    fallen_by_note noted.NotGood not_good kept fell failed quiet = fallen_not (kept (λ e. cc e)) (quiet refl)
    fallen_by_note noted.Noted not_good kept fell failed quiet = elim (good_or (members_of a q)) [
      | inl good ↦ fallen_done good (kept (λ e. cc e))
      | inr bad ↦ absurd (let e = not_good.1 bad in cc e)
    ]
    fallen_by_note noted.Fell not_good kept fell failed quiet = elim (good_or (members_of a q)) [
      | inl good ↦ fallen_fell good (fell refl) (failed refl)
      | inr bad ↦ absurd (let e = not_good.1 bad in cc e)
    ]

    pub fallen_by_extend : (answer : ExtendAnswer) → (answer ≡ extended.NotGood) ↔ (members_of a q ≢ Good) → (answer ≢ extended.Fell → AreSame)
        → (answer ≡ extended.Fell → IsStruck q (members_of a) (members_of b)) → (answer ≡ extended.Fell → BytesChange rack a b q (fails q))
        → (answer ≡ extended.NotGood → rack_of b ≡ rack_of a) → LeavesFallen rack fails a b
    fallen_by_extend extended.NotGood not_good kept fell failed quiet = fallen_not (kept (λ e. cc e)) (quiet refl)
    fallen_by_extend extended.Extended not_good kept fell failed quiet = elim (good_or (members_of a q)) [
      | inl good ↦ fallen_done good (kept (λ e. cc e))
      | inr bad ↦ absurd (let e = not_good.1 bad in cc e)
    ]
    fallen_by_extend extended.Fell not_good kept fell failed quiet = elim (good_or (members_of a q)) [
      | inl good ↦ fallen_fell good (fell refl) (failed refl)
      | inr bad ↦ absurd (let e = not_good.1 bad in cc e)
    ]

  -- ---- one call after another

  pub fallen_none : (fails : ℕ → List ℕ → List ℕ → Type 0) (a : Store R) → LeavesFallen rack fails a a
  fallen_none fails a = record {
    fell = λ q good bad. absurd (both_ways (is_good (members_of a q)) bad good);
    bad = λ q bad. told_same (rack.bytes (rack_of a) q);
  }

  -- those that weren't good stay as they were
  pub same_more : {may : ℕ → RackCall → Type 0} (a b c : Store R) → KeepsArrayBy rack may a b → ((q : ℕ) → is_good (members_of a q) ≡ false → BytesChange rack a b q IsSame)
      → ((q : ℕ) → is_good (members_of b q) ≡ false → BytesChange rack b c q IsSame) → (q : ℕ) → is_good (members_of a q) ≡ false → BytesChange rack a c q IsSame
  same_more a b c keeps first next q bad = told_then IsSame _ _ _ (first q bad) (next q (bad_stays rack a b q keeps bad))

  pub fallen_more : {may : ℕ → RackCall → Type 0} (fails change : ℕ → List ℕ → List ℕ → Type 0) (n : ℕ) (a b c : Store R) → PassesBy rack may n change a b → TouchesBy rack may n (change n) b c
      → LeavesFallen rack fails a b → LeavesFallen rack fails b c → LeavesFallen rack fails a c
  fallen_more fails change n a b c passes touches first next = record {
    fell = λ q good bad. elim (cases_Bool (is_good (members_of b q))) [
      | inl still ↦ elim (cases_eq q n) [
        | inl e ↦ then_told (fails q) _ _ _ (passes.rest q (omega (arith, e))) (next.fell q still bad)
        | inr other ↦ absurd (both_ways (is_good (members_of c q)) bad (touches.stay_good q other still))
      ]
      | inr gone ↦ told_then (fails q) _ _ _ (first.fell q good gone) (next.bad q gone)
    ];
    bad = same_more a b c passes.array first.bad next.bad;
  }

  -- a failed page is one on the rack of the array that the pass began with
  pub pages_failed : (kept : KeptLabel) (a b c : Store R) → Stays rack a b
      → LeavesFallen rack (λ (q : ℕ). PageFails (rack.steady (rack_of b)) (page_of (shape_of b) kept q)) b c
      → LeavesFallen rack (λ (q : ℕ). PageFails (rack.steady (rack_of a)) (page_of (shape_of a) kept q)) b c
  pages_failed kept a b c stays fallen = record {
    fell = λ q good bad.
        fails_map (λ on. stays.stays.steady_on.0 on) (page_of (shape_of a) kept q) (rack.bytes (rack_of b) q) (rack.bytes (rack_of c) q)
        (subst (λ (sh : Shape). BytesChange rack b c q (PageFails (rack.steady (rack_of b)) (page_of sh kept q))) stays.shape (fallen.fell q good bad));
    bad = fallen.bad;
  }
