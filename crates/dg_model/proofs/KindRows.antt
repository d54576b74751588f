-- What is allowed to an array by what it stands on: saves with a boundary out of use, and groups of disks with parity.
use Rattle.std.proofs.Common.{◌≡◌, ◌<◌, ◌≤◌, inl, inr, ℕ, zero, suc, Bool, true, false, [], ◌∷◌, ap, refl, arith, sym}
use Rattle.std.proofs.lemmas.Bool.{false≢true}
use Rattle.std.proofs.lemmas.Bool.Decides.{nat_tests}
use Rattle.std.specs.Prelude.{◌==◌, ◌||◌, ◌+◌, ◌*◌}
use Rattle.dg_model.specs.Lives.{place_in}
use Rattle.dg_model.specs.Members.{is_filling, is_good, partner_of}
use Rattle.dg_model.specs.Moments.{GoesWithDisks, Happens, IsAllowed, Moment, double, parity, plain, two_out}
use Rattle.dg_model.specs.States.{Counts, State}
use Rattle.dg_model.specs.Steps.{Step}
use Rattle.dg_model.specs.Tables.{Table}
use Rattle.dg_model.specs.declared.events.Event.{Event}
use Rattle.dg_model.specs.declared.events.Event.TheVariants.{DropDisk, Save}
use Rattle.dg_model.specs.declared.members.MemberState.{MemberState}
use Rattle.dg_model.specs.declared.members.MemberState.TheVariants.{Good, Out}
use Rattle.dg_model.specs.declared.replies.Reply.TheVariants.{Done, NotSaved, Saved}
use Rattle.dg_model.proofs.RowLaws.{same_from_test}
use Rattle.dg_model.proofs.StepRows.{array_with, nothing, shape, table_with}

-- ---- places: of boundaries 0, 1 and 3, the last is the third; 2 isn't in use, and has the place behind them

first_place : place_in (0 ∷ 1 ∷ 3 ∷ []) 0 ≡ 0
first_place = refl

place_of_3 : place_in (0 ∷ 1 ∷ 3 ∷ []) 3 ≡ 2
place_of_3 = refl

place_of_2 : place_in (0 ∷ 1 ∷ 3 ∷ []) 2 ≡ 3
place_of_2 = refl

-- ---- saves: boundary 0 is out of use

abbrev counts : Counts
counts = record { faults = λ q. 0; calls = 5; writes = 5 }

abbrev over : State → (ℕ → Bool) → Moment
over state out = record { state = state; beneath = record { counts = counts; out = out } }

abbrev one_table : Table
one_table = record { shape = record shape { b = 1 }; rows = [] ∷ [] ∷ [] }

abbrev reduced : Moment
reduced = over (record (array_with one_table nothing 5) { live = 1 ∷ [] }) (λ d. false)

-- a plain array isn't saved then
not_saved : (Known : Type 0) → Happens Known plain reduced Save NotSaved reduced
not_saved Known = record {
  step = (omega arith, refl);
  allowed = tt;
  rise = record { faults = λ q. omega arith; calls = omega arith; writes = omega arith };
  tied = record { faults = λ q low. refl; calls = refl; writes = refl };
  took = λ is s now gone. absurd (gone now);
}

saved_plain : (Known : Type 0) (sequence : ℕ) (new : Moment) → Happens Known plain reduced Save (Saved sequence) new → ⊥
saved_plain Known sequence new h = h.allowed (omega arith)

-- nor one with parity, and a double one is
saved_parity : (Known : Type 0) (n sequence : ℕ) (new : Moment) → Happens Known (parity n) reduced Save (Saved sequence) new → ⊥
saved_parity Known n sequence new h = h.allowed (omega arith)

not_saved_double : (Known : Type 0) (old new : Moment) → Happens Known double old Save NotSaved new → ⊥
not_saved_double Known old new h = h.allowed

saved_double : (sequence : ℕ) (new : Moment) → IsAllowed double reduced Save (Saved sequence) new
saved_double sequence new = tt

-- ---- parity: two groups of three disks, whose first members are there

firsts : ℕ → MemberState
firsts zero = Good
firsts (suc zero) = Out
firsts (suc (suc zero)) = Good
firsts (suc (suc (suc q))) = Out

abbrev grouped : State
grouped = record (array_with (table_with [] []) nothing 5) { members = firsts }

none_filling : (q : ℕ) → is_filling (firsts q) ≡ true → is_good (firsts (partner_of q)) ≡ true
unfolding firsts
none_filling zero e = absurd (false≢true e)
none_filling (suc zero) e = absurd (false≢true e)
none_filling (suc (suc zero)) e = absurd (false≢true e)
none_filling (suc (suc (suc q))) e = absurd (false≢true e)

above_first : (q : ℕ) → 3 ≤ q → firsts q ≡ Out
unfolding firsts
above_first zero high = absurd (omega (arith, high))
above_first (suc zero) high = absurd (omega (arith, high))
above_first (suc (suc zero)) high = absurd (omega (arith, high))
above_first (suc (suc (suc q))) high = refl

no_second : (x : ℕ) → firsts (2 * x + 1) ≡ Out
unfolding firsts
no_second zero = refl
no_second (suc x) = above_first (2 * suc x + 1) (omega arith)

-- disk 1 of boundary 0 is out
abbrev one_out : ℕ → Bool
one_out d = d == 33

few_out : (s : ℕ) → two_out 3 (record { counts = counts; out = one_out }) s ≡ true → ⊥
few_out s two = grind (arith, nat_tests)

dropped : (Known : Type 0) → Happens Known (parity 3) (over grouped (λ d. false)) (DropDisk 0 1) Done (over grouped one_out)
unfolding firsts
dropped Known = record {
  step = (
    omega arith,
    record {
      counts = record { faults = λ q. omega arith; calls = omega arith; writes = omega arith };
      unwritten = refl;
      members = inl refl;
      paired = none_filling;
      rest = refl;
    },
  );
  allowed = (
    record { boundary = omega arith; place = omega arith },
    λ out. elim out [ inl unused ↦ unused (omega arith) | inr before ↦ false≢true before ],
    refl,
  );
  rise = record { faults = λ q. omega arith; calls = omega arith; writes = omega arith };
  tied = record {
    goes = λ d before now. inr (same_from_test d 33 now);
    stays = λ d before. absurd (false≢true before);
    fails = λ known s in_use less. absurd (omega (arith, less));
    falls = λ known s in_use there out. absurd (there out);
    lost = λ s in_use two. absurd (few_out s two);
    second = no_second;
  };
  took = λ is. absurd (cc is);
}

-- the members aren't written to
dropped_and_wrote : (Known : Type 0) (new : State) → 5 < new.counts.writes → Step Known grouped (DropDisk 0 1) Done new → ⊥
dropped_and_wrote Known new more h = let e = h.1.unwritten in omega (arith, more, e)

-- with disks 1 and 2 of it out, boundary 0 is lost, whatever came before
abbrev pair_out : ℕ → Bool
pair_out d = (d == 33) || (d == 34)

still_there : (Known : Type 0) (event : Event) (old : Moment) → GoesWithDisks Known 3 event old (over grouped pair_out) → ⊥
unfolding firsts
still_there Known event old h = false≢true (sym (ap is_good (h.lost 0 (omega arith) refl)))

-- and one disk that is out loses nothing, where this is known
lost_by_one : (Known : Type 0) → Known → Happens Known (parity 3) (over grouped (λ d. false)) (DropDisk 0 1) Done (over (record grouped { members = λ q. Out }) one_out) → ⊥
unfolding firsts
lost_by_one Known known h = elim (h.tied.falls known 0 (omega arith) (λ out. false≢true (sym (ap is_good out))) refl) [
  | inl two ↦ few_out 0 two
  | inr none ↦ none
]
