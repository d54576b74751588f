-- What a fault tells of a member, which members are called, and what a step that moves nothing leaves: steps of an array of two blocks, and
-- what is no step.
use Rattle.std.proofs.Common.{◌≡◌, ◌∙◌, ◌<◌, ◌⊎◌, ◌≢◌, inl, inr, ℕ, zero, suc, Bool, true, false, List, [], ◌∷◌, ap, refl, arith, sym, length}
use Rattle.std.proofs.lemmas.Bool.{false≢true}
use Rattle.std.specs.Prelude.{◌==◌, ◌/◌, ◌≤◌, ◌&&◌, not, Option, Some, None, cond, is_some}
use Rattle.std.specs.List.{list_any}
use Rattle.dg_model.specs.Causes.{NoneRose}
use Rattle.dg_model.specs.Members.{HasFallen, is_filling, is_good, partner_of}
use Rattle.dg_model.specs.Moves.{is_missing, missing, missing_in, moves, round, tidying}
use Rattle.dg_model.specs.Plans.{Plan, place_kept, place_stray, place_with, plan, roomiest, stay, targets_by, targets_of}
use Rattle.dg_model.specs.Sites.{has_site}
use Rattle.dg_model.specs.States.{State}
use Rattle.dg_model.specs.Steps.{Step}
use Rattle.dg_model.specs.Tables.{Table, is_on, lowest_free, sites_in}
use Rattle.dg_model.specs.Wants.{want_of}
use Rattle.dg_model.specs.declared.events.Event.TheVariants.{Read, Replace, Settle}
use Rattle.dg_model.specs.declared.members.MemberState.{MemberState}
use Rattle.dg_model.specs.declared.members.MemberState.TheVariants.{Good, Out}
use Rattle.dg_model.specs.declared.phases.Phase.TheVariants.{Settled}
use Rattle.dg_model.specs.declared.replies.Reply.TheVariants.{Data, Failed, Settled as SettledReply}
use Rattle.dg_model.specs.declared.wants.Want.{Want}
use Rattle.dg_model.proofs.SealLaws.{goes_plain, passes_plain}
use Rattle.dg_model.proofs.StepRows.{all_good, array_read, array_with, before, both_on_1, is_loose, not_filling, nothing, shape, table_with}

-- ---- block 0 stands on boundary 1: the call on member 2 failed, and member 3 gave the block

one_fell : ℕ → MemberState
one_fell zero = Good
one_fell (suc zero) = Good
one_fell (suc (suc zero)) = Out
one_fell (suc (suc (suc zero))) = Good
one_fell (suc (suc (suc (suc q)))) = Out

one_failed : ℕ → ℕ
one_failed zero = 0
one_failed (suc zero) = 0
one_failed (suc (suc zero)) = 1
one_failed (suc (suc (suc q))) = 0

abbrev fell : State
fell = record (array_read both_on_1 nothing 7) { members = one_fell; counts = record { faults = one_failed; calls = 7; writes = 5 } }

not_filling_either : (q : ℕ) → is_filling (one_fell q) ≡ true → is_good (one_fell (partner_of q)) ≡ true
unfolding one_fell
not_filling_either zero e = absurd (false≢true e)
not_filling_either (suc zero) e = absurd (false≢true e)
not_filling_either (suc (suc zero)) e = absurd (false≢true e)
not_filling_either (suc (suc (suc zero))) e = absurd (false≢true e)
not_filling_either (suc (suc (suc (suc q)))) e = absurd (false≢true e)

members_fall : (q : ℕ) → (one_fell q ≡ all_good q) ⊎ HasFallen (λ p. 0) one_failed all_good one_fell q
unfolding all_good one_fell one_failed
members_fall zero = inl refl
members_fall (suc zero) = inl refl
members_fall (suc (suc zero)) = inr (record { out = refl; caused = inl (omega arith) })
members_fall (suc (suc (suc zero))) = inl refl
members_fall (suc (suc (suc (suc q)))) = inl refl

rises : (q : ℕ) → 0 ≤ one_failed q
rises q = omega arith

is_out : (q : ℕ) → 0 < one_failed q → one_fell q ≡ Out
unfolding one_fell one_failed
is_out zero less = absurd (omega (arith, less))
is_out (suc zero) less = absurd (omega (arith, less))
is_out (suc (suc zero)) less = refl
is_out (suc (suc (suc q))) less = absurd (omega (arith, less))

none_beyond : (q : ℕ) → 2 ≤ q / 2 → one_failed q ≡ 0
unfolding one_failed
none_beyond zero high = refl
none_beyond (suc zero) high = refl
none_beyond (suc (suc zero)) high = absurd (omega (arith, high))
none_beyond (suc (suc (suc q))) high = refl

none_called : (q : ℕ) → all_good q ≡ Out → one_failed q ≡ 0
unfolding all_good one_failed
none_called zero out = refl
none_called (suc zero) out = refl
none_called (suc (suc zero)) out = absurd (false≢true (sym (ap is_good out)))
none_called (suc (suc (suc q))) out = refl

one_rose : NoneRose (λ q. 0) one_failed → ⊥
unfolding one_failed
one_rose none = none 2 (omega arith)

read_from_partner : Step (Unit {0}) before (Read 0) (Data []) fell
unfolding one_fell
read_from_partner = (
  omega arith,
  refl,
  (λ told. record { whole = refl; last = λ low. absurd (omega (arith, low)) }),
  (λ none. refl),
  record { unwritten = refl; most = omega arith; one = λ none. absurd (one_rose none) },
  record {
    goes = goes_plain before fell refl refl
        (record { faults = rises; calls = omega arith; writes = omega arith })
        members_fall not_filling_either (record { fell = λ q low less. is_out q less; beyond = none_beyond }) none_called;
    rest = refl;
  },
)

-- a member on which a call failed doesn't stay good
fault_and_good : (Known : Type 0) (bytes : List ℕ) (new : State) → 0 < new.counts.faults 2 → new.members 2 ≡ Good → Step Known before (Read 0) (Data bytes) new → ⊥
fault_and_good Known bytes new rose good h = false≢true (ap is_good (sym (h.5.goes.passes.faults.fell 2 (omega arith) rose)) ∙ ap is_good good)

-- nor is a member called that is out, or that the array hasn't
calls_out : (Known : Type 0) (bytes : List ℕ) (new : State) → 0 < new.counts.faults 2 → Step Known (record before { members = one_fell }) (Read 0) (Data bytes) new → ⊥
unfolding one_fell
calls_out Known bytes new rose h = let e = h.5.goes.out 2 refl in omega (arith, rose, e)

calls_beyond : (Known : Type 0) (bytes : List ℕ) (new : State) → 0 < new.counts.faults 4 → Step Known before (Read 0) (Data bytes) new → ⊥
calls_beyond Known bytes new rose h = let e = h.5.goes.passes.faults.beyond 4 (omega arith) in omega (arith, rose, e)

-- ---- replaced: member 2, which is out, couldn't be made anew

abbrev away : State
away = record before { members = one_fell }

none_beside : (q : ℕ) → q ≢ 2 → one_fell q ≡ Out → one_failed q ≡ 0
unfolding one_failed
none_beside zero other out = refl
none_beside (suc zero) other out = refl
none_beside (suc (suc zero)) other out = absurd (other refl)
none_beside (suc (suc (suc q))) other out = refl

not_replaced : (Known : Type 0) → Step Known away (Replace 1 0) Failed fell
unfolding one_fell one_failed
not_replaced Known = (
  record { boundary = omega arith; side = omega arith },
  refl,
  (λ lost. false≢true lost),
  record {
    passes = passes_plain away fell refl refl (record { faults = rises; calls = omega arith; writes = omega arith })
        not_filling_either (record { fell = λ q low less. is_out q less; beyond = none_beyond });
    members = λ q. inl refl;
    out = none_beside;
    rose = omega arith;
    rest = refl;
  },
)

-- that isn't answered where no call on it failed
failed_for_nothing : (Known : Type 0) (new : State) → new.counts.faults 2 ≡ 0 → Step Known away (Replace 1 0) Failed new → ⊥
failed_for_nothing Known new none h = let rose = h.3.rose in omega (arith, rose, none)

-- ---- no block is written

abbrev unsited : Table
unsited = table_with [] []

-- a block without a site gives no bytes, also where bytes aren't told
bytes_of_none : (Known : Type 0) (x : ℕ) (bytes : List ℕ) (new : State) → Step Known (array_with unsited nothing 5) (Read 0) (Data (x ∷ bytes)) new → ⊥
bytes_of_none Known x bytes new h = let e = ap (λ (l : List ℕ). length l) (h.3 refl) in omega (arith, e)

-- settled: nothing is moved, and so nothing is written

no_wants : (b : ℕ) → is_some (want_of (None ∷ None ∷ []) b) ≡ has_site (sites_in unsited b)
no_wants zero = refl
no_wants (suc zero) = refl
no_wants (suc (suc b)) = refl

abbrev settled_unsited : State
settled_unsited = array_read unsited (record nothing { phase = Settled }) 9

settled : Step ⊥ (array_with unsited nothing 5) Settle SettledReply settled_unsited
unfolding all_good missing moves round tidying lowest_free plan place_kept stay place_with place_stray roomiest targets_of
settled = (
  refl,
  inr (
    is_loose,
    refl,
    record {
      wants = None ∷ None ∷ [];
      found = record { homes = []; strays = [] };
      planned = record {
        parents = [];
        sees_wants = record { fit = record { size = refl; written = no_wants }; are = λ told. absurd told };
        sees_parents = λ told. absurd told;
        is = refl;
      };
      goes = goes_plain (array_with unsited nothing 5) settled_unsited refl refl
          (record { faults = λ q. omega arith; calls = omega arith; writes = omega arith })
          (λ q. inl refl) not_filling (record { fell = λ q low less. absurd (omega (arith, less)); beyond = λ q high. refl }) (λ q was. refl);
      sound = λ told. absurd told;
      rest = refl;
      still = λ none. refl;
    },
  ),
)

no_target : (wants : List (Option Want)) (found : Plan) (b s : ℕ) → is_some (want_of wants b) ≡ false → targets_of shape wants found b s ≡ false
unfolding targets_of
no_target wants found b s none = by_want (want_of wants b) none
  where
    by_want : (want : Option Want) → is_some want ≡ false → list_any (λ t. t == s) (targets_by shape found b want) ≡ false
    by_want None e = refl
    by_want (Some want) e = absurd (false≢true (sym e))

none_missing : (wants : List (Option Want)) (found : Plan) → ((b : ℕ) → is_some (want_of wants b) ≡ has_site (sites_in unsited b)) → missing_in (targets_of shape wants found) unsited ≡ 0
none_missing wants found written = omega (arith, none 0 0 (written 0), none 0 1 (written 0), none 1 0 (written 1), none 1 1 (written 1))
  where
    none : (b s : ℕ) → is_some (want_of wants b) ≡ false → cond {A = ℕ} (is_missing (targets_of shape wants found) unsited b s) 1 0 ≡ 0
    none b s e = ap (λ (t : Bool). cond {A = ℕ} (t && not (is_on unsited b s)) 1 0) (no_target wants found b s e)

settles_and_writes : (Known : Type 0) (new : State) → 5 < new.counts.writes → Step Known (array_with unsited nothing 5) Settle SettledReply new → ⊥
settles_and_writes Known new more h = elim h.1 [
  | inl was ↦ is_loose was.0
  | inr now ↦ let same = now.2.still (none_missing now.2.wants now.2.found now.2.planned.sees_wants.fit.written) in omega (arith, more, same)
]
