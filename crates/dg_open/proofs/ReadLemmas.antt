-- What reading members leaves of a rack, call after call.
use Rattle.std.proofs.Common.{◌≡◌, inl, inr, ℕ, ◌≤◌, Bool, List, [], ◌∷◌, length, refl, sym, ◌∙◌, subst, arith}
use Rattle.std.specs.Prelude.{◌==◌, Option, Some, None, Result, IfSome, IsSome}
use Rattle.std.proofs.lemmas.Bool.{cases_eq, false≢true}
use Rattle.dg_io.specs.MakesLaws.{makes_both, makes_none, makes_only}
use Rattle.dg_io.specs.OnlyLaws.{only_one}
use Rattle.dg_io.specs.RackCalls.{RackCall}
use Rattle.dg_io.specs.RackWords.{After, Leaves}
use Rattle.dg_io.specs.Told.{IsSame, Told}
use Rattle.dg_io.specs.declared.outside.Rack.{Ghosts}
use Rattle.dg_model.specs.Causes.{Rose}
use Rattle.dg_open.specs.Reopenings.{IsCallOfOpening, LeavesRead}
use Rattle.dg_open.specs.Seen.{HasFailed, HasNotFailed, IsLabeledBy, IsMeasured, IsSeen, ReadsOne}
use Rattle.dg_model.specs.Saves.{member_length}
use Rattle.dg_save.specs.declared.labels.Label.{Label}

-- ---- bytes that are told

pub same_none : (a : Option (List ℕ)) → Told IsSame a a
same_none None = tt
same_none (Some x) = refl

pub same_both : (a b c : Option (List ℕ)) → Told IsSame a b → Told IsSame b c → Told IsSame a c
same_both a b None one two = tt
same_both a None (Some z) one two = absurd two
same_both None (Some y) (Some z) one two = absurd one
same_both (Some x) (Some y) (Some z) one two = two ∙ one

-- what held of the bytes holds of them
pub told_on : (P : List ℕ → Type 0) (a b : Option (List ℕ)) → Told IsSame a b → IfSome a P → IfSome b P
told_on P a None same holds = tt
told_on P None (Some y) same holds = absurd same
told_on P (Some x) (Some y) same holds = subst P (sym same) holds

-- what a step says of them
pub told_by : (S : List ℕ → List ℕ → Type 0) (P : List ℕ → Type 0) (a b : Option (List ℕ)) → Told S a b → ((x y : List ℕ) → S x y → P y) → IfSome b P
told_by S P a None step gives = tt
told_by S P None (Some y) step gives = absurd step
told_by S P (Some x) (Some y) step gives = gives x y step

told_before : (a b : Option (List ℕ)) → Told IsSame a b → IsSome b → IsSome a
told_before a None same some = absurd (false≢true some)
told_before None (Some y) same some = absurd same
told_before (Some x) (Some y) same some = refl

pub if_some : (P Q : List ℕ → Type 0) (a : Option (List ℕ)) → IfSome a P → ((x : List ℕ) → P x → Q x) → IfSome a Q
if_some P Q None holds gives = tt
if_some P Q (Some x) holds gives = gives x holds

pub if_both : (P Q S : List ℕ → Type 0) (a : Option (List ℕ)) → IfSome a P → IfSome a Q → ((x : List ℕ) → P x → Q x → S x) → IfSome a S
if_both P Q S None one two gives = tt
if_both P Q S (Some x) one two gives = gives x one two

-- ---- calls

pub rose_on : (a b c : ℕ) → Rose a b → b ≤ c → Rose a c
rose_on a b c rose later = omega arith

pub rose_before : (a b c : ℕ) → a ≤ b → Rose b c → Rose a c
rose_before a b c later rose = omega arith

module _ {R : Type 0} (rack : Ghosts R) where
  pub reads_none : (s : R) → LeavesRead rack s s
  reads_none s = record {
    rise = record { faults = λ q. omega arith; calls = omega arith; writes = omega arith };
    writes = refl;
    same = λ q. same_none (rack.bytes s q);
    tells = λ q some. some;
    same_rack = refl;
    steady_on = ((λ h. h), (λ h. h));
    told_before = λ q tells. tells;
    made = makes_none rack IsCallOfOpening s;
  }

  pub reads_both : (a b c : R) → LeavesRead rack a b → LeavesRead rack b c → LeavesRead rack a c
  reads_both a b c one two = record {
    rise = record {
      faults = λ q. omega (arith, one.rise.faults q, two.rise.faults q);
      calls = omega (arith, one.rise.calls, two.rise.calls);
      writes = omega (arith, one.rise.writes, two.rise.writes);
    };
    writes = two.writes ∙ one.writes;
    same = λ q. same_both (rack.bytes a q) (rack.bytes b q) (rack.bytes c q) (one.same q) (two.same q);
    tells = λ q some. one.tells q (two.tells q some);
    same_rack = two.same_rack ∙ one.same_rack;
    steady_on = ((λ h. two.steady_on.0 (one.steady_on.0 h)), (λ h. one.steady_on.1 (two.steady_on.1 h)));
    told_before = λ q tells. one.told_before q (two.told_before q tells);
    made = makes_both rack IsCallOfOpening a b c one.made two.made;
  }

  pub one_none : (member : ℕ) (s : R) → ReadsOne rack member s s
  one_none member s = record { leaves = reads_none s; other_faults = λ q other. refl; others_stand = λ q other stands. stands }

  pub one_both : (member : ℕ) (a b c : R) → ReadsOne rack member a b → ReadsOne rack member b c → ReadsOne rack member a c
  one_both member a b c one two = record {
    leaves = reads_both a b c one.leaves two.leaves;
    other_faults = λ q other. two.other_faults q other ∙ one.other_faults q other;
    others_stand = λ q other stands. two.others_stand q other (one.others_stand q other stands);
  }

  -- a call that leaves the member's bytes, and writes nothing
  pub one_call : ((a b : R) (calls : List RackCall) → rack.made a calls b → After rack calls a b) → {T E : Type 0} (member : ℕ) (result : Result T E) (old new : R) (call : RackCall)
      → rack.made old (call ∷ []) new → Leaves rack member result old new
      → Told IsSame (rack.bytes old member) (rack.bytes new member) → (rack.counts new).writes ≡ (rack.counts old).writes → IsCallOfOpening call → ReadsOne rack member old new
  one_call after member result old new call made leaves same writes is = record {
    leaves = record {
      rise = leaves.rise;
      writes = writes;
      same = λ q. elim (cases_eq q member) [
        | inl here ↦ subst (λ (p : ℕ). Told IsSame (rack.bytes old p) (rack.bytes new p)) (sym here) same
        | inr other ↦ leaves.others q other
      ];
      tells = leaves.tells;
      same_rack = leaves.same_rack;
      steady_on = leaves.steady_on;
      told_before = (after old new (call ∷ []) made).told_before;
      made = makes_only rack IsCallOfOpening old new (only_one rack IsCallOfOpening call old new is made);
    };
    other_faults = leaves.other_faults;
    others_stand = leaves.others_stand;
  }

  -- ---- what was found stays

  pub failed_on : (a b c : R) (q : ℕ) → HasFailed rack a b q → LeavesRead rack b c → HasFailed rack a c q
  failed_on a b c q failed leaves = rose_on _ _ _ failed (leaves.rise.faults q)

  pub failed_before : (a b c : R) (q : ℕ) → LeavesRead rack a b → HasFailed rack b c q → HasFailed rack a c q
  failed_before a b c q leaves failed = rose_before _ _ _ (leaves.rise.faults q) failed

  pub quiet_both : (a b c : R) (q : ℕ) → HasNotFailed rack a b q → HasNotFailed rack b c q → HasNotFailed rack a c q
  quiet_both a b c q one two = two ∙ one

  pub labeled_on : (b c : R) (q : ℕ) (label : Label) → IsLabeledBy rack b q label → LeavesRead rack b c → IsLabeledBy rack c q label
  labeled_on b c q label labeled leaves = record {
    is = labeled.is;
    boundary = labeled.boundary;
    side = labeled.side;
    own = told_on _ (rack.bytes b q) (rack.bytes c q) (leaves.same q) labeled.own;
  }

  pub seen_on : (a b c : R) (q : ℕ) (found : Option Label) → IsSeen rack a b q found → LeavesRead rack b c → IsSeen rack a c q found
  seen_on a b c q None seen leaves = elim seen [
    | inl failed ↦ inl (failed_on a b c q failed leaves)
    | inr none ↦ inr (told_on _ (rack.bytes b q) (rack.bytes c q) (leaves.same q) none)
  ]
  seen_on a b c q (Some label) seen leaves = labeled_on b c q label seen leaves

  pub seen_before : (a b c : R) (q : ℕ) (found : Option Label) → LeavesRead rack a b → IsSeen rack b c q found → IsSeen rack a c q found
  seen_before a b c q None leaves seen = elim seen [
    | inl failed ↦ inl (failed_before a b c q leaves failed)
    | inr none ↦ inr none
  ]
  seen_before a b c q (Some label) leaves seen = seen

  -- as long as a member is, it stays
  pub measured_on : (b c : R) (q : ℕ) (long : Bool) (found : Option Label) → IfSome found (IsMeasured rack b q long) → LeavesRead rack b c
      → IfSome found (IsMeasured rack c q long)
  measured_on b c q long None measured leaves = tt
  measured_on b c q long (Some label) measured leaves =
      told_on (λ all. long ≡ (length all == member_length 2 label.shape)) (rack.bytes b q) (rack.bytes c q) (leaves.same q) measured
