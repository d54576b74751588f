-- What a call leaves by cases is what it leaves in the words on members.
use Rattle.std.proofs.Common.{◌≡◌, ◌≢◌, inl, inr, ℕ, ◌/◌, ◌<◌, List, true, refl, sym, ◌∙◌, ap, subst, arith}
use Rattle.std.specs.Prelude.{Option}
use Rattle.std.proofs.lemmas.Bool.{cases_eq}
use Rattle.std.proofs.lemmas.Bool.Decides.{nat_tests}
use Rattle.dg_model.specs.Members.{is_good, partner_of, ArePaired, HasRoom, MembersFall}
use Rattle.dg_model.specs.declared.members.MemberState.{MemberState}
use Rattle.dg_model.specs.declared.members.MemberState.TheVariants.{Good, Filling, Out}
use Rattle.dg_io.specs.OnlyLaws.{only_such}
use Rattle.dg_io.specs.RackCalls.{RackCall, looks, blanks, calls, extends}
use Rattle.dg_io.specs.RackWords.{MadeOnly}
use Rattle.dg_io.specs.declared.outside.Rack.{Ghosts}
use Rattle.dg_pair.specs.declared.boundaries.Boundary.{Boundary}
use Rattle.dg_pair.specs.declared.boundaries.Boundary.TheVariants.{Both, Half, Fill, Lost}
use Rattle.dg_pair.specs.Boundaries.{members_of, number_of, size_of, slots_of, IsWell, MembersFit}
use Rattle.dg_pair.specs.Calls.{IsCallAt, IsCallOf, IsExtendAt, IsExtendOf, IsPair, LeavesBoundary, LeavesPair}
use Rattle.dg_pair.specs.Cases.{Fits, EachIn, IsOther, LeavesCase}
use Rattle.dg_pair.proofs.BoundaryLemmas.{own_members}
use Rattle.dg_pair.proofs.ReplaceLemmas.{out_or}

-- a member of another boundary is none of the two
pub other_is : (x : Boundary) → IsWell x → (q : ℕ) → q / 2 ≢ number_of x → IsOther x q
other_is (Both a b) well q other = let numbers = well.numbers in (λ e. other (ap (λ (n : ℕ). n / 2) e), λ e. other (omega (arith, numbers, e)))
other_is (Half a b) well q other = let numbers = well.numbers in (λ e. other (ap (λ (n : ℕ). n / 2) e), λ e. other (omega (arith, numbers, e)))
other_is (Fill a b) well q other = let numbers = well.0.numbers in (λ e. other (ap (λ (n : ℕ). n / 2) e), λ e. other (omega (arith, numbers, e)))
other_is (Lost a b) well q other = let numbers = well.numbers in (λ e. other (ap (λ (n : ℕ). n / 2) e), λ e. other (omega (arith, numbers, e)))

-- beside a member that is refilled stands a good one
pub paired_in : (x : Boundary) → IsWell x → ArePaired (members_of x)
paired_in (Both a b) well q filling = absurd (grind (arith, nat_tests))
paired_in (Half a b) well q filling = absurd (grind (arith, nat_tests))
paired_in (Fill a b) well q filling = let numbers = well.0.numbers in elim (cases_eq q a.number) [
  | inl e ↦ absurd (grind (arith, nat_tests))
  | inr not_a ↦
      let at_b : q ≡ b.number = grind (arith, nat_tests) in
      let partner : partner_of q ≡ a.number = omega (arith, numbers, at_b) in
      subst (λ (n : ℕ). is_good (members_of (Fill a b) n) ≡ true) (sym partner) (grind (arith, nat_tests))
]
paired_in (Lost a b) well q filling = absurd (let e = filling in cc)

module _ (P : ℕ → Type 0) where
  -- what is said of the members that aren't out, by cases
  pub each_from : (x : Boundary) → EachIn x P → (q : ℕ) → members_of x q ≢ Out → P q
  each_from (Both a b) is q other = elim (cases_eq q a.number) [
    | inl e ↦ subst P (sym e) is.0
    | inr not_a ↦ elim (cases_eq q b.number) [ inl e ↦ subst P (sym e) is.1 | inr not_b ↦ absurd (other (grind (arith, nat_tests))) ]
  ]
  each_from (Half a b) is q other = elim (cases_eq q a.number) [ inl e ↦ subst P (sym e) is | inr not_a ↦ absurd (other (grind (arith, nat_tests))) ]
  each_from (Fill a b) is q other = elim (cases_eq q a.number) [
    | inl e ↦ subst P (sym e) is.0
    | inr not_a ↦ elim (cases_eq q b.number) [ inl e ↦ subst P (sym e) is.1 | inr not_b ↦ absurd (other (grind (arith, nat_tests))) ]
  ]
  each_from (Lost a b) is q other = absurd (other refl)

  is_not : (m : MemberState) → (m ≡ Good) → m ≢ Out
  is_not m good out = let e = sym good ∙ out in cc

  pub each_to : (x : Boundary) → IsWell x → ((q : ℕ) → members_of x q ≢ Out → P q) → EachIn x P
  each_to (Both a b) well is = (is a.number (is_not _ (grind (arith, nat_tests))), is b.number (is_not _ (grind (arith, nat_tests))))
  each_to (Half a b) well is = is a.number (is_not _ (grind (arith, nat_tests)))
  each_to (Fill a b) well is =
      let numbers = well.0.numbers in
      let fills : members_of (Fill a b) b.number ≡ Filling b.state.have = grind (arith, nat_tests) in
      (is a.number (is_not _ (grind (arith, nat_tests))), is b.number (λ out. let e = sym fills ∙ out in cc))
  each_to (Lost a b) well is = tt

-- the members that are called are long enough
pub fit_from : (x : Boundary) (bytes : ℕ → Option (List ℕ)) → Fits x bytes → MembersFit (size_of x) (slots_of x) (members_of x) bytes
fit_from (Both a b) bytes is = each_from (λ q. HasRoom a.l a.slots (bytes q)) (Both a b) is
fit_from (Half a b) bytes is = each_from (λ q. HasRoom a.l a.slots (bytes q)) (Half a b) is
fit_from (Fill a b) bytes is = each_from (λ q. HasRoom a.l a.slots (bytes q)) (Fill a b) is
fit_from (Lost a b) bytes is = each_from (λ q. HasRoom a.l a.slots (bytes q)) (Lost a b) is

pub fit_to : (x : Boundary) (bytes : ℕ → Option (List ℕ)) → IsWell x → MembersFit (size_of x) (slots_of x) (members_of x) bytes → Fits x bytes
fit_to (Both a b) bytes well is = each_to (λ q. HasRoom a.l a.slots (bytes q)) (Both a b) well is
fit_to (Half a b) bytes well is = each_to (λ q. HasRoom a.l a.slots (bytes q)) (Half a b) well is
fit_to (Fill a b) bytes well is = each_to (λ q. HasRoom a.l a.slots (bytes q)) (Fill a b) well is
fit_to (Lost a b) bytes well is = tt

pub pair_from : (x : Boundary) (number l slots : ℕ) → IsWell x → number_of x ≡ number → size_of x ≡ l → slots_of x ≡ slots → IsPair number l slots x
pair_from x number l slots well number_is l_is slots_is = record {
  well = well;
  number_is = number_is;
  size_is = l_is;
  slots_is = slots_is;
  own = λ q other. own_members x well q (λ e. other (e ∙ number_is));
  paired = paired_in x well;
}

-- a member whose count rose is out, if each other one has the count that it had
pub fell_out : (x : Boundary) (f g : ℕ → ℕ) → ((q : ℕ) → members_of x q ≢ Out → g q ≡ f q) → (q : ℕ) → f q < g q → members_of x q ≡ Out
fell_out x f g same q rose = elim (out_or (members_of x q)) [
  | inl out ↦ out
  | inr some ↦ absurd (let e = same q some in omega (arith, e, rose))
]

-- a call on a member that isn't out is one on a member of the boundary
call_at : (x : Boundary) → IsWell x → (call : RackCall) → IsCallOf (members_of x) call → IsCallAt (number_of x) call
call_at x well (looks q) is = is
call_at x well (blanks q) is = is
call_at x well (calls q) is = elim (cases_eq (q / 2) (number_of x)) [ inl e ↦ e | inr other ↦ absurd (is (own_members x well q other)) ]
call_at x well (extends q) is = is

-- and so is one that extends it
extend_at : (x : Boundary) → IsWell x → (call : RackCall) → IsExtendOf (members_of x) call → IsExtendAt (number_of x) call
extend_at x well (looks q) is = is
extend_at x well (blanks q) is = is
extend_at x well (calls q) is = is
extend_at x well (extends q) is = elim (cases_eq (q / 2) (number_of x)) [ inl e ↦ e | inr other ↦ absurd (is (own_members x well q other)) ]

pub only_at : {S : Type 0} (rack : Ghosts S) (x : Boundary) (before now : S) → IsWell x → MadeOnly rack (IsCallOf (members_of x)) before now → MadeOnly rack (IsCallAt (number_of x)) before now
only_at rack x before now well only = only_such rack (IsCallOf (members_of x)) (IsCallAt (number_of x)) before now (call_at x well) only

pub extended_at : {S : Type 0} (rack : Ghosts S) (x : Boundary) (before now : S) → IsWell x → MadeOnly rack (IsExtendOf (members_of x)) before now → MadeOnly rack (IsExtendAt (number_of x)) before now
extended_at rack x before now well only = only_such rack (IsExtendOf (members_of x)) (IsExtendAt (number_of x)) before now (extend_at x well) only

pub leaves_fit : {S : Type 0} (rack : Ghosts S) {may : RackCall → Type 0} (expected : ℕ → MemberState) (old new : Boundary) (before now : S) → IsWell old → LeavesCase rack old new before now
    → MembersFall (rack.counts before).faults (rack.counts now).faults expected (members_of new) → MembersFit (size_of old) (slots_of old) (members_of new) (rack.bytes now)
    → MadeOnly rack may before now → LeavesBoundary rack may (number_of old) (size_of old) (slots_of old) expected new before now
leaves_fit rack expected old new before now was case falls fit only = record {
  pair = pair_from new _ _ _ case.well case.number case.size case.slots;
  falls = falls;
  room = fit;
  stand = each_from (λ q. rack.stands now q ≡ true) new case.stand;
  made = only;
  fell = λ q rose. fell_out new _ _ (each_from _ new case.unfailed) q rose;
  other_bytes = λ q other. case.other_bytes q (other_is old was q other);
  other_faults = λ q other. case.other_faults q (other_is old was q other);
  others_stand = λ q other. case.others_stand q (other_is old was q other);
  rise = case.rise;
  tells = case.tells;
  same_rack = case.same_rack;
  steady_on = case.steady_on;
}

pub leaves_from : {S : Type 0} (rack : Ghosts S) (expected : ℕ → MemberState) (old new : Boundary) (before now : S) → IsWell old → LeavesCase rack old new before now
    → MembersFall (rack.counts before).faults (rack.counts now).faults expected (members_of new) → Fits new (rack.bytes now)
    → MadeOnly rack (IsCallAt (number_of old)) before now → LeavesPair rack expected old new before now
leaves_from rack expected old new before now was case falls fits only = leaves_fit rack expected old new before now was case falls
    (subst (λ (l : ℕ). MembersFit l (slots_of old) (members_of new) (rack.bytes now)) case.size
    (subst (λ (k : ℕ). MembersFit (size_of new) k (members_of new) (rack.bytes now)) case.slots (fit_from new (rack.bytes now) fits))) only
