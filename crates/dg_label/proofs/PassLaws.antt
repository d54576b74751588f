-- Calls on one member after another.
use Rattle.std.proofs.Common.{◌≡◌, ◌≢◌, ◌⊎◌, ◌∙◌, ◌<◌, ◌≤◌, ◌+◌, ℕ, true, false, List, inl, inr, refl, sym, ap, subst, arith}
use Rattle.std.specs.Prelude.{◌↔◌, IfSome, None, Option, Some}
use Rattle.std.proofs.lemmas.Bool.{cases_Bool, cases_eq, false≢true}
use Rattle.dg_io.specs.RackCalls.{RackCall}
use Rattle.dg_io.specs.Told.{IsSame, Told}
use Rattle.dg_io.specs.declared.outside.Rack.{Ghosts}
use Rattle.dg_model.specs.Members.{IsStruck, MembersFall, is_filling, is_good}
use Rattle.dg_model.specs.States.{CountsRise}
use Rattle.dg_model.specs.declared.members.MemberState.{MemberState}
use Rattle.dg_model.specs.declared.members.MemberState.TheVariants.{Filling, Good, Out}
use Rattle.dg_model.proofs.MemberLaws.{falls_both, falls_same, good_was, rose_after, rose_before}
use Rattle.dg_pair.specs.declared.boundaries.ExtendAnswer.{ExtendAnswer}
use Rattle.dg_pair.specs.declared.boundaries.ExtendAnswer.TheVariants as extended
use Rattle.dg_pair.specs.declared.boundaries.NoteAnswer.{NoteAnswer}
use Rattle.dg_pair.specs.declared.boundaries.NoteAnswer.TheVariants as noted
use Rattle.dg_store.specs.Leaves.{BytesChange, CallsAtMost, HasWritten, IsCallOrExtendBelow, OnlyBytesOf}
use Rattle.dg_store.specs.ReadLaws.{fell_both, idle_both, stays_both, stays_none, stays_or_extend}
use Rattle.dg_store.specs.Stores.{IsSound, members_of, rack_of}
use Rattle.dg_store.specs.declared.store.Store.{Store}
use Rattle.dg_label.specs.Passes.{FillingStay, PassesBy, TouchesBy}
use Rattle.dg_label.specs.Seals.{KeepsArray, KeepsArrayBy}

-- ---- bytes that may be told

pub told_same : (a : Option (List ℕ)) → Told IsSame a a
told_same None = tt
told_same (Some all) = refl

pub same_as : (old new : Option (List ℕ)) → new ≡ old → Told IsSame old new
same_as old new is = subst (λ (o : Option (List ℕ)). Told IsSame old o) (sym is) (told_same old)

-- a step, and then none
pub told_then : (change : List ℕ → List ℕ → Type 0) (a b c : Option (List ℕ)) → Told change a b → Told IsSame b c → Told change a c
told_then change a b None first second = tt
told_then change a None (Some z) first second = absurd second
told_then change None (Some y) (Some z) first second = absurd first
told_then change (Some x) (Some y) (Some z) first second = subst (λ (w : List ℕ). change x w) (sym second) first

-- none, and then a step
pub then_told : (change : List ℕ → List ℕ → Type 0) (a b c : Option (List ℕ)) → Told IsSame a b → Told change b c → Told change a c
then_told change a b None first second = tt
then_told change a None (Some z) first second = absurd second
then_told change None (Some y) (Some z) first second = absurd first
then_told change (Some x) (Some y) (Some z) first second = subst (λ (w : List ℕ). change w z) first second

pub told_is : (P : List ℕ → Type 0) (a b : Option (List ℕ)) → Told IsSame a b → IfSome a P → IfSome b P
told_is P a None same had = tt
told_is P None (Some y) same had = absurd same
told_is P (Some x) (Some y) same had = subst P (sym same) had

-- ---- members

pub good_is : (m : MemberState) → is_good m ≡ true → m ≡ Good
good_is Good good = refl
good_is (Filling have) good = absurd (false≢true good)
good_is Out good = absurd (false≢true good)

bad_is : (m : MemberState) → m ≢ Good → is_good m ≡ false
bad_is Good bad = absurd (bad refl)
bad_is (Filling have) bad = refl
bad_is Out bad = refl

pub good_or : (m : MemberState) → (m ≡ Good) ⊎ (m ≢ Good)
good_or Good = inl refl
good_or (Filling have) = inr (λ e. cc e)
good_or Out = inr (λ e. cc e)

-- a member that isn't out is good or refilled
pub good_or_filling : (m : MemberState) → m ≢ Out → (is_good m ≡ true) ⊎ (is_filling m ≡ true)
good_or_filling Good stands = inl refl
good_or_filling (Filling have) stands = inr refl
good_or_filling Out stands = absurd (stands refl)

pub good_fills : (m : MemberState) → is_good m ≡ true → is_filling m ≡ true → ⊥
good_fills Good good filling = false≢true filling
good_fills (Filling have) good filling = false≢true good
good_fills Out good filling = false≢true good

-- one that is refilled isn't good
pub filling_bad : (m : MemberState) → is_filling m ≡ true → is_good m ≡ false
filling_bad Good filling = sym filling
filling_bad (Filling have) filling = refl
filling_bad Out filling = refl

out_fills : (m : MemberState) → m ≡ Out → is_filling m ≡ true → ⊥
out_fills m out filling = false≢true (sym (ap is_filling out) ∙ filling)

out_good : (m : MemberState) → m ≡ Out → is_good m ≡ true → ⊥
out_good m out good = false≢true (sym (ap is_good out) ∙ good)

-- a member that is refilled was so before
pub filling_was : (before now : ℕ → ℕ) (old new : ℕ → MemberState) (q : ℕ) → MembersFall before now old new → is_filling (new q) ≡ true → is_filling (old q) ≡ true
filling_was before now old new q falls filling = elim (falls q) [
  | inl same ↦ ap is_filling (sym same) ∙ filling
  | inr fell ↦ absurd (out_fills (new q) fell.out filling)
]

-- and one that isn't out wasn't
pub stood_was : (before now : ℕ → ℕ) (old new : ℕ → MemberState) (q : ℕ) → MembersFall before now old new → new q ≢ Out → old q ≢ Out
stood_was before now old new q falls stands out = elim (falls q) [
  | inl same ↦ stands (same ∙ out)
  | inr fell ↦ stands fell.out
]

module _ {R : Type 0} (rack : Ghosts R) where
  -- ---- what is kept

  abbrev faults : Store R → ℕ → ℕ
  faults a = (rack.counts (rack_of a)).faults

  rises : {may : ℕ → RackCall → Type 0} (a b : Store R) → KeepsArrayBy rack may a b → CountsRise (rack.counts (rack_of a)) (rack.counts (rack_of b))
  rises a b keeps = keeps.stays.stays.rise

  pub keeps_none : {may : ℕ → RackCall → Type 0} (a : Store R) → IsSound rack a → KeepsArrayBy rack may a a
  keeps_none a sound = record {
    sound = sound;
    stays = stays_none rack a;
    idle = λ q out. refl;
    fell = λ q rose. absurd (omega (arith, rose));
    table = refl;
    falls = falls_same (faults a) (faults a) (members_of a);
    stands = λ V stands. stands;
  }

  pub keeps_both : {may : ℕ → RackCall → Type 0} (a b c : Store R) → KeepsArrayBy rack may a b → KeepsArrayBy rack may b c → KeepsArrayBy rack may a c
  keeps_both a b c first second = record {
    sound = second.sound;
    stays = stays_both rack a b c first.stays second.stays;
    idle = idle_both (faults a) (faults b) (faults c) (members_of a) (members_of b) first.idle second.idle first.falls;
    fell = fell_both (faults a) (faults b) (faults c) (members_of b) (members_of c) first.fell second.fell second.falls;
    table = second.table ∙ first.table;
    falls = falls_both (faults a) (faults b) (faults c) (members_of a) (members_of b) (members_of c)
        (rises a b first).faults (rises b c second).faults first.falls second.falls;
    stands = λ V stands. second.stands V (first.stands V stands);
  }

  pub keeps_or_extend : (a b : Store R) → KeepsArray rack a b → KeepsArrayBy rack IsCallOrExtendBelow a b
  keeps_or_extend a b keeps = record {
    sound = keeps.sound;
    stays = stays_or_extend rack a b keeps.stays;
    idle = keeps.idle;
    fell = keeps.fell;
    table = keeps.table;
    falls = keeps.falls;
    stands = keeps.stands;
  }

  pub good_kept : {may : ℕ → RackCall → Type 0} (a b : Store R) (q : ℕ) → KeepsArrayBy rack may a b → is_good (members_of b q) ≡ true → is_good (members_of a q) ≡ true
  good_kept a b q keeps = good_was (faults a) (faults b) (members_of a) (members_of b) q keeps.falls

  pub filling_kept : {may : ℕ → RackCall → Type 0} (a b : Store R) (q : ℕ) → KeepsArrayBy rack may a b → is_filling (members_of b q) ≡ true → is_filling (members_of a q) ≡ true
  filling_kept a b q keeps = filling_was (faults a) (faults b) (members_of a) (members_of b) q keeps.falls

  pub stood_kept : {may : ℕ → RackCall → Type 0} (a b : Store R) (q : ℕ) → KeepsArrayBy rack may a b → members_of b q ≢ Out → members_of a q ≢ Out
  stood_kept a b q keeps = stood_was (faults a) (faults b) (members_of a) (members_of b) q keeps.falls

  pub wrote_after : {may : ℕ → RackCall → Type 0} (a b c : Store R) → HasWritten rack a b → KeepsArrayBy rack may b c → HasWritten rack a c
  wrote_after a b c wrote keeps = rose_after _ _ _ wrote (rises b c keeps).writes

  pub wrote_before : {may : ℕ → RackCall → Type 0} (a b c : Store R) → KeepsArrayBy rack may a b → HasWritten rack b c → HasWritten rack a c
  wrote_before a b c keeps wrote = rose_before _ _ _ (rises a b keeps).writes wrote

  pub filling_none : (a : Store R) → FillingStay rack a a
  filling_none a q filling = told_same (rack.bytes (rack_of a) q)

  -- ---- one call

  module _ {may : ℕ → RackCall → Type 0} (q : ℕ) (change : List ℕ → List ℕ → Type 0) (a b : Store R) (array : KeepsArrayBy rack may a b) (others : OnlyBytesOf rack a b q) (most : CallsAtMost rack a b 1) where
    abbrev AreSame : Type 0
    AreSame = (p : ℕ) → members_of b p ≡ members_of a p

    -- the member isn't good, and wasn't called
    touched_not : members_of a q ≢ Good → AreSame → rack_of b ≡ rack_of a → TouchesBy rack may q change a b
    touched_not bad same quiet = record {
      array = array;
      here = λ good. absurd (bad (good_is (members_of a q) (ap is_good (sym (same q)) ∙ good)));
      filling = λ filling. same_as _ _ (ap (λ (r : R). rack.bytes r q) quiet);
      others = others;
      stay_good = λ p other good. ap is_good (same p) ∙ good;
      most = most;
    }

    -- the call was done
    touched_done : members_of a q ≡ Good → AreSame → BytesChange rack a b q change → TouchesBy rack may q change a b
    touched_done was same changed = record {
      array = array;
      here = λ good. changed;
      filling = λ filling. absurd (good_fills (members_of b q) (ap is_good (same q ∙ was)) filling);
      others = others;
      stay_good = λ p other good. ap is_good (same p) ∙ good;
      most = most;
    }

    -- it failed, and the member is out
    touched_fell : IsStruck q (members_of a) (members_of b) → TouchesBy rack may q change a b
    touched_fell struck = record {
      array = array;
      here = λ good. absurd (out_good (members_of b q) struck.out good);
      filling = λ filling. absurd (out_fills (members_of b q) struck.out filling);
      others = others;
      stay_good = λ p other good. elim (struck.others p other) [
        | inl same ↦ ap is_good same ∙ good
        | inr left ↦ absurd (good_fills (members_of a p) good left.0)
      ];
      most = most;
    }

    pub touched_by_note : (answer : NoteAnswer) → (answer ≡ noted.NotGood) ↔ (members_of a q ≢ Good) → (answer ≢ noted.Fell → AreSame)
        → (answer ≡ noted.Fell → IsStruck q (members_of a) (members_of b)) → (answer ≡ noted.Noted → BytesChange rack a b q change)
        → (answer ≡ noted.NotGood → rack_of b ≡ rack_of a) → TouchesBy rack may q change a b
    touched_by_note noted.NotGood not_good kept fell changed quiet = touched_not (not_good.0 refl) (kept (λ e. cc e)) (quiet refl)
    touched_by_note noted.Noted not_good kept fell changed quiet = elim (good_or (members_of a q)) [
      | inl good ↦ touched_done good (kept (λ e. cc e)) (changed refl)
      | inr bad ↦ absurd (let e = not_good.1 bad in cc e)
    ]
    touched_by_note noted.Fell not_good kept fell changed quiet = touched_fell (fell refl)

    pub touched_by_extend : (answer : ExtendAnswer) → (answer ≡ extended.NotGood) ↔ (members_of a q ≢ Good) → (answer ≢ extended.Fell → AreSame)
        → (answer ≡ extended.Fell → IsStruck q (members_of a) (members_of b)) → (answer ≡ extended.Extended → BytesChange rack a b q change)
        → (answer ≡ extended.NotGood → rack_of b ≡ rack_of a) → TouchesBy rack may q change a b
    touched_by_extend extended.NotGood not_good kept fell changed quiet = touched_not (not_good.0 refl) (kept (λ e. cc e)) (quiet refl)
    touched_by_extend extended.Extended not_good kept fell changed quiet = elim (good_or (members_of a q)) [
      | inl good ↦ touched_done good (kept (λ e. cc e)) (changed refl)
      | inr bad ↦ absurd (let e = not_good.1 bad in cc e)
    ]
    touched_by_extend extended.Fell not_good kept fell changed quiet = touched_fell (fell refl)

    -- where the call was done, the member is good, and where it wasn't, it isn't
    pub good_by_note : (answer : NoteAnswer) → answer ≡ noted.Noted → (answer ≡ noted.NotGood) ↔ (members_of a q ≢ Good) → (answer ≢ noted.Fell → AreSame)
        → is_good (members_of b q) ≡ true
    good_by_note answer is not_good kept = elim (good_or (members_of a q)) [
      | inl good ↦ ap is_good (kept (λ e. let both = sym is ∙ e in cc both) q ∙ good)
      | inr bad ↦ absurd (let both = sym is ∙ not_good.1 bad in cc both)
    ]

    pub bad_by_note : (answer : NoteAnswer) → answer ≢ noted.Noted → (answer ≡ noted.NotGood) ↔ (members_of a q ≢ Good) → (answer ≢ noted.Fell → AreSame)
        → (answer ≡ noted.Fell → IsStruck q (members_of a) (members_of b)) → is_good (members_of b q) ≡ false
    bad_by_note noted.NotGood other not_good kept fell = ap is_good (kept (λ e. cc e) q) ∙ bad_is (members_of a q) (not_good.0 refl)
    bad_by_note noted.Noted other not_good kept fell = absurd (other refl)
    bad_by_note noted.Fell other not_good kept fell = ap is_good (fell refl).out

    -- a call on a good member is one that writes
    pub wrote_by_note : (answer : NoteAnswer) → (answer ≡ noted.NotGood) ↔ (members_of a q ≢ Good) → (answer ≡ noted.Noted → HasWritten rack a b)
        → (answer ≡ noted.Fell → HasWritten rack a b) → is_good (members_of a q) ≡ true → HasWritten rack a b
    wrote_by_note noted.NotGood not_good wrote tried good = absurd (not_good.0 refl (good_is (members_of a q) good))
    wrote_by_note noted.Noted not_good wrote tried good = wrote refl
    wrote_by_note noted.Fell not_good wrote tried good = tried refl

  -- ---- one call after another

  pub passes_none : {may : ℕ → RackCall → Type 0} (change : ℕ → List ℕ → List ℕ → Type 0) (a : Store R) → IsSound rack a → PassesBy rack may 0 change a a
  passes_none change a sound = record {
    array = keeps_none a sound;
    done = λ q low good. absurd (omega (arith, low));
    rest = λ q high. told_same (rack.bytes (rack_of a) q);
    filling = λ q filling. told_same (rack.bytes (rack_of a) q);
    stay_good = λ q high good. good;
    most = omega arith;
  }

  module _ {may : ℕ → RackCall → Type 0} (change : ℕ → List ℕ → List ℕ → Type 0) (n : ℕ) (a b c : Store R) (first : PassesBy rack may n change a b) (next : TouchesBy rack may n (change n) b c) where
    more_done : (q : ℕ) → q < n + 1 → is_good (members_of c q) ≡ true → BytesChange rack a c q (change q)
    more_done q low good = elim (cases_eq q n) [
      | inl e ↦
          subst (λ (k : ℕ). BytesChange rack a c k (change k)) (sym e)
          (then_told (change n) _ _ _ (first.rest n (omega arith)) (next.here (subst (λ (k : ℕ). is_good (members_of c k) ≡ true) e good)))
      | inr other ↦ told_then (change q) _ _ _ (first.done q (omega (arith, low, other)) (good_kept b c q next.array good)) (next.others q other)
    ]

    more_rest : (q : ℕ) → n + 1 ≤ q → BytesChange rack a c q IsSame
    more_rest q high = told_then IsSame _ _ _ (first.rest q (omega (arith, high))) (next.others q (λ e. omega (arith, e, high)))

    more_filling : (q : ℕ) → is_filling (members_of c q) ≡ true → BytesChange rack a c q IsSame
    more_filling q filling = elim (cases_eq q n) [
      | inl e ↦
          told_then IsSame _ _ _ (first.filling q (filling_kept b c q next.array filling))
          (subst (λ (k : ℕ). BytesChange rack b c k IsSame) (sym e) (next.filling (subst (λ (k : ℕ). is_filling (members_of c k) ≡ true) e filling)))
      | inr other ↦ told_then IsSame _ _ _ (first.filling q (filling_kept b c q next.array filling)) (next.others q other)
    ]

    pub passes_more : PassesBy rack may (n + 1) change a c
    passes_more = record {
      array = keeps_both a b c first.array next.array;
      done = more_done;
      rest = more_rest;
      filling = more_filling;
      stay_good = λ q high good. next.stay_good q (λ e. omega (arith, e, high)) (first.stay_good q (omega (arith, high)) good);
      most = omega (arith, first.most, next.most);
    }

  -- a member that isn't good stays so
  pub bad_stays : {may : ℕ → RackCall → Type 0} (a b : Store R) (q : ℕ) → KeepsArrayBy rack may a b → is_good (members_of a q) ≡ false → is_good (members_of b q) ≡ false
  bad_stays a b q keeps bad = elim (cases_Bool (is_good (members_of b q))) [
    | inl good ↦ absurd (false≢true (sym bad ∙ good_kept a b q keeps good))
    | inr still ↦ still
  ]

  pub bad_more : {may : ℕ → RackCall → Type 0} (n : ℕ) (a b : Store R) → KeepsArrayBy rack may a b → ((q : ℕ) → q < n → is_good (members_of a q) ≡ false) → is_good (members_of b n) ≡ false
      → (q : ℕ) → q < n + 1 → is_good (members_of b q) ≡ false
  bad_more n a b keeps before here q low = elim (cases_eq q n) [
    | inl e ↦ subst (λ (k : ℕ). is_good (members_of b k) ≡ false) (sym e) here
    | inr other ↦ bad_stays a b q keeps (before q (omega (arith, low, other)))
  ]

  -- a good member that isn't yet passed is so still, and its call is one of all calls
  pub wrote_more : {may : ℕ → RackCall → Type 0} (change : ℕ → List ℕ → List ℕ → Type 0) (n : ℕ) (a b c : Store R) → PassesBy rack may n change a b → KeepsArrayBy rack may b c
      → ((q : ℕ) → q < n → is_good (members_of a q) ≡ true → HasWritten rack a b) → (is_good (members_of b n) ≡ true → HasWritten rack b c)
      → (q : ℕ) → q < n + 1 → is_good (members_of a q) ≡ true → HasWritten rack a c
  wrote_more change n a b c passes keeps before here q low good = elim (cases_eq q n) [
    | inl e ↦ wrote_before a b c passes.array (here (subst (λ (k : ℕ). is_good (members_of b k) ≡ true) e (passes.stay_good q (omega (arith, e)) good)))
    | inr other ↦ wrote_after a b c (before q (omega (arith, low, other)) good) keeps
  ]

  -- no member that isn't yet passed has changed
  pub rest_is : {may : ℕ → RackCall → Type 0} (P : List ℕ → Type 0) (change : ℕ → List ℕ → List ℕ → Type 0) (n : ℕ) (a b : Store R) → PassesBy rack may n change a b
      → IfSome (rack.bytes (rack_of a) n) P → IfSome (rack.bytes (rack_of b) n) P
  rest_is P change n a b passes had = told_is P (rack.bytes (rack_of a) n) (rack.bytes (rack_of b) n) (passes.rest n (omega arith)) had
