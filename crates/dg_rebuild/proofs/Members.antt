-- The members of a boundary while one of them is refilled.
use Rattle.std.proofs.Common.{◌≡◌, ◌≢◌, ◌⊎◌, ◌<◌, ◌≤◌, ◌+◌, ◌*◌, ◌/◌, ◌&&◌, ℕ, Bool, true, false, not, inl, inr, refl, sym, ◌∙◌, ap, subst, arith}
use Rattle.std.specs.Prelude.{if◌then◌else◌}
use Rattle.std.proofs.lemmas.Bool.{cases_eq, false≢true}
use Rattle.dg_model.specs.Changes.{refilled_to}
use Rattle.dg_model.specs.Members.{ArePaired, HasFallen, IsRefilled, MembersFall, is_filling, is_good, is_lost, partner_of}
use Rattle.dg_model.specs.declared.members.MemberState.{MemberState}
use Rattle.dg_model.specs.declared.members.MemberState.TheVariants.{Good, Filling, Out}
use Rattle.dg_model.proofs.MemberLaws.{rose_before}
use Rattle.dg_model.proofs.SiteLists.{apart_test, same_test}
use Rattle.dg_pair.specs.Boundaries.{completed, raised, unfilled}
use Rattle.dg_rebuild.specs.Answers.{HasNoFilling}
use Rattle.dg_rebuild.specs.Passed.{GoesUp, HasMemberAt, IsLeftAt}
use Rattle.dg_store.specs.Answers.{ChangesAt}

-- a member that is out stays so where its boundary's members change
pub changes_out : (change : MemberState → MemberState) → change Out ≡ Out → (s : ℕ) (old new : ℕ → MemberState) → ChangesAt change s old new
    → (q : ℕ) → old q ≡ Out → new q ≡ Out
changes_out change still s old new changes q out = elim (cases_eq (q / 2) s) [
  | inl at ↦ changes.here q at ∙ ap change out ∙ still
  | inr off ↦ changes.others q off ∙ out
]

-- or where members only fall
pub falls_out : (before now : ℕ → ℕ) (old new : ℕ → MemberState) → MembersFall before now old new → (q : ℕ) → old q ≡ Out → new q ≡ Out
falls_out before now old new falls q out = elim (falls q) [ inl same ↦ same ∙ out | inr fell ↦ fell.out ]

-- ---- one member that is refilled

filling_number : (a b : ℕ) → Filling a ≡ Filling b → a ≡ b
filling_number a b e = cc e

other_side : (s p q : ℕ) → p / 2 ≡ s → q / 2 ≡ s → p ≢ q → p ≡ partner_of q
other_side s p q here there apart = omega (arith, here, there, apart)

-- the other member of the boundary is good
pub partner_good : (members : ℕ → MemberState) (s p q have : ℕ) → ArePaired members → IsRefilled members s q have → p / 2 ≡ s → p ≢ q → is_good (members p) ≡ true
partner_good members s p q have paired was here apart =
    subst (λ (r : ℕ). is_good (members r) ≡ true) (sym (other_side s p q here was.0 apart)) (paired q (ap is_filling was.1))

-- so no other one is refilled
pub one_member : (members : ℕ → MemberState) (s p q a b : ℕ) → ArePaired members → IsRefilled members s p a → IsRefilled members s q b → p ≡ q
one_member members s p q a b paired first second = elim (cases_eq p q) [
  | inl same ↦ same
  | inr apart ↦
      let good = partner_good members s p q b paired second first.0 apart in
      absurd (false≢true (sym (ap is_good first.1) ∙ good))
]

pub none_there : (members : ℕ → MemberState) (s q have : ℕ) → HasNoFilling members s → IsRefilled members s q have → ⊥
none_there members s q have none was = false≢true (sym (none q was.0) ∙ ap is_filling was.1)

-- ---- a boundary that isn't lost

side_of : (s q : ℕ) → q / 2 ≡ s → (q ≡ 2 * s → ⊥) → q ≡ 2 * s + 1
side_of s q at other = omega (arith, at, other)

not_lost_by : (a b : Bool) → (a ≡ true) → (not a && not b) ≡ false
not_lost_by true b e = refl
not_lost_by false b e = absurd (false≢true e)

not_lost_by_second : (a b : Bool) → (b ≡ true) → (not a && not b) ≡ false
not_lost_by_second true b e = refl
not_lost_by_second false true e = refl
not_lost_by_second false false e = absurd (false≢true e)

pub good_stands : (members : ℕ → MemberState) (s q : ℕ) → q / 2 ≡ s → is_good (members q) ≡ true → is_lost members s ≡ false
good_stands members s q at good = elim (cases_eq q (2 * s)) [
  | inl even ↦ not_lost_by (is_good (members (2 * s))) (is_good (members (2 * s + 1))) (sym (ap (λ (r : ℕ). is_good (members r)) even) ∙ good)
  | inr odd ↦
      not_lost_by_second (is_good (members (2 * s))) (is_good (members (2 * s + 1)))
      (sym (ap (λ (r : ℕ). is_good (members r)) (side_of s q at odd)) ∙ good)
]

-- a boundary with a member that is refilled isn't lost
pub filling_stands : (members : ℕ → MemberState) (s q have : ℕ) → ArePaired members → IsRefilled members s q have → is_lost members s ≡ false
filling_stands members s q have paired was =
    let at : partner_of q / 2 ≡ s = omega (arith, was.0) in
    good_stands members s (partner_of q) at (paired q (ap is_filling was.1))

-- ---- changes

raised_good : (m : MemberState) → is_good m ≡ true → raised m ≡ m
raised_good Good e = refl
raised_good (Filling have) e = absurd (false≢true e)
raised_good Out e = refl

completed_good : (m : MemberState) → is_good m ≡ true → completed m ≡ m
completed_good Good e = refl
completed_good (Filling have) e = absurd (false≢true e)
completed_good Out e = refl

left_by : (change : MemberState → MemberState) (old new : ℕ → MemberState) (s q have : ℕ) → ((m : MemberState) → is_good m ≡ true → change m ≡ m)
    → ArePaired old → IsRefilled old s q have → ChangesAt change s old new → IsLeftAt old new q (change (Filling have))
left_by change old new s q have same paired was changes = record {
  member = changes.here q was.0 ∙ ap change was.1;
  others = λ p other. elim (cases_eq (p / 2) s) [
    | inl here ↦ changes.here p here ∙ same (old p) (partner_good old s p q have paired was here other)
    | inr off ↦ changes.others p off
  ];
}

-- the refill is one slot further
pub goes_up : (old new : ℕ → MemberState) (s have : ℕ) → ArePaired old → HasMemberAt old s have → ChangesAt raised s old new → GoesUp old new s have (have + 1)
goes_up old new s have paired at changes = record {
  q = at.member;
  was = at.refilled;
  left = left_by raised old new s at.member have raised_good paired at.refilled changes;
}

-- and once more
pub goes_both : (a b c : ℕ → MemberState) (s low at high : ℕ) → ArePaired b → GoesUp a b s low at → GoesUp b c s at high → GoesUp a c s low high
goes_both a b c s low at high paired first second =
    let same : second.q ≡ first.q = one_member b s second.q first.q at at paired second.was (first.was.0, first.left.member) in
    record {
      q = first.q;
      was = first.was;
      left = record {
        member = sym (ap c same) ∙ second.left.member;
        others = λ p other. second.left.others p (λ e. other (e ∙ same)) ∙ first.left.others p other;
      };
    }

-- the member that is refilled has all slots, or not yet
pub all_slots : (slots : ℕ) → refilled_to slots slots ≡ Good
all_slots slots = ap (λ (t : Bool). if t then Good else Filling slots) (same_test slots slots refl)

pub not_all_slots : (slots high : ℕ) → high < slots → refilled_to slots high ≡ Filling high
not_all_slots slots high low = ap (λ (t : Bool). if t then Good else Filling high) (apart_test high slots (λ e. absurd (omega (arith, e, low))))

pub left_all : (a b c : ℕ → MemberState) (s low high : ℕ) → ArePaired b → (up : GoesUp a b s low high) → ChangesAt completed s b c → IsLeftAt a c up.q Good
left_all a b c s low high paired up changes =
    let done = left_by completed b c s up.q high completed_good paired (up.was.0, up.left.member) changes in
    record { member = done.member; others = λ p other. done.others p other ∙ up.left.others p other }

-- ---- a refill that is broken off

not_out : (have : ℕ) → Filling have ≡ Out → ⊥
not_out have e = cc e

-- the member that was refilled went out: members fell from what they were before the refill
pub falls_broken : (f g h : ℕ → ℕ) (a b c : ℕ → MemberState) (s low high : ℕ) → ((q : ℕ) → f q ≤ g q) → (up : GoesUp a b s low high) → c up.q ≡ Out
    → MembersFall g h b c → MembersFall f h a c
falls_broken f g h a b c s low high later up out falls p = elim (cases_eq p up.q) [
  | inl same ↦ subst (λ (r : ℕ). (c r ≡ a r) ⊎ HasFallen f h a c r) (sym same) (elim (falls up.q) [
    | inl stays ↦ absurd (not_out high (sym (stays ∙ up.left.member) ∙ out))
    | inr fell ↦ inr (record {
      out = out;
      caused = elim fell.caused [
        | inl rose ↦ inl (rose_before (f up.q) (g up.q) (h up.q) (later up.q) rose)
        | inr partner ↦ inr (ap is_filling up.was.1, partner.1)
      ];
    })
  ])
  | inr other ↦ elim (falls p) [
    | inl stays ↦ inl (stays ∙ up.left.others p other)
    | inr fell ↦ inr (record {
      out = fell.out;
      caused = elim fell.caused [
        | inl rose ↦ inl (rose_before (f p) (g p) (h p) (later p) rose)
        | inr partner ↦ inr (sym (ap is_filling (up.left.others p other)) ∙ partner.0, partner.1)
      ];
    })
  ]
]

-- ---- no member that is refilled

still_none : (m : MemberState) → ((have : ℕ) → m ≡ Filling have → ⊥) → is_filling m ≡ false
still_none Good none = refl
still_none (Filling have) none = absurd (none have refl)
still_none Out none = refl

pub neither_filling : (members : ℕ → MemberState) (s : ℕ) (m n : MemberState) → m ≡ members (2 * s + 0) → n ≡ members (2 * s + 1)
    → ((have : ℕ) → m ≡ Filling have → ⊥) → ((have : ℕ) → n ≡ Filling have → ⊥) → HasNoFilling members s
neither_filling members s m n first second none neither q at = elim (cases_eq q (2 * s + 0)) [
  | inl even ↦ ap (λ (r : ℕ). is_filling (members r)) even ∙ ap is_filling (sym first) ∙ still_none m none
  | inr odd ↦
      let other : q ≡ 2 * s + 1 = omega (arith, at, odd) in
      ap (λ (r : ℕ). is_filling (members r)) other ∙ ap is_filling (sym second) ∙ still_none n neither
]

pub lost_none : (members : ℕ → MemberState) (s : ℕ) → ArePaired members → is_lost members s ≡ true → HasNoFilling members s
lost_none members s paired lost q at = by_state (members q) refl
  where
    by_state : (m : MemberState) → members q ≡ m → is_filling (members q) ≡ false
    by_state Good e = ap is_filling e
    by_state (Filling have) e = absurd (false≢true (sym (filling_stands members s q have paired (at, e)) ∙ lost))
    by_state Out e = ap is_filling e

-- ---- a slot that couldn't be copied

pub unfilled_out : (m : MemberState) → is_filling m ≡ true → unfilled m ≡ Out
unfilled_out Good e = absurd (false≢true e)
unfilled_out (Filling have) e = refl
unfilled_out Out e = absurd (false≢true e)

-- the boundary is lost, so the member that was refilled is out
pub could_lost : (f g : ℕ → ℕ) (old new : ℕ → MemberState) (s : ℕ) → ArePaired new → is_lost new s ≡ true → MembersFall f g old new
    → (q : ℕ) → q / 2 ≡ s → is_filling (old q) ≡ true → new q ≡ Out
could_lost f g old new s paired lost falls q at filling = elim (falls q) [
  | inl same ↦ absurd (false≢true (sym (lost_none new s paired lost q at) ∙ ap is_filling same ∙ filling))
  | inr fell ↦ fell.out
]

pub never_true : (t : Bool) → (t ≡ true → ⊥) → t ≡ false
never_true true never = absurd (never refl)
never_true false never = refl
