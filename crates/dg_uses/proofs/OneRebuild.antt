-- Refills, and what is told of a block: from one state, where no count of faults rises, each has one reply, and leads to one state but for its counts
-- and its label.
use Rattle.std.proofs.Common.{◌≡◌, ◌≢◌, ◌∙◌, ◌⊎◌, ◌==◌, ◌&&◌, ◌+◌, ◌*◌, ℕ, Bool, true, false, not, List, Option, refl, sym, ap, subst, inl, inr, arith}
use Rattle.std.specs.Prelude.{if◌then◌else◌}
use Rattle.std.proofs.lemmas.Bool.{cases_Bool, cases_eq, false≢true}
use Rattle.dg_model.specs.Causes.{NoneRose}
use Rattle.dg_model.specs.Changes.{BreaksOff, Rebuilds, refilled_to}
use Rattle.dg_model.specs.Lives.{place_in}
use Rattle.dg_model.specs.Marks.{IsDead}
use Rattle.dg_model.specs.Members.{IsRefilled, is_filling, is_good, is_lost, partner_of}
use Rattle.dg_model.specs.Refills.{Refills}
use Rattle.dg_model.specs.Seals.{LastLabel}
use Rattle.dg_model.specs.States.{Counts, State, has_lost}
use Rattle.dg_model.specs.Steps.{Step}
use Rattle.dg_model.specs.Tables.{Table}
use Rattle.dg_model.specs.declared.events.Event.TheVariants.{Rebuild, Who}
use Rattle.dg_model.specs.declared.members.MemberState.{MemberState}
use Rattle.dg_model.specs.declared.members.MemberState.TheVariants.{Good, Filling, Out}
use Rattle.dg_model.specs.declared.phases.Phase.{Phase}
use Rattle.dg_model.specs.declared.phases.Phase.TheVariants.{Loose, Settled, Worn}
use Rattle.dg_model.specs.declared.replies.Reply.{Reply}
use Rattle.dg_model.specs.declared.replies.Reply.TheVariants.{Range, Lost, NotFilling, Failed, Copied, Unavailable, Verdict}
use Rattle.dg_model.specs.declared.shapes.Shape.{Shape}
use Rattle.dg_model.proofs.MemberLaws.{none_lost, whole_from}
use Rattle.dg_promise.specs.Promises.{AreTold}
use Rattle.dg_uses.proofs.OneRefill.{Reaped, one_refill}
use Rattle.dg_uses.proofs.OneStep.{AreOne, IsFit}
use Rattle.dg_uses.proofs.OneVerdict.{verdict_same}
use Rattle.dg_uses.proofs.OneView.{both}
use Rattle.dg_uses.proofs.Seen.{Seen, members_stay, others_stay, seen_of, state_of}

good_fills : (m : MemberState) → is_filling m ≡ true → is_good m ≡ false
good_fills Good h = absurd (false≢true h)
good_fills (Filling have) h = refl
good_fills Out h = refl

-- ---- the member that is refilled

no_good : (one other : Bool) → (one ≡ true) ⊎ (other ≡ true) → (not one && not other) ≡ true → ⊥
no_good true other some lost = false≢true lost
no_good false true some lost = false≢true lost
no_good false false (inl h) lost = false≢true h
no_good false false (inr h) lost = false≢true h

module _ (c : Seen) (ok : IsFit c) where
  -- a boundary has one at most
  one_filling : (p q r low high : ℕ) → IsRefilled c.members p q low → IsRefilled c.members p r high → q ≡ r
  one_filling p q r low high one other = elim (cases_eq q r) [
    | inl same ↦ same
    | inr apart ↦
        let partner : partner_of q ≡ r = omega (arith, apart, one.0, other.0) in
        let good = ok.paired q (ap is_filling one.1) in
        absurd (both (is_good (c.members (partner_of q))) good (good_fills (c.members (partner_of q)) (ap (λ (z : ℕ). is_filling (c.members z)) partner ∙ ap is_filling other.1)))
  ]

  filled_same : (p q low high : ℕ) → IsRefilled c.members p q low → IsRefilled c.members p q high → low ≡ high
  filled_same p q low high one other = inside (sym one.1 ∙ other.1)
    where
      inside : Filling low ≡ Filling high → low ≡ high
      inside e = cc

  -- its boundary isn't lost
  refilled_stands : (p q low : ℕ) → IsRefilled c.members p q low → is_lost c.members p ≡ true → ⊥
  refilled_stands p q low is lost =
      let good = ok.paired q (ap is_filling is.1) in
      elim (cases_eq (partner_of q) (2 * p)) [
        | inl first ↦ no_good (is_good (c.members (2 * p))) (is_good (c.members (2 * p + 1))) (inl (ap (λ (z : ℕ). is_good (c.members z)) (sym first) ∙ good)) lost
        | inr other ↦
            let second : partner_of q ≡ 2 * p + 1 = omega (arith, other, is.0) in
            no_good (is_good (c.members (2 * p))) (is_good (c.members (2 * p + 1))) (inr (ap (λ (z : ℕ). is_good (c.members z)) (sym second) ∙ good)) lost
      ]

phase_apart : Loose ≡ Worn → ⊥
phase_apart e = cc

settled_apart : Settled ≡ Worn → ⊥
settled_apart e = cc

-- whether an array is worn is decided
worn_or : (phase : Phase) → (phase ≡ Worn) ⊎ (phase ≡ Worn → ⊥)
worn_or Loose = inr (λ e. phase_apart e)
worn_or Settled = inr (λ e. settled_apart e)
worn_or Worn = inl refl

-- nothing may be reaped
abbrev Spares : Seen → Type 0
Spares c = (has_lost c.table.shape c.members ≡ true) ⊎ (c.phase ≡ Worn)

-- what is seen once a member was refilled up to a slot
abbrev refilled_by : Seen → Table → List (List ℕ) → (ℕ → MemberState) → Seen
refilled_by c table blocks members = record c { table = table; blocks = blocks; members = members }

module _ (c : Seen) (ok : IsFit c) (l : Option LastLabel) (n : Counts) (x : State) (none : NoneRose n.faults x.counts.faults) where
  module _ (p limit d left : ℕ) (h : Rebuilds AreTold (state_of c l n) p limit d left x) where
    not_out : refilled_to (c.table.shape.k + 1) h.high ≢ Out
    not_out e = by (h.high == c.table.shape.k + 1) e
      where
        by : (whole : Bool) → (if whole then Good else Filling h.high) ≡ Out → ⊥
        by true e = cc
        by false e = cc

    others : (q : ℕ) → q ≢ h.q → x.members q ≡ c.members q
    others q apart = others_stay n.faults x.counts.faults c.members x.members none ok.paired h.q (λ (e : x.members h.q ≡ Out). not_out (sym h.member ∙ e)) h.others q apart

    stays_good : (q : ℕ) → is_good (c.members q) ≡ true → is_good (x.members q) ≡ true
    stays_good q good = elim (cases_eq q h.q) [
      | inl here ↦ absurd (both (is_good (c.members q)) good (good_fills (c.members q) (ap (λ (z : ℕ). is_filling (c.members z)) here ∙ ap is_filling h.filling.1)))
      | inr apart ↦ ap is_good (others q apart) ∙ good
    ]

    stays_whole : has_lost c.table.shape c.members ≡ false → has_lost x.table.shape x.members ≡ false
    stays_whole whole =
        subst (λ (t : Shape). has_lost t x.members ≡ false) (sym h.slots.reaps.shape)
        (whole_from c.table.shape x.members (λ s low. not_lost s (none_lost c.table.shape c.members s whole low)))
      where
        by : (a b e f : Bool) → (a ≡ true → e ≡ true) → (b ≡ true → f ≡ true) → (not a && not b) ≡ false → (not e && not f) ≡ false
        by a b true f first second is = refl
        by a b false true first second is = refl
        by true b false false first second is = absurd (false≢true (first refl))
        by false true false false first second is = absurd (false≢true (second refl))
        by false false false false first second is = absurd (false≢true (sym is))

        not_lost : (s : ℕ) → is_lost c.members s ≡ false → is_lost x.members s ≡ false
        not_lost s is = by (is_good (c.members (2 * s))) (is_good (c.members (2 * s + 1))) (is_good (x.members (2 * s))) (is_good (x.members (2 * s + 1)))
            (stays_good (2 * s)) (stays_good (2 * s + 1)) is

    whole_then : (Spares c → ⊥) → has_lost x.table.shape x.members ≡ false
    whole_then not = stays_whole (elim (cases_Bool (has_lost c.table.shape c.members)) [ inl lost ↦ absurd (not (inl lost)) | inr whole ↦ whole ])

    rebuilt : Reaped (Spares c) (IsDead c.table c.blocks c.pending) c.table c.blocks p h.low h.high x.table x.blocks
    rebuilt = record {
      reaped = h.slots.reaped;
      reaps = h.slots.reaps;
      none = λ spares. h.slots.may.none spares;
      dead_are = λ b reap. h.slots.may.dead tt b reap;
      all = λ not b dead there. h.slots.may.all tt (λ spares. not spares) (whole_then not) b dead there;
      kept = λ not b there dead. h.slots.kept tt (λ spares. not spares) (whole_then not) b there dead;
    }

    rebuilt_seen : seen_of x ≡ refilled_by c x.table x.blocks x.members
    rebuilt_seen = ap seen_of h.slots.rest

  broken_off : (p : ℕ) → BreaksOff AreTold (state_of c l n) p x → (seen_of x ≡ refilled_by c x.table x.blocks c.members)
  broken_off p h = ap seen_of h.slots.rest
      ∙ ap (λ (f : ℕ → MemberState). refilled_by c x.table x.blocks f) (λ i q. members_stay n.faults x.counts.faults c.members x.members none ok.paired h.members q i)

  -- no boundary is lost by a refill that was broken off
  not_lost_by : (s : ℕ) → BreaksOff AreTold (state_of c l n) (place_in c.live s) x → (is_lost c.members (place_in c.live s) ≡ true → ⊥) → is_lost x.members (place_in x.live s) ≡ true → ⊥
  not_lost_by s h stood lost = stood (subst (λ (d : Seen). is_lost d.members (place_in d.live s) ≡ true) (broken_off (place_in c.live s) h) lost)

module _ (c : Seen) (ok : IsFit c) (l k : Option LastLabel) (n m : Counts) (x y : State) (none : NoneRose n.faults x.counts.faults) (never : NoneRose m.faults y.counts.faults) where
  rebuilt_one : (p limit a b i j : ℕ) → Rebuilds AreTold (state_of c l n) p limit a b x → Rebuilds AreTold (state_of c k m) p limit i j y → (Copied a b ≡ Copied i j) × (seen_of x ≡ seen_of y)
  rebuilt_one p limit a b i j h g =
      let member : g.q ≡ h.q = one_filling c ok p g.q h.q g.low h.low g.filling h.filling in
      let low : g.low ≡ h.low = filled_same c ok p h.q g.low h.low (subst (λ (z : ℕ). IsRefilled c.members p z g.low) member g.filling) h.filling in
      let dead : ℕ → Type 0 = IsDead c.table c.blocks c.pending in
      let one = one_refill (Spares c) dead c.table c.blocks p h.low limit h.high g.high x.table y.table x.blocks y.blocks a i b j (rebuilt c ok l n x none p limit a b h)
      (subst (λ (z : ℕ). Reaped (Spares c) dead c.table c.blocks p z g.high y.table y.blocks) low (rebuilt c ok k m y never p limit i j g))
      h.refills (subst (λ (z : ℕ). Refills y.table p z g.high limit i j) low g.refills) in
      let members : (q : ℕ) → x.members q ≡ y.members q = λ q. elim (cases_eq q h.q) [
        | inl here ↦ ap x.members here ∙ h.member ∙ ap (refilled_to (c.table.shape.k + 1)) one.end ∙ sym g.member ∙ ap y.members (member ∙ sym here)
        | inr apart ↦ others c ok l n x none p limit a b h q apart ∙ sym (others c ok k m y never p limit i j g q (λ (e : q ≡ g.q). apart (e ∙ member)))
      ] in (
        ap (λ (z : ℕ). Copied z b) one.copied ∙ ap (Copied i) one.rest,
        rebuilt_seen c ok l n x none p limit a b h
            ∙ ap (λ (t : Table). refilled_by c t x.blocks x.members) one.table ∙ ap (λ (v : List (List ℕ)). refilled_by c y.table v x.members) one.volume
            ∙ ap (refilled_by c y.table y.blocks) (λ i q. members q i) ∙ sym (rebuilt_seen c ok k m y never p limit i j g),
      )

  pub rebuild_one : (s limit : ℕ) (r q : Reply) → Step AreTold (state_of c l n) (Rebuild s limit) r x → Step AreTold (state_of c k m) (Rebuild s limit) q y → AreOne r q x y
  rebuild_one s limit Failed q h g = absurd (none h.2.q h.2.rose)
  rebuild_one s limit r Failed h g = absurd (never g.2.q g.2.rose)
  rebuild_one s limit Range Range h g = (refl, ap seen_of h.1 ∙ sym (ap seen_of g.1))
  rebuild_one s limit Range (Lost u) h g = absurd (h.0 g.0)
  rebuild_one s limit Range NotFilling h g = absurd (h.0 g.0)
  rebuild_one s limit Range (Copied i j) h g = absurd (h.0 g.0)
  rebuild_one s limit Range q h g = absurd g
  rebuild_one s limit (Lost t) Range h g = absurd (g.0 h.0)
  rebuild_one s limit (Lost t) (Lost u) h g = elim h.2 [
    | inr now ↦ absurd (not_lost_by c ok l n x none s now.2 now.0 now.1)
    | inl was ↦ elim g.2 [
      | inr now ↦ absurd (not_lost_by c ok k m y never s now.2 now.0 now.1)
      | inl too ↦ (ap Lost (h.1 ∙ sym g.1), ap seen_of was.1 ∙ sym (ap seen_of too.1))
    ]
  ]
  rebuild_one s limit (Lost t) NotFilling h g = elim h.2 [
    | inr now ↦ absurd (not_lost_by c ok l n x none s now.2 now.0 now.1)
    | inl was ↦ absurd (g.1 was.0)
  ]
  rebuild_one s limit (Lost t) (Copied i j) h g = elim h.2 [
    | inr now ↦ absurd (not_lost_by c ok l n x none s now.2 now.0 now.1)
    | inl was ↦ absurd (refilled_stands c ok (place_in c.live s) g.2.q g.2.low g.2.filling was.0)
  ]
  rebuild_one s limit (Lost t) q h g = absurd g
  rebuild_one s limit NotFilling Range h g = absurd (g.0 h.0)
  rebuild_one s limit NotFilling (Lost u) h g = elim g.2 [
    | inr now ↦ absurd (not_lost_by c ok k m y never s now.2 now.0 now.1)
    | inl was ↦ absurd (h.1 was.0)
  ]
  rebuild_one s limit NotFilling NotFilling h g = (refl, ap seen_of h.3 ∙ sym (ap seen_of g.3))
  rebuild_one s limit NotFilling (Copied i j) h g = absurd (false≢true (sym (h.2 g.2.q g.2.filling.0) ∙ ap is_filling g.2.filling.1))
  rebuild_one s limit NotFilling q h g = absurd g
  rebuild_one s limit (Copied a b) Range h g = absurd (g.0 h.0)
  rebuild_one s limit (Copied a b) (Lost u) h g = elim g.2 [
    | inr now ↦ absurd (not_lost_by c ok k m y never s now.2 now.0 now.1)
    | inl was ↦ absurd (refilled_stands c ok (place_in c.live s) h.2.q h.2.low h.2.filling was.0)
  ]
  rebuild_one s limit (Copied a b) NotFilling h g = absurd (false≢true (sym (g.2 h.2.q h.2.filling.0) ∙ ap is_filling h.2.filling.1))
  rebuild_one s limit (Copied a b) (Copied i j) h g = rebuilt_one (place_in c.live s) limit a b i j h.2 g.2
  rebuild_one s limit (Copied a b) q h g = absurd g
  rebuild_one s limit r q h g = absurd h

  pub who_one : (b : ℕ) (r q : Reply) → Step AreTold (state_of c l n) (Who b) r x → Step AreTold (state_of c k m) (Who b) q y → AreOne r q x y
  who_one b Range Range h g = (refl, ap seen_of h.1 ∙ sym (ap seen_of g.1))
  who_one b Range Unavailable h g = absurd (omega (arith, h.0, g.0))
  who_one b Range (Verdict other) h g = absurd (omega (arith, h.0, g.0))
  who_one b Range q h g = absurd g
  who_one b Unavailable Range h g = absurd (omega (arith, h.0, g.0))
  who_one b Unavailable Unavailable h g = (refl, ap seen_of h.2 ∙ sym (ap seen_of g.2))
  who_one b Unavailable (Verdict other) h g = absurd (g.1 h.1)
  who_one b Unavailable q h g = absurd g
  who_one b (Verdict one) Range h g = absurd (omega (arith, h.0, g.0))
  who_one b (Verdict one) Unavailable h g = absurd (h.1 g.1)
  who_one b (Verdict one) (Verdict other) h g = (ap Verdict (verdict_same c.table c.blocks c.pending b one other (h.2 tt) (g.2 tt)), ap seen_of h.3 ∙ sym (ap seen_of g.3))
  who_one b (Verdict one) q h g = absurd g
  who_one b r q h g = absurd h
