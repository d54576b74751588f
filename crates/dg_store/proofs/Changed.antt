-- One boundary of a row was called: what holds of its members holds of the row's.
use Rattle.std.proofs.Common.{◌≡◌, ◌≢◌, inl, inr, ℕ, ◌+◌, ◌*◌, ◌/◌, ◌≤◌, Bool, true, List, length, sym, ◌∙◌, ap, arith}
use Rattle.std.specs.Prelude.{IfSome, Option, Some, None, ◌&&◌, not}
use Rattle.std.proofs.lemmas.Bool.{cases_eq, cases_lt}
use Rattle.dg_model.specs.Members.{is_good, is_filling, serves, is_lost, partner_of, SlotOf, SlotHolds, MembersFall, slot_of}
use Rattle.dg_model.specs.declared.members.MemberState.{MemberState}
use Rattle.dg_model.specs.declared.members.MemberState.TheVariants.{Good}
use Rattle.dg_io.specs.Told.{Told, IsSame, IsZeros}
use Rattle.dg_pair.specs.Boundaries.{MembersStand}
use Rattle.dg_model.specs.Saves.{member_length}
use Rattle.dg_model.specs.declared.shapes.Shape.{Shape}
use Rattle.dg_store.specs.Rows.{AreLong}
use Rattle.std.proofs.lemmas.List.{length-replicate}
use Rattle.dg_store.specs.Answers.{IsZeroed}
use Rattle.dg_store.specs.Answers.{AreBlank, AreZeroed}
use Rattle.dg_store.specs.Leaves.{FailedAreOut}

-- the members of boundary s were x's and are y's, and each other is as it was
pub record IsChanged (s : ℕ) (x y old new : ℕ → MemberState) : Type 0 where
  pub was : (q : ℕ) → q / 2 ≡ s → old q ≡ x q
  pub here : (q : ℕ) → q / 2 ≡ s → new q ≡ y q
  pub other : (q : ℕ) → q / 2 ≢ s → new q ≡ old q

-- the bytes of each other boundary are as they were
abbrev pub OtherPairsSame : ℕ → (ℕ → Option (List ℕ)) → (ℕ → Option (List ℕ)) → Type 0
OtherPairsSame s before now = (q : ℕ) → q / 2 ≢ s → Told IsSame (before q) (now q)

pub slot_same : (l slot : ℕ) (v : List ℕ) (before now : Option (List ℕ)) → Told IsSame before now → SlotOf l slot v before → SlotOf l slot v now
slot_same l slot v before None same had = tt
slot_same l slot v None (Some b) same had = absurd same
slot_same l slot v (Some a) (Some b) same had = ap (λ (all : List ℕ). slot_of l slot all) same ∙ had

zeroed_same : (size : ℕ) (before now : Option (List ℕ)) → Told IsSame before now → IsZeroed size before → IsZeroed size now
zeroed_same size before None same zeros = tt
zeroed_same size None (Some b) same zeros = absurd same
zeroed_same size (Some a) (Some b) same zeros = same ∙ zeros

zeroed_now : (size : ℕ) (before now : Option (List ℕ)) → Told (IsZeros size) before now → IsZeroed size now
zeroed_now size before None made = tt
zeroed_now size None (Some b) made = absurd made
zeroed_now size (Some a) (Some b) made = made

long_zeroed : (shape : Shape) (told : Option (List ℕ)) → IsZeroed (member_length 2 shape) told → IfSome told (λ all. member_length 1 shape ≤ length all)
long_zeroed shape None zeros = tt
long_zeroed shape (Some all) zeros = omega (arith, ap length zeros, length-replicate {A = ℕ} (member_length 2 shape) 0)

-- members that were blanked are long enough
pub blank_long : (shape : Shape) (n : ℕ) (f g : ℕ → ℕ) (members : ℕ → MemberState) (bytes : ℕ → Option (List ℕ)) → AreBlank n f g members → AreZeroed (member_length 2 shape) members bytes → AreLong shape members bytes
blank_long shape n f g members bytes blank zeros q serving = elim (cases_lt (q / 2) n) [
  | inl below ↦ elim (blank.begins q below) [
    | inl good ↦ long_zeroed shape (bytes q) (zeros q good)
    | inr failed ↦ absurd (serving failed.0)
  ]
  | inr past ↦ absurd (serving (blank.others q past))
]

module _ (s : ℕ) (x y old new : ℕ → MemberState) (changed : IsChanged s x y old new) where
  pub lost_is : is_lost new s ≡ is_lost y s
  lost_is =
      let low : (2 * s) / 2 ≡ s = omega arith in
      let high : (2 * s + 1) / 2 ≡ s = omega arith in
      let a = changed.here (2 * s) low in
      let b = changed.here (2 * s + 1) high in
      ap (λ (m : MemberState). not (is_good m) && not (is_good (new (2 * s + 1)))) a ∙ ap (λ (m : MemberState). not (is_good (y (2 * s))) && not (is_good m)) b

  pub stand_changed : (before now : ℕ → Bool) → ((q : ℕ) → q / 2 ≢ s → before q ≡ true → now q ≡ true) → MembersStand old before → MembersStand y now → MembersStand new now
  stand_changed before now others stand done q serving = elim (cases_eq (q / 2) s) [
    | inl at ↦ done q (λ out. serving (changed.here q at ∙ out))
    | inr off ↦ others q off (stand q (λ out. serving (changed.other q off ∙ out)))
  ]

  pub falls_changed : (before now : ℕ → ℕ) → MembersFall before now x y → MembersFall before now old new
  falls_changed before now falls q = elim (cases_eq (q / 2) s) [
    | inl at ↦ elim (falls q) [
      | inl same ↦ inl (changed.here q at ∙ same ∙ sym (changed.was q at))
      | inr fallen ↦ inr (record {
        out = changed.here q at ∙ fallen.out;
        caused = elim fallen.caused [
          | inl rose ↦ inl rose
          | inr partner ↦
              let beside : partner_of q / 2 ≡ s = omega arith in
              inr (ap is_filling (changed.was q at) ∙ partner.0, changed.here (partner_of q) beside ∙ partner.1)
        ];
      })
    ]
    | inr off ↦ inl (changed.other q off)
  ]

  -- a boundary was added: a member whose call failed is out, then and before
  pub pushed_fell : (f g h : ℕ → ℕ) → FailedAreOut f g old → FailedAreOut g h y → ((q : ℕ) → s ≤ q / 2 → g q ≡ f q) → ((q : ℕ) → q / 2 ≢ s → h q ≡ g q) → FailedAreOut f h new
  pushed_fell f g h first second early others q rose = elim (cases_eq (q / 2) s) [
    | inl at ↦ changed.here q at ∙ second q (let same = early q (omega (arith, at)) in omega (arith, same, rose))
    | inr off ↦ changed.other q off ∙ first q (let same = others q off in omega (arith, same, rose))
  ]

  -- a member whose call failed is out
  pub fell_changed : (before now : ℕ → ℕ) → ((q : ℕ) → q / 2 ≢ s → now q ≡ before q) → FailedAreOut before now y → FailedAreOut before now new
  fell_changed before now others fell q rose = elim (cases_eq (q / 2) s) [
    | inl at ↦ changed.here q at ∙ fell q rose
    | inr off ↦ absurd (let same = others q off in omega (arith, same, rose))
  ]

  -- what a slot of the row holds, the boundary's own slot holds
  pub holds_part : (l slot : ℕ) (v : List ℕ) (bytes : ℕ → Option (List ℕ)) → SlotHolds l old bytes s slot v → SlotHolds l x bytes s slot v
  holds_part l slot v bytes had q at serving = had q at (ap (λ (m : MemberState). serves m slot) (changed.was q at) ∙ serving)

  pub holds_whole : (l slot : ℕ) (v : List ℕ) (bytes : ℕ → Option (List ℕ)) → SlotHolds l y bytes s slot v → SlotHolds l new bytes s slot v
  holds_whole l slot v bytes had q at serving = had q at (sym (ap (λ (m : MemberState). serves m slot) (changed.here q at)) ∙ serving)

  -- a slot has what it had, if the boundary that was called kept it
  pub kept_changed : (l : ℕ) (before now : ℕ → Option (List ℕ)) → OtherPairsSame s before now → (t slot : ℕ) (v : List ℕ)
      → (t ≡ s → SlotHolds l x before s slot v → SlotHolds l y now s slot v)
      → SlotHolds l old before t slot v → SlotHolds l new now t slot v
  kept_changed l before now same t slot v step had = elim (cases_eq t s) [
    | inl is ↦ λ q at. holds_whole l slot v now (step is (holds_part l slot v before (λ r beside. had r (beside ∙ sym is)))) q (at ∙ is)
    | inr other ↦ λ q at serving.
        let off : q / 2 ≢ s = λ e. other (sym at ∙ e) in
        slot_same l slot v (before q) (now q) (same q off) (had q at (sym (ap (λ (m : MemberState). serves m slot) (changed.other q off)) ∙ serving))
  ]

  -- a boundary was blanked
  pub zeroed_changed : (size : ℕ) (before now : ℕ → Option (List ℕ)) → OtherPairsSame s before now → AreZeroed size old before
      → ((q : ℕ) → y q ≡ Good → Told (IsZeros size) (before q) (now q)) → AreZeroed size new now
  zeroed_changed size before now same zeros made q good = elim (cases_eq (q / 2) s) [
    | inl at ↦ zeroed_now size (before q) (now q) (made q (sym (changed.here q at) ∙ good))
    | inr off ↦ zeroed_same size (before q) (now q) (same q off) (zeros q (sym (changed.other q off) ∙ good))
  ]
