-- A copy of a slot from the good member to the one that is being refilled.
use Rattle.std.proofs.Common.{◌≡◌, ◌≢◌, ◌⊎◌, inl, inr, ℕ, ◌+◌, ◌/◌, List, true, false, refl, sym, ◌∙◌, ap, subst, arith}
use Rattle.std.specs.Prelude.{Option, Some, None, IsSome}
use Rattle.std.proofs.lemmas.Bool.Decides.{nat_tests}
use Rattle.dg_model.specs.Members.{is_filling, serves, slot_of, SlotOf, SlotHolds, MembersFall}
use Rattle.dg_model.specs.declared.members.MemberState.{MemberState}
use Rattle.dg_model.specs.declared.members.MemberState.TheVariants.{Good, Filling, Out}
use Rattle.dg_io.specs.Told.{Told, IsSame}
use Rattle.dg_pair.specs.declared.boundaries.CopyAnswer.{CopyAnswer}
use Rattle.dg_pair.specs.declared.boundaries.CopyAnswer.TheVariants.{Copied, Lost as CopyLost, Fell}
use Rattle.dg_pair.specs.declared.boundaries.Boundary.{Boundary}
use Rattle.dg_pair.specs.declared.boundaries.Boundary.TheVariants.{Both, Half, Fill, Lost}
use Rattle.dg_pair.specs.Calls.{copied}
use Rattle.dg_pair.specs.Members.{KeepsSlots}
use Rattle.dg_pair.specs.Boundaries.{members_of, number_of, IsWell, raised, IsFilling}
use Rattle.dg_pair.proofs.SlotLemmas.{told_same}

-- a member that serves a slot other than the copied one served it
serves_moved : (m n : MemberState) (x : ℕ) → ((n ≡ raised m) × (m ≢ Filling x)) ⊎ ((n ≡ m) ⊎ (n ≡ Out)) → serves n x ≡ true → serves m x ≡ true
serves_moved Good n x moved now = refl
serves_moved (Filling have) n x (inl up) now =
    let raised_serves : serves (Filling (have + 1)) x ≡ true = ap (λ (k : MemberState). serves k x) (sym up.0) ∙ now in
    let other : x ≢ have = λ e. up.1 (ap (λ (h : ℕ). Filling h) (sym e)) in
    grind (arith, nat_tests)
serves_moved (Filling have) n x (inr (inl same)) now = ap (λ (k : MemberState). serves k x) (sym same) ∙ now
serves_moved (Filling have) n x (inr (inr out)) now = absurd (let e = ap (λ (k : MemberState). serves k x) out in cc)
serves_moved Out n x (inl up) now = absurd (let e = ap (λ (k : MemberState). serves k x) up.0 in cc)
serves_moved Out n x (inr (inl same)) now = absurd (let e = ap (λ (k : MemberState). serves k x) same in cc)
serves_moved Out n x (inr (inr out)) now = absurd (let e = ap (λ (k : MemberState). serves k x) out in cc)

-- and has there what it had
slot_moved : (m : MemberState) (l x : ℕ) (v : List ℕ) (before now : Option (List ℕ)) → serves m x ≡ true → (is_filling m ≡ false → Told IsSame before now) → ((have : ℕ) → m ≡ Filling have → KeepsSlots l have before now) → SlotOf l x v before → SlotOf l x v now
slot_moved Good l x v before now serving same kept had = told_same (λ all. slot_of l x all ≡ v) before now (same refl) had
slot_moved (Filling have) l x v before now serving same kept had = let other : x ≢ have = grind (arith, nat_tests) in kept have refl x v other had
slot_moved Out l x v before now serving same kept had = told_same (λ all. slot_of l x all ≡ v) before now (same refl) had

pub copy_keeps : (answer : CopyAnswer) (l s x : ℕ) (v : List ℕ) (old new : ℕ → MemberState) (f g : ℕ → ℕ) (before now : ℕ → Option (List ℕ)) → (answer ≡ Copied → (q : ℕ) → new q ≡ raised (old q)) → (answer ≢ Copied → MembersFall f g old new) → ((q : ℕ) → is_filling (old q) ≡ false → Told IsSame (before q) (now q)) → ((q have : ℕ) → IsFilling old have → KeepsSlots l have (before q) (now q)) → (answer ≡ Copied → ¬ IsFilling old x) → SlotHolds l old before s x v → SlotHolds l new now s x v
copy_keeps answer l s x v old new f g before now copied falls same kept other had q mine serving =
    let was = serves_moved (old q) (new q) x (moves answer refl) serving in
    slot_moved (old q) l x v (before q) (now q) was (same q) (λ have is. kept q have (record { member = q; fills = is })) (had q mine was)
  where
    fallen : answer ≢ Copied → ((new q ≡ raised (old q)) × (old q ≢ Filling x)) ⊎ ((new q ≡ old q) ⊎ (new q ≡ Out))
    fallen not_copied = elim (falls not_copied q) [ inl e ↦ inr (inl e) | inr fell ↦ inr (inr fell.out) ]

    moves : (a : CopyAnswer) → answer ≡ a → ((new q ≡ raised (old q)) × (old q ≢ Filling x)) ⊎ ((new q ≡ old q) ⊎ (new q ≡ Out))
    moves Copied e = inl (copied e q, λ is. other e (record { member = q; fills = is }))
    moves CopyLost e = fallen (λ is. cc)
    moves Fell e = fallen (λ is. cc)

-- each member does what is expected of a copy, or has fallen
pub copy_falls : (answer : CopyAnswer) (old new : ℕ → MemberState) (f g : ℕ → ℕ) → (answer ≡ Copied → (q : ℕ) → new q ≡ raised (old q)) → (answer ≢ Copied → MembersFall f g old new) → MembersFall f g (copied answer old) new
copy_falls Copied old new f g up falls = λ q. inl (up refl q)
copy_falls CopyLost old new f g up falls = falls (λ e. cc)
copy_falls Fell old new f g up falls = falls (λ e. cc)

-- beside a member that is being refilled stands a good one
good_beside : (x : Boundary) (have : ℕ) → IsWell x → IsFilling (members_of x) have → (g : ℕ) × (members_of x g ≡ Good) × (g / 2 ≡ number_of x)
good_beside (Fill a b) have well filling = (a.number, grind (arith, nat_tests), refl)
good_beside (Both a b) have well filling = absurd (let fills = filling.fills in grind (arith, nat_tests))
good_beside (Half a b) have well filling = absurd (let fills = filling.fills in grind (arith, nat_tests))
good_beside (Lost a b) have well filling = absurd (let fills = filling.fills in cc)

said : (l slot : ℕ) (u v : List ℕ) (told : Option (List ℕ)) → IsSome told → SlotOf l slot u told → SlotOf l slot v told → u ≡ v
said l slot u v None some one other = absurd (cc some)
said l slot u v (Some all) some one other = sym one ∙ other

-- the copied slot has its value on both, where the good one tells its bytes
pub copy_moves : (old : Boundary) (new : ℕ → MemberState) (l x : ℕ) (u v : List ℕ) (before now : ℕ → Option (List ℕ)) → IsWell old → IsFilling (members_of old) x → ((q : ℕ) → new q ≡ raised (members_of old q)) → ((q : ℕ) → is_filling (members_of old q) ≡ false → Told IsSame (before q) (now q)) → ((q : ℕ) → members_of old q ≢ Out → SlotOf l x u (now q)) → ((q : ℕ) → members_of old q ≡ Good → IsSome (now q)) → SlotHolds l (members_of old) before (number_of old) x v → SlotHolds l new now (number_of old) x v
copy_moves old new l x u v before now well filling up same moved told had q mine serving =
    let good = good_beside old x well filling in
    let still : SlotOf l x v (now good.0) = told_same (λ all. slot_of l x all ≡ v) (before good.0) (now good.0) (same good.0 (ap is_filling good.1)) (had good.0 good.2 (ap (λ (m : MemberState). serves m x) good.1)) in
    let e : u ≡ v = said l x u v (now good.0) (told good.0 good.1) (moved good.0 (λ out. let is = good.1 in cc)) still in
    subst (λ (w : List ℕ). SlotOf l x w (now q)) e (moved q (λ out. let e1 = ap (λ (m : MemberState). serves (raised m) x) out in let e2 = ap (λ (m : MemberState). serves m x) (up q) in cc))
