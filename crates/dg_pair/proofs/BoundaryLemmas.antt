-- The words on the members of a boundary, from the same words by cases.
use Rattle.std.proofs.Common.{◌≡◌, ◌≢◌, ◌↔◌, inl, inr, ℕ, ◌/◌, ◌<◌, List, true, false, refl, sym, ◌∙◌, ap, subst, arith}
use Rattle.std.specs.Prelude.{Option, Some, None, IsSome}
use Rattle.std.proofs.lemmas.Bool.{cases_eq}
use Rattle.std.proofs.lemmas.Bool.Decides.{nat_tests}
use Rattle.dg_model.specs.Members.{is_lost, serves, SlotOf, SlotHolds}
use Rattle.dg_model.specs.declared.members.MemberState.{MemberState}
use Rattle.dg_model.specs.declared.members.MemberState.TheVariants.{Good, Out}
use Rattle.dg_pair.specs.declared.boundaries.Boundary.{Boundary}
use Rattle.dg_pair.specs.declared.boundaries.Boundary.TheVariants.{Both, Half, Fill, Lost}
use Rattle.dg_pair.specs.Boundaries.{members_of, number_of, IsWell, goods_in, servers_in}
use Rattle.dg_pair.specs.Cases.{HasNone, ReadsGood, SlotIs, KeepsAll, goods_of, servers_of}

-- a boundary's members are its two
pub own_members : (x : Boundary) → IsWell x → (q : ℕ) → q / 2 ≢ number_of x → members_of x q ≡ Out
own_members (Both a b) well q other = let numbers = well.numbers in grind (arith, nat_tests)
own_members (Half a b) well q other = let numbers = well.numbers in grind (arith, nat_tests)
own_members (Fill a b) well q other = let numbers = well.0.numbers in grind (arith, nat_tests)
own_members (Lost a b) well q other = refl

-- it is lost exactly where it has no good member
none_lost : (x : Boundary) → IsWell x → HasNone x → is_lost (members_of x) (number_of x) ≡ true
none_lost (Both a b) well none = absurd none
none_lost (Half a b) well none = absurd none
none_lost (Fill a b) well none = absurd none
none_lost (Lost a b) well none = refl

lost_none : (x : Boundary) → IsWell x → is_lost (members_of x) (number_of x) ≡ true → HasNone x
lost_none (Both a b) well lost = let numbers = well.numbers in absurd (grind (arith, nat_tests))
lost_none (Half a b) well lost = let numbers = well.numbers in absurd (grind (arith, nat_tests))
lost_none (Fill a b) well lost = let numbers = well.0.numbers in absurd (grind (arith, nat_tests))
lost_none (Lost a b) well lost = tt

pub lost_is : (P : Type 0) (x old : Boundary) → IsWell x → number_of x ≡ number_of old → P ↔ HasNone x → P ↔ (is_lost (members_of x) (number_of old) ≡ true)
lost_is P x old well number when = (
  λ p. subst (λ (n : ℕ). is_lost (members_of x) n ≡ true) number (none_lost x well (when.0 p)),
  λ lost. when.1 (lost_none x well (subst (λ (n : ℕ). is_lost (members_of x) n ≡ true) (sym number) lost)),
)

-- a slot that has these bytes by cases has them on each member that serves it
pub holds_from : (x : Boundary) (l slot : ℕ) (v : List ℕ) (bytes : ℕ → Option (List ℕ)) → SlotIs x l slot v bytes → (q : ℕ) → serves (members_of x q) slot ≡ true → SlotOf l slot v (bytes q)
holds_from (Both a b) l slot v bytes is q serves_it = elim (cases_eq q a.number) [
  | inl e ↦ subst (λ (n : ℕ). SlotOf l slot v (bytes n)) (sym e) is.0
  | inr other ↦ let e : q ≡ b.number = grind (arith, nat_tests) in subst (λ (n : ℕ). SlotOf l slot v (bytes n)) (sym e) is.1
]
holds_from (Half a b) l slot v bytes is q serves_it = let e : q ≡ a.number = grind (arith, nat_tests) in subst (λ (n : ℕ). SlotOf l slot v (bytes n)) (sym e) is
holds_from (Fill a b) l slot v bytes is q serves_it = elim (cases_eq q a.number) [
  | inl e ↦ subst (λ (n : ℕ). SlotOf l slot v (bytes n)) (sym e) is.0
  | inr other ↦
      let e : q ≡ b.number = grind (arith, nat_tests) in
      let below : slot < b.state.have = grind (arith, nat_tests) in
      subst (λ (n : ℕ). SlotOf l slot v (bytes n)) (sym e) (is.1 below)
]
holds_from (Lost a b) l slot v bytes is q serves_it = absurd (grind (arith, nat_tests))

-- and the other way round
pub holds_to : (x : Boundary) (l slot : ℕ) (v : List ℕ) (bytes : ℕ → Option (List ℕ)) → IsWell x → SlotHolds l (members_of x) bytes (number_of x) slot v → SlotIs x l slot v bytes
holds_to (Both a b) l slot v bytes well holds = let numbers = well.numbers in (holds a.number (omega arith) (grind (arith, nat_tests)), holds b.number (omega arith) (grind (arith, nat_tests)))
holds_to (Half a b) l slot v bytes well holds = holds a.number refl (grind (arith, nat_tests))
holds_to (Fill a b) l slot v bytes well holds =
    let numbers = well.0.numbers in
    (holds a.number (omega arith) (grind (arith, nat_tests)), λ below. holds b.number (omega arith) (grind (arith, nat_tests)))
holds_to (Lost a b) l slot v bytes well holds = tt

said : (l slot : ℕ) (u v : List ℕ) (told : Option (List ℕ)) → IsSome told → SlotOf l slot u told → SlotOf l slot v told → u ≡ v
said l slot u v None some one other = absurd (cc some)
said l slot u v (Some all) some one other = sym one ∙ other

-- what was read from a good member that tells its bytes is what the slot has
pub read_is : (x : Boundary) (l slot : ℕ) (u v : List ℕ) (bytes : ℕ → Option (List ℕ)) → ReadsGood x l slot u bytes → SlotIs x l slot v bytes → ((q : ℕ) → members_of x q ≡ Good → IsSome (bytes q)) → u ≡ v
read_is (Both a b) l slot u v bytes (inl reads) is told = said l slot u v (bytes a.number) (told a.number (grind (arith, nat_tests))) reads is.0
read_is (Both a b) l slot u v bytes (inr reads) is told = said l slot u v (bytes b.number) (told b.number (grind (arith, nat_tests))) reads is.1
read_is (Half a b) l slot u v bytes reads is told = said l slot u v (bytes a.number) (told a.number (grind (arith, nat_tests))) reads is
read_is (Fill a b) l slot u v bytes reads is told = said l slot u v (bytes a.number) (told a.number (grind (arith, nat_tests))) reads is.0
read_is (Lost a b) l slot u v bytes reads is told = absurd reads

-- so a slot that is kept by cases is kept on the members
pub holds_moves : (old new : Boundary) (l slot : ℕ) (v : List ℕ) (before now : ℕ → Option (List ℕ)) → IsWell old → (SlotIs old l slot v before → SlotIs new l slot v now) → SlotHolds l (members_of old) before (number_of old) slot v → SlotHolds l (members_of new) now (number_of old) slot v
holds_moves old new l slot v before now well kept holds q mine = holds_from new l slot v now (kept (holds_to old l slot v before well holds)) q

pub read_moves : (old new : Boundary) (l slot : ℕ) (u v : List ℕ) (before now : ℕ → Option (List ℕ)) → IsWell old → KeepsAll l old before new now → ReadsGood new l slot u now → SlotHolds l (members_of old) before (number_of old) slot v → ((q : ℕ) → members_of new q ≡ Good → IsSome (now q)) → u ≡ v
read_moves old new l slot u v before now well kept reads holds told = read_is new l slot u v now reads (kept slot v (holds_to old l slot v before well holds)) told

-- another boundary's member isn't good, and serves no slot
pub off_good : (x : Boundary) → IsWell x → (q : ℕ) → q / 2 ≢ number_of x → members_of x q ≢ Good
off_good x well q other good = let out = own_members x well q other in cc

pub off_slot : (x : Boundary) → IsWell x → (q slot : ℕ) → q / 2 ≢ number_of x → serves (members_of x q) slot ≡ false
off_slot x well q slot other = ap (λ (m : MemberState). serves m slot) (own_members x well q other)

-- how many members are good, or serve a slot
pub goods_are : (x : Boundary) → IsWell x → goods_of x ≡ goods_in (members_of x) (number_of x)
goods_are (Both a b) well = let numbers = well.numbers in grind (arith, nat_tests)
goods_are (Half a b) well = let numbers = well.numbers in grind (arith, nat_tests)
goods_are (Fill a b) well = let numbers = well.0.numbers in grind (arith, nat_tests)
goods_are (Lost a b) well = refl

pub same_goods : (new old : Boundary) → IsWell new → IsWell old → number_of new ≡ number_of old → goods_in (members_of new) (number_of old) ≡ goods_in (members_of old) (number_of old) → goods_of new ≡ goods_of old
same_goods new old well was number same = goods_are new well ∙ ap (goods_in (members_of new)) number ∙ same ∙ sym (goods_are old was)

pub servers_are : (x : Boundary) (slot : ℕ) → IsWell x → servers_of x slot ≡ servers_in (members_of x) (number_of x) slot
servers_are (Both a b) slot well = let numbers = well.numbers in grind (arith, nat_tests)
servers_are (Half a b) slot well = let numbers = well.numbers in grind (arith, nat_tests)
servers_are (Fill a b) slot well = let numbers = well.0.numbers in grind (arith, nat_tests)
servers_are (Lost a b) slot well = refl
