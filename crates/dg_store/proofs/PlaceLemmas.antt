-- Lists of sites, and what reads and writes of them leave.
use Rattle.std.proofs.Common.{◌≡◌, ◌≢◌, ◌⊎◌, inl, inr, ℕ, zero, suc, ◌+◌, ◌*◌, ◌/◌, ◌≤◌, ◌<◌, true, false, Bool, List, [], ◌∷◌, length, take, refl, sym, ◌∙◌, ap, subst, arith, get_or}
use Rattle.std.specs.Prelude.{IsSome, Option, ◌&&◌, not}
use Rattle.std.specs.List.{All, Contains}
use Rattle.std.proofs.lemmas.Bool.{and_parts, and_from, cases_eq}
use Rattle.std.proofs.lemmas.List.{take_all}
use Rattle.std.proofs.lemmas.List.Elements.{All-head, All-tail, All-more, All-weaker, All-contains, Contains-append_cases, Contains-append_right}
use Rattle.dg_model.specs.Members.{serves, is_good, is_lost, SlotHolds}
use Rattle.dg_model.specs.Sites.{all_lost}
use Rattle.dg_io.specs.Told.{StillTold}
use Rattle.dg_model.specs.declared.sites.Site.{Site}
use Rattle.dg_model.specs.declared.members.MemberState.{MemberState}
use Rattle.dg_model.specs.declared.members.MemberState.TheVariants.{Good, Out}
use Rattle.dg_store.specs.Slots.{KeepsSlots, KeepsOtherSlots, KeepsSlotsBut, LostAreOut, SitesHold, SitesTell}

-- ---- sites on lost boundaries

-- what a read of a site takes past the end of a list
abbrev pub no_site : Site
no_site = record { boundary = 0; slot = 0 }

abbrev pub IsLostSite : (ℕ → MemberState) → Site → Type 0
IsLostSite members site = is_lost members site.boundary ≡ true

-- a site with these bytes
abbrev pub IsHeld : ℕ → (ℕ → MemberState) → (ℕ → Option (List ℕ)) → List ℕ → Site → Type 0
IsHeld l members bytes v site = SlotHolds l members bytes site.boundary site.slot v

-- where the site is on a lost boundary, both its members are out
abbrev pub IsOutWhereLost : (ℕ → MemberState) → Site → Type 0
IsOutWhereLost members site = is_lost members site.boundary ≡ true → (q : ℕ) → q / 2 ≡ site.boundary → members q ≡ Out

pub lost_from_all : (members : ℕ → MemberState) (sites : List Site) → All (IsLostSite members) sites → all_lost members sites ≡ true
lost_from_all members [] all = refl
lost_from_all members (site ∷ sites) all =
    and_from (is_lost members site.boundary) (all_lost members sites) (All-head (IsLostSite members) site sites all) (lost_from_all members sites (All-tail (IsLostSite members) site sites all))

pub lost_at_each : (members : ℕ → MemberState) (sites : List Site) → all_lost members sites ≡ true → All (IsLostSite members) sites
lost_at_each members [] lost k d below = absurd (omega arith)
lost_at_each members (site ∷ sites) lost zero d below = (and_parts (is_lost members site.boundary) (all_lost members sites) lost).0
lost_at_each members (site ∷ sites) lost (suc k) d below = lost_at_each members sites (and_parts (is_lost members site.boundary) (all_lost members sites) lost).1 k d (omega arith)

-- a boundary whose members are as they were
pub lost_same : (old new : ℕ → MemberState) (s : ℕ) → ((q : ℕ) → q / 2 ≡ s → new q ≡ old q) → is_lost new s ≡ is_lost old s
lost_same old new s same =
    let low : (2 * s) / 2 ≡ s = omega arith in
    let high : (2 * s + 1) / 2 ≡ s = omega arith in
    ap (λ (m : MemberState). not (is_good m) && not (is_good (new (2 * s + 1)))) (same (2 * s) low) ∙ ap (λ (m : MemberState). not (is_good (old (2 * s))) && not (is_good m)) (same (2 * s + 1) high)

-- ---- whether a slot is one of the sites

pub site_is : (site : Site) (s slot : ℕ) → site.boundary ≡ s → site.slot ≡ slot → site ≡ record { boundary = s; slot = slot }
site_is site s slot at in_slot =
    let f : ℕ → ℕ → Site = λ t x. record { boundary = t; slot = x } in
    ap (λ (t : ℕ). f t site.slot) at ∙ ap (λ (x : ℕ). f s x) in_slot

first_is : (site : Site) (s slot : ℕ) → Contains (site ∷ []) (record { boundary = s; slot = slot }) → (s ≡ site.boundary) × (slot ≡ site.slot)
first_is site s slot (zero, below, is) = (ap (λ (x : Site). x.boundary) (sym is), ap (λ (x : Site). x.slot) (sym is))
first_is site s slot (suc k, below, is) = absurd (omega arith)

pub contains_or : (sites : List Site) (s slot : ℕ) → Contains sites (record { boundary = s; slot = slot }) ⊎ (¬ Contains sites (record { boundary = s; slot = slot }))
contains_or [] s slot = inr (λ c. absurd (let below = c.1 in omega arith))
contains_or (site ∷ sites) s slot = elim (contains_or sites s slot) [
  | inl in_rest ↦ inl (Contains-append_right (site ∷ []) sites _ in_rest)
  | inr off ↦ elim (cases_eq site.boundary s) [
    | inl at ↦ elim (cases_eq site.slot slot) [
      | inl same ↦ inl (0, omega arith, site_is site s slot at same)
      | inr other ↦ inr (λ c. elim (Contains-append_cases (site ∷ []) sites _ c) [
        | inl first ↦ other (sym (first_is site s slot first).1)
        | inr rest ↦ off rest
      ])
    ]
    | inr other ↦ inr (λ c. elim (Contains-append_cases (site ∷ []) sites _ c) [
      | inl first ↦ other (sym (first_is site s slot first).0)
      | inr rest ↦ off rest
    ])
  ]
]

-- ---- writes

-- a boundary holds anything, where none of its members serves
pub lost_holds : (l s slot : ℕ) (members : ℕ → MemberState) (bytes : ℕ → Option (List ℕ)) (v : List ℕ) → ((q : ℕ) → q / 2 ≡ s → members q ≡ Out) → SlotHolds l members bytes s slot v
lost_holds l s slot members bytes v out q at serving = absurd (let e = ap (λ (m : MemberState). serves m slot) (out q at) in cc (sym e ∙ serving))

module _ (l : ℕ) (old new : ℕ → MemberState) (before now : ℕ → Option (List ℕ)) where
  -- one slot was written: each slot that had the same bytes has them
  pub keep_or_put : (s at : ℕ) (v : List ℕ) → KeepsOtherSlots l s at old before new now → SlotHolds l new now s at v
      → (t slot : ℕ) → SlotHolds l old before t slot v → SlotHolds l new now t slot v
  keep_or_put s at v kept put t slot had = elim (cases_eq t s) [
    | inl here ↦ elim (cases_eq slot at) [
      | inl same ↦ subst (λ (x : ℕ). SlotHolds l new now x slot v) (sym here) (subst (λ (x : ℕ). SlotHolds l new now s x v) (sym same) put)
      | inr other ↦ kept t slot v (λ is. other) had
    ]
    | inr other ↦ kept t slot v (λ is. absurd (other is)) had
  ]

  -- a write of one slot, which is one of the sites
  pub but_these : (sites : List Site) (s at : ℕ) → Contains sites (record { boundary = s; slot = at }) → KeepsOtherSlots l s at old before new now → KeepsSlotsBut l sites old before new now
  but_these sites s at in_sites kept t slot v off had =
      kept t slot v (λ here same. off (subst (λ (x : ℕ). Contains sites (record { boundary = x; slot = slot })) (sym here) (subst (λ (x : ℕ). Contains sites (record { boundary = s; slot = x })) (sym same) in_sites))) had

  -- a write of sites none of which is served
  pub all_kept : (sites : List Site) → LostAreOut new sites → all_lost new sites ≡ true → KeepsSlotsBut l sites old before new now → KeepsSlots l old before new now
  all_kept sites out lost kept t slot v had = elim (contains_or sites t slot) [
    | inl in_sites ↦ lost_holds l t slot new now v (All-contains (IsOutWhereLost new) sites _ out in_sites (All-contains (IsLostSite new) sites _ (lost_at_each new sites lost) in_sites))
    | inr off ↦ kept t slot v off had
  ]

  -- a write of one slot that isn't served
  pub slot_kept : (s at : ℕ) → ((q : ℕ) → q / 2 ≡ s → new q ≡ Out) → KeepsOtherSlots l s at old before new now → KeepsSlots l old before new now
  slot_kept s at out kept t slot v had = elim (cases_eq t s) [
    | inl here ↦ lost_holds l t slot new now v (λ q is. out q (is ∙ here))
    | inr other ↦ kept t slot v (λ is. absurd (other is)) had
  ]

-- further calls
pub kept_both : (l : ℕ) (a b c : ℕ → MemberState) (x y z : ℕ → Option (List ℕ)) → KeepsSlots l a x b y → KeepsSlots l b y c z → KeepsSlots l a x c z
kept_both l a b c x y z first second t slot v had = second t slot v (first t slot v had)

pub found_false : (x : Bool) → (x ≡ true → ⊥) → x ≡ false
found_false x never = elim x as (λ (y : Bool). (y ≡ true → ⊥) → y ≡ false) [ true ↦ λ contra. absurd (contra refl) | false ↦ λ contra. refl ] never

-- the lost sites up to one, and that one
pub lost_more : (old new : ℕ → MemberState) (sites : List Site) (i : ℕ) (d : Site) → ((s : ℕ) → is_lost old s ≡ true → is_lost new s ≡ true) → i < length sites
    → All (IsLostSite old) (take i sites) → is_lost new (get_or sites i d).boundary ≡ true → All (IsLostSite new) (take (i + 1) sites)
lost_more old new sites i d stays within lost here =
    All-more (IsLostSite new) sites i d within (All-weaker (IsLostSite old) (IsLostSite new) (λ site was. stays site.boundary was) (take i sites) lost) here

pub lost_whole : (members : ℕ → MemberState) (sites : List Site) (i : ℕ) → length sites ≤ i → All (IsLostSite members) (take i sites) → all_lost members sites ≡ true
lost_whole members sites i past lost = lost_from_all members sites (subst (λ (xs : List Site). All (IsLostSite members) xs) (take_all i sites past) lost)

-- some site's boundary isn't lost
pub one_stands : (members : ℕ → MemberState) (sites : List Site) (i : ℕ) (d : Site) → i < length sites → (is_lost members (get_or sites i d).boundary ≡ true → ⊥) → all_lost members sites ≡ false
one_stands members sites i d within stands = found_false (all_lost members sites) (λ lost. stands (lost_at_each members sites lost i d within))

-- writes of the sites up to one, and that one
pub put_more : (l : ℕ) (old new : ℕ → MemberState) (before now : ℕ → Option (List ℕ)) (sites : List Site) (i : ℕ) (d : Site) (v : List ℕ) → i < length sites
    → KeepsOtherSlots l (get_or sites i d).boundary (get_or sites i d).slot old before new now
    → SlotHolds l new now (get_or sites i d).boundary (get_or sites i d).slot v
    → SitesHold l old before v (take i sites) → SitesHold l new now v (take (i + 1) sites)
put_more l old new before now sites i d v within kept put held =
    All-more (IsHeld l new now v) sites i d within
    (All-weaker (IsHeld l old before v) (IsHeld l new now v) (λ site had. keep_or_put l old new before now (get_or sites i d).boundary (get_or sites i d).slot v kept put site.boundary site.slot had) (take i sites) held)
    put

pub out_more : (old new : ℕ → MemberState) (sites : List Site) (i : ℕ) (d : Site) → i < length sites
    → ((q : ℕ) → q / 2 ≢ (get_or sites i d).boundary → new q ≡ old q)
    → (is_lost new (get_or sites i d).boundary ≡ true → (q : ℕ) → q / 2 ≡ (get_or sites i d).boundary → new q ≡ Out)
    → LostAreOut old (take i sites) → LostAreOut new (take (i + 1) sites)
out_more old new sites i d within others here out =
    let s = (get_or sites i d).boundary in
    All-more (IsOutWhereLost new) sites i d within
    (All-weaker (IsOutWhereLost old) (IsOutWhereLost new) (λ site was. elim (cases_eq site.boundary s) [
      | inl same ↦ λ lost q at. here (ap (λ (t : ℕ). is_lost new t) (sym same) ∙ lost) q (at ∙ same)
      | inr other ↦ λ lost q at. others q (λ is. other (sym at ∙ is)) ∙ was (sym (lost_same old new site.boundary (λ r beside. others r (λ is. other (sym beside ∙ is)))) ∙ lost) q at
    ]) (take i sites) out)
    here

pub but_both : (l : ℕ) (sites : List Site) (a b c : ℕ → MemberState) (x y z : ℕ → Option (List ℕ)) → KeepsSlotsBut l sites a x b y → KeepsSlotsBut l sites b y c z → KeepsSlotsBut l sites a x c z
but_both l sites a b c x y z first second t slot v off had = second t slot v off (first t slot v off had)

-- a boundary on which there is none of the sites was called
pub lost_alike : (old new : ℕ → MemberState) (s : ℕ) (sites : List Site) → ((q : ℕ) → q / 2 ≢ s → new q ≡ old q) → All (λ (site : Site). site.boundary ≢ s) sites → all_lost new sites ≡ all_lost old sites
lost_alike old new s [] same off = refl
lost_alike old new s (site ∷ sites) same off =
    let first : site.boundary ≢ s = All-head (λ (x : Site). x.boundary ≢ s) site sites off in
    let here = lost_same old new site.boundary (λ q at. same q (λ is. first (sym at ∙ is))) in
    ap (λ (b : Bool). b && all_lost new sites) here
    ∙ ap (λ (b : Bool). is_lost old site.boundary && b) (lost_alike old new s sites same (All-tail (λ (x : Site). x.boundary ≢ s) site sites off))

-- where each good member tells its bytes, those of any sites do
pub sites_tell : (members : ℕ → MemberState) (bytes : ℕ → Option (List ℕ)) (sites : List Site) → ((q : ℕ) → members q ≡ Good → IsSome (bytes q)) → SitesTell members bytes sites
sites_tell members bytes sites told k d within q at good = told q good

-- before a call on a boundary on which none of the sites is
pub tell_before : (old new : ℕ → MemberState) (before now : ℕ → Option (List ℕ)) (s : ℕ) (sites : List Site) → ((q : ℕ) → q / 2 ≢ s → new q ≡ old q) → StillTold before now
    → All (λ (site : Site). site.boundary ≢ s) sites → ((q : ℕ) → new q ≡ Good → IsSome (now q)) → SitesTell old before sites
tell_before old new before now s sites same still off told k d within q at good =
    still q (told q (same q (λ here. off k d within (sym at ∙ here)) ∙ good))

-- one site alone

pub lost_one : (members : ℕ → MemberState) (site : Site) → is_lost members site.boundary ≡ true → all_lost members (site ∷ []) ≡ true
lost_one members site lost = and_from (is_lost members site.boundary) true lost refl

pub one_live : (members : ℕ → MemberState) (site : Site) → (is_lost members site.boundary ≡ true → ⊥) → all_lost members (site ∷ []) ≡ false
one_live members site live = found_false (all_lost members (site ∷ [])) (λ lost. live (and_parts (is_lost members site.boundary) true lost).0)
