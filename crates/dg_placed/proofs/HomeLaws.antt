-- Homes that ascend, and a search in them.
use Rattle.std.proofs.Common.{◌≡◌, ◌≢◌, ◌<◌, ◌≤◌, ◌+◌, ◌-◌, ◌==◌, ℕ, zero, suc, Bool, cond, List, [], ◌∷◌, length, get_or, map, inl, inr, refl, sym, ◌∙◌, ap, subst, arith}
use Rattle.std.specs.Prelude.{Option, Some, None, Err}
use Rattle.std.proofs.Common.{Ordering, Less, Equal, Greater}
use Rattle.std.specs.List.Sorted.{IsBinarySearchResult}
use Rattle.std.specs.Ordering.{nat_cmp, ordering_index}
use Rattle.std.proofs.lemmas.Bool.{cases_eq, cases_lt, le-ltb, lt-ltb}
use Rattle.std.proofs.lemmas.List.{get_or-map, get_or_default, length-map}
use Rattle.dg_model.proofs.SiteLists.{apart_test, same_test}
use Rattle.dg_model.specs.Homes.{Ascend, home_of}
use Rattle.dg_model.specs.declared.homes.Home.{Home}
use Rattle.dg_placed.specs.Used.{IsCopy, StandsAt}

abbrev inodes : List Home → List ℕ
inodes homes = map (λ (home : Home). home.inode) homes

-- ---- order

next_rises : (homes : List Home) (k : ℕ) (d : Home) → Ascend homes → k + 1 < length homes → (get_or homes k d).inode < (get_or homes (k + 1) d).inode
next_rises homes k d ascend within =
    let up = ascend k (omega (arith, within, length-map homes (λ (home : Home). home.inode))) in
    omega (
      arith,
      up,
      get_or-map (λ (home : Home). home.inode) homes k d 0 (omega (arith, within)),
      get_or-map (λ (home : Home). home.inode) homes (k + 1) d 0 within,
    )

rises_by : (homes : List Home) (d : Home) → Ascend homes → (j n k : ℕ) → k ≡ j + suc n → k < length homes → (get_or homes j d).inode < (get_or homes k d).inode
rises_by homes d ascend j zero k at within =
    let next : k ≡ j + 1 = omega (arith, at) in
    subst (λ (m : ℕ). (get_or homes j d).inode < (get_or homes m d).inode) (sym next) (next_rises homes j d ascend (omega (arith, within, next)))
rises_by homes d ascend j (suc n) k at within =
    let next : k ≡ (j + suc n) + 1 = omega (arith, at) in
    let low = rises_by homes d ascend j n (j + suc n) refl (omega (arith, within, next)) in
    let last = next_rises homes (j + suc n) d ascend (omega (arith, within, next)) in
    subst (λ (m : ℕ). (get_or homes j d).inode < (get_or homes m d).inode) (sym next) (omega (arith, low, last))

rises : (homes : List Home) (d : Home) → Ascend homes → (j k : ℕ) → j < k → k < length homes → (get_or homes j d).inode < (get_or homes k d).inode
rises homes d ascend j k before within = rises_by homes d ascend j (k - (j + 1)) k (omega (arith, before)) within

-- two places of one inode are one
pub same_place : (homes : List Home) (d : Home) → Ascend homes → (j k : ℕ) → j < length homes → k < length homes → (get_or homes j d).inode ≡ (get_or homes k d).inode → j ≡ k
same_place homes d ascend j k low high at = elim (cases_lt j k) [
  | inl lt ↦ absurd (omega (arith, at, rises homes d ascend j k lt high))
  | inr ge ↦ elim (cases_lt k j) [
    | inl gt ↦ absurd (omega (arith, at, rises homes d ascend k j gt low))
    | inr le ↦ omega (arith, ge, le)
  ]
]

-- ---- look-ups

here_is : (home : Home) (homes : List Home) (i : ℕ) → home.inode ≡ i → home_of (home ∷ homes) i ≡ Some home.boundary
here_is home homes i at = ap (λ (b : Bool). cond b (Some home.boundary) (home_of homes i)) (same_test home.inode i at)

later_is : (home : Home) (homes : List Home) (i : ℕ) → home.inode ≢ i → home_of (home ∷ homes) i ≡ home_of homes i
later_is home homes i off = ap (λ (b : Bool). cond b (Some home.boundary) (home_of homes i)) (apart_test home.inode i off)

some_of : (s t : ℕ) → Some s ≡ Some t → s ≡ t
some_of s t e = cc

-- the home that is found stands somewhere in the list
pub found_place : (homes : List Home) (i t : ℕ) → home_of homes i ≡ Some t → (k : ℕ) × (k < length homes) × ((d : Home) → (get_or homes k d).inode ≡ i) × ((d : Home) → (get_or homes k d).boundary ≡ t)
found_place [] i t found = absurd (none_some found)
  where
    none_some : ◌≡◌ {A = Option ℕ} None (Some t) → ⊥
    none_some e = cc
found_place (home ∷ homes) i t found = elim (cases_eq home.inode i) [
  | inl at ↦ (0, omega arith, λ d. at, λ d. some_of home.boundary t (sym (here_is home homes i at) ∙ found))
  | inr off ↦
      let later = found_place homes i t (sym (later_is home homes i off) ∙ found) in
      (suc later.0, omega (arith, later.1), later.2, later.3)
]

-- the first home of an inode is the one that is found
first_found : (homes : List Home) (k : ℕ) (d : Home) → k < length homes → ((j : ℕ) → j < k → (get_or homes j d).inode ≢ (get_or homes k d).inode)
    → home_of homes (get_or homes k d).inode ≡ Some (get_or homes k d).boundary
first_found [] k d within first = absurd (omega (arith, within))
first_found (home ∷ homes) zero d within first = here_is home homes home.inode refl
first_found (home ∷ homes) (suc k) d within first =
    later_is home homes (get_or homes k d).inode (first 0 (omega arith))
    ∙ first_found homes k d (omega (arith, within)) (λ j before. first (suc j) (omega (arith, before)))

pub place_found : (homes : List Home) (k : ℕ) (d : Home) → Ascend homes → k < length homes → home_of homes (get_or homes k d).inode ≡ Some (get_or homes k d).boundary
place_found homes k d ascend within =
    first_found homes k d within (λ j before at. absurd (omega (arith, at, rises homes d ascend j k before within)))

-- ---- copies

pub no_copy : (homes copies : List Home) (k : ℕ) (d : Home) → Ascend copies → k < length copies → (IsCopy homes (get_or copies k d).inode (get_or copies k d).boundary → ⊥)
    → ((i t : ℕ) → home_of copies i ≡ Some t → IsCopy homes i t) → ⊥
no_copy homes copies k d ascend within none all = none (all (get_or copies k d).inode (get_or copies k d).boundary (place_found copies k d ascend within))

pub all_copies : (homes copies : List Home) (n : ℕ) → length copies ≤ n → ((k : ℕ) (d : Home) → k < n → IsCopy homes (get_or copies k d).inode (get_or copies k d).boundary)
    → (i t : ℕ) → home_of copies i ≡ Some t → IsCopy homes i t
all_copies homes copies n past below i t found =
    let at = found_place copies i t found in
    let none : Home = record { inode = 0; boundary = 0 } in
    subst (λ (s : ℕ). IsCopy homes i s) (at.3 none)
    (subst (λ (j : ℕ). IsCopy homes j (get_or copies at.0 none).boundary) (at.2 none) (below at.0 none (omega (arith, past, at.1))))

-- ---- a search by inode

less_is : (i j : ℕ) → i < j → nat_cmp i j ≡ Less
less_is i j lt = ap (λ (v : Bool). cond v Less (cond (i == j) Equal Greater)) (lt-ltb i j lt)

same_is : (i j : ℕ) → i ≡ j → nat_cmp i j ≡ Equal
same_is i j e =
    ap (λ (v : Bool). cond v Less (cond (i == j) Equal Greater)) (le-ltb i j (omega (arith, e)))
    ∙ ap (λ (v : Bool). cond v Equal Greater) (same_test i j e)

more_is : (i j : ℕ) → j < i → nat_cmp i j ≡ Greater
more_is i j gt =
    ap (λ (v : Bool). cond v Less (cond (i == j) Equal Greater)) (le-ltb i j (omega arith))
    ∙ ap (λ (v : Bool). cond v Equal Greater) (apart_test i j (λ e. absurd (omega (arith, e, gt))))

equal_from : (i j : ℕ) → nat_cmp i j ≡ Equal → i ≡ j
equal_from i j e = elim (cases_lt i j) [
  | inl lt ↦ absurd (differs Less (λ f. cc) (sym (less_is i j lt) ∙ e))
  | inr ge ↦ elim (cases_lt j i) [
    | inl gt ↦ absurd (differs Greater (λ f. cc) (sym (more_is i j gt) ∙ e))
    | inr le ↦ omega (arith, ge, le)
  ]
]
  where
    differs : (o : Ordering) → (o ≡ Equal → ⊥) → o ≡ Equal → ⊥
    differs o apart f = apart f

compare_rises : (x a b : ℕ) → a ≤ b → ordering_index (nat_cmp a x) ≤ ordering_index (nat_cmp b x)
compare_rises x a b le = elim (cases_lt a x) [
  | inl lt ↦ let e = ap ordering_index (less_is a x lt) in omega (arith, e)
  | inr ge ↦ elim (cases_lt x b) [
    | inl past ↦ let e = ap ordering_index (more_is b x past) in let most = index_most (nat_cmp a x) in omega (arith, e, most)
    | inr at ↦
        let own = ap ordering_index (same_is a x (omega (arith, le, ge, at))) in
        let other = ap ordering_index (same_is b x (omega (arith, le, ge, at))) in
        omega (arith, own, other)
  ]
]
  where
    index_most : (o : Ordering) → ordering_index o ≤ 2
    index_most Less = omega arith
    index_most Equal = omega arith
    index_most Greater = omega arith

rises_or_same : (homes : List Home) (d : Home) → Ascend homes → (j k : ℕ) → j ≤ k → k < length homes → (get_or homes j d).inode ≤ (get_or homes k d).inode
rises_or_same homes d ascend j k le within = elim (cases_lt j k) [
  | inl lt ↦ let low = rises homes d ascend j k lt within in omega (arith, low)
  | inr ge ↦ let e : (get_or homes j d).inode ≡ (get_or homes k d).inode = ap (λ (n : ℕ). (get_or homes n d).inode) (let at : j ≡ k = omega (arith, le, ge) in at) in omega (arith, e)
]

pub search_found : (homes : List Home) (i k : ℕ) (d : Home) → k < length homes → nat_cmp (get_or homes k d).inode i ≡ Equal → StandsAt homes i k
search_found homes i k d within equal = record {
  within = within;
  own = λ e. ap (λ (home : Home). home.inode) (get_or_default homes k e d within) ∙ equal_from (get_or homes k d).inode i equal;
}

pub search_failed : (homes : List Home) (i n : ℕ) → Ascend homes → IsBinarySearchResult (λ (home : Home). nat_cmp home.inode i) homes (Err n) → (k : ℕ) → StandsAt homes i k → ⊥
search_failed homes i n ascend searched k at =
    let parts = searched (λ j m d le within. compare_rises i (get_or homes j d).inode (get_or homes m d).inode (rises_or_same homes d ascend j m le within)) in
    let none : Home = record { inode = 0; boundary = 0 } in
    elim (cases_lt k n) [
      | inl before ↦ differ Less (λ e. cc) (sym (parts.0 k none (omega arith) before) ∙ same_is (get_or homes k none).inode i (at.own none))
      | inr behind ↦ differ Greater (λ e. cc) (sym (parts.1 k none behind at.within) ∙ same_is (get_or homes k none).inode i (at.own none))
    ]
  where
    differ : (o : Ordering) → (o ≡ Equal → ⊥) → o ≡ Equal → ⊥
    differ o apart e = apart e
