-- Homes that ascend, by recursion.
use Rattle.std.proofs.Common.{◌≡◌, ◌<◌, ◌≤◌, ◌+◌, ℕ, zero, suc, Bool, cond, List, [], ◌∷◌, length, get_or, map, inl, inr, refl, sym, ◌∙◌, ap, subst, arith}
use Rattle.std.specs.Prelude.{Some, None, Err}
use Rattle.std.specs.List.Sorted.{IsBinarySearchResult}
use Rattle.std.specs.Ordering.{is_eq, nat_cmp, ordering_index}
use Rattle.std.proofs.Common.{Ordering, Less, Equal, Greater}
use Rattle.std.proofs.lemmas.List.{get_or-map, length-map}
use Rattle.std.proofs.lemmas.Bool.{cases_lt, eqb-true}
use Rattle.dg_plan.proofs.FileLaws.{less_is, more_is, same_is, test_is}
use Rattle.dg_model.proofs.SiteLists.{apart_test, same_test}
use Rattle.dg_model.specs.Homes.{Ascend, home_of}
use Rattle.dg_model.specs.declared.homes.Home.{Home}
use Rattle.dg_plan.specs.Beside.{Rise, RiseFrom}

abbrev inodes : List Home → List ℕ
inodes homes = map (λ (home : Home). home.inode) homes

tail_ascends : (home : Home) (homes : List Home) → Ascend (home ∷ homes) → Ascend homes
tail_ascends home homes ascend k within =
    let next : suc k + 1 ≡ suc (k + 1) = omega arith in
    let later = ascend (suc k) (omega (arith, within)) in
    subst (λ (n : ℕ). get_or (inodes homes) k 0 < get_or (inodes (home ∷ homes)) n 0) next later

pub rise_from : (home : Home) (homes : List Home) → Ascend (home ∷ homes) → RiseFrom home.inode homes
rise_from home [] ascend = tt
rise_from home (next ∷ homes) ascend = (ascend 0 (omega arith), rise_from next homes (tail_ascends home (next ∷ homes) ascend))

pub rise_of_ascend : (homes : List Home) → Ascend homes → Rise homes
rise_of_ascend [] ascend = tt
rise_of_ascend (home ∷ homes) ascend = rise_from home homes ascend

ascend_from : (home : Home) (homes : List Home) → RiseFrom home.inode homes → Ascend (home ∷ homes)
ascend_from home [] rise k within = absurd (omega (arith, within))
ascend_from home (next ∷ homes) rise zero within = rise.0
ascend_from home (next ∷ homes) rise (suc k) within =
    let at : suc k + 1 ≡ suc (k + 1) = omega arith in
    subst (λ (n : ℕ). get_or (inodes (home ∷ next ∷ homes)) (suc k) 0 < get_or (inodes (home ∷ next ∷ homes)) n 0) (sym at)
    (ascend_from next homes rise.1 k (omega (arith, within)))

pub ascend_of_rise : (homes : List Home) → Rise homes → Ascend homes
ascend_of_rise [] rise = λ k within. absurd (omega (arith, within))
ascend_of_rise (home ∷ homes) rise = ascend_from home homes rise

-- each inode is above
above : (n k : ℕ) (homes : List Home) (d : Home) → RiseFrom n homes → k < length homes → n < (get_or homes k d).inode
above n k [] d rise within = absurd (omega (arith, within))
above n zero (home ∷ homes) d rise within = rise.0
above n (suc k) (home ∷ homes) d rise within = let low = rise.0 in let far = above home.inode k homes d rise.1 (omega (arith, within)) in omega (arith, low, far)

-- the home at a place is the one that is found by its inode
found_from : (n k : ℕ) (homes : List Home) (d : Home) → RiseFrom n homes → k < length homes → home_of homes (get_or homes k d).inode ≡ Some (get_or homes k d).boundary
found_from n k [] d rise within = absurd (omega (arith, within))
found_from n zero (home ∷ homes) d rise within = ap (λ (b : Bool). cond b (Some home.boundary) (home_of homes home.inode)) (same_test home.inode home.inode refl)
found_from n (suc k) (home ∷ homes) d rise within =
    let i = (get_or homes k d).inode in
    let low = above home.inode k homes d rise.1 (omega (arith, within)) in
    ap (λ (b : Bool). cond b (Some home.boundary) (home_of homes i)) (apart_test home.inode i (λ e. absurd (omega (arith, e, low))))
    ∙ found_from home.inode k homes d rise.1 (omega (arith, within))

pub found_at : (k : ℕ) (homes : List Home) (d : Home) → Ascend homes → k < length homes → home_of homes (get_or homes k d).inode ≡ Some (get_or homes k d).boundary
found_at k [] d ascend within = absurd (omega (arith, within))
found_at zero (home ∷ homes) d ascend within = ap (λ (b : Bool). cond b (Some home.boundary) (home_of homes home.inode)) (same_test home.inode home.inode refl)
found_at (suc k) (home ∷ homes) d ascend within =
    let rise = rise_from home homes ascend in
    let i = (get_or homes k d).inode in
    let low = above home.inode k homes d rise (omega (arith, within)) in
    ap (λ (b : Bool). cond b (Some home.boundary) (home_of homes i)) (apart_test home.inode i (λ e. absurd (omega (arith, e, low))))
    ∙ found_from home.inode k homes d rise (omega (arith, within))

-- where no home has the inode, none is found
pub none_found : (i : ℕ) (homes : List Home) (d : Home) → ((k : ℕ) → k < length homes → (get_or homes k d).inode ≡ i → ⊥) → home_of homes i ≡ None
none_found i [] d none = refl
none_found i (home ∷ homes) d none =
    ap (λ (b : Bool). cond b (Some home.boundary) (home_of homes i)) (apart_test home.inode i (none 0 (omega arith)))
    ∙ none_found i homes d (λ k within. none (suc k) (omega (arith, within)))

-- homes stand in their order
pub rises : (j k : ℕ) (homes : List Home) (d : Home) → Ascend homes → j < k → k < length homes → (get_or homes j d).inode < (get_or homes k d).inode
rises j k [] d ascend before within = absurd (omega (arith, within))
rises j zero (home ∷ homes) d ascend before within = absurd (omega (arith, before))
rises zero (suc k) (home ∷ homes) d ascend before within = above home.inode k homes d (rise_from home homes ascend) (omega (arith, within))
rises (suc j) (suc k) (home ∷ homes) d ascend before within = rises j k homes d (tail_ascends home homes ascend) (omega (arith, before)) (omega (arith, within))

-- inodes that ascend one by one
pub ascend_each : (homes : List Home) (n : ℕ) → length homes ≤ n → ((k : ℕ) (d : Home) → k + 1 < n → k + 1 < length homes → (get_or homes k d).inode < (get_or homes (k + 1) d).inode) → Ascend homes
ascend_each homes n past each k within =
    let none : Home = record { inode = 0; boundary = 0 } in
    let size = length-map homes (λ (home : Home). home.inode) in
    let low : k + 1 < length homes = omega (arith, within, size) in
    let here = get_or-map (λ (home : Home). home.inode) homes k none 0 (omega (arith, low)) in
    let next = get_or-map (λ (home : Home). home.inode) homes (k + 1) none 0 low in
    let rises = each k none (omega (arith, low, past)) low in
    omega (arith, here, next, rises)

-- ---- a search by inode

equal_from : (i j : ℕ) → nat_cmp i j ≡ Equal → i ≡ j
equal_from i j e = eqb-true i j (sym (test_is i j) ∙ ap is_eq e)

-- numbers that rise compare so that the answers rise
compare_rises : (x a b : ℕ) → a ≤ b → ordering_index (nat_cmp a x) ≤ ordering_index (nat_cmp b x)
compare_rises x a b le = elim (cases_lt a x) [
  | inl lt ↦ let e = ap ordering_index (less_is a x lt) in omega (arith, e)
  | inr ge ↦ elim (cases_lt x b) [
    | inl past ↦ let e = ap ordering_index (more_is b x past) in let most = index_most (nat_cmp a x) in omega (arith, e, most)
    | inr at ↦
        let own = ap ordering_index (same_is a x (omega (arith, le, ge, at))) in
        let other = ap ordering_index (same_is b x (omega (arith, le, ge, at))) in
        omega (arith, own, other)
  ]
]
  where
    index_most : (o : Ordering) → ordering_index o ≤ 2
    index_most Less = omega arith
    index_most Equal = omega arith
    index_most Greater = omega arith

rises_or_same : (i j : ℕ) (homes : List Home) (d : Home) → Ascend homes → i ≤ j → j < length homes → (get_or homes i d).inode ≤ (get_or homes j d).inode
rises_or_same i j homes d ascend le within = elim (cases_lt i j) [
  | inl lt ↦ let low = rises i j homes d ascend lt within in omega (arith, low)
  | inr ge ↦ let e : (get_or homes i d).inode ≡ (get_or homes j d).inode = ap (λ (n : ℕ). (get_or homes n d).inode) (let at : i ≡ j = omega arith in at) in omega (arith, e)
]

-- what a search found, or didn't
pub search_found : (homes : List Home) (i k : ℕ) (home d : Home) → Ascend homes → k < length homes → home ≡ get_or homes k d → nat_cmp (get_or homes k d).inode i ≡ Equal → Some home.boundary ≡ home_of homes i
search_found homes i k home d ascend within at equal =
    sym (ap (home_of homes) (sym (equal_from (get_or homes k d).inode i equal))
    ∙ found_at k homes d ascend within
    ∙ ap (λ (h : Home). Some h.boundary) (sym at))

pub search_failed : (homes : List Home) (i n : ℕ) → Ascend homes → IsBinarySearchResult (λ (home : Home). nat_cmp home.inode i) homes (Err n) → None ≡ home_of homes i
search_failed homes i n ascend searched =
    let parts = searched (λ j k d le within. compare_rises i (get_or homes j d).inode (get_or homes k d).inode (rises_or_same j k homes d ascend le within)) in
    let none : Home = record { inode = 0; boundary = 0 } in
    sym (none_found i homes none (λ k within at.
    elim (cases_lt k n) [
      | inl before ↦ differ Less (λ e. cc) (sym (parts.0 k none (omega arith) before) ∙ same_is (get_or homes k none).inode i at)
      | inr behind ↦ differ Greater (λ e. cc) (sym (parts.1 k none behind within) ∙ same_is (get_or homes k none).inode i at)
    ]))
  where
    differ : (o : Ordering) → (o ≡ Equal → ⊥) → o ≡ Equal → ⊥
    differ o apart e = apart e
