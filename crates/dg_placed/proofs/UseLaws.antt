-- Which homes are of files with blocks, and when all blocks are in their places.
use Rattle.std.proofs.Common.{◌≡◌, ◌<◌, ◌≤◌, ◌+◌, ◌||◌, ◌↔◌, ◌++◌, ℕ, suc, Bool, true, false, cond, List, [], ◌∷◌, length, get_or, set, take, inl, inr, refl, sym, ◌∙◌, ap, subst, arith}
use Rattle.std.specs.Prelude.{Option, Some, None, IsSome, IsTrue, is_some, option_to_list}
use Rattle.std.specs.List.{count_by, list_any, range_with_len}
use Rattle.std.proofs.lemmas.Bool.{cases_Bool, cases_eq, eqb-true, false≢true, or_cases}
use Rattle.std.proofs.lemmas.List.{get_or-set_other, get_or-set_same, get_or_default, length-set, take_all}
use Rattle.std.proofs.lemmas.List.Folds.{list_any_more}
use Rattle.std.proofs.lemmas.List.Sums.{length-filter, sum_by-cons}
use Rattle.dg_model.proofs.SiteLists.{apart_test, one_if, same_test, zero_if}
use Rattle.dg_model.specs.Homes.{Ascend, home_of}
use Rattle.dg_model.specs.Placed.{IsPlaced}
use Rattle.dg_model.specs.Plans.{count_of, is_file}
use Rattle.dg_model.specs.Sites.{has_site}
use Rattle.dg_model.specs.Tables.{Table, sites_in, stands_on}
use Rattle.dg_model.specs.Wants.{FitWants, want_of}
use Rattle.dg_model.specs.declared.homes.Home.{Home}
use Rattle.dg_model.specs.declared.sites.Site.{Site}
use Rattle.dg_model.specs.declared.wants.Want.{Want}
use Rattle.dg_model.specs.declared.wants.Want.TheVariants.{Kept, File, Stray}
use Rattle.dg_placed.specs.Standing.{IsInItsPlace}
use Rattle.dg_placed.specs.Used.{AreMarked, AreSet, HaveBlocks, IsCopy, IsMarked, StandsAt}
use Rattle.dg_placed.proofs.HomeLaws.{found_place, place_found, same_place}
use Rattle.dg_placed.proofs.StandLaws.{any_at, place_stands}

-- ---- the file of a block

pub file_is : (i : ℕ) (want : Option Want) → is_file i want ≡ true → want ≡ Some (File i)
file_is i None is = absurd (false≢true is)
file_is i (Some Kept) is = absurd (false≢true is)
file_is i (Some (File j)) is = ap (λ (k : ℕ). Some (File k)) (eqb-true j i is)
file_is i (Some Stray) is = absurd (false≢true is)

is_file_of : (i : ℕ) (want : Option Want) → want ≡ Some (File i) → is_file i want ≡ true
is_file_of i want e = ap (is_file i) e ∙ same_test i i refl

-- ---- marks

or_true : (b : Bool) → (b || true) ≡ true
or_true true = refl
or_true false = refl

or_false : (b : Bool) → (b || false) ≡ b
or_false true = refl
or_false false = refl

pub mark_set : (homes : List Home) (i k : ℕ) (old : List Bool) → Ascend homes → length old ≡ length homes → StandsAt homes i k
    → IsMarked homes (Some (File i)) old (set old k true)
mark_set homes i k old ascend size at = record {
  size = length-set old k true;
  marks = λ j d low. elim (cases_eq j k) [
    | inl here ↦
        ap (λ (m : ℕ). get_or (set old k true) m false) here
        ∙ get_or-set_same old k true false (omega (arith, at.within, size))
        ∙ sym (ap (λ (b : Bool). get_or old j false || b) (same_test i (get_or homes j d).inode (sym (ap (λ (m : ℕ). (get_or homes m d).inode) here ∙ at.own d))) ∙ or_true (get_or old j false))
    | inr off ↦
        get_or-set_other old k j true false off
        ∙ sym (ap (λ (b : Bool). get_or old j false || b)
        (apart_test i (get_or homes j d).inode (λ e. off (same_place homes d ascend j k low at.within (sym e ∙ sym (at.own d)))))
        ∙ or_false (get_or old j false))
  ];
}

-- no home is of the block's file
pub mark_none : (homes : List Home) (i : ℕ) (old : List Bool) → ((k : ℕ) → StandsAt homes i k → ⊥) → IsMarked homes (Some (File i)) old old
mark_none homes i old none = record {
  size = refl;
  marks = λ k d low.
      sym (ap (λ (b : Bool). get_or old k false || b)
      (apart_test i (get_or homes k d).inode (λ e. none k (record { within = low; own = λ o. ap (λ (home : Home). home.inode) (get_or_default homes k o d low) ∙ sym e })))
      ∙ or_false (get_or old k false));
}

pub marks_begin : (homes : List Home) (wants : List (Option Want)) (used : List Bool) → length used ≡ length homes → ((k : ℕ) → k < length homes → get_or used k false ≡ false)
    → AreMarked homes (take 0 wants) used
marks_begin homes wants used size none = record { size = size; marks = λ k d low. none k low }

pub marks_more : (homes : List Home) (wants : List (Option Want)) (b : ℕ) (used new : List Bool) → b < length wants → AreMarked homes (take b wants) used
    → IsMarked homes (want_of wants b) used new → AreMarked homes (take (b + 1) wants) new
marks_more homes wants b used new within marked more = record {
  size = more.size ∙ marked.size;
  marks = λ k d low.
      more.marks k d low
      ∙ ap (λ (v : Bool). v || is_file (get_or homes k d).inode (want_of wants b)) (marked.marks k d low)
      ∙ sym (list_any_more (is_file (get_or homes k d).inode) wants b None within);
}

pub marks_end : (homes : List Home) (wants : List (Option Want)) (b : ℕ) (used : List Bool) → length wants ≤ b → AreMarked homes (take b wants) used → AreMarked homes wants used
marks_end homes wants b used past marked = subst (λ (xs : List (Option Want)). AreMarked homes xs used) (take_all b wants past) marked

pub set_marks : (homes : List Home) (wants : List (Option Want)) (used : List Bool) → AreMarked homes wants used → AreSet used ↔ HaveBlocks homes wants
set_marks homes wants used marked = (
  λ all k d low. sym (marked.marks k d low) ∙ all k (omega (arith, low, marked.size)),
  λ have k low.
      let none : Home = record { inode = 0; boundary = 0 } in
      let within : k < length homes = omega (arith, low, marked.size) in
      marked.marks k none within ∙ have k none within,
)

-- ---- how many blocks a file has

-- a file has blocks just where one of the wants is the file's
count_any : {X : Type 0} (test : X → Bool) (xs : List X) → 0 < count_by test xs → list_any test xs ≡ true
count_any {X = X} test [] some = absurd (omega (arith, some))
count_any {X = X} test (x ∷ xs) some = elim (cases_Bool (test x)) [
  | inl yes' ↦ ap (λ (v : Bool). v || list_any test xs) yes'
  | inr no' ↦
      ap (λ (v : Bool). v || list_any test xs) no'
      ∙ count_any test xs (omega (arith, some, sum_by-cons (λ (y : X). cond {A = ℕ} (test y) 1 0) x xs, zero_if (test x) no'))
]

any_count : {X : Type 0} (test : X → Bool) (xs : List X) → list_any test xs ≡ true → 0 < count_by test xs
any_count {X = X} test [] h = absurd (false≢true h)
any_count {X = X} test (x ∷ xs) h = elim (or_cases (test x) (list_any test xs) h) [
  | inl here ↦ omega (arith, sum_by-cons (λ (y : X). cond {A = ℕ} (test y) 1 0) x xs, one_if (test x) here)
  | inr later ↦ omega (arith, sum_by-cons (λ (y : X). cond {A = ℕ} (test y) 1 0) x xs, any_count test xs later)
]

by_places : (test : Option Want → Bool) (wants : List (Option Want)) (a : ℕ) (f : ℕ → Option Want) → ((k : ℕ) → k < length wants → f (a + k) ≡ get_or wants k None)
    → count_by (λ b. test (f b)) (range_with_len a (length wants)) ≡ count_by test wants
by_places test [] a f same = refl
by_places test (want ∷ wants) a f same =
    let first : f a ≡ want = ap f (let e : a ≡ a + 0 = omega arith in e) ∙ same 0 (omega arith) in
    omega (
      arith,
      sum_by-cons (λ (b : ℕ). cond (test (f b)) 1 0) a (range_with_len (a + 1) (length wants)),
      sum_by-cons (λ (w : Option Want). cond (test w) 1 0) want wants,
      ap (λ (w : Option Want). cond {A = ℕ} (test w) 1 0) first,
      by_places test wants (a + 1) f (λ k lt. ap f (let e : a + 1 + k ≡ a + suc k = omega arith in e) ∙ same (suc k) (omega arith)),
    )

count_is : (wants : List (Option Want)) (i : ℕ) → count_of wants i ≡ count_by (is_file i) wants
count_is wants i =
    length-filter (λ b. is_file i (want_of wants b)) (range_with_len 0 (length wants))
    ∙ by_places (is_file i) wants 0 (want_of wants) (λ k lt. ap (want_of wants) (let e : 0 + k ≡ k = omega arith in e))

-- a block of the file
any_block : (wants : List (Option Want)) (i : ℕ) → list_any (is_file i) wants ≡ true → (b : ℕ) × (want_of wants b ≡ Some (File i))
any_block [] i h = absurd (false≢true h)
any_block (want ∷ wants) i h = elim (or_cases (is_file i want) (list_any (is_file i) wants) h) [
  | inl here ↦ (0, file_is i want here)
  | inr later ↦ let found = any_block wants i later in (suc found.0, found.1)
]

-- ---- all blocks are in their places

first_stands : (sites : List Site) → has_site sites ≡ true → (s : ℕ) × (stands_on s sites ≡ true)
first_stands [] h = absurd (false≢true h)
first_stands (site ∷ sites) h = (site.boundary, place_stands site.boundary (site ∷ sites) 0 site (omega arith) refl)

by_want : (table : Table) (homes copies : List Home) (wants : List (Option Want)) → ((b : ℕ) → IsInItsPlace table homes copies b (want_of wants b)) → (b : ℕ) (want : Option Want)
    → want_of wants b ≡ want → IsInItsPlace table homes copies b want
by_want table homes copies wants all b want e = subst (λ (w : Option Want). IsInItsPlace table homes copies b w) e (all b)

-- a file has a home where boundaries are wanted for it
home_by : (homes copies : List Home) (i : ℕ) → ((t : ℕ) → home_of copies i ≡ Some t → IsCopy homes i t) → (home copy : Option ℕ) → home_of homes i ≡ home → home_of copies i ≡ copy
    → (s : ℕ) → any_at s (option_to_list home ++ option_to_list copy) ≡ true → IsSome home
home_by homes copies i elsewhere (Some h) copy at beside s there = refl
home_by homes copies i elsewhere None (Some t) at beside s there = let is = elsewhere t beside in absurd (none_some is.0 (sym at ∙ is.1))
  where
    none_some : (u : ℕ) → ◌≡◌ {A = Option ℕ} None (Some u) → ⊥
    none_some u e = cc
home_by homes copies i elsewhere None None at beside s there = absurd (false≢true there)

some_value : (o : Option ℕ) → IsSome o → (s : ℕ) × (o ≡ Some s)
some_value None h = absurd (false≢true h)
some_value (Some s) h = (s, refl)

pub placed_if : (table : Table) (wants : List (Option Want)) (homes copies : List Home) → FitWants table wants → Ascend homes → Ascend copies
    → ((i t : ℕ) → home_of copies i ≡ Some t → IsCopy homes i t) → ((b : ℕ) → IsInItsPlace table homes copies b (want_of wants b)) → HaveBlocks homes wants
    → IsPlaced wants table homes copies
placed_if table wants homes copies fit ascend copies_ascend elsewhere all have = record {
  kept = λ b is. by_want table homes copies wants all b (Some Kept) is;
  file = λ b i is. by_want table homes copies wants all b (Some (File i)) is;
  homes_are = λ i. (
    λ some.
        let found = some_value (home_of homes i) some in
        let at = found_place homes i found.0 found.1 in
        let none : Home = record { inode = 0; boundary = 0 } in
        let any : list_any (is_file i) wants ≡ true = subst (λ (j : ℕ). list_any (is_file j) wants ≡ true) (at.2 none) (have at.0 none at.1) in
        omega (arith, count_is wants i, any_count (is_file i) wants any),
    λ some.
        let any = count_any (is_file i) wants (omega (arith, some, count_is wants i)) in
        let block = any_block wants i any in
        let site = first_stands (sites_in table block.0) (sym (fit.written block.0) ∙ ap is_some block.1) in
        home_by homes copies i (elsewhere i) (home_of homes i) (home_of copies i) refl refl site.0
        (sym (by_want table homes copies wants all block.0 (Some (File i)) block.1 site.0) ∙ site.1),
  );
  copies_are = elsewhere;
  homes_ascend = ascend;
  copies_ascend = copies_ascend;
}

pub placed_blocks : (table : Table) (wants : List (Option Want)) (homes copies : List Home) → IsPlaced wants table homes copies → (b : ℕ) → IsInItsPlace table homes copies b (want_of wants b)
placed_blocks table wants homes copies placed b = by (want_of wants b) refl
  where
    by : (want : Option Want) → want_of wants b ≡ want → IsInItsPlace table homes copies b want
    by None is = tt
    by (Some Kept) is = placed.kept b is
    by (Some (File i)) is = placed.file b i is
    by (Some Stray) is = tt

pub placed_homes : (table : Table) (wants : List (Option Want)) (homes copies : List Home) → IsPlaced wants table homes copies → HaveBlocks homes wants
placed_homes table wants homes copies placed k d low =
    let i = (get_or homes k d).inode in
    let some : IsSome (home_of homes i) = ap is_some (place_found homes k d placed.homes_ascend low) in
    count_any (is_file i) wants (omega (arith, (placed.homes_are i).0 some, count_is wants i))

-- ---- by the tests

pub all_marked : (homes : List Home) (wants : List (Option Want)) (used marks : List Bool) (r : Bool) → marks ≡ used → AreMarked homes wants used → IsTrue r ↔ AreSet marks
    → IsTrue r ↔ HaveBlocks homes wants
all_marked homes wants used marks r same marked is =
    let set = subst (λ (xs : List Bool). IsTrue r ↔ AreSet xs) same is in
    let both = set_marks homes wants used marked in
    (λ h. both.0 (set.0 h), λ have. set.1 (both.1 have))

pub placed_just : (table : Table) (wants : List (Option Want)) (homes copies : List Home) (r : Bool) → FitWants table wants → Ascend homes → Ascend copies
    → ((i t : ℕ) → home_of copies i ≡ Some t → IsCopy homes i t) → ((b : ℕ) → IsInItsPlace table homes copies b (want_of wants b)) → IsTrue r ↔ HaveBlocks homes wants
    → IsTrue r ↔ IsPlaced wants table homes copies
placed_just table wants homes copies r fit ascend copies_ascend elsewhere all is = (
  λ h. placed_if table wants homes copies fit ascend copies_ascend elsewhere all (is.0 h),
  λ placed. is.1 (placed_homes table wants homes copies placed),
)

-- a block of no file
pub mark_other : (homes : List Home) (want : Option Want) (old : List Bool) → ((i : ℕ) → want ≡ Some (File i) → ⊥) → IsMarked homes want old old
mark_other homes want old none = record {
  size = refl;
  marks = λ k d low. sym (ap (λ (b : Bool). get_or old k false || b) (by (get_or homes k d).inode (is_file (get_or homes k d).inode want) refl) ∙ or_false (get_or old k false));
}
  where
    by : (i : ℕ) (b : Bool) → is_file i want ≡ b → is_file i want ≡ false
    by i true is = absurd (none i (file_is i want is))
    by i false is = is
