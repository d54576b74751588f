-- The files that were counted are those of the plan, with their numbers of blocks.
use Rattle.std.proofs.Common.{◌≡◌, ◌≢◌, ◌<◌, ◌≤◌, ◌+◌, ◌==◌, ℕ, zero, suc, drop, Bool, true, false, cond, List, [], ◌∷◌, length, get_or, map, inl, inr, refl, sym, ◌∙◌, ap, arith}
use Rattle.std.specs.Prelude.{Option, Some, None, nat_lt, unwrap_or}
use Rattle.std.specs.BTreeMap.{insert_entry, is_at}
use Rattle.std.specs.List.{count_by, range_with_len}
use Rattle.std.specs.Map.{lookup}
use Rattle.std.proofs.Common.{Ordering, Less, Equal, Greater}
use Rattle.std.specs.Ordering.{is_eq, match_ordering, nat_cmp}
use Rattle.std.proofs.lemmas.Bool.{cases_eq, cases_lt, eqb-true, false≢true, le-ltb, lt-ltb}
use Rattle.std.proofs.lemmas.List.{drop_more}
use Rattle.std.proofs.lemmas.List.Sums.{length-filter, sum_by-cons}
use Rattle.dg_model.proofs.SiteLists.{apart_test, same_test}
use Rattle.dg_plan.specs.Files.{add_want, are_of_one_file, blocks_at, files_with, with_blocks}
use Rattle.dg_model.specs.Plans.{blocks_of, files_in, is_file, with_number}
use Rattle.dg_model.specs.Homes.{home_of, with_home}
use Rattle.dg_plan.specs.Placings.{ArePositive, homes_in}
use Rattle.dg_model.specs.Wants.{want_of}
use Rattle.dg_model.specs.declared.homes.Home.{Home}
use Rattle.dg_model.specs.declared.wants.Want.{Want}
use Rattle.dg_model.specs.declared.wants.Want.TheVariants.{Kept, File, Stray}
use Rattle.dg_plan.proofs.SumLaws.{none_at, one_at}

-- ---- how numbers compare

pub less_is : (i j : ℕ) → i < j → nat_cmp i j ≡ Less
less_is i j lt = ap (λ (v : Bool). cond v Less (cond (i == j) Equal Greater)) (lt-ltb i j lt)

pub same_is : (i j : ℕ) → i ≡ j → nat_cmp i j ≡ Equal
same_is i j e =
    ap (λ (v : Bool). cond v Less (cond (i == j) Equal Greater)) (le-ltb i j (omega (arith, e)))
    ∙ ap (λ (v : Bool). cond v Equal Greater) (same_test i j e)

pub more_is : (i j : ℕ) → j < i → nat_cmp i j ≡ Greater
more_is i j gt =
    ap (λ (v : Bool). cond v Less (cond (i == j) Equal Greater)) (le-ltb i j (omega arith))
    ∙ ap (λ (v : Bool). cond v Equal Greater) (apart_test i j (λ e. absurd (omega (arith, e, gt))))

at_same : (i j : ℕ) → i ≡ j → is_at (nat_cmp i) j ≡ true
at_same i j e = ap is_eq (same_is i j e)

at_apart : (i j : ℕ) → i ≢ j → is_at (nat_cmp i) j ≡ false
at_apart i j ne = elim (cases_lt i j) [
  | inl lt ↦ ap is_eq (less_is i j lt)
  | inr ge ↦ ap is_eq (more_is i j (omega (arith, ge, ne)))
]

-- ---- one pair more

abbrev pub numbers : List (ℕ × ℕ) → List ℕ
numbers es = map (λ (e : ℕ × ℕ). e.0) es

abbrev placed_by : Ordering → ℕ → ℕ → ℕ × ℕ → List (ℕ × ℕ) → List (ℕ × ℕ)
placed_by r i v e es = match_ordering r ((i, v) ∷ e ∷ es) ((e.0, v) ∷ es) (e ∷ insert_entry nat_cmp es i v)

abbrev number_by : Bool → Bool → ℕ → ℕ → List ℕ → List ℕ
number_by same less i j js = cond same (j ∷ js) (cond less (i ∷ j ∷ js) (j ∷ with_number i js))

numbers_more : (i v : ℕ) (es : List (ℕ × ℕ)) → numbers (insert_entry nat_cmp es i v) ≡ with_number i (numbers es)
numbers_more i v [] = refl
numbers_more i v (e ∷ es) = elim (cases_eq i e.0) [
  | inl at ↦
      ap (λ (r : Ordering). numbers (placed_by r i v e es)) (same_is i e.0 at)
      ∙ sym (ap (λ (b : Bool). number_by b (nat_lt i e.0) i e.0 (numbers es)) (same_test i e.0 at))
  | inr off ↦ elim (cases_lt i e.0) [
    | inl lt ↦
        ap (λ (r : Ordering). numbers (placed_by r i v e es)) (less_is i e.0 lt)
        ∙ sym (ap (λ (b : Bool). number_by b (nat_lt i e.0) i e.0 (numbers es)) (apart_test i e.0 off) ∙ ap (λ (b : Bool). cond b (i ∷ e.0 ∷ numbers es) (e.0 ∷ with_number i (numbers es))) (lt-ltb i e.0 lt))
    | inr ge ↦
        ap (λ (r : Ordering). numbers (placed_by r i v e es)) (more_is i e.0 (omega (arith, ge, off)))
        ∙ ap (λ (js : List ℕ). e.0 ∷ js) (numbers_more i v es)
        ∙ sym (ap (λ (b : Bool). number_by b (nat_lt i e.0) i e.0 (numbers es)) (apart_test i e.0 off) ∙ ap (λ (b : Bool). cond b (i ∷ e.0 ∷ numbers es) (e.0 ∷ with_number i (numbers es))) (le-ltb i e.0 ge))
  ]
]

-- the files are those that the definition lists
pub files_same : (wants : List (Option Want)) → numbers (files_with wants) ≡ files_in wants
files_same [] = refl
files_same (None ∷ wants) = files_same wants
files_same (Some Kept ∷ wants) = files_same wants
files_same (Some (File i) ∷ wants) = numbers_more i (blocks_at (files_with wants) i + 1) (files_with wants) ∙ ap (with_number i) (files_same wants)
files_same (Some Stray ∷ wants) = files_same wants

-- ---- the numbers of blocks

pub found_here : (j v : ℕ) (k : ℕ) (es : List (ℕ × ℕ)) → j ≡ k → blocks_at ((k, v) ∷ es) j ≡ v
found_here j v k es e = ap (λ (b : Bool). unwrap_or (cond b (Some v) (lookup (is_at (nat_cmp j)) es)) 0) (at_same j k e)

pub found_later : (j : ℕ) (e : ℕ × ℕ) (es : List (ℕ × ℕ)) → j ≢ e.0 → blocks_at (e ∷ es) j ≡ blocks_at es j
found_later j e es ne = ap (λ (b : Bool). unwrap_or (cond b (Some e.1) (lookup (is_at (nat_cmp j)) es)) 0) (at_apart j e.0 ne)

blocks_own : (i v : ℕ) (es : List (ℕ × ℕ)) → blocks_at (insert_entry nat_cmp es i v) i ≡ v
blocks_own i v [] = found_here i v i [] refl
blocks_own i v (e ∷ es) = elim (cases_eq i e.0) [
  | inl at ↦ ap (λ (r : Ordering). blocks_at (placed_by r i v e es) i) (same_is i e.0 at) ∙ found_here i v e.0 es at
  | inr off ↦ elim (cases_lt i e.0) [
    | inl lt ↦ ap (λ (r : Ordering). blocks_at (placed_by r i v e es) i) (less_is i e.0 lt) ∙ found_here i v i (e ∷ es) refl
    | inr ge ↦ ap (λ (r : Ordering). blocks_at (placed_by r i v e es) i) (more_is i e.0 (omega (arith, ge, off))) ∙ found_later i e (insert_entry nat_cmp es i v) off ∙ blocks_own i v es
  ]
]

blocks_other : (i v j : ℕ) (es : List (ℕ × ℕ)) → j ≢ i → blocks_at (insert_entry nat_cmp es i v) j ≡ blocks_at es j
blocks_other i v j [] ne = found_later j (i, v) [] ne
blocks_other i v j (e ∷ es) ne = elim (cases_eq i e.0) [
  | inl at ↦
      ap (λ (r : Ordering). blocks_at (placed_by r i v e es) j) (same_is i e.0 at)
      ∙ found_later j (e.0, v) es (λ f. ne (f ∙ sym at))
      ∙ sym (found_later j e es (λ f. ne (f ∙ sym at)))
  | inr off ↦ elim (cases_lt i e.0) [
    | inl lt ↦ ap (λ (r : Ordering). blocks_at (placed_by r i v e es) j) (less_is i e.0 lt) ∙ found_later j (i, v) (e ∷ es) ne
    | inr ge ↦
        ap (λ (r : Ordering). blocks_at (placed_by r i v e es) j) (more_is i e.0 (omega (arith, ge, off)))
        ∙ (elim (cases_eq j e.0) [
          | inl here ↦ found_here j e.1 e.0 (insert_entry nat_cmp es i v) here ∙ sym (found_here j e.1 e.0 es here)
          | inr later ↦ found_later j e (insert_entry nat_cmp es i v) later ∙ blocks_other i v j es ne ∙ sym (found_later j e es later)
        ])
  ]
]

-- as many blocks as the list has
pub counted : (wants : List (Option Want)) (j : ℕ) → blocks_at (files_with wants) j ≡ count_by (is_file j) wants
counted [] j = refl
counted (None ∷ wants) j = omega (arith, counted wants j, sum_by-cons (λ (w : Option Want). cond (is_file j w) 1 0) None wants)
counted (Some Kept ∷ wants) j = omega (arith, counted wants j, sum_by-cons (λ (w : Option Want). cond (is_file j w) 1 0) (Some Kept) wants)
counted (Some (File i) ∷ wants) j = elim (cases_eq j i) [
  | inl at ↦
      omega (
        arith,
        ap (λ (k : ℕ). blocks_at (with_blocks (files_with wants) i 1) k) at,
        blocks_own i (blocks_at (files_with wants) i + 1) (files_with wants),
        ap (blocks_at (files_with wants)) at,
        counted wants j,
        sum_by-cons (λ (w : Option Want). cond (is_file j w) 1 0) (Some (File i)) wants,
        one_at (i == j) 1 (same_test i j (sym at)),
      )
  | inr off ↦
      omega (
        arith,
        blocks_other i (blocks_at (files_with wants) i + 1) j (files_with wants) off,
        counted wants j,
        sum_by-cons (λ (w : Option Want). cond (is_file j w) 1 0) (Some (File i)) wants,
        none_at (i == j) 1 (apart_test i j (λ e. off (sym e))),
      )
]
counted (Some Stray ∷ wants) j = omega (arith, counted wants j, sum_by-cons (λ (w : Option Want). cond (is_file j w) 1 0) (Some Stray) wants)

-- a count over places is one over the list
by_places : (test : Option Want → Bool) (wants : List (Option Want)) (a : ℕ) (f : ℕ → Option Want) → ((k : ℕ) → k < length wants → f (a + k) ≡ get_or wants k None)
    → count_by (λ b. test (f b)) (range_with_len a (length wants)) ≡ count_by test wants
by_places test [] a f same = refl
by_places test (want ∷ wants) a f same =
    let first : f a ≡ want = ap f (let e : a ≡ a + 0 = omega arith in e) ∙ same 0 (omega arith) in
    omega (
      arith,
      sum_by-cons (λ (b : ℕ). cond (test (f b)) 1 0) a (range_with_len (a + 1) (length wants)),
      sum_by-cons (λ (w : Option Want). cond (test w) 1 0) want wants,
      ap (λ (w : Option Want). cond {A = ℕ} (test w) 1 0) first,
      by_places test wants (a + 1) f (λ k lt. ap f (let e : a + 1 + k ≡ a + suc k = omega arith in e) ∙ same (suc k) (omega arith)),
    )

-- each file was counted with its number of blocks
pub blocks_same : (wants : List (Option Want)) (i : ℕ) → blocks_at (files_with wants) i ≡ length (blocks_of wants i)
blocks_same wants i =
    counted wants i
    ∙ sym (by_places (is_file i) wants 0 (want_of wants) (λ k lt. ap (want_of wants) (let e : 0 + k ≡ k = omega arith in e)))
    ∙ sym (length-filter (λ b. is_file i (want_of wants b)) (range_with_len 0 (length wants)))

-- ---- homes

home_test : (i : ℕ) (e : ℕ × ℕ) → (e.0 == i) ≡ is_at (nat_cmp i) e.0
home_test i e = elim (cases_eq e.0 i) [
  | inl at ↦ same_test e.0 i at ∙ sym (at_same i e.0 (sym at))
  | inr off ↦ apart_test e.0 i off ∙ sym (at_apart i e.0 (λ f. off (sym f)))
]

-- the test of a look-up
pub test_is : (k i : ℕ) → is_at (nat_cmp k) i ≡ (k == i)
test_is k i = elim (cases_eq k i) [
  | inl at ↦ at_same k i at ∙ sym (same_test k i at)
  | inr off ↦ at_apart k i off ∙ sym (apart_test k i off)
]

-- a home is looked up
pub home_found : (es : List (ℕ × ℕ)) (i : ℕ) → home_of (homes_in es) i ≡ lookup (is_at (nat_cmp i)) es
home_found [] i = refl
home_found (e ∷ es) i =
    ap (λ (b : Bool). cond b (Some e.1) (home_of (homes_in es) i)) (home_test i e)
    ∙ ap (λ (o : Option ℕ). cond (is_at (nat_cmp i) e.0) (Some e.1) o) (home_found es i)

none_head : (i : ℕ) (e : ℕ × ℕ) (es : List (ℕ × ℕ)) → home_of (homes_in (e ∷ es)) i ≡ None → i ≢ e.0
none_head i e es none at =
    let found : home_of (homes_in (e ∷ es)) i ≡ Some e.1 = ap (λ (b : Bool). cond b (Some e.1) (home_of (homes_in es) i)) (same_test e.0 i (sym at)) in
    cc

none_tail : (i : ℕ) (e : ℕ × ℕ) (es : List (ℕ × ℕ)) → home_of (homes_in (e ∷ es)) i ≡ None → home_of (homes_in es) i ≡ None
none_tail i e es none =
    sym (ap (λ (b : Bool). cond b (Some e.1) (home_of (homes_in es) i)) (apart_test e.0 i (λ f. none_head i e es none (sym f)))) ∙ none

-- the pairs with a file that has no home yet
pub homes_more : (es : List (ℕ × ℕ)) (i s : ℕ) → home_of (homes_in es) i ≡ None → homes_in (insert_entry nat_cmp es i s) ≡ with_home (record { inode = i; boundary = s }) (homes_in es)
homes_more [] i s none = refl
homes_more (e ∷ es) i s none =
    let home : Home = record { inode = i; boundary = s } in
    let first : Home = record { inode = e.0; boundary = e.1 } in
    elim (cases_lt i e.0) [
      | inl lt ↦
          ap (λ (r : Ordering). homes_in (placed_by r i s e es)) (less_is i e.0 lt)
          ∙ sym (ap (λ (b : Bool). cond b (home ∷ first ∷ homes_in es) (first ∷ with_home home (homes_in es))) (lt-ltb i e.0 lt))
      | inr ge ↦
          ap (λ (r : Ordering). homes_in (placed_by r i s e es)) (more_is i e.0 (omega (arith, ge, none_head i e es none)))
          ∙ ap (λ (hs : List Home). first ∷ hs) (homes_more es i s (none_tail i e es none))
          ∙ sym (ap (λ (b : Bool). cond b (home ∷ first ∷ homes_in es) (first ∷ with_home home (homes_in es))) (le-ltb i e.0 ge))
    ]

-- ---- each file has some blocks

positive_by : (i v : ℕ) (e : ℕ × ℕ) (es : List (ℕ × ℕ)) (r : Ordering) → 0 < v → ArePositive (e ∷ es) → ArePositive (insert_entry nat_cmp es i v) → ArePositive (placed_by r i v e es)
positive_by i v e es Less some positive later = (some, positive)
positive_by i v e es Equal some positive later = (some, positive.1)
positive_by i v e es Greater some positive later = (positive.0, later)

positive_more : (i v : ℕ) (es : List (ℕ × ℕ)) → 0 < v → ArePositive es → ArePositive (insert_entry nat_cmp es i v)
positive_more i v [] some positive = (some, tt)
positive_more i v (e ∷ es) some positive = positive_by i v e es (nat_cmp i e.0) some positive (positive_more i v es some positive.1)

pub files_positive : (wants : List (Option Want)) → ArePositive (files_with wants)
files_positive [] = tt
files_positive (None ∷ wants) = files_positive wants
files_positive (Some Kept ∷ wants) = files_positive wants
files_positive (Some (File i) ∷ wants) = positive_more i (blocks_at (files_with wants) i + 1) (files_with wants) (omega arith) (files_positive wants)
files_positive (Some Stray ∷ wants) = files_positive wants

-- ---- blocks of one file next to each other

insert_twice : (i v w : ℕ) (es : List (ℕ × ℕ)) → insert_entry nat_cmp (insert_entry nat_cmp es i v) i w ≡ insert_entry nat_cmp es i w
insert_twice i v w [] = ap (λ (r : Ordering). placed_by r i w (i, v) []) (same_is i i refl)
insert_twice i v w (e ∷ es) = elim (cases_eq i e.0) [
  | inl at ↦
      ap (λ (r : Ordering). insert_entry nat_cmp (placed_by r i v e es) i w) (same_is i e.0 at)
      ∙ ap (λ (r : Ordering). placed_by r i w (e.0, v) es) (same_is i e.0 at)
      ∙ sym (ap (λ (r : Ordering). placed_by r i w e es) (same_is i e.0 at))
  | inr off ↦ elim (cases_lt i e.0) [
    | inl lt ↦
        ap (λ (r : Ordering). insert_entry nat_cmp (placed_by r i v e es) i w) (less_is i e.0 lt)
        ∙ ap (λ (r : Ordering). placed_by r i w (i, v) (e ∷ es)) (same_is i i refl)
        ∙ sym (ap (λ (r : Ordering). placed_by r i w e es) (less_is i e.0 lt))
    | inr ge ↦
        let more = more_is i e.0 (omega (arith, ge, off)) in
        ap (λ (r : Ordering). insert_entry nat_cmp (placed_by r i v e es) i w) more
        ∙ ap (λ (r : Ordering). placed_by r i w e (insert_entry nat_cmp es i v)) more
        ∙ ap (λ xs. e ∷ xs) (insert_twice i v w es)
        ∙ sym (ap (λ (r : Ordering). placed_by r i w e es) more)
  ]
]

-- so many blocks, and one before them
add_more : (c n : ℕ) (want : Option Want) (es : List (ℕ × ℕ)) → n ≡ c + 1 → add_want 1 want (add_want c want es) ≡ add_want n want es
add_more c n None es e = refl
add_more c n (Some Kept) es e = refl
add_more c n (Some (File i)) es e =
    ap (λ (x : ℕ). insert_entry nat_cmp (with_blocks es i c) i (x + 1)) (blocks_own i (blocks_at es i + c) es)
    ∙ insert_twice i (blocks_at es i + c) (blocks_at es i + c + 1) es
    ∙ ap (insert_entry nat_cmp es i) (omega (arith, e))
add_more c n (Some Stray) es e = refl

-- blocks that are the same to the plan are counted at once
pub run_files : (wants : List (Option Want)) (want : Option Want) (c first n : ℕ) → n ≡ first + suc c → n ≤ length wants → ((k : ℕ) → first ≤ k → k < n → want_of wants k ≡ want)
    → files_with (drop first wants) ≡ add_want (suc c) want (files_with (drop n wants))
run_files wants want zero first n at within same =
    ap files_with (drop_more wants first None (omega (arith, at, within)))
    ∙ ap (λ (w : Option Want). add_want 1 w (files_with (drop (first + 1) wants))) (same first (omega arith) (omega (arith, at)))
    ∙ ap (λ (m : ℕ). add_want 1 want (files_with (drop m wants))) (let e : first + 1 ≡ n = omega (arith, at) in e)
run_files wants want (suc c) first n at within same =
    ap files_with (drop_more wants first None (omega (arith, at, within)))
    ∙ ap (λ (w : Option Want). add_want 1 w (files_with (drop (first + 1) wants))) (same first (omega arith) (omega (arith, at)))
    ∙ ap (add_want 1 want) (run_files wants want c (first + 1) n (omega (arith, at)) within (λ k low high. same k (omega (arith, low)) high))
    ∙ add_more (suc c) (suc (suc c)) want (files_with (drop n wants)) (omega arith)

pub run_files_to : (wants : List (Option Want)) (want : Option Want) (count first n : ℕ) → 0 < count → n ≡ first + count → n ≤ length wants → ((k : ℕ) → first ≤ k → k < n → want_of wants k ≡ want)
    → files_with (drop first wants) ≡ add_want count want (files_with (drop n wants))
run_files_to wants want zero first n some at within same = absurd (omega (arith, some))
run_files_to wants want (suc c) first n some at within same = run_files wants want c first n at within same

file_is : (i : ℕ) (want : Option Want) → is_file i want ≡ true → want ≡ Some (File i)
file_is i None is = absurd (false≢true is)
file_is i (Some Kept) is = absurd (false≢true is)
file_is i (Some (File j)) is = ap (λ (k : ℕ). Some (File k)) (eqb-true j i is)
file_is i (Some Stray) is = absurd (false≢true is)

-- two blocks of one file
pub one_file : (a b : Option Want) → are_of_one_file a b ≡ true → (i : ℕ) × (a ≡ Some (File i)) × (b ≡ Some (File i))
one_file None b is = absurd (false≢true is)
one_file (Some Kept) b is = absurd (false≢true is)
one_file (Some (File i)) b is = (i, refl, file_is i b is)
one_file (Some Stray) b is = absurd (false≢true is)
