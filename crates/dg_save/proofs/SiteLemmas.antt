-- Marks of slots, list of sites by list of sites, and the table that the lists are.
use Rattle.std.proofs.Common.{◌≡◌, ◌+◌, ◌*◌, ◌<◌, ◌≤◌, ◌==◌, ◌++◌, ◌⊎◌, ◌&&◌, ℕ, zero, suc, Bool, true, false, cond, List, [], ◌∷◌, length, get_or, set, take, drop, refl, sym, ◌∙◌, ap, arith, subst, inl, inr}
use Rattle.std.specs.List.{All, Contains, sum_by}
use Rattle.std.proofs.Math.Nat.{mul-le-mul_right}
use Rattle.std.proofs.Math.ListN.{get_or-append, get_or-eq_default}
use Rattle.std.proofs.Math.Seq.{get_or-append_seam}
use Rattle.std.proofs.lemmas.Bool.{cases_Bool, cases_eq, cases_lt, false≢true}
use Rattle.std.proofs.lemmas.List.{get_or-set_other, get_or-set_same, get_or-take, length-append, length-set, length-take-le, take-append-drop, take_all, take_more}
use Rattle.std.proofs.lemmas.Bool.Decides.{Decides-eqb}
use Rattle.std.proofs.lemmas.List.Sums.{sum_by-cons}
use Rattle.std.proofs.lemmas.List.Elements.{All-append, Contains-append_cases, Contains-append_left, Contains-append_right}
use Rattle.dg_model.specs.Moves.{sum_upto}
use Rattle.dg_model.specs.Shapes.{IsShape}
use Rattle.dg_model.specs.Tables.{IsTable, count_on}
use Rattle.dg_model.specs.declared.shapes.Shape.{Shape}
use Rattle.dg_model.specs.declared.sites.Site.{Site}
use Rattle.dg_model.proofs.SiteLists.{apart_test, count_on-append, count_on-cons, count_on-last, count_on-push, count_pos, one_if, same_test, zero_if}
use Rattle.dg_model.proofs.SumLaws.{sum_both, sum_le, sum_le_most, sum_places, sum_same, sum_swap, sum_zero, term_le}
use Rattle.dg_save.specs.Checks.{AreMarked, AreRows, CanTake, IsInArray, IsVacant, Marks, is_set, place_in}
use Rattle.dg_save.proofs.FormLemmas.{row_contains}

-- ---- sites on a boundary

pub on_more : (s : ℕ) (sites : List Site) (i : ℕ) (d : Site) → i < length sites → count_on s (take i sites) ≡ 0 → ((get_or sites i d).boundary ≡ s → ⊥)
    → count_on s (take (i + 1) sites) ≡ 0
on_more s sites i d low none off =
    ap (count_on s) (take_more sites i d low)
    ∙ omega (arith, count_on-push s (take i sites) (get_or sites i d), none, zero_if ((get_or sites i d).boundary == s) (apart_test (get_or sites i d).boundary s off))

pub on_here : (s : ℕ) (sites : List Site) (i : ℕ) (d : Site) → i < length sites → (get_or sites i d).boundary ≡ s → 0 < count_on s sites
on_here s sites i d low on = count_pos s sites (get_or sites i d) (row_contains sites i d low) on

pub on_all : (s : ℕ) (sites : List Site) (i : ℕ) → length sites ≤ i → count_on s (take i sites) ≡ 0 → count_on s sites ≡ 0
on_all s sites i all none = sym (ap (count_on s) (take_all i sites all)) ∙ none

-- a front has no more
front_on : (s : ℕ) (sites : List Site) (n : ℕ) → count_on s (take n sites) ≤ count_on s sites
front_on s sites n =
    let whole : count_on s (take n sites ++ drop n sites) ≡ count_on s sites = ap (count_on s) (take-append-drop n sites) in
    omega (arith, whole, count_on-append s (take n sites) (drop n sites))

-- ---- places

same_boundary : (k a b x y : ℕ) → x ≤ k → y ≤ k → a * (k + 1) + x ≡ b * (k + 1) + y → a < b → ⊥
same_boundary k a b x y lx ly e low =
    let more : (a + 1) * (k + 1) ≤ b * (k + 1) = mul-le-mul_right (k + 1) (omega arith) in
    omega (arith, more, e, lx)

same_place : (shape : Shape) (x y : Site) → x.slot ≤ shape.k → y.slot ≤ shape.k → place_in shape x ≡ place_in shape y → x ≡ y
same_place shape x y lx ly e = elim (cases_lt x.boundary y.boundary) [
  | inl low ↦ absurd (same_boundary shape.k x.boundary y.boundary x.slot y.slot lx ly e low)
  | inr high ↦ elim (cases_lt y.boundary x.boundary) [
    | inl low ↦ absurd (same_boundary shape.k y.boundary x.boundary y.slot x.slot ly lx (sym e) low)
    | inr same ↦
        let b : x.boundary ≡ y.boundary = omega arith in
        let m : x.boundary * (shape.k + 1) ≡ y.boundary * (shape.k + 1) = ap (λ (n : ℕ). n * (shape.k + 1)) b in
        let s : x.slot ≡ y.slot = omega (arith, m, e) in
        rw (← b, ← s) refl
  ]
]

pub place_below : (shape : Shape) (x : Site) → IsInArray shape x → place_in shape x < shape.b * (shape.k + 1)
place_below shape x is =
    let more : (x.boundary + 1) * (shape.k + 1) ≤ shape.b * (shape.k + 1) = mul-le-mul_right (shape.k + 1) (omega (arith, is.0)) in
    omega (arith, more, is.1)

-- ---- marks

set_here : (marks : List Bool) (q : ℕ) → q < length marks → is_set (set marks q true) q ≡ true
set_here marks q low = get_or-set_same marks q true false low

set_keeps : (marks : List Bool) (q p : ℕ) → q < length marks → is_set marks p ≡ true → is_set (set marks q true) p ≡ true
set_keeps marks q p low is = elim (cases_eq p q) [
  | inl e ↦ ap (is_set (set marks q true)) e ∙ set_here marks q low
  | inr off ↦ get_or-set_other marks q p true false off ∙ is
]

set_only : (marks : List Bool) (q p : ℕ) → is_set (set marks q true) p ≡ true → (is_set marks p ≡ true) ⊎ (p ≡ q)
set_only marks q p is = elim (cases_eq p q) [
  | inl e ↦ inr e
  | inr off ↦ inl (sym (get_or-set_other marks q p true false off) ∙ is)
]

not_set : (a b : Bool) → (a ≡ true → b ≡ true) → b ≡ false → a ≡ false
not_set true b up none = absurd (false≢true (sym none ∙ up refl))
not_set false b up none = refl

is_or_not : (a : Bool) → (a ≡ false → ⊥) → a ≡ true
is_or_not true h = refl
is_or_not false h = absurd (h refl)

last_only : (x z : Site) → Contains (x ∷ []) z → x ≡ z
last_only x z (zero, low, at) = at
last_only x z (suc k, low, at) = absurd (omega (arith, low))

all_last : (P : Site → Type 0) (x : Site) → P x → All P (x ∷ [])
all_last P x is zero d low = is
all_last P x is (suc k) d low = absurd (omega (arith, low))

-- ---- one more site of a list

take_next : (shape : Shape) (old mid : List Bool) (ys : List Site) (x : Site) → CanTake shape old ys → Marks shape old ys mid → count_on x.boundary ys ≡ 0
    → IsVacant shape mid x → CanTake shape old (ys ++ x ∷ [])
take_next shape old mid ys x can marks none vacant = record {
  vacant = All-append (IsVacant shape old) ys (x ∷ []) can.vacant
      (all_last (IsVacant shape old) x (vacant.0, not_set (is_set old (place_in shape x)) (is_set mid (place_in shape x)) (marks.kept (place_in shape x)) vacant.1));
  single = λ s. elim (cases_eq x.boundary s) [
    | inl e ↦
        let one : count_on s ys ≡ 0 = sym (ap (λ (b : ℕ). count_on b ys) e) ∙ none in
        omega (arith, count_on-push s ys x, one, one_if (x.boundary == s) (same_test x.boundary s e))
    | inr off ↦ omega (arith, count_on-push s ys x, can.single s, zero_if (x.boundary == s) (apart_test x.boundary s off))
  ];
}

marks_next : (shape : Shape) (old mid new : List Bool) (ys : List Site) (x : Site) → Marks shape old ys mid → place_in shape x < length mid
    → new ≡ set mid (place_in shape x) true → Marks shape old (ys ++ x ∷ []) new
marks_next shape old mid new ys x marks low e = rw e (record {
  size = length-set mid (place_in shape x) true ∙ marks.size;
  kept = λ p is. set_keeps mid (place_in shape x) p low (marks.kept p is);
  marked = λ z there. elim (Contains-append_cases ys (x ∷ []) z there) [
    | inl front ↦ set_keeps mid (place_in shape x) (place_in shape z) low (marks.marked z front)
    | inr end ↦ ap (λ (y : Site). is_set (set mid (place_in shape x) true) (place_in shape y)) (sym (last_only x z end)) ∙ set_here mid (place_in shape x) low
  ];
  others = λ p is. elim (set_only mid (place_in shape x) p is) [
    | inl before ↦ elim (marks.others p before) [
      | inl old_one ↦ inl old_one
      | inr (z, there, at) ↦ inr (z, Contains-append_left ys (x ∷ []) z there, at)
    ]
    | inr here ↦ inr (x, Contains-append_right ys (x ∷ []) x (0, omega arith, refl), here)
  ];
})

-- so far the sites before a place were taken
pub record AreTaken (shape : Shape) (old : List Bool) (sites : List Site) (i : ℕ) (now : List Bool) : Type 0 where
  pub can : CanTake shape old (take i sites)
  pub marks : Marks shape old (take i sites) now

pub taken_more : (shape : Shape) (old mid new : List Bool) (sites : List Site) (i : ℕ) (d : Site) → i < length sites → AreTaken shape old sites i mid
    → length old ≡ shape.b * (shape.k + 1) → count_on (get_or sites i d).boundary (take i sites) ≡ 0 → IsVacant shape mid (get_or sites i d)
    → new ≡ set mid (place_in shape (get_or sites i d)) true → AreTaken shape old sites (i + 1) new
taken_more shape old mid new sites i d low are size none vacant e =
    let x = get_or sites i d in
    let within : place_in shape x < length mid = omega (arith, place_below shape x vacant.0, size, are.marks.size) in
    record {
      can = rw (take_more sites i d low) (take_next shape old mid (take i sites) x are.can are.marks none vacant);
      marks = rw (take_more sites i d low) (marks_next shape old mid new (take i sites) x are.marks within e);
    }

-- two sites on a boundary
pub twice_refused : (shape : Shape) (old : List Bool) (sites : List Site) (i : ℕ) (d : Site) → i < length sites
    → 0 < count_on (get_or sites i d).boundary (take i sites) → CanTake shape old sites → ⊥
twice_refused shape old sites i d low some can =
    let x = get_or sites i d in
    let front : count_on x.boundary (take (i + 1) sites) ≡ count_on x.boundary (take i sites ++ x ∷ []) = ap (count_on x.boundary) (take_more sites i d low) in
    omega (arith, front_on x.boundary sites (i + 1), front, count_on-last (take i sites) x, can.single x.boundary, some)

pub taken_refused : (shape : Shape) (old mid : List Bool) (sites : List Site) (i : ℕ) (d : Site) → i < length sites → AreTaken shape old sites i mid
    → count_on (get_or sites i d).boundary (take i sites) ≡ 0 → (IsVacant shape mid (get_or sites i d) → ⊥) → CanTake shape old sites → ⊥
taken_refused shape old mid sites i d low are none occupied can =
    let x = get_or sites i d in
    let vacant = can.vacant i d low in
    let there : is_set mid (place_in shape x) ≡ true = is_or_not (is_set mid (place_in shape x)) (λ free. occupied (vacant.0, free)) in
    elim (are.marks.others (place_in shape x) there) [
      | inl before ↦ false≢true (sym vacant.1 ∙ before)
      | inr (y, (k, lk, at), e) ↦
          let inside : IsInArray shape y = subst (IsInArray shape) at (are.can.vacant k y lk).0 in
          let same = same_place shape x y vacant.0.1 inside.1 e in
          omega (arith, none, count_pos x.boundary (take i sites) y (k, lk, at) (ap (λ (z : Site). z.boundary) (sym same)))
    ]

pub taken_all : (shape : Shape) (old now : List Bool) (sites : List Site) (i : ℕ) → length sites ≤ i → AreTaken shape old sites i now
    → CanTake shape old sites × Marks shape old sites now
taken_all shape old now sites i all are =
    (subst (CanTake shape old) (take_all i sites all) are.can, subst (λ l. Marks shape old l now) (take_all i sites all) are.marks)

-- ---- one more list

none_past : (rows : List (List Site)) (a : ℕ) (site : Site) → length rows ≤ a → Contains (get_or rows a []) site → ⊥
none_past rows a site past (k, low, at) =
    let none : length (get_or rows a []) ≡ 0 = ap length (get_or-eq_default rows [] past) in
    omega (arith, none, low)

row_cases : (rows : List (List Site)) (row : List Site) (a : ℕ) (site : Site) → Contains (get_or (rows ++ row ∷ []) a []) site
    → ((a < length rows) × Contains (get_or rows a []) site) ⊎ ((a ≡ length rows) × Contains row site)
row_cases rows row a site there = elim (cases_lt a (length rows)) [
  | inl low ↦ inl (low, subst (λ l. Contains l site) (get_or-append rows (row ∷ []) [] a low) there)
  | inr high ↦ elim (cases_eq a (length rows)) [
    | inl at ↦ inr (at, subst (λ l. Contains l site) (ap (λ (n : ℕ). get_or (rows ++ row ∷ []) n []) at ∙ get_or-append_seam rows row [] []) there)
    | inr past ↦ absurd (none_past (rows ++ row ∷ []) a site (omega (arith, length-append rows (row ∷ []), high, past)) there)
  ]
]

first_rows : (rows : List (List Site)) (row : List Site) (b : ℕ) (site : Site) → Contains (get_or rows b []) site → Contains (get_or (rows ++ row ∷ []) b []) site
first_rows rows row b site there = elim (cases_lt b (length rows)) [
  | inl low ↦ subst (λ l. Contains l site) (sym (get_or-append rows (row ∷ []) [] b low)) there
  | inr past ↦ absurd (none_past rows b site past there)
]

last_row : (rows : List (List Site)) (row : List Site) (site : Site) → Contains row site → Contains (get_or (rows ++ row ∷ []) (length rows) []) site
last_row rows row site there = subst (λ l. Contains l site) (sym (get_or-append_seam rows row [] [])) there

all_last_row : (P : List Site → Type 0) (x : List Site) → P x → All P (x ∷ [])
all_last_row P x is zero d low = is
all_last_row P x is (suc k) d low = absurd (omega (arith, low))

-- a marked slot isn't vacant
clash : (shape : Shape) (rows : List (List Site)) (row : List Site) (old : List Bool) (a : ℕ) (site : Site) → AreMarked shape rows old → CanTake shape old row
    → Contains (get_or rows a []) site → Contains row site → ⊥
clash shape rows row old a site marked can there (k, low, at) =
    let free : is_set old (place_in shape site) ≡ false = subst (λ (x : Site). is_set old (place_in shape x) ≡ false) at (can.vacant k site low).1 in
    false≢true (sym free ∙ marked.up a site there)

pub rows_more : (shape : Shape) (rows : List (List Site)) (row : List Site) (old : List Bool) → AreRows shape rows → AreMarked shape rows old → CanTake shape old row
    → AreRows shape (rows ++ row ∷ [])
rows_more shape rows row old are marked can = record {
  within = All-append (All (IsInArray shape)) rows (row ∷ []) are.within (all_last_row (All (IsInArray shape)) row (λ k d low. (can.vacant k d low).0));
  single = All-append (λ r. (s : ℕ) → count_on s r ≤ 1) rows (row ∷ []) are.single (all_last_row (λ r. (s : ℕ) → count_on s r ≤ 1) row can.single);
  one_block = λ a b site ina inb. elim (row_cases rows row a site ina) [
    | inl (la, ta) ↦ elim (row_cases rows row b site inb) [
      | inl (lb, tb) ↦ are.one_block a b site ta tb
      | inr (eb, tb) ↦ absurd (clash shape rows row old a site marked can ta tb)
    ]
    | inr (ea, ta) ↦ elim (row_cases rows row b site inb) [
      | inl (lb, tb) ↦ absurd (clash shape rows row old b site marked can tb ta)
      | inr (eb, tb) ↦ ea ∙ sym eb
    ]
  ];
}

pub marked_more : (shape : Shape) (rows : List (List Site)) (row : List Site) (old new : List Bool) → AreMarked shape rows old → Marks shape old row new
    → AreMarked shape (rows ++ row ∷ []) new
marked_more shape rows row old new marked marks = record {
  size = marks.size ∙ marked.size;
  up = λ b site there. elim (row_cases rows row b site there) [
    | inl (low, before) ↦ marks.kept (place_in shape site) (marked.up b site before)
    | inr (at, here) ↦ marks.marked site here
  ];
  down = λ p is. elim (marks.others p is) [
    | inl before ↦
        let from = marked.down p before in
        (from.0, from.1, first_rows rows row from.0 from.1 from.2, from.3)
    | inr (site, there, e) ↦ (length rows, site, last_row rows row site there, e)
  ];
}

-- ---- a table

before_of : (rows : List (List Site)) (i b : ℕ) (site : Site) → i < length rows → Contains (get_or (take i rows) b []) site
    → (b < i) × Contains (get_or rows b []) site
before_of rows i b site low there = elim (cases_lt b i) [
  | inl before ↦ (before, subst (λ l. Contains l site) (get_or-take i rows b [] before) there)
  | inr past ↦ absurd (none_past (take i rows) b site (omega (arith, length-take-le i rows (omega arith), past)) there)
]

not_marked : (shape : Shape) (rows : List (List Site)) (i : ℕ) (old : List Bool) → IsTable (record { shape = shape; rows = rows }) → i < length rows
    → AreMarked shape (take i rows) old → (x : Site) → Contains (get_or rows i []) x → IsInArray shape x → is_set old (place_in shape x) ≡ false
not_marked shape rows i old is low marked x here inside = elim (cases_Bool (is_set old (place_in shape x))) [
  | inl on ↦
      let from = marked.down (place_in shape x) on in
      let before = before_of rows i from.0 from.1 low from.2 in
      let y = from.1 in
      let same = same_place shape x y inside.1 (is.slots from.0 y.boundary y.slot before.1) from.3 in
      let there : Contains (get_or rows from.0 []) x = subst (Contains (get_or rows from.0 [])) (sym same) before.1 in
      let one : i ≡ from.0 = is.one_block i from.0 x.boundary x.slot here there in
      absurd (omega (arith, one, before.0))
  | inr off ↦ off
]

-- what the rows of a table before one have marked leaves that one vacant
pub can_take : (shape : Shape) (rows : List (List Site)) (i : ℕ) (old : List Bool) → IsTable (record { shape = shape; rows = rows }) → i < length rows
    → AreMarked shape (take i rows) old → CanTake shape old (get_or rows i [])
can_take shape rows i old is low marked = record {
  vacant = λ k d lk.
      let x = get_or (get_or rows i []) k d in
      let here : Contains (get_or rows i []) x = row_contains (get_or rows i []) k d lk in
      let inside : IsInArray shape x = (is.boundaries i x.boundary x.slot here, is.slots i x.boundary x.slot here) in
      (inside, not_marked shape rows i old is low marked x here inside);
  single = is.one_site i;
}

site_in : (shape : Shape) (rows : List (List Site)) (b : ℕ) (site : Site) → AreRows shape rows → Contains (get_or rows b []) site → IsInArray shape site
site_in shape rows b site are (k, low, at) = elim (cases_lt b (length rows)) [
  | inl within ↦ subst (IsInArray shape) at (are.within b [] within k site low)
  | inr past ↦ absurd (none_past rows b site past (k, low, at))
]

single_in : (shape : Shape) (rows : List (List Site)) (b s : ℕ) → AreRows shape rows → count_on s (get_or rows b []) ≤ 1
single_in shape rows b s are = elim (cases_lt b (length rows)) [
  | inl within ↦ are.single b [] within s
  | inr past ↦
      let none : count_on s (get_or rows b []) ≡ 0 = ap (count_on s) (get_or-eq_default rows [] past) in
      omega (arith, none)
]

-- ---- a boundary has no more used slots than slots

-- how many of the sites are in a slot
unfoldable at_slot : ℕ → ℕ → List Site → ℕ
at_slot s x sites = sum_by (λ (y : Site). cond ((y.boundary == s) && (y.slot == x)) 1 0) sites

here_in : (s k : ℕ) (y : Site) → y.slot ≤ k → cond {A = ℕ} (y.boundary == s) 1 0 ≤ sum_upto (k + 1) (λ x. cond ((y.boundary == s) && (y.slot == x)) 1 0)
here_in s k y low = elim (cases_Bool (y.boundary == s)) [
  | inl on ↦
      let term = term_le (λ x. cond {A = ℕ} ((y.boundary == s) && (y.slot == x)) 1 0) (k + 1) y.slot (omega (arith, low)) in
      let one : cond {A = ℕ} ((y.boundary == s) && (y.slot == y.slot)) 1 0 ≡ 1 =
      ap (λ (b : Bool). cond {A = ℕ} (b && (y.slot == y.slot)) 1 0) on ∙ one_if (y.slot == y.slot) (same_test y.slot y.slot refl) in
      omega (arith, term, one, one_if (y.boundary == s) on)
  | inr off ↦ omega (arith, zero_if (y.boundary == s) off)
]

slots_total : (s k : ℕ) (sites : List Site) → All (λ y. y.slot ≤ k) sites → count_on s sites ≤ sum_upto (k + 1) (λ x. at_slot s x sites)
unfolding at_slot
slots_total s k [] each = omega arith
slots_total s k (y ∷ ys) each =
    omega (
      arith,
      count_on-cons s y ys,
      sum_same (λ x. at_slot s x (y ∷ ys)) (λ x. cond ((y.boundary == s) && (y.slot == x)) 1 0 + at_slot s x ys) (k + 1)
          (λ x low. sum_by-cons (λ (z : Site). cond ((z.boundary == s) && (z.slot == x)) 1 0) y ys),
      sum_both (λ x. cond ((y.boundary == s) && (y.slot == x)) 1 0) (λ x. at_slot s x ys) (k + 1),
      here_in s k y (each 0 y (omega arith)),
      slots_total s k ys (λ j d low. each (suc j) d (omega (arith, low))),
    )

no_more : (a b : Bool) → cond {A = ℕ} (a && b) 1 0 ≤ cond {A = ℕ} a 1 0
no_more true true = omega arith
no_more true false = omega arith
no_more false b = omega arith

slot_on : (s x : ℕ) (sites : List Site) → at_slot s x sites ≤ count_on s sites
unfolding at_slot
slot_on s x [] = omega arith
slot_on s x (y ∷ ys) =
    omega (
      arith,
      count_on-cons s y ys,
      sum_by-cons (λ (z : Site). cond {A = ℕ} ((z.boundary == s) && (z.slot == x)) 1 0) y ys,
      no_more (y.boundary == s) (y.slot == x),
      slot_on s x ys,
    )

both_true : (a b : Bool) → (a && b) ≡ true → (a ≡ true) × (b ≡ true)
both_true true true e = (refl, refl)
both_true true false e = absurd (false≢true e)
both_true false b e = absurd (false≢true e)

slot_contains : (s x : ℕ) (sites : List Site) → 0 < at_slot s x sites → Contains sites (record { boundary = s; slot = x })
unfolding at_slot
slot_contains s x [] some = absurd (omega (arith, some))
slot_contains s x (y ∷ ys) some = elim (cases_Bool ((y.boundary == s) && (y.slot == x))) [
  | inl here ↦
      let both = both_true (y.boundary == s) (y.slot == x) here in
      (0, omega arith, rw (← (Decides-eqb y.boundary s).0 both.0, ← (Decides-eqb y.slot x).0 both.1) refl)
  | inr off ↦
      let rest = slot_contains s x ys (omega (
        arith,
        some,
        sum_by-cons (λ (z : Site). cond {A = ℕ} ((z.boundary == s) && (z.slot == x)) 1 0) y ys,
        zero_if ((y.boundary == s) && (y.slot == x)) off,
      )) in
      (suc rest.0, omega (arith, rest.1), rest.2)
]

sum_single : (f : ℕ → ℕ) (n : ℕ) → ((i : ℕ) → f i ≤ 1) → ((i j : ℕ) → 0 < f i → 0 < f j → i ≡ j) → sum_upto n f ≤ 1
sum_single f zero most one = omega arith
sum_single f (suc n) most one = elim (cases_lt 0 (f n)) [
  | inl some ↦
      let none : sum_upto n f ≡ 0 = sum_zero f n (λ i low. elim (cases_lt 0 (f i)) [
        | inl other ↦ absurd (omega (arith, one i n other some, low))
        | inr zero_there ↦ omega (arith, zero_there)
      ]) in
      omega (arith, none, most n)
  | inr none ↦ omega (arith, none, sum_single f n most one)
]

few_used : (shape : Shape) (rows : List (List Site)) (s : ℕ) → AreRows shape rows → sum_by (count_on s) rows ≤ shape.k + 1
few_used shape rows s are =
    omega (
      arith,
      sum_places (count_on s) rows [],
      sum_le (λ i. count_on s (get_or rows i [])) (λ i. sum_upto (shape.k + 1) (λ x. at_slot s x (get_or rows i []))) (length rows)
          (λ i low. slots_total s shape.k (get_or rows i []) (λ j d lj. (site_in shape rows i (get_or (get_or rows i []) j d) are (row_contains (get_or rows i []) j d lj)).1)),
      sum_swap (λ i x. at_slot s x (get_or rows i [])) (length rows) (shape.k + 1),
      sum_le_most (λ x. sum_upto (length rows) (λ i. at_slot s x (get_or rows i []))) (shape.k + 1) 1
          (λ x low. sum_single (λ i. at_slot s x (get_or rows i [])) (length rows)
          (λ i. omega (arith, slot_on s x (get_or rows i []), single_in shape rows i s are))
          (λ i j here there. are.one_block i j (record { boundary = s; slot = x }) (slot_contains s x (get_or rows i []) here) (slot_contains s x (get_or rows j []) there))),
    )

pub table_from : (shape : Shape) (rows : List (List Site)) → IsShape shape → length rows ≡ shape.n → AreRows shape rows
    → IsTable (record { shape = shape; rows = rows })
table_from shape rows is size are = record {
  shape = is;
  size = size;
  boundaries = λ b s slot there. (site_in shape rows b (record { boundary = s; slot = slot }) are there).0;
  slots = λ b s slot there. (site_in shape rows b (record { boundary = s; slot = slot }) are there).1;
  one_block = λ a b s slot x y. are.one_block a b (record { boundary = s; slot = slot }) x y;
  one_site = λ b s. single_in shape rows b s are;
  used = λ s. few_used shape rows s are;
}
