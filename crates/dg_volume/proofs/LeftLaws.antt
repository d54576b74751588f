-- What is left of the homes of an array, of its boundaries in use and of its cut blocks without the lost boundaries.
use Rattle.std.proofs.Common.{◌≡◌, ◌∙◌, ◌<◌, ◌≤◌, ◌+◌, ◌||◌, ◌⊎◌, ℕ, suc, Bool, true, false, cond, List, [], ◌∷◌, length, map, get_or, filter, not, inl, inr, refl, sym, ap, subst, arith}
use Rattle.std.specs.Prelude.{◌^◌, All, IfSome, None, Option, Some, option_to_list}
use Rattle.std.specs.List.{list_any, range_with_len}
use Rattle.std.specs.List.Sorted.{IsStrictlyIncreasing}
use Rattle.std.proofs.Math.ListN.{get_or-eq_default}
use Rattle.std.proofs.lemmas.Bool.{and_parts, cases_Bool, cases_lt, false≢true}
use Rattle.std.proofs.lemmas.Bool.Decides.{nat_tests}
use Rattle.std.proofs.lemmas.List.{get_or-map, length-append, length-map}
use Rattle.std.proofs.lemmas.List.Concat.{flat_map-cons}
use Rattle.std.proofs.lemmas.List.Elements.{All-append, All-cons, All-filter, All-nil, filter_passes}
use Rattle.std.proofs.lemmas.List.FromFn.{get_or-map-range_with_len, get_or-range_with_len, length-map-range_with_len, length-range_with_len}
use Rattle.std.proofs.lemmas.List.Filters.{length-filter_both}
use Rattle.std.proofs.lemmas.List.Sums.{count_by-le-length, length-filter}
use Rattle.dg_model.proofs.RegroupLaws.{left_ascend, place_at, rises, sites_of_left}
use Rattle.dg_model.specs.Homes.{home_of}
use Rattle.dg_model.specs.Lives.{boundary_at, left_of, place_in}
use Rattle.dg_model.specs.Marks.{is_marked}
use Rattle.dg_model.specs.Members.{is_lost}
use Rattle.dg_model.specs.Openings.{FitsReduced, Reduced}
use Rattle.dg_model.specs.Regroups.{home_left, homes_left, is_left, moved_home, site_left, sites_left, table_left}
use Rattle.dg_model.specs.Sites.{all_lost, has_site, is_gone}
use Rattle.dg_model.specs.States.{has_lost}
use Rattle.dg_model.specs.Tables.{Table, sites_in}
use Rattle.dg_model.specs.declared.homes.Home.{Home}
use Rattle.dg_model.specs.declared.members.MemberState.{MemberState}
use Rattle.dg_model.specs.declared.shapes.Shape.{Shape}
use Rattle.dg_model.specs.declared.sites.Site.{Site}
use Rattle.dg_volume.specs.Left.{marked_too}

-- ---- homes

-- it is of this inode, and on a boundary that is left
abbrev pub IsOn : List ℕ → ℕ → Home → Type 0
IsOn left i home = (home.inode ≡ i) × (home.boundary < length left)

moved_on : (left : List ℕ) (i : ℕ) (at : Option ℕ) → IfSome (moved_home left i at) (IsOn left i)
moved_on left i None = tt
moved_on left i (Some x) = by_test (is_left left x) refl
  where
    by_test : (b : Bool) → is_left left x ≡ b → IfSome (cond {A = Option Home} b (Some (record { inode = i; boundary = place_in left x })) None) (IsOn left i)
    by_test true e = (refl, grind (arith, nat_tests))
    by_test false e = tt

home_on : (left : List ℕ) (copies : List Home) (home : Home) → IfSome (home_left left copies home) (IsOn left home.inode)
home_on left copies home = by_test (is_left left home.boundary)
  where
    by_test : (b : Bool) → IfSome (cond b (moved_home left home.inode (Some home.boundary)) (moved_home left home.inode (home_of copies home.inode))) (IsOn left home.inode)
    by_test true = moved_on left home.inode (Some home.boundary)
    by_test false = moved_on left home.inode (home_of copies home.inode)

-- the inodes fit, and the boundaries are below a number
abbrev pub Fit : ℕ → Home → Type 0
Fit n home = (home.inode < 2 ^ 32) × (home.boundary < n)

pub homes_fit : (left : List ℕ) (n : ℕ) (copies homes : List Home) → All (Fit n) homes → All (Fit (length left)) (homes_left left copies homes)
homes_fit left n copies [] fit = All-nil (Fit (length left))
homes_fit left n copies (home ∷ rest) fit =
    subst (All (Fit (length left))) (sym (flat_map-cons (λ one. option_to_list (home_left left copies one)) home rest))
    (All-append (Fit (length left)) (option_to_list (home_left left copies home)) (homes_left left copies rest)
    (one (home_left left copies home) (home_on left copies home)) (homes_fit left n copies rest (λ k d low. fit (suc k) d (omega (arith, low)))))
  where
    one : (found : Option Home) → IfSome found (IsOn left home.inode) → All (Fit (length left)) (option_to_list found)
    one None on = All-nil (Fit (length left))
    one (Some other) on =
        let small = (fit 0 home (omega arith)).0 in
        All-cons (Fit (length left)) other [] (omega (arith, small, on.0), on.1) (All-nil (Fit (length left)))

pub homes_few : (left : List ℕ) (copies homes : List Home) → length (homes_left left copies homes) ≤ length homes
homes_few left copies [] = omega arith
homes_few left copies (home ∷ rest) =
    let more = ap length (flat_map-cons (λ one. option_to_list (home_left left copies one)) home rest) in
    let both = length-append (option_to_list (home_left left copies home)) (homes_left left copies rest) in
    let first = one (home_left left copies home) in
    let later = homes_few left copies rest in
    omega (arith, more, both, first, later)
  where
    one : (found : Option Home) → length (option_to_list found) ≤ 1
    one None = omega arith
    one (Some other) = omega arith

-- ---- boundaries

-- those that are left are places of the array
pub left_within : (shape : Shape) (members : ℕ → MemberState) → All (λ x. x < shape.b) (left_of shape members)
left_within shape members = All-filter (λ x. not (is_lost members x)) (λ x. x < shape.b) (range_with_len 0 shape.b) within
  where
    within : All (λ x. x < shape.b) (range_with_len 0 shape.b)
    within k d low =
        let long = length-range_with_len 0 shape.b in
        let inside : k < shape.b = omega (arith, low, long) in
        omega (arith, inside, get_or-range_with_len 0 shape.b k d inside)

-- there are no more of them
pub left_few : (shape : Shape) (members : ℕ → MemberState) → length (left_of shape members) ≤ shape.b
left_few shape members =
    omega (
      arith,
      length-filter_both (λ x. not (is_lost members x)) (λ x. not (not (is_lost members x))) (λ x. refl) (range_with_len 0 shape.b),
      length-range_with_len 0 shape.b,
    )

-- a list has fewer items without those that pass, where some item does
filter_fewer : (p : ℕ → Bool) (xs : List ℕ) → list_any p xs ≡ true → length (filter (λ x. not (p x)) xs) < length xs
filter_fewer p [] some = absurd (false≢true some)
filter_fewer p (x ∷ xs) some = by_test (p x) refl (filter_fewer p xs)
  where
    by_test : (b : Bool) → p x ≡ b → (list_any p xs ≡ true → length (filter (λ y. not (p y)) xs) < length xs) → length (filter (λ y. not (p y)) (x ∷ xs)) < suc (length xs)
    by_test true out more =
        let same = ap (λ (b : Bool). length (cond (not b) (x ∷ filter (λ y. not (p y)) xs) (filter (λ y. not (p y)) xs))) out in
        omega (arith, same, length-filter (λ y. not (p y)) xs, count_by-le-length (λ y. not (p y)) xs)
    by_test false stays more =
        let same = ap (λ (b : Bool). length (cond (not b) (x ∷ filter (λ y. not (p y)) xs) (filter (λ y. not (p y)) xs))) stays in
        omega (arith, same, more (sym (ap (λ (b : Bool). b || list_any p xs) stays) ∙ some))

-- there are fewer where a boundary is lost
pub left_fewer : (shape : Shape) (members : ℕ → MemberState) → has_lost shape members ≡ true → length (left_of shape members) < shape.b
left_fewer shape members lost = let fewer = filter_fewer (is_lost members) (range_with_len 0 shape.b) lost in omega (arith, fewer, length-range_with_len 0 shape.b)

-- a lost one isn't left
lost_out : (shape : Shape) (members : ℕ → MemberState) (s : ℕ) → is_lost members s ≡ true → is_left (left_of shape members) s ≡ false
lost_out shape members s lost = elim (cases_Bool (is_left (left_of shape members) s)) [
  | inl is ↦
      let low : place_in (left_of shape members) s < length (left_of shape members) = grind (arith, nat_tests) in
      let stays = filter_passes (λ x. not (is_lost members x)) (range_with_len 0 shape.b) (place_in (left_of shape members) s) 0 low in
      let same = place_at (left_of shape members) s low in
      absurd (false≢true (sym (ap not lost) ∙ ap (λ (x : ℕ). not (is_lost members x)) (sym same) ∙ stays))
  | inr none ↦ none
]

-- ---- sites

-- a block that stands on lost boundaries alone keeps no site
gone_bare : (left : List ℕ) (members : ℕ → MemberState) → ((s : ℕ) → is_lost members s ≡ true → is_left left s ≡ false) → (sites : List Site) → all_lost members sites ≡ true
    → sites_left left sites ≡ []
gone_bare left members out [] lost = refl
gone_bare left members out (site ∷ rest) lost =
    let parts = and_parts (is_lost members site.boundary) (all_lost members rest) lost in
    ap (λ (b : Bool). map (site_left left) (cond b (site ∷ filter (λ other. is_left left other.boundary) rest) (filter (λ other. is_left left other.boundary) rest))) (out site.boundary parts.0)
    ∙ gone_bare left members out rest parts.1

bare : (sites : List Site) → has_site sites ≡ false → sites ≡ []
bare [] none = refl
bare (site ∷ rest) none = absurd (false≢true (sym none))

-- neither does one that had none
pub none_left : (shape : Shape) (members : ℕ → MemberState) (table : Table) (b : ℕ) → (has_site (sites_in table b) ≡ false) ⊎ (is_gone table members b ≡ true)
    → has_site (sites_in (table_left (left_of shape members) table) b) ≡ false
none_left shape members table b why =
    let left = left_of shape members in
    ap has_site (sites_of_left left table b) ∙ elim why [
      | inl none ↦ ap (λ (sites : List Site). has_site (sites_left left sites)) (bare (sites_in table b) none)
      | inr gone ↦ ap has_site (gone_bare left members (lost_out shape members) (sites_in table b) (and_parts (has_site (sites_in table b)) (all_lost members (sites_in table b)) gone).1)
    ]

-- ---- the boundaries in use

-- the numbers of those that are left
pub numbers_ascend : (left live : List ℕ) → IsStrictlyIncreasing live → IsStrictlyIncreasing left → All (λ x. x < length live) left → IsStrictlyIncreasing (map (boundary_at live) left)
numbers_ascend left live rise up low k within =
    let long = length-map left (boundary_at live) in
    let first : k < length left = omega (arith, within, long) in
    let second : k + 1 < length left = omega (arith, within, long) in
    let lt = rises live rise (get_or left k 0) (get_or left (k + 1) 0) (up k second) (low (k + 1) 0 second) in
    omega (arith, lt, get_or-map (boundary_at live) left k 0 0 first, get_or-map (boundary_at live) left (k + 1) 0 0 second)

numbers_low : (left live : List ℕ) (most : ℕ) → All (λ s. s < most) live → All (λ x. x < length live) left → All (λ s. s < most) (map (boundary_at live) left)
numbers_low left live most few low k d within =
    let first : k < length left = omega (arith, within, length-map left (boundary_at live)) in
    let lt = few (get_or left k 0) 0 (low k 0 first) in
    omega (arith, lt, get_or-map (boundary_at live) left k 0 d first)

-- what stands beside the state fits what is left of the table
pub fits_left : (table : Table) (members : ℕ → MemberState) (reduced : Reduced) → FitsReduced table reduced
    → FitsReduced (table_left (left_of table.shape members) table) (record {
      boundaries = reduced.boundaries;
      live = map (boundary_at reduced.live) (left_of table.shape members);
      cut = marked_too (is_gone table members) reduced.cut;
    })
fits_left table members reduced fits =
    let left = left_of table.shape members in
    let within : All (λ x. x < length reduced.live) left = λ k d low. omega (arith, fits.number, left_within table.shape members k d low) in record {
      most = fits.most;
      live = record {
        ascend = numbers_ascend left reduced.live fits.live.ascend (left_ascend table.shape members) within;
        within = numbers_low left reduced.live reduced.boundaries fits.live.within within;
      };
      number = length-map left (boundary_at reduced.live);
      marks = length-map-range_with_len (λ b. is_marked reduced.cut b || is_gone table members b) 0 (length reduced.cut) ∙ fits.marks;
      unsited = λ b marked. none_left table.shape members table b (why b marked);
    }
  where
    by_mark : (cut gone : Bool) (b : ℕ) → is_marked reduced.cut b ≡ cut → is_gone table members b ≡ gone → (cut || gone) ≡ true
        → (has_site (sites_in table b) ≡ false) ⊎ (is_gone table members b ≡ true)
    by_mark true gone b was is either = inl (fits.unsited b was)
    by_mark false true b was is either = inr is
    by_mark false false b was is either = absurd (false≢true either)

    why : (b : ℕ) → is_marked (marked_too (is_gone table members) reduced.cut) b ≡ true → (has_site (sites_in table b) ≡ false) ⊎ (is_gone table members b ≡ true)
    why b marked =
        let long = length-map-range_with_len (λ c. is_marked reduced.cut c || is_gone table members c) 0 (length reduced.cut) in
        elim (cases_lt b (length reduced.cut)) [
          | inl low ↦ by_mark (is_marked reduced.cut b) (is_gone table members b) b refl refl
              (sym (get_or-map-range_with_len (λ c. is_marked reduced.cut c || is_gone table members c) 0 (length reduced.cut) b b false low (omega arith)) ∙ marked)
          | inr high ↦ absurd (false≢true (sym (get_or-eq_default (marked_too (is_gone table members) reduced.cut) false (omega (arith, high, long))) ∙ marked))
        ]
