-- The least home that passes a test, once a home joins. So a table from directories to their least placed file keeps step.
use Rattle.std.proofs.Common.{◌≡◌, ◌<◌, ◌+◌, ◌==◌, ℕ, Bool, true, false, cond, List, [], ◌∷◌, drop, get_or, length, inl, inr, refl, sym, ◌∙◌, ap, subst, arith}
use Rattle.std.specs.Prelude.{Option, Some, None, Ok, Err, find, nat_lt}
use Rattle.std.proofs.lemmas.Bool.{cases_Bool, cases_lt, le-ltb, lt-ltb}
use Rattle.std.specs.BTreeMap.{BTreeMap, get, is_at}
use Rattle.std.proofs.lemmas.List.{drop_more}
use Rattle.dg_plan.proofs.FileLaws.{test_is}
use Rattle.std.specs.Ordering.{nat_cmp}
use Rattle.dg_model.proofs.SiteLists.{apart_test, same_test}
use Rattle.std.proofs.lemmas.Bool.{cases_eq}
use Rattle.dg_plan.specs.Beside.{AreLeast, Rise, RiseFrom, lesser}
use Rattle.dg_model.specs.Homes.{home_of, with_home}
use Rattle.dg_model.specs.Plans.{Placed, are_same, beside, boundary_for, directory_of, has_room, place_with, placed_on}
use Rattle.dg_plan.specs.Placings.{beside_in}
use Rattle.dg_model.specs.declared.wants.NoRoom.TheVariants.{Inode}
use Rattle.dg_model.specs.declared.parents.Parent.{Parent}
use Rattle.dg_model.specs.declared.homes.Home.{Home}

found_above : (test : Home → Bool) (n : ℕ) (homes : List Home) (f : Home) → RiseFrom n homes → find test homes ≡ Some f → n < f.inode
found_above test n [] f rise found = absurd (cc)
found_above test n (first ∷ homes) f rise found = elim (cases_Bool (test first)) [
  | inl hit ↦
      let e : ◌≡◌ {A = Option Home} (Some first) (Some f) = sym (ap (λ (v : Bool). cond v (Some first) (find test homes)) hit) ∙ found in
      let same : first ≡ f = cc in
      subst (λ (h : Home). n < h.inode) same rise.0
  | inr miss ↦
      let later = found_above test first.inode homes f rise.1 (sym (ap (λ (v : Bool). cond v (Some first) (find test homes)) miss) ∙ found) in
      let low = rise.0 in omega (arith, later, low)
]

lesser_new : (home : Home) (o : Option Home) → ((f : Home) → o ≡ Some f → home.inode < f.inode) → lesser home o ≡ Some home
lesser_new home None low = refl
lesser_new home (Some f) low = ap (λ (v : Bool). cond v (Some home) (Some f)) (lt-ltb home.inode f.inode (low f refl))

rise_of : (n : ℕ) (homes : List Home) → RiseFrom n homes → Rise homes
rise_of n [] rise = tt
rise_of n (first ∷ homes) rise = rise.1

pub find_with : (test : Home → Bool) (home : Home) (homes : List Home) → Rise homes → test home ≡ true → find test (with_home home homes) ≡ lesser home (find test homes)
find_with test home [] rise passes = ap (λ (v : Bool). cond v (Some home) None) passes
find_with test home (first ∷ homes) rise passes = elim (cases_lt home.inode first.inode) [
  | inl lt ↦
      ap (λ (v : Bool). find test (cond v (home ∷ first ∷ homes) (first ∷ with_home home homes))) (lt-ltb home.inode first.inode lt)
      ∙ ap (λ (v : Bool). cond v (Some home) (find test (first ∷ homes))) passes
      ∙ sym (lesser_new home (find test (first ∷ homes)) (λ f found. found_above test home.inode (first ∷ homes) f (lt, rise) found))
  | inr ge ↦
      ap (λ (v : Bool). find test (cond v (home ∷ first ∷ homes) (first ∷ with_home home homes))) (le-ltb home.inode first.inode ge)
      ∙ (elim (cases_Bool (test first)) [
        | inl hit ↦
            ap (λ (v : Bool). cond v (Some first) (find test (with_home home homes))) hit
            ∙ sym (ap (λ (v : Bool). lesser home (cond v (Some first) (find test homes))) hit ∙ ap (λ (v : Bool). cond v (Some home) (Some first)) (le-ltb home.inode first.inode ge))
        | inr miss ↦
            ap (λ (v : Bool). cond v (Some first) (find test (with_home home homes))) miss
            ∙ find_with test home homes (rise_of first.inode homes rise) passes
            ∙ sym (ap (λ (v : Bool). lesser home (cond v (Some first) (find test homes))) miss)
      ])
]

-- a home that doesn't pass changes nothing
pub find_without : (test : Home → Bool) (home : Home) (homes : List Home) → test home ≡ false → find test (with_home home homes) ≡ find test homes
find_without test home [] fails = ap (λ (v : Bool). cond v (Some home) None) fails
find_without test home (first ∷ homes) fails = elim (cases_Bool (nat_lt home.inode first.inode)) [
  | inl hit ↦
      ap (λ (v : Bool). find test (cond v (home ∷ first ∷ homes) (first ∷ with_home home homes))) hit
      ∙ ap (λ (v : Bool). cond v (Some home) (find test (first ∷ homes))) fails
  | inr miss ↦
      ap (λ (v : Bool). find test (cond v (home ∷ first ∷ homes) (first ∷ with_home home homes))) miss
      ∙ ap (λ (o : Option Home). cond (test first) (Some first) o) (find_without test home homes fails)
]

-- ---- rising homes

rise_with : (n : ℕ) (home : Home) (homes : List Home) → n < home.inode → RiseFrom n homes → home_of homes home.inode ≡ None → RiseFrom n (with_home home homes)
rise_with n home [] low rise none = (low, tt)
rise_with n home (first ∷ homes) low rise none = elim (cases_lt home.inode first.inode) [
  | inl lt ↦ subst (λ (v : Bool). RiseFrom n (cond v (home ∷ first ∷ homes) (first ∷ with_home home homes))) (sym (lt-ltb home.inode first.inode lt)) (low, (lt, rise.1))
  | inr ge ↦
      let apart : first.inode ≡ home.inode → ⊥ = λ at.
      (let found : home_of (first ∷ homes) home.inode ≡ Some first.boundary = ap (λ (b : Bool). cond b (Some first.boundary) (home_of homes home.inode)) (same_test first.inode home.inode at) in cc) in
      let later : home_of homes home.inode ≡ None = sym (ap (λ (b : Bool). cond b (Some first.boundary) (home_of homes home.inode)) (apart_test first.inode home.inode apart)) ∙ none in
      subst (λ (v : Bool). RiseFrom n (cond v (home ∷ first ∷ homes) (first ∷ with_home home homes))) (sym (le-ltb home.inode first.inode ge))
      (rise.0, rise_with first.inode home homes (omega (arith, ge, apart)) rise.1 later)
]

pub rise_more : (home : Home) (homes : List Home) → Rise homes → home_of homes home.inode ≡ None → Rise (with_home home homes)
rise_more home [] rise none = tt
rise_more home (first ∷ homes) rise none = elim (cases_lt home.inode first.inode) [
  | inl lt ↦ subst (λ (v : Bool). Rise (cond v (home ∷ first ∷ homes) (first ∷ with_home home homes))) (sym (lt-ltb home.inode first.inode lt)) (lt, rise)
  | inr ge ↦
      let apart : first.inode ≡ home.inode → ⊥ = λ at.
      (let found : home_of (first ∷ homes) home.inode ≡ Some first.boundary = ap (λ (b : Bool). cond b (Some first.boundary) (home_of homes home.inode)) (same_test first.inode home.inode at) in cc) in
      let later : home_of homes home.inode ≡ None = sym (ap (λ (b : Bool). cond b (Some first.boundary) (home_of homes home.inode)) (apart_test first.inode home.inode apart)) ∙ none in
      subst (λ (v : Bool). Rise (cond v (home ∷ first ∷ homes) (first ∷ with_home home homes))) (sym (le-ltb home.inode first.inode ge))
      (rise_with first.inode home homes (omega (arith, ge, apart)) rise later)
]

-- ---- the table of directories

same_some : (a : Option ℕ) (d e : ℕ) → a ≡ Some d → are_same a (Some e) ≡ (d == e)
same_some a d e at = ap (λ (o : Option ℕ). are_same o (Some e)) at

same_none : (a : Option ℕ) (e : ℕ) → a ≡ None → are_same a (Some e) ≡ false
same_none a e at = ap (λ (o : Option ℕ). are_same o (Some e)) at

-- a file with a directory got its home
pub least_more : (parents : List Parent) (old new : BTreeMap ℕ Home) (homes : List Home) (home : Home) (d : ℕ) → AreLeast parents old homes → Rise homes → directory_of parents home.inode ≡ Some d
    → ((e : ℕ) → get nat_cmp new e ≡ cond (d == e) (lesser home (get nat_cmp old e)) (get nat_cmp old e)) → AreLeast parents new (with_home home homes)
least_more parents old new homes home d least rise inside noted e = elim (cases_eq d e) [
  | inl at ↦
      noted e
      ∙ ap (λ (b : Bool). cond b (lesser home (get nat_cmp old e)) (get nat_cmp old e)) (same_test d e at)
      ∙ ap (lesser home) (least e)
      ∙ sym (find_with (λ h. are_same (directory_of parents h.inode) (Some e)) home homes rise (same_some (directory_of parents home.inode) d e inside ∙ same_test d e at))
  | inr off ↦
      noted e
      ∙ ap (λ (b : Bool). cond b (lesser home (get nat_cmp old e)) (get nat_cmp old e)) (apart_test d e off)
      ∙ least e
      ∙ sym (find_without (λ h. are_same (directory_of parents h.inode) (Some e)) home homes (same_some (directory_of parents home.inode) d e inside ∙ apart_test d e off))
]

-- one without a directory did
pub least_same : (parents : List Parent) (table : BTreeMap ℕ Home) (homes : List Home) (home : Home) → AreLeast parents table homes → directory_of parents home.inode ≡ None → AreLeast parents table (with_home home homes)
least_same parents table homes home least none e =
    least e ∙ sym (find_without (λ h. are_same (directory_of parents h.inode) (Some e)) home homes (same_none (directory_of parents home.inode) e none))

find_never : (test : Home → Bool) (homes : List Home) → ((h : Home) → test h ≡ false) → find test homes ≡ None
find_never test [] never = refl
find_never test (h ∷ homes) never = ap (λ (v : Bool). cond v (Some h) (find test homes)) (never h) ∙ find_never test homes never

never_same : (a : Option ℕ) → are_same a None ≡ false
never_same None = refl
never_same (Some d) = refl

-- beside which file another goes
pub beside_none : (parents : List Parent) (i : ℕ) (homes : List Home) → directory_of parents i ≡ None → beside parents i homes ≡ None
beside_none parents i homes none =
    ap (λ (o : Option ℕ). find (λ h. are_same (directory_of parents h.inode) o) homes) none
    ∙ find_never (λ h. are_same (directory_of parents h.inode) None) homes (λ h. never_same (directory_of parents h.inode))

pub beside_some : (parents : List Parent) (table : BTreeMap ℕ Home) (i d : ℕ) (homes : List Home) → AreLeast parents table homes → directory_of parents i ≡ Some d → beside parents i homes ≡ get nat_cmp table d
beside_some parents table i d homes least inside =
    ap (λ (o : Option ℕ). find (λ h. are_same (directory_of parents h.inode) o) homes) inside ∙ sym (least d)

-- ---- directories of inodes

-- one parent more, from the front of what is left
pub directory_more : (parents : List Parent) (k n : ℕ) (d : Parent) (old new : BTreeMap ℕ ℕ) → n ≡ k + 1 → k < length parents → ((i : ℕ) → get nat_cmp old i ≡ directory_of (drop n parents) i)
    → ((i : ℕ) → get nat_cmp new i ≡ cond (is_at (nat_cmp (get_or parents k d).inode) i) (Some (get_or parents k d).directory) (get nat_cmp old i))
    → (i : ℕ) → get nat_cmp new i ≡ directory_of (drop k parents) i
directory_more parents k n d old new one below are put i =
    put i
    ∙ ap (λ (o : Option ℕ). cond (is_at (nat_cmp (get_or parents k d).inode) i) (Some (get_or parents k d).directory) o) (are i ∙ ap (λ (m : ℕ). directory_of (drop m parents) i) one)
    ∙ ap (λ (b : Bool). cond b (Some (get_or parents k d).directory) (directory_of (drop (k + 1) parents) i)) (test_is (get_or parents k d).inode i)
    ∙ sym (ap (λ (ps : List Parent). directory_of ps i) (drop_more parents k d below))

-- the file beside which another goes, by the table
pub beside_is : (parents : List Parent) (table : BTreeMap ℕ Home) (directory : Option ℕ) (i : ℕ) (homes : List Home) → AreLeast parents table homes → directory ≡ directory_of parents i → beside parents i homes ≡ beside_in table directory
beside_is parents table None i homes least is = beside_none parents i homes (sym is)
beside_is parents table (Some d) i homes least is = beside_some parents table i d homes least (sym is)

pub place_stops : (count i s : ℕ) (parents : List Parent) (placed : Placed) → s ≡ boundary_for count (beside parents i placed.homes) placed.rooms → has_room s count placed.rooms ≡ false → place_with count parents i placed ≡ Err (Inode i)
unfolding place_with
place_stops count i s parents placed is none =
    ap (λ (b : ℕ). cond (has_room b count placed.rooms) (Ok (placed_on i count b placed)) (Err (Inode i))) (sym is)
    ∙ ap (λ (v : Bool). cond v (Ok (placed_on i count s placed)) (Err (Inode i))) none

pub place_goes : (count i s : ℕ) (parents : List Parent) (placed : Placed) → s ≡ boundary_for count (beside parents i placed.homes) placed.rooms → has_room s count placed.rooms ≡ true → place_with count parents i placed ≡ Ok (placed_on i count s placed)
unfolding place_with
place_goes count i s parents placed is some =
    ap (λ (b : ℕ). cond (has_room b count placed.rooms) (Ok (placed_on i count b placed)) (Err (Inode i))) (sym is)
    ∙ ap (λ (v : Bool). cond v (Ok (placed_on i count s placed)) (Err (Inode i))) some
