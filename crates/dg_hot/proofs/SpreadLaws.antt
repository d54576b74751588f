-- Copies of one file after another, and the boundary for a copy.
use Rattle.std.proofs.Common.{◌≡◌, ◌≢◌, ◌<◌, ◌≤◌, ◌+◌, ◌++◌, ℕ, suc, Bool, true, false, List, [], ◌∷◌, length, get_or, take, refl, sym, ◌∙◌, ap, subst, arith}
use Rattle.std.specs.Prelude.{IfSome, Option, Some, None, if◌then◌else◌, nat_le}
use Rattle.std.proofs.lemmas.Bool.Decides.{nat_tests}
use Rattle.std.proofs.lemmas.List.{take_more}
use Rattle.dg_model.specs.Copies.{Spread, copied_to, emptier, emptiest, emptiest_of, fitted, spread_by, spread_over}
use Rattle.dg_model.specs.Homes.{home_of}
use Rattle.dg_model.specs.Plans.{blocks_of}
use Rattle.dg_model.specs.Tables.{Table, used_in}
use Rattle.dg_model.specs.declared.homes.Home.{Home}
use Rattle.dg_model.specs.declared.wants.Want.{Want}
use Rattle.dg_model.proofs.EmptiestLaws.{never_home}
use Rattle.dg_model.proofs.SiteLists.{apart_test, same_test}

-- ---- files

pub spread_more : (wants : List (Option Want)) (homes : List Home) (is : List ℕ) (i : ℕ) (old now : Spread) → now ≡ spread_over wants homes is old
    → spread_over wants homes (is ++ i ∷ []) old ≡ spread_by wants i (home_of homes i) (home_of now.copies i) now
unfolding spread_over
spread_more wants homes [] i old now e = ap (λ (spread : Spread). spread_by wants i (home_of homes i) (home_of spread.copies i) spread) (sym e)
spread_more wants homes (j ∷ is) i old now e = spread_more wants homes is i (spread_by wants j (home_of homes j) (home_of old.copies j) old) now e

-- one more of the recent files
pub spread_next : (wants : List (Option Want)) (homes : List Home) (recent : List ℕ) (k i : ℕ) (old now : Spread) → k < length recent → get_or recent k 0 ≡ i
    → now ≡ spread_over wants homes (take k recent) old
    → spread_by wants i (home_of homes i) (home_of now.copies i) now ≡ spread_over wants homes (take (k + 1) recent) old
spread_next wants homes recent k i old now low at e =
    sym (ap (λ (is : List ℕ). spread_over wants homes is old) (take_more recent k 0 low ∙ ap (λ (j : ℕ). take k recent ++ j ∷ []) at)
    ∙ spread_more wants homes (take k recent) i old now e)

-- a file that has no home, or a copy, gets none
pub skipped_by : (wants : List (Option Want)) (i : ℕ) (home there : Option ℕ) (spread : Spread) → ((h : ℕ) → home ≡ Some h → there ≡ None → ⊥) → spread_by wants i home there spread ≡ spread
skipped_by wants i None there spread other = refl
skipped_by wants i (Some h) None spread other = absurd (other h refl refl)
skipped_by wants i (Some h) (Some s) spread other = refl

-- and one that has a home and no copy is fitted in
pub fitted_by : (wants : List (Option Want)) (i h : ℕ) (home there : Option ℕ) (spread : Spread) → home ≡ Some h → there ≡ None
    → spread_by wants i home there spread ≡ fitted i (emptiest spread.table h) (blocks_of wants i) spread
fitted_by wants i h home there spread has none =
    ap (λ (o : Option ℕ). spread_by wants i o there spread) has ∙ ap (λ (o : Option ℕ). spread_by wants i (Some h) o spread) none

pub not_fitted : (i s : ℕ) (blocks : List ℕ) (spread : Spread) → spread.table.shape.k < used_in spread.table s + length blocks → fitted i (Some s) blocks spread ≡ spread
not_fitted i s blocks spread full =
    let e : nat_le (used_in spread.table s + length blocks) spread.table.shape.k ≡ false = grind (arith, nat_tests) in
    ap (λ (t : Bool). if t then copied_to i s blocks spread else spread) e

pub does_fit : (i s : ℕ) (blocks : List ℕ) (spread : Spread) → used_in spread.table s + length blocks ≤ spread.table.shape.k → fitted i (Some s) blocks spread ≡ copied_to i s blocks spread
does_fit i s blocks spread fits =
    let e : nat_le (used_in spread.table s + length blocks) spread.table.shape.k ≡ true = grind (arith, nat_tests) in
    ap (λ (t : Bool). if t then copied_to i s blocks spread else spread) e

-- ---- the boundary for a copy

pub emptiest_none : (table : Table) (home : ℕ) → emptiest_of table home 0 ≡ None
emptiest_none table home = refl

pub emptiest_home : (table : Table) (home s : ℕ) → s ≡ home → emptiest_of table home (s + 1) ≡ emptiest_of table home s
emptiest_home table home s here =
    let e : s + 1 ≡ suc s = omega arith in
    ap (emptiest_of table home) e ∙ ap (λ (t : Bool). if t then emptiest_of table home s else emptier table (emptiest_of table home s) s) (same_test s home here)

pub emptiest_more : (table : Table) (home s : ℕ) (best : Option ℕ) → (s ≡ home → ⊥) → best ≡ emptiest_of table home s → emptiest_of table home (s + 1) ≡ emptier table best s
emptiest_more table home s best off is =
    let e : s + 1 ≡ suc s = omega arith in
    ap (emptiest_of table home) e
    ∙ ap (λ (t : Bool). if t then emptiest_of table home s else emptier table (emptiest_of table home s) s) (apart_test s home off)
    ∙ ap (λ (o : Option ℕ). emptier table o s) (sym is)

pub emptiest_is : (table : Table) (home : ℕ) → emptiest table home ≡ emptiest_of table home table.shape.b
unfolding emptiest
emptiest_is table home = refl

pub emptiest_other : (table : Table) (home : ℕ) → IfSome (emptiest table home) (λ s. s ≢ home)
emptiest_other table home = subst (λ (o : Option ℕ). IfSome o (λ s. s ≢ home)) (sym (emptiest_is table home)) (never_home table home table.shape.b)

pub spread_none : (wants : List (Option Want)) (homes : List Home) (spread : Spread) → spread_over wants homes [] spread ≡ spread
unfolding spread_over
spread_none wants homes spread = refl
