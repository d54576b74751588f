-- The homes of files stand on boundaries of the array.
use Rattle.std.proofs.Common.{◌≡◌, ◌≢◌, ◌<◌, ◌+◌, ◌++◌, ◌==◌, ℕ, zero, suc, Bool, true, cond, List, [], ◌∷◌, length, refl, ◌∙◌, ap, subst, inl, inr, arith}
use Rattle.std.specs.Prelude.{IsSome, Option, Some, None, option_to_list, filter}
use Rattle.std.specs.List.{Contains, list_any, range_with_len}
use Rattle.std.proofs.lemmas.Bool.{cases_Bool, eq-eqb, false≢true}
use Rattle.std.proofs.lemmas.Bool.Decides.{nat_tests}
use Rattle.std.proofs.lemmas.List.Elements.{Contains-append_right}
use Rattle.dg_model.specs.Homes.{home_of}
use Rattle.dg_model.specs.Placed.{IsPlaced}
use Rattle.dg_model.specs.Plans.{count_of, is_file}
use Rattle.dg_model.specs.Tables.{IsTable, Table, is_on, sites_in, stands_on}
use Rattle.dg_model.specs.Wants.{want_of}
use Rattle.dg_model.proofs.SpareLaws.{on_there}
use Rattle.dg_model.specs.declared.homes.Home.{Home}
use Rattle.dg_model.specs.declared.sites.Site.{Site}
use Rattle.dg_model.specs.declared.wants.Want.{Want}
use Rattle.dg_model.specs.declared.wants.Want.TheVariants.{File, Kept, Stray}

pub file_is : (i : ℕ) (want : Option Want) → is_file i want ≡ true → want ≡ Some (File i)
file_is i None is = absurd (false≢true is)
file_is i (Some Kept) is = absurd (false≢true is)
file_is i (Some Stray) is = absurd (false≢true is)
file_is i (Some (File j)) is = let same : j ≡ i = number j i is in ap (λ (k : ℕ). Some (File k)) same
  where
    number : (j i : ℕ) → (j == i) ≡ true → j ≡ i
    number j i is = grind (arith, nat_tests)

-- where some numbers pass a test, there is one
some_passes : (test : ℕ → Bool) (a n : ℕ) → 0 < length (filter test (range_with_len a n)) → (b : ℕ) × (test b ≡ true)
some_passes test a zero some = absurd (omega (arith, some))
some_passes test a (suc n) some = elim (cases_Bool (test a)) [
  | inl passes ↦ (a, passes)
  | inr fails ↦ some_passes test (a + 1) n (subst (λ (b : Bool). 0 < length (cond b (a ∷ filter test (range_with_len (a + 1) n)) (filter test (range_with_len (a + 1) n)))) fails some)
]

-- a site on a boundary
stands_rest : (s : ℕ) (x : Site) (xs : List Site) → x.boundary ≢ s → stands_on s (x ∷ xs) ≡ true → stands_on s xs ≡ true
stands_rest s x xs apart is = let count = on_there s x xs apart in grind (arith, nat_tests)

stands_site : (sites : List Site) (s : ℕ) → stands_on s sites ≡ true → (slot : ℕ) × Contains sites (record { boundary = s; slot = slot })
stands_site [] s on = absurd (false≢true on)
stands_site (x ∷ xs) s on = elim (cases_Bool (x.boundary == s)) [
  | inl here ↦
      let same : x.boundary ≡ s = grind (arith, nat_tests) in
      (x.slot, (0, omega arith, ap (λ (t : ℕ). record { boundary = t; slot = x.slot }) same))
  | inr there ↦
      let apart : x.boundary ≢ s = λ (same : x.boundary ≡ s). grind (arith, nat_tests) in
      let later = stands_site xs s (stands_rest s x xs apart on) in
      (later.0, Contains-append_right (x ∷ []) xs (record { boundary = s; slot = later.0 }) later.1)
]

-- a home is one of the boundaries of its file
home_there : (home copy : Option ℕ) (s : ℕ) → home ≡ Some s → list_any (λ t. t == s) (option_to_list home ++ option_to_list copy) ≡ true
home_there home copy s is = let same : (s == s) ≡ true = eq-eqb s s refl in rw (is, same) refl

some_home : (homes : List Home) (i s : ℕ) → home_of homes i ≡ Some s → IsSome (home_of homes i)
some_home homes i s is = rw is refl

pub home_within : (wants : List (Option Want)) (table : Table) (homes copies : List Home) (i s : ℕ) → IsTable table → IsPlaced wants table homes copies
    → home_of homes i ≡ Some s → s < table.shape.b
home_within wants table homes copies i s is placed home =
    let count : 0 < count_of wants i = (placed.homes_are i).0 (some_home homes i s home) in
    let block = some_passes (λ b. is_file i (want_of wants b)) 0 (length wants) count in
    let want = file_is i (want_of wants block.0) block.1 in
    let on : is_on table block.0 s ≡ true = placed.file block.0 i want s ∙ home_there (home_of homes i) (home_of copies i) s home in
    let site = stands_site (sites_in table block.0) s on in
    is.boundaries block.0 s site.0 site.1
