-- A settled array in which a file got a copy is settled.
use Rattle.std.proofs.Common.{◌≡◌, ◌≢◌, ◌<◌, ◌+◌, ◌++◌, ◌==◌, ℕ, Bool, true, false, cond, List, [], ◌∷◌, length, inl, inr, refl, sym, ◌∙◌, ap, arith}
use Rattle.std.specs.Prelude.{Option, Some, None, ◌||◌, is_some, nat_lt, option_to_list}
use Rattle.std.specs.List.{Contains, list_any, range_with_len}
use Rattle.std.proofs.lemmas.Bool.{cases_eq, cases_lt, false≢true}
use Rattle.std.proofs.lemmas.Bool.Decides.{nat_tests}
use Rattle.std.proofs.lemmas.List.{get_or_past}
use Rattle.dg_model.specs.Homes.{home_of, with_home}
use Rattle.dg_model.specs.Moves.{all_done}
use Rattle.dg_model.specs.Placed.{IsPlaced, boundaries_with}
use Rattle.dg_model.specs.Plans.{blocks_of, is_file, places_of}
use Rattle.dg_model.specs.Sites.{has_site}
use Rattle.dg_model.specs.Tables.{Table, count_on, is_on, sites_in}
use Rattle.dg_model.specs.Wants.{FitWants, want_of}
use Rattle.dg_model.specs.declared.homes.Home.{Home}
use Rattle.dg_model.specs.declared.shapes.Shape.{Shape}
use Rattle.dg_model.specs.declared.sites.Site.{Site}
use Rattle.dg_model.specs.declared.wants.Want.{Want}
use Rattle.dg_model.specs.declared.wants.Want.TheVariants.{Kept, File, Stray}
use Rattle.dg_model.proofs.SiteLists.{apart_test, same_test}
use Rattle.dg_model.proofs.CopyLaws.{copies_here, copies_to, copies_other, copies_sized, has_copy, on_copy}
use Rattle.dg_model.proofs.HomeLaws.{home_new, home_others, with_ascends}
use Rattle.dg_model.proofs.NumberLists.{AreApart, apart_filter, apart_range, filter_in, in_filter, in_or_out, in_range}

-- ---- the blocks of a file

file_test : (i j : ℕ) → is_file i (Some (File j)) ≡ true → j ≡ i
file_test i j e = grind (arith, nat_tests, e)

is_of_file : (i : ℕ) (want : Option Want) → is_file i want ≡ true → want ≡ Some (File i)
is_of_file i None e = absurd (false≢true e)
is_of_file i (Some Kept) e = absurd (false≢true e)
is_of_file i (Some (File j)) e = ap (λ (n : ℕ). Some (File n)) (file_test i j e)
is_of_file i (Some Stray) e = absurd (false≢true e)

module _ (wants : List (Option Want)) (i : ℕ) where
  pub blocks_apart : AreApart (blocks_of wants i)
  blocks_apart = apart_filter (λ b. is_file i (want_of wants b)) (range_with_len 0 (length wants)) (apart_range 0 (length wants))

  pub block_is : (b : ℕ) → Contains (blocks_of wants i) b → want_of wants b ≡ Some (File i)
  block_is b there = is_of_file i (want_of wants b) (in_filter (λ c. is_file i (want_of wants c)) (range_with_len 0 (length wants)) b there).1

  pub wanted_within : (b : ℕ) (want : Want) → want_of wants b ≡ Some want → b < length wants
  wanted_within b want e = elim (cases_lt b (length wants)) [
    | inl low ↦ low
    | inr past ↦ absurd (none_some want (sym (get_or_past wants b None past) ∙ e))
  ]
    where
      none_some : (want : Want) → None ≡ Some want → ⊥
      none_some want e = cc e

  pub is_block : (b : ℕ) → want_of wants b ≡ Some (File i) → Contains (blocks_of wants i) b
  is_block b e =
      let low = wanted_within b (File i) e in
      filter_in (λ c. is_file i (want_of wants c)) (range_with_len 0 (length wants)) b (in_range 0 (length wants) b (omega arith) (omega (arith, low)))
      (ap (is_file i) e ∙ same_test i i refl)

-- ---- a file with a home and no copy

stands_by : (table : Table) (b s : ℕ) → is_on table b s ≡ false → count_on s (sites_in table b) ≡ 0
stands_by table b s e = grind (arith, nat_tests, e)

module _ (wants : List (Option Want)) (table : Table) (homes copies : List Home) (i h s : ℕ) (placed : IsPlaced wants table homes copies) (fit : FitWants table wants)
    (sized : length table.rows ≡ table.shape.n) (home : home_of homes i ≡ Some h) (none : home_of copies i ≡ None) where
  alone : boundaries_with homes copies i ≡ h ∷ []
  alone = ap (λ (o : Option ℕ). option_to_list o ++ option_to_list (home_of copies i)) home ∙ ap (λ (o : Option ℕ). (h ∷ []) ++ option_to_list o) none

  -- its blocks stand on its home alone
  pub at_home : (b t : ℕ) → want_of wants b ≡ Some (File i) → is_on table b t ≡ list_any (λ u. u == t) (h ∷ [])
  at_home b t e = placed.file b i e t ∙ ap (list_any (λ u. u == t)) alone

  -- on the other boundary they don't stand
  pub not_copied : s ≢ h → (b : ℕ) → want_of wants b ≡ Some (File i) → count_on s (sites_in table b) ≡ 0
  not_copied off b there = stands_by table b s (at_home b s there ∙ not_there)
    where
      not_there : list_any (λ u. u == s) (h ∷ []) ≡ false
      not_there = by_test (h == s) (apart_test h s (λ e. off (sym e)))
        where
          by_test : (t : Bool) → t ≡ false → (t || false) ≡ false
          by_test true e = e
          by_test false e = refl

  -- ---- once it has its copy

  abbrev after : Table
  after = all_done table (copies_to s (blocks_of wants i))

  abbrev copy : Home
  copy = record { inode = i; boundary = s }

  kept_sites : (b : ℕ) → (want_of wants b ≡ Some (File i) → ⊥) → sites_in after b ≡ sites_in table b
  kept_sites b other = copies_other s table (blocks_of wants i) b (λ there. other (block_is wants i b there))

  kept_on : (b t : ℕ) → (want_of wants b ≡ Some (File i) → ⊥) → is_on after b t ≡ is_on table b t
  kept_on b t other = ap (λ (xs : List Site). nat_lt 0 (count_on t xs)) (kept_sites b other)

  more_on : (old here : ℕ) (t : Bool) → here ≡ old + cond t 1 0 → nat_lt 0 here ≡ (nat_lt 0 old || t)
  more_on old here true e = grind (arith, nat_tests, e)
  more_on old here false e = grind (arith, nat_tests, e)

  copied_on : (b t : ℕ) → want_of wants b ≡ Some (File i) → is_on after b t ≡ (is_on table b t || (s == t))
  copied_on b t e =
      let there = is_block wants i b e in
      let low = wanted_within wants i b (File i) e in
      let size = fit.size in
      let has = copies_here s table (blocks_of wants i) b (blocks_apart wants i) there (omega (arith, low, size, sized)) in
      more_on (count_on t (sites_in table b)) (count_on t (sites_in after b)) (s == t) (on_copy s (sites_in table b) (sites_in after b) t has)

  kept_not : Some Kept ≡ Some (File i) → ⊥
  kept_not e = cc e

  file_not : (j : ℕ) → (j ≡ i → ⊥) → Some (File j) ≡ Some (File i) → ⊥
  file_not j other e = other (cc e)

  or_last : (a b : Bool) → ((a || false) || b) ≡ (a || (b || false))
  or_last true b = refl
  or_last false true = refl
  or_last false false = refl

  same_boundary : (t u : ℕ) → Some t ≡ Some u → t ≡ u
  same_boundary t u e = cc e

  pub placed_copy : s ≢ h → IsPlaced wants after homes (with_home copy copies)
  placed_copy off = record {
    kept = λ b e t.
        kept_on b t (λ is. kept_not (sym e ∙ is)) ∙ placed.kept b e t
        ∙ ap (λ (shape : Shape). list_any (λ u. u == t) (places_of shape b)) (sym (copies_sized s table (blocks_of wants i)).shape);
    file = λ b j e t. elim (cases_eq j i) [
      | inl same ↦
          let is : want_of wants b ≡ Some (File i) = e ∙ ap (λ (n : ℕ). Some (File n)) same in
          copied_on b t is
          ∙ ap (λ (x : Bool). x || (s == t)) (at_home b t is)
          ∙ or_last (h == t) (s == t)
          ∙ sym (ap (λ (n : ℕ). list_any (λ u. u == t) (option_to_list (home_of homes n) ++ option_to_list (home_of (with_home copy copies) n))) same
          ∙ ap (λ (o : Option ℕ). list_any (λ u. u == t) (option_to_list o ++ option_to_list (home_of (with_home copy copies) i))) home
          ∙ ap (λ (o : Option ℕ). list_any (λ u. u == t) ((h ∷ []) ++ option_to_list o)) (home_new copy copies none))
      | inr other ↦
          kept_on b t (λ is. file_not j other (sym e ∙ is)) ∙ placed.file b j e t
          ∙ sym (ap (λ (o : Option ℕ). list_any (λ u. u == t) (option_to_list (home_of homes j) ++ option_to_list o)) (home_others copy copies j (λ e. other (sym e))))
    ];
    homes_are = placed.homes_are;
    copies_are = λ j t e. elim (cases_eq j i) [
      | inl same ↦
          let here : t ≡ s = same_boundary t s (sym e ∙ ap (home_of (with_home copy copies)) same ∙ home_new copy copies none) in
          (h, ap (home_of homes) same ∙ home, λ is. off (sym here ∙ is))
      | inr other ↦ placed.copies_are j t (sym (home_others copy copies j (λ e. other (sym e))) ∙ e)
    ];
    homes_ascend = placed.homes_ascend;
    copies_ascend = with_ascends copy copies none placed.copies_ascend;
  }

  -- the same blocks are written
  pub written_copy : (b : ℕ) → has_site (sites_in after b) ≡ has_site (sites_in table b)
  written_copy b = elim (in_or_out (blocks_of wants i) b) [
    | inl there ↦
        let e = block_is wants i b there in
        let low = wanted_within wants i b (File i) e in
        let size = fit.size in
        let has = copies_here s table (blocks_of wants i) b (blocks_apart wants i) there (omega (arith, low, size, sized)) in
        has_copy s (sites_in table b) (sites_in after b) has ∙ sym (sym (fit.written b) ∙ ap is_some e)
    | inr out ↦ ap has_site (copies_other s table (blocks_of wants i) b out)
  ]
