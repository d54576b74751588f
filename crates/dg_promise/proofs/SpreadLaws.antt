-- A settled array in which files got copies is in order.
use Rattle.std.proofs.Common.{◌≡◌, ◌≢◌, ◌∙◌, ◌==◌, ℕ, zero, suc, ◌+◌, ◌<◌, ◌≤◌, inl, inr, length, Bool, true, false, List, [], ◌∷◌, Option, Some, None, refl, sym, ap, subst, arith}
use Rattle.std.specs.Prelude.{Contains, IfSome, if◌then◌else◌, nat_le, nat_lt}
use Rattle.std.proofs.lemmas.Bool.{cases_Bool, cases_eq, leb-true}
use Rattle.dg_model.specs.Copies.{Spread, copied_to, emptier, emptiest, emptiest_of, fitted, spread_by, spread_over}
use Rattle.dg_model.specs.Homes.{home_of}
use Rattle.dg_model.specs.Moves.{all_done}
use Rattle.dg_model.specs.Placed.{IsPlaced}
use Rattle.dg_model.specs.Plans.{blocks_of}
use Rattle.dg_model.specs.Tables.{IsTable, Table, count_on, put_site, sites_in, used_in}
use Rattle.dg_model.specs.Wants.{FitWants}
use Rattle.dg_model.specs.declared.homes.Home.{Home}
use Rattle.dg_model.specs.declared.shapes.Shape.{Shape}
use Rattle.dg_model.specs.declared.wants.Want.{Want}
use Rattle.dg_model.specs.declared.wants.Want.TheVariants.{File}
use Rattle.dg_model.proofs.CopyLaws.{copies_sized, copies_to, site_for}
use Rattle.dg_model.proofs.EmptiestLaws.{never_home}
use Rattle.dg_model.proofs.NumberLists.{AreApart, head_in, tail_in}
use Rattle.dg_model.proofs.PlacedLaws.{block_is, blocks_apart, not_copied, placed_copy, wanted_within, written_copy}
use Rattle.dg_model.proofs.PutLaws.{IsTable-put, sites_put_other, used_put}
use Rattle.dg_model.proofs.SiteLists.{apart_test, one_if, same_test}
use Rattle.dg_promise.proofs.SlotLaws.{free_is, free_low}

-- ---- the boundary for a copy

emptier_low : (table : Table) (s n : ℕ) (best : Option ℕ) → s < n → IfSome best (λ t. t < n) → IfSome (emptier table best s) (λ t. t < n)
emptier_low table s n None low other = low
emptier_low table s n (Some t) low other = by_test (nat_lt (used_in table s) (used_in table t))
  where
    by_test : (less : Bool) → IfSome (if less then Some s else Some t) (λ u. u < n)
    by_test true = low
    by_test false = other

low_more : (best : Option ℕ) (n : ℕ) → IfSome best (λ t. t < n) → IfSome best (λ t. t < suc n)
low_more None n h = h
low_more (Some t) n h = omega (arith, h)

-- it is one of the boundaries
always_low : (table : Table) (home n : ℕ) → IfSome (emptiest_of table home n) (λ s. s < n)
always_low table home zero = tt
always_low table home (suc s) = elim (cases_eq s home) [
  | inl here ↦
      subst (λ (o : Option ℕ). IfSome o (λ t. t < suc s))
      (sym (ap (λ (t : Bool). if t then emptiest_of table home s else emptier table (emptiest_of table home s) s) (same_test s home here)))
      (low_more (emptiest_of table home s) s (always_low table home s))
  | inr off ↦
      subst (λ (o : Option ℕ). IfSome o (λ t. t < suc s))
      (sym (ap (λ (t : Bool). if t then emptiest_of table home s else emptier table (emptiest_of table home s) s) (apart_test s home off)))
      (emptier_low table s (suc s) (emptiest_of table home s) (omega arith) (low_more (emptiest_of table home s) s (always_low table home s)))
]

-- ---- a table once blocks were copied

copies_ok : (s : ℕ) (table : Table) (bs : List ℕ) → IsTable table → s < table.shape.b → AreApart bs → ((b : ℕ) → Contains bs b → b < table.shape.n)
    → ((b : ℕ) → Contains bs b → count_on s (sites_in table b) ≡ 0) → used_in table s + length bs ≤ table.shape.k → IsTable (all_done table (copies_to s bs))
copies_ok s table [] ok low apart within none room = ok
copies_ok s table (b ∷ bs) ok low apart within none room =
    let size = ok.size in
    let inside = within b (head_in b bs) in
    let row : b < length table.rows = omega arith in
    let left : used_in table s ≤ table.shape.k = omega arith in
    let next = IsTable-put table b (site_for table s) row ok low (free_low table s left) (free_is table s left).free (none b (head_in b bs)) left in
    let used = used_put table b (site_for table s) row s in
    let one = one_if (s == s) (same_test s s refl) in
    copies_ok s (put_site table b (site_for table s)) bs next low apart.1 (λ c has. within c (tail_in b bs c has))
    (λ c has. ap (count_on s) (sites_put_other table b (site_for table s) row c (λ same. apart.0 (subst (λ (d : ℕ). Contains bs d) same has))) ∙ none c (tail_in b bs c has))
    (omega arith)

-- ---- one file after another

pub record IsSpread (wants : List (Option Want)) (homes : List Home) (shape : Shape) (spread : Spread) : Type 0 where
  pub placed : IsPlaced wants spread.table homes spread.copies
  pub fit : FitWants spread.table wants
  pub ok : IsTable spread.table
  pub same : spread.table.shape ≡ shape

module _ (wants : List (Option Want)) (homes : List Home) (shape : Shape) where
  copied_spread : (i h s : ℕ) (spread : Spread) → IsSpread wants homes shape spread → home_of homes i ≡ Some h → home_of spread.copies i ≡ None → s ≢ h → s < spread.table.shape.b
      → used_in spread.table s + length (blocks_of wants i) ≤ spread.table.shape.k → IsSpread wants homes shape (copied_to i s (blocks_of wants i) spread)
  copied_spread i h s spread is home none off low room =
      let sized = copies_sized s spread.table (blocks_of wants i) in
      let size = is.fit.size in
      record {
        placed = placed_copy wants spread.table homes spread.copies i h s is.placed is.fit is.ok.size home none off;
        fit = record {
          size = is.fit.size ∙ ap (λ (x : Shape). x.n) (sym sized.shape);
          written = λ b. is.fit.written b ∙ sym (written_copy wants spread.table homes spread.copies i h s is.placed is.fit is.ok.size home none b);
        };
        ok = copies_ok s spread.table (blocks_of wants i) is.ok low (blocks_apart wants i)
            (λ b has. let inside = wanted_within wants i b (File i) (block_is wants i b has) in omega arith)
            (λ b has. not_copied wants spread.table homes spread.copies i h s is.placed is.fit is.ok.size home none off b (block_is wants i b has)) room;
        same = sized.shape ∙ is.same;
      }

  fitted_spread : (i h : ℕ) (place : Option ℕ) (spread : Spread) → IsSpread wants homes shape spread → home_of homes i ≡ Some h → home_of spread.copies i ≡ None
      → IfSome place (λ s. s ≢ h) → IfSome place (λ s. s < spread.table.shape.b) → IsSpread wants homes shape (fitted i place (blocks_of wants i) spread)
  fitted_spread i h None spread is home none off low = is
  fitted_spread i h (Some s) spread is home none off low = elim (cases_Bool (nat_le (used_in spread.table s + length (blocks_of wants i)) spread.table.shape.k)) [
    | inl fits ↦ rw fits (copied_spread i h s spread is home none off low (leb-true (used_in spread.table s + length (blocks_of wants i)) spread.table.shape.k fits))
    | inr full ↦ rw full is
  ]

  one_spread : (i : ℕ) (home there : Option ℕ) (spread : Spread) → IsSpread wants homes shape spread → home_of homes i ≡ home → home_of spread.copies i ≡ there
      → IsSpread wants homes shape (spread_by wants i home there spread)
  unfolding emptiest
  one_spread i None there spread is home none = is
  one_spread i (Some h) (Some s) spread is home none = is
  one_spread i (Some h) None spread is home none =
      fitted_spread i h (emptiest_of spread.table h spread.table.shape.b) spread is home none (never_home spread.table h spread.table.shape.b) (always_low spread.table h spread.table.shape.b)

  pub all_spread : (recent : List ℕ) (spread : Spread) → IsSpread wants homes shape spread → IsSpread wants homes shape (spread_over wants homes recent spread)
  unfolding spread_over
  all_spread [] spread is = is
  all_spread (i ∷ more) spread is =
      all_spread more (spread_by wants i (home_of homes i) (home_of spread.copies i) spread) (one_spread i (home_of homes i) (home_of spread.copies i) spread is refl refl)
