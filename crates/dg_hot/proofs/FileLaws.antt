-- A file on a store: its copy, or none.
use Rattle.std.proofs.Common.{◌≡◌, ◌≢◌, ◌<◌, ◌≤◌, ◌+◌, ℕ, Bool, true, false, List, [], ◌∷◌, length, get_or, take, inl, inr, refl, sym, ◌∙◌, ap, subst, arith}
use Rattle.std.specs.Global.{Vec}
use Rattle.std.specs.Prelude.{◌&&◌, Err, IfOk, IfSome, None, Ok, OnErr, OnOk, Option, Result, Some, if◌then◌else◌, is_some, map, nat_le, not}
use Rattle.std.proofs.lemmas.Bool.{cases_eq, false≢true}
use Rattle.std.proofs.lemmas.List.{get_or-map, length-map}
use Rattle.dg_model.specs.Copies.{Spread, copied_to, emptiest, fitted, lacks_copy, spread_by, spread_over}
use Rattle.dg_model.specs.Homes.{home_of, with_home}
use Rattle.dg_model.specs.Moves.{all_done}
use Rattle.dg_model.specs.Placed.{IsPlaced}
use Rattle.dg_model.specs.Plans.{blocks_of}
use Rattle.dg_model.specs.States.{has_lost}
use Rattle.dg_model.specs.Tables.{Table, used_in}
use Rattle.dg_model.specs.Wants.{FitWants}
use Rattle.dg_model.specs.declared.homes.Home.{Home}
use Rattle.dg_model.specs.declared.shapes.Shape.{Shape}
use Rattle.dg_model.specs.declared.wants.Want.{Want}
use Rattle.dg_model.proofs.CopyLaws.{copies_sized}
use Rattle.dg_model.proofs.HomeLaws.{home_others, length_home}
use Rattle.dg_model.proofs.NumberLists.{nothing_in}
use Rattle.dg_model.proofs.PlacedLaws.{blocks_apart, placed_copy, written_copy}
use Rattle.dg_store.specs.Stores.{members_of, shape_of, table_of}
use Rattle.dg_store.specs.declared.store.Store.{Store}
use Rattle.dg_hot.specs.Copied.{AreApart, CanCopy, copies_to}
use Rattle.dg_hot.specs.Spreads.{HasSpread, HasSpreadSome, IsSpread, SpreadsOrNot, lists_in, spread_of, spread_with, to_copy}
use Rattle.dg_hot.proofs.ApartLaws.{blocks_are_apart}
use Rattle.dg_hot.proofs.SpreadLaws.{does_fit, emptiest_other, spread_next, spread_none}

-- ---- the blocks of a file

pub list_here : (blocks : ℕ → List ℕ) (files : List ℕ) (lists : List (Vec ℕ)) (k i : ℕ) (list : Vec ℕ) → lists_in lists ≡ map blocks files → k < length files
    → get_or files k 0 ≡ i → list ≡ get_or lists k list → list.items ≡ blocks i
list_here blocks files lists k i list listed low at is =
    let size = ap length listed in
    let long : k < length lists = omega (arith, size, length-map lists (λ (v : Vec ℕ). v.items), length-map files blocks, low) in
    ap (λ (v : Vec ℕ). v.items) is
    ∙ sym (get_or-map (λ (v : Vec ℕ). v.items) lists k list [] long)
    ∙ ap (λ (xs : List (List ℕ)). get_or xs k []) listed
    ∙ get_or-map blocks files k 0 [] low
    ∙ ap blocks at

-- what is copied of a file has no block twice, and can be copied where the file's blocks can
module _ (wants : List (Option Want)) (homes copies : List Home) (i : ℕ) where
  pub copied_apart : AreApart (to_copy wants homes copies i)
  copied_apart = by_test (lacks_copy homes copies i)
    where
      by_test : (t : Bool) → AreApart (if t then blocks_of wants i else [])
      by_test true = blocks_are_apart (blocks_of wants i) (blocks_apart wants i)
      by_test false = tt

  pub copied_can : (table : Table) (s : ℕ) → CanCopy table s (blocks_of wants i) → CanCopy table s (to_copy wants homes copies i)
  copied_can table s can = by_test (lacks_copy homes copies i)
    where
      by_test : (t : Bool) → CanCopy table s (if t then blocks_of wants i else [])
      by_test true = can
      by_test false = record {
        within = λ b there. absurd (nothing_in b there);
        written = λ b there. absurd (nothing_in b there);
        none = λ b there. absurd (nothing_in b there);
      }

  -- where it has a home and no copy its blocks are copied, and else nothing is done
  pub by_blocks : (blocks : List ℕ) (home there : Option ℕ) (spread : Spread) → home_of homes i ≡ home → (there ≡ None → home_of copies i ≡ None)
      → blocks ≡ to_copy wants homes copies i → spread_with blocks i home there spread ≡ spread_by wants i home there spread
  by_blocks blocks None there spread has none e = refl
  by_blocks blocks (Some home) (Some s) spread has none e = refl
  by_blocks blocks (Some home) None spread has none e =
      ap (λ (xs : List ℕ). fitted i (emptiest spread.table home) xs spread)
      (e ∙ ap (λ (o : Option ℕ). if is_some o && not (is_some (home_of copies i)) then blocks_of wants i else []) has
      ∙ ap (λ (o : Option ℕ). if not (is_some o) then blocks_of wants i else []) (none refl))

-- ---- a file that fits, or not

-- each block is in its place, by the wants of the written ones
pub record IsSettled (wants : List (Option Want)) (homes : List Home) (spread : Spread) : Type 0 where
  pub placed : IsPlaced wants spread.table homes spread.copies
  pub fit : FitWants spread.table wants
  pub sized : length spread.table.rows ≡ spread.table.shape.n

module _ (wants : List (Option Want)) (homes : List Home) where
  settled_copy : (i h s : ℕ) (old : Spread) → IsSettled wants homes old → home_of homes i ≡ Some h → home_of old.copies i ≡ None → s ≢ h
      → IsSettled wants homes (copied_to i s (blocks_of wants i) old)
  settled_copy i h s old is home none off =
      let size = copies_sized s old.table (blocks_of wants i) in
      let n = ap (λ (sh : Shape). sh.n) size.shape in
      record {
        placed = placed_copy wants old.table homes old.copies i h s is.placed is.fit is.sized home none off;
        fit = record {
          size = is.fit.size ∙ sym n;
          written = λ b. is.fit.written b ∙ sym (written_copy wants old.table homes old.copies i h s is.placed is.fit is.sized home none b);
        };
        sized = size.rows ∙ is.sized ∙ sym n;
      }

  settled_fitted : (i h : ℕ) (best : Option ℕ) (old : Spread) → IsSettled wants homes old → home_of homes i ≡ Some h → home_of old.copies i ≡ None → IfSome best (λ s. s ≢ h)
      → IsSettled wants homes (fitted i best (blocks_of wants i) old)
  settled_fitted i h None old is home none off = is
  settled_fitted i h (Some s) old is home none off = by_test (nat_le (used_in old.table s + length (blocks_of wants i)) old.table.shape.k)
    where
      by_test : (t : Bool) → IsSettled wants homes (if t then copied_to i s (blocks_of wants i) old else old)
      by_test true = settled_copy i h s old is home none off
      by_test false = is

  settled_by : (i : ℕ) (home there : Option ℕ) (old : Spread) → IsSettled wants homes old → home_of homes i ≡ home → home_of old.copies i ≡ there
      → IsSettled wants homes (spread_by wants i home there old)
  settled_by i None there old is has none = is
  settled_by i (Some h) (Some s) old is has none = is
  settled_by i (Some h) None old is has none = settled_fitted i h (emptiest old.table h) old is has none (emptiest_other old.table h)

  settled_over : (files : List ℕ) (old : Spread) → IsSettled wants homes old → IsSettled wants homes (spread_over wants homes files old)
  unfolding spread_over
  settled_over [] old is = is
  settled_over (i ∷ files) old is =
      settled_over files (spread_by wants i (home_of homes i) (home_of old.copies i) old) (settled_by i (home_of homes i) (home_of old.copies i) old is refl refl)

-- a file that has no copy now had none before
module _ (wants : List (Option Want)) (homes : List Home) (i : ℕ) where
  none_copied : (j s : ℕ) (blocks : List ℕ) (old : Spread) → home_of old.copies j ≡ None → home_of (copied_to j s blocks old).copies i ≡ None → home_of old.copies i ≡ None
  none_copied j s blocks old free none = elim (cases_eq j i) [
    | inl same ↦ ap (home_of old.copies) (sym same) ∙ free
    | inr other ↦ sym (home_others (record { inode = j; boundary = s }) old.copies i other) ∙ none
  ]

  none_fitted : (j : ℕ) (best : Option ℕ) (blocks : List ℕ) (old : Spread) → home_of old.copies j ≡ None → home_of (fitted j best blocks old).copies i ≡ None
      → home_of old.copies i ≡ None
  none_fitted j None blocks old free none = none
  none_fitted j (Some s) blocks old free none = by_test (nat_le (used_in old.table s + length blocks) old.table.shape.k) none
    where
      by_test : (t : Bool) → home_of (if t then copied_to j s blocks old else old).copies i ≡ None → home_of old.copies i ≡ None
      by_test true after = none_copied j s blocks old free after
      by_test false after = after

  none_by : (j : ℕ) (home there : Option ℕ) (old : Spread) → home_of old.copies j ≡ there → home_of (spread_by wants j home there old).copies i ≡ None
      → home_of old.copies i ≡ None
  none_by j None there old has none = none
  none_by j (Some h) (Some s) old has none = none
  none_by j (Some h) None old has none = none_fitted j (emptiest old.table h) (blocks_of wants j) old has none

  pub none_over : (files : List ℕ) (old : Spread) → home_of (spread_over wants homes files old).copies i ≡ None → home_of old.copies i ≡ None
  unfolding spread_over
  none_over [] old none = none
  none_over (j ∷ files) old none =
      none_by j (home_of homes j) (home_of old.copies j) old refl
      (none_over files (spread_by wants j (home_of homes j) (home_of old.copies j) old) none)

-- ---- answers

pub map_ok : {A E : Type 0} (r : Result A E) (P Q : A → Type 0) → ((a : A) → P a → Q a) → IfOk r P → IfOk r Q
map_ok (Ok a) P Q step is = step a is
map_ok (Err e) P Q step is = tt

pub map_err : {A E : Type 0} (r : Result A E) (P Q : Type 0) → (P → Q) → OnErr r P → OnErr r Q
map_err (Ok a) P Q step is = tt
map_err (Err e) P Q step is = step is

pub on_err : {A E : Type 0} (r : Result A E) (P : Type 0) → P → OnErr r P
on_err (Ok a) P is = tt
on_err (Err e) P is = is

-- ---- on a store

module _ {R : Type 0} where
  -- nothing has changed, and nothing was to change
  pub spreads_not : (spread : Spread) (copies : List Home) (store : Store R) → spread ≡ spread_of store copies → SpreadsOrNot spread 0 copies copies store store
  spreads_not spread copies store e = inl (record { is = sym e; gained_is = omega arith })

  -- a copy stands
  pub spreads_one : (spread : Spread) (before after : List Home) (copy : Home) (old new : Store R) (blocks : List ℕ)
      → after ≡ with_home copy before → table_of new ≡ all_done (table_of old) (copies_to copy.boundary blocks)
      → used_in (table_of old) copy.boundary + length blocks ≤ (table_of old).shape.k
      → SpreadsOrNot (fitted copy.inode (Some copy.boundary) blocks (spread_of old before)) 1 before after old new
  spreads_one spread before after copy old new blocks list table fits = inl (record {
    is = both ∙ sym (does_fit copy.inode copy.boundary blocks (spread_of old before) fits);
    gained_is = ap (λ (xs : List Home). length xs) list ∙ length_home copy before;
  })
    where
      both : spread_of new after ≡ copied_to copy.inode copy.boundary blocks (spread_of old before)
      both i = record { table = table i; copies = list i }

  pub same_spread : (before after : List Home) (old new : Store R) → after ≡ before → table_of new ≡ table_of old → spread_of new after ≡ spread_of old before
  same_spread before after old new list table i = record { table = table i; copies = list i }

  pub spreads_cut : (spread : Spread) (copies : List Home) (old new : Store R) → has_lost (shape_of new) (members_of new) ≡ true → table_of new ≡ table_of old
      → SpreadsOrNot spread 0 copies copies old new
  spreads_cut spread copies old new lost table = inr (record { lost = lost; none = refl; same = same_spread copies copies old new refl table })

  -- the same by another name of the spread
  pub spreads_as : (a b : Spread) (n : ℕ) (before after : List Home) (old new : Store R) → a ≡ b → SpreadsOrNot a n before after old new → SpreadsOrNot b n before after old new
  spreads_as a b n before after old new e is = subst (λ (spread : Spread). SpreadsOrNot spread n before after old new) e is

  -- what becomes of a copy that stands
  pub kept_one : {E : Type 0} (r : Result ℕ E) (before after : List Home) (copy : Home) (old mid new : Store R) (blocks : List ℕ)
      → IfOk r (λ n. n ≡ 1) → OnOk r (after ≡ with_home copy before) → OnOk r (new ≡ mid) → table_of mid ≡ all_done (table_of old) (copies_to copy.boundary blocks)
      → used_in (table_of old) copy.boundary + length blocks ≤ (table_of old).shape.k
      → IfOk r (λ n. SpreadsOrNot (fitted copy.inode (Some copy.boundary) blocks (spread_of old before)) n before after old new)
  kept_one (Ok n) before after copy old mid new blocks one added stays table fits =
      subst (λ (m : ℕ). SpreadsOrNot (fitted copy.inode (Some copy.boundary) blocks (spread_of old before)) m before after old new) (sym one)
      (spreads_one (fitted copy.inode (Some copy.boundary) blocks (spread_of old before)) before after copy old new blocks added
      (ap (λ (store : Store R). table_of store) stays ∙ table) fits)
  kept_one (Err e) before after copy old mid new blocks one added stays table fits = tt

  pub not_kept : {A E : Type 0} (r : Result A E) (before after : List Home) (old new : Store R) → OnErr r (after ≡ before) → OnErr r (table_of new ≡ table_of old)
      → OnErr r (spread_of new after ≡ spread_of old before)
  not_kept (Ok a) before after old new list table = tt
  not_kept (Err e) before after old new list table = same_spread before after old new list table

  pub settled_has : (wants : List (Option Want)) (homes : List Home) (recent : List ℕ) (count gained : ℕ) (before after : List Home) (old new : Store R)
      → IsSettled wants homes (spread_of old before) → HasSpread wants homes recent count gained before after old new → IsSettled wants homes (spread_of new after)
  settled_has wants homes recent count gained before after old new is has =
      subst (IsSettled wants homes) (sym has.spread) (settled_over wants homes (take count recent) (spread_of old before) is)

  pub settled_some : (wants : List (Option Want)) (homes : List Home) (recent : List ℕ) (before after : List Home) (old new : Store R)
      → IsSettled wants homes (spread_of old before) → HasSpreadSome wants homes recent before after old new → IsPlaced wants (table_of new) homes after
  settled_some wants homes recent before after old new is some = (settled_has wants homes recent some.count some.gained before after old new is some.has).placed

  pub none_before : (wants : List (Option Want)) (homes : List Home) (recent : List ℕ) (count gained : ℕ) (before after : List Home) (old new : Store R) (i : ℕ)
      → HasSpread wants homes recent count gained before after old new → home_of after i ≡ None → home_of before i ≡ None
  none_before wants homes recent count gained before after old new i has none =
      none_over wants homes i (take count recent) (spread_of old before) (sym (ap (λ (spread : Spread). home_of spread.copies i) has.spread) ∙ none)

  -- ---- one file after another

  module _ (wants : List (Option Want)) (homes : List Home) (recent : List ℕ) where
    pub has_none : (copies : List Home) (store : Store R) → HasSpread wants homes recent 0 0 copies copies store store
    has_none copies store = record { spread = sym (spread_none wants homes (spread_of store copies)); gained_is = omega arith }

    module _ (k n gained more i : ℕ) (before mid after : List Home) (a b c : Store R) (low : k < length recent) (at : get_or recent k 0 ≡ i) (total : n ≡ gained + more)
        (has : HasSpread wants homes recent k gained before mid a b) where
      next_of : IsSpread (spread_by wants i (home_of homes i) (home_of mid i) (spread_of b mid)) more mid after c → HasSpread wants homes recent (k + 1) n before after a c
      next_of is = record {
        spread = is.is ∙ spread_next wants homes recent k i (spread_of a before) (spread_of b mid) low at has.spread;
        gained_is = omega (arith, is.gained_is, has.gained_is, total);
      }

      same_of : spread_of c after ≡ spread_of b mid → HasSpread wants homes recent k gained before after a c
      same_of same = record {
        spread = same ∙ has.spread;
        gained_is = ap (λ (spread : Spread). length spread.copies) same ∙ has.gained_is;
      }

      pub spread_on : SpreadsOrNot (spread_by wants i (home_of homes i) (home_of mid i) (spread_of b mid)) more mid after b c
          → has_lost (shape_of c) (members_of c) ≡ false → HasSpread wants homes recent (k + 1) n before after a c
      spread_on tried whole = elim tried [ inl is ↦ next_of is | inr cut ↦ absurd (false≢true (sym whole ∙ cut.lost)) ]

      pub spread_some : SpreadsOrNot (spread_by wants i (home_of homes i) (home_of mid i) (spread_of b mid)) more mid after b c
          → HasSpreadSome wants homes recent before after a c
      spread_some tried = elim tried [
        | inl is ↦ record { count = k + 1; gained = n; has = next_of is }
        | inr cut ↦ record { count = k; gained = gained; has = same_of cut.same }
      ]

      pub spread_same : spread_of c after ≡ spread_of b mid → HasSpreadSome wants homes recent before after a c
      spread_same same = record { count = k; gained = gained; has = same_of same }
