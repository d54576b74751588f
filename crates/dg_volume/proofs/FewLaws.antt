-- There are no more homes than blocks: each file that has a home has a written block, and no block is of two files.
use Rattle.std.proofs.Common.{◌≡◌, ◌∙◌, ◌<◌, ◌≤◌, ◌+◌, ◌||◌, ℕ, zero, suc, Bool, true, false, List, [], ◌∷◌, length, get_or, map, refl, sym, subst, arith}
use Rattle.std.specs.Prelude.{IsSome, None, Option, Some, eqb, filter, if◌then◌else◌}
use Rattle.std.specs.List.{IsDistinct, list_any, range_with_len}
use Rattle.std.proofs.lemmas.Bool.{eqb-true, false≢true, ne_eqb}
use Rattle.std.proofs.lemmas.List.{get_or-map, length-map}
use Rattle.std.proofs.lemmas.Map.Keys.{IsDistinct-from_apart}
use Rattle.std.proofs.lemmas.Map.Steps.{length-le_from_distinct_below}
use Rattle.dg_model.specs.Homes.{Ascend, home_of}
use Rattle.dg_model.specs.Plans.{count_of, is_file}
use Rattle.dg_model.specs.Wants.{want_of}
use Rattle.dg_model.specs.declared.homes.Home.{Home}
use Rattle.dg_model.specs.declared.wants.Want.{Want}
use Rattle.dg_model.specs.declared.wants.Want.TheVariants.{File, Kept, Stray}
use Rattle.dg_volume.proofs.HomeLaws.{above, found_at, tail_ascends}

-- ---- the first number that passes a test

abbrev first_with : (ℕ → Bool) → List ℕ → ℕ
first_with test [] = 0
first_with test (x ∷ xs) = if test x then x else first_with test xs

first_passes : (test : ℕ → Bool) (xs : List ℕ) → 0 < length (filter test xs) → test (first_with test xs) ≡ true
first_passes test [] some = absurd (omega (arith, some))
first_passes test (x ∷ xs) some = by_test (test x) refl some (λ low. first_passes test xs low)
  where
    by_test : (b : Bool) → test x ≡ b → 0 < length (if b then x ∷ filter test xs else filter test xs) → (0 < length (filter test xs) → test (first_with test xs) ≡ true)
        → test (if b then x else first_with test xs) ≡ true
    by_test true is low rest = is
    by_test false is low rest = rest low

first_below : (test : ℕ → Bool) (n a k : ℕ) → a + k ≤ n → 0 < length (filter test (range_with_len a k)) → first_with test (range_with_len a k) < n
first_below test n a zero fits some = absurd (omega (arith, some))
first_below test n a (suc k) fits some = by_test (test a) some (λ low. first_below test n (a + 1) k (omega (arith, fits)) low)
  where
    by_test : (b : Bool) → 0 < length (if b then a ∷ filter test (range_with_len (a + 1) k) else filter test (range_with_len (a + 1) k))
        → (0 < length (filter test (range_with_len (a + 1) k)) → first_with test (range_with_len (a + 1) k) < n) → (if b then a else first_with test (range_with_len (a + 1) k)) < n
    by_test true low rest = omega (arith, fits)
    by_test false low rest = rest low

-- ---- homes

ascends_at : (homes : List Home) (i j : ℕ) (d : Home) → Ascend homes → i < j → j < length homes → (get_or homes i d).inode < (get_or homes j d).inode
ascends_at [] i j d ascend less within = absurd (omega (arith, within))
ascends_at (home ∷ homes) i zero d ascend less within = absurd (omega (arith, less))
ascends_at (home ∷ homes) zero (suc j) d ascend less within = above home homes j d ascend (omega (arith, within))
ascends_at (home ∷ homes) (suc i) (suc j) d ascend less within = ascends_at homes i j d (tail_ascends home homes ascend) (omega (arith, less)) (omega (arith, within))

file_is : (i j : ℕ) (want : Option Want) → is_file i want ≡ true → is_file j want ≡ true → i ≡ j
file_is i j None h k = absurd (false≢true h)
file_is i j (Some Kept) h k = absurd (false≢true h)
file_is i j (Some (File n)) h k = sym (eqb-true n i h) ∙ eqb-true n j k
file_is i j (Some Stray) h k = absurd (false≢true h)

module _ (wants : List (Option Want)) where
  -- the first block of file i
  abbrev block_of : ℕ → ℕ
  block_of i = first_with (λ b. is_file i (want_of wants b)) (range_with_len 0 (length wants))

  -- each of these files has a written block
  abbrev HaveBlocks : List Home → Type 0
  HaveBlocks homes = (k : ℕ) (d : Home) → k < length homes → 0 < count_of wants ((get_or homes k d).inode)

  blocks_below : (homes : List Home) (q : ℕ) → HaveBlocks homes → list_any (eqb q) (map (λ (home : Home). block_of home.inode) homes) ≡ true → q < length wants
  blocks_below [] q have any = absurd (false≢true any)
  blocks_below (home ∷ homes) q have any = by_test (eqb q (block_of home.inode)) refl any (λ more. blocks_below homes q (λ k d within. have (suc k) d (omega (arith, within))) more)
    where
      by_test : (b : Bool) → eqb q (block_of home.inode) ≡ b → (b || list_any (eqb q) (map (λ (home : Home). block_of home.inode) homes)) ≡ true
          → (list_any (eqb q) (map (λ (home : Home). block_of home.inode) homes) ≡ true → q < length wants) → q < length wants
      by_test true is any rest =
          let low = first_below (λ b. is_file home.inode (want_of wants b)) (length wants) 0 (length wants) (omega arith) (have 0 home (omega arith)) in
          let same = eqb-true q (block_of home.inode) is in
          omega (arith, low, same)
      by_test false is any rest = rest any

  blocks_apart : (homes : List Home) → Ascend homes → HaveBlocks homes → IsDistinct eqb (map (λ (home : Home). block_of home.inode) homes)
  blocks_apart homes ascend have = IsDistinct-from_apart eqb (map (λ (home : Home). block_of home.inode) homes) (λ i j d less within. apart i j d less (omega (arith, within, length-map homes (λ (home : Home). block_of home.inode))))
    where
      apart : (i j d : ℕ) → i < j → j < length homes
          → eqb (get_or (map (λ (home : Home). block_of home.inode) homes) i d) (get_or (map (λ (home : Home). block_of home.inode) homes) j d) ≡ false
      apart i j d less within =
          let f : Home → ℕ = λ home. block_of home.inode in
          let none : Home = record { inode = 0; boundary = 0 } in
          let x = get_or homes i none in
          let y = get_or homes j none in
          let early : i < length homes = omega (arith, less, within) in
          let first : get_or (map f homes) i d ≡ f x = get_or-map f homes i none d early in
          let second : get_or (map f homes) j d ≡ f y = get_or-map f homes j none d within in
          ne_eqb (get_or (map f homes) i d) (get_or (map f homes) j d) (λ e.
          let same : block_of x.inode ≡ block_of y.inode = sym first ∙ e ∙ second in
          let one : is_file x.inode (want_of wants (block_of x.inode)) ≡ true =
          first_passes (λ b. is_file x.inode (want_of wants b)) (range_with_len 0 (length wants)) (have i none early) in
          let two : is_file y.inode (want_of wants (block_of y.inode)) ≡ true =
          first_passes (λ b. is_file y.inode (want_of wants b)) (range_with_len 0 (length wants)) (have j none within) in
          let is = file_is x.inode y.inode (want_of wants (block_of y.inode)) (subst (λ (b : ℕ). is_file x.inode (want_of wants b) ≡ true) same one) two in
          let order = ascends_at homes i j none ascend less within in
          absurd (omega (arith, is, order)))

  pub few_homes : (homes : List Home) → Ascend homes → ((i : ℕ) → IsSome (home_of homes i) → 0 < count_of wants i) → length homes ≤ length wants
  few_homes homes ascend have =
      let blocks = map (λ (home : Home). block_of home.inode) homes in
      let each : HaveBlocks homes = λ k d within. have ((get_or homes k d).inode) (subst (λ (o : Option ℕ). IsSome o) (sym (found_at homes k d ascend within)) refl) in
      let few : length blocks ≤ length wants =
      length-le_from_distinct_below blocks (length wants) (blocks_apart homes ascend each) (λ q any. blocks_below homes q each any) in
      let same : length blocks ≡ length homes = length-map homes (λ (home : Home). block_of home.inode) in
      omega (arith, few, same)
