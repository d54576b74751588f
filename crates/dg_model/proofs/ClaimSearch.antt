-- Whether a fragment is claimed can be told by a search, since inodes and pointers are bounded and levels are four. A library for the
-- crates above.
use Rattle.std.proofs.Common.{◌≡◌, ◌<◌, ◌+◌, ◌-◌, inl, inr, ℕ, zero, suc, Bool, true, List, [], ◌∷◌, ◌++◌, get_or, refl, sym, subst, ◌∙◌, arith}
use Rattle.std.specs.Prelude.{flat_map, ◌==◌}
use Rattle.std.specs.List.{Contains, list_any, range_with_len}
use Rattle.std.proofs.lemmas.Bool.{eq-eqb, eqb-true, cases_lt}
use Rattle.std.proofs.lemmas.List.Elements.{Contains-append_cases, Contains-append_left, Contains-append_right}
use Rattle.std.proofs.lemmas.List.Folds.{Any-from_list_any, list_any_at}
use Rattle.std.proofs.lemmas.List.FromFn.{get_or-range_with_len, length-range_with_len}
use Rattle.ufs_model.specs.Claims.{IsClaim, IsClaimedAt, level_of}
use Rattle.ufs_model.specs.declared.claims.ClaimSource.{ClaimSource}
use Rattle.ufs_model.specs.declared.claims.ClaimSource.TheVariants.{Slot, Pointer}

-- ---- lists

none_in : {X : Type 0} (x : X) → Contains [] x → ⊥
none_in x (k, low, at) = omega (arith, low)

in_rest : {X : Type 0} (y : X) (xs : List X) (x : X) → Contains xs x → Contains (y ∷ xs) x
in_rest y xs x (k, low, at) = (suc k, omega (arith, low), at)

in_parts_front : {X Y : Type 0} (f : X → List Y) (z : X) (xs : List X) (x : X) (y : Y) → z ≡ x → Contains (f x) y → Contains (flat_map f (z ∷ xs)) y
in_parts_front f z xs x y e inside = Contains-append_left (f z) (flat_map f xs) y (subst (λ w. Contains (f w) y) (sym e) inside)

-- what is in a part is in the whole
pub in_parts : {X Y : Type 0} (f : X → List Y) (xs : List X) (x : X) (y : Y) → Contains xs x → Contains (f x) y → Contains (flat_map f xs) y
in_parts f [] x y there inside = absurd (none_in x there)
in_parts f (z ∷ xs) x y (zero, low, at) inside = in_parts_front f z xs x y at inside
in_parts f (z ∷ xs) x y (suc k, low, at) inside =
    Contains-append_right (f z) (flat_map f xs) y (in_parts f xs x y (k, omega (arith, low), at) inside)

-- what is in the whole is in a part
pub record IsInPart {X Y : Type 0} (f : X → List Y) (xs : List X) (y : Y) : Type 0 where
  pub part : X
  pub there : Contains xs part
  pub inside : Contains (f part) y

pub part_of : {X Y : Type 0} (f : X → List Y) (xs : List X) (y : Y) → Contains (flat_map f xs) y → IsInPart f xs y
part_of f [] y h = absurd (none_in y h)
part_of f (z ∷ xs) y h = elim (Contains-append_cases (f z) (flat_map f xs) y h) [
  | inl front ↦ record { part = z; there = (0, omega arith, refl); inside = front }
  | inr rest ↦ let more = part_of f xs y rest in record { part = more.part; there = in_rest z xs more.part more.there; inside = more.inside }
]

pub in_range : (n i : ℕ) → i < n → Contains (range_with_len 0 n) i
in_range n i low = (i, omega (arith, low, length-range_with_len 0 n), omega (arith, get_or-range_with_len 0 n i i low))

pub range_low : (n i : ℕ) → Contains (range_with_len 0 n) i → i < n
range_low n i (k, low, at) =
    let short : k < n = omega (arith, low, length-range_with_len 0 n) in
    omega (arith, short, sym (get_or-range_with_len 0 n k i short) ∙ at)

-- whether a number is in the list
abbrev pub has_number : List ℕ → ℕ → Bool
has_number xs y = list_any (λ x. x == y) xs

pub number_there : (xs : List ℕ) (y : ℕ) → has_number xs y ≡ true → Contains xs y
number_there xs y e = let found = Any-from_list_any (λ x. x == y) xs e in subst (λ z. Contains xs z) (eqb-true found.1 y found.4) (found.0, found.2, found.3)

pub number_found : (xs : List ℕ) (y : ℕ) → Contains xs y → has_number xs y ≡ true
number_found xs y (k, low, at) = list_any_at (λ x. x == y) xs k y low (eq-eqb (get_or xs k y) y at)

-- ---- the search

-- Inodes and pointers are below these bounds, and an inode has 15 slots.
pub record IsBounded (claimed : ClaimSource → List ℕ) (inodes pointers : ℕ) : Type 0 where
  pub inode : (i slot f : ℕ) → Contains (claimed (Slot i slot)) f → i < inodes
  pub slot : (i slot f : ℕ) → Contains (claimed (Slot i slot)) f → slot < 15
  pub at : (u level at f : ℕ) → Contains (claimed (Pointer u level at)) f → at < pointers

module _ (claimed : ClaimSource → List ℕ) (inodes pointers : ℕ) where
  -- what this slot claims, of all inodes
  abbrev pub slots_of : ℕ → List ℕ
  slots_of slot = flat_map (λ i. claimed (Slot i slot)) (range_with_len 0 inodes)

  -- what the pointers in a fragment claim that stand there for this level
  abbrev pub pointers_of : ℕ → ℕ → List ℕ
  pointers_of level u = flat_map (λ at. claimed (Pointer u level at)) (range_with_len 0 pointers)

  -- the fragments that are claimed at a level
  pub level_3 : List ℕ
  level_3 = slots_of 14

  pub level_2 : List ℕ
  level_2 = slots_of 13 ++ flat_map (pointers_of 3) level_3

  pub level_1 : List ℕ
  level_1 = slots_of 12 ++ flat_map (pointers_of 2) level_2

  pub level_0 : List ℕ
  level_0 = flat_map slots_of (range_with_len 0 12) ++ flat_map (pointers_of 1) level_1

  abbrev pub fragments_of_level : ℕ → List ℕ
  fragments_of_level zero = level_0
  fragments_of_level (suc zero) = level_1
  fragments_of_level (suc (suc zero)) = level_2
  fragments_of_level (suc (suc (suc zero))) = level_3
  fragments_of_level (suc (suc (suc (suc level)))) = []

  -- all claimed fragments
  pub all_claimed : List ℕ
  all_claimed = flat_map fragments_of_level (range_with_len 0 4)

  -- ---- what is found is claimed

  by_slots : (slot f : ℕ) → Contains (slots_of slot) f → IsClaimedAt (IsClaim claimed) (slot - 11) f
  by_slots slot f h =
      let found = part_of (λ i. claimed (Slot i slot)) (range_with_len 0 inodes) f h in
      record { source = Slot found.part slot; claim = IsClaim.by_slot found.inside; is = refl }

  by_pointers : (level : ℕ) (uppers : List ℕ) (f : ℕ) → ((u : ℕ) → Contains uppers u → IsClaimedAt (IsClaim claimed) (suc level) u)
      → Contains (flat_map (pointers_of (suc level)) uppers) f → IsClaimedAt (IsClaim claimed) level f
  by_pointers level uppers f are h =
      let above = part_of (pointers_of (suc level)) uppers f h in
      let found = part_of (λ at. claimed (Pointer above.part (suc level) at)) (range_with_len 0 pointers) f above.inside in
      let upper = are above.part above.there in
      record {
        source = Pointer above.part (suc level) found.part;
        claim = IsClaim.by_pointer upper.claim upper.is (omega arith) found.inside;
        is = omega arith;
      }

  from_3 : (f : ℕ) → Contains level_3 f → IsClaimedAt (IsClaim claimed) 3 f
  unfolding level_3
  from_3 f h = by_slots 14 f h

  from_2 : (f : ℕ) → Contains level_2 f → IsClaimedAt (IsClaim claimed) 2 f
  unfolding level_2
  from_2 f h = elim (Contains-append_cases (slots_of 13) (flat_map (pointers_of 3) level_3) f h) [
    | inl slot ↦ by_slots 13 f slot
    | inr pointer ↦ by_pointers 2 level_3 f from_3 pointer
  ]

  from_1 : (f : ℕ) → Contains level_1 f → IsClaimedAt (IsClaim claimed) 1 f
  unfolding level_1
  from_1 f h = elim (Contains-append_cases (slots_of 12) (flat_map (pointers_of 2) level_2) f h) [
    | inl slot ↦ by_slots 12 f slot
    | inr pointer ↦ by_pointers 1 level_2 f from_2 pointer
  ]

  direct : (f : ℕ) → Contains (flat_map slots_of (range_with_len 0 12)) f → IsClaimedAt (IsClaim claimed) 0 f
  direct f h =
      let found = part_of slots_of (range_with_len 0 12) f h in
      let low = range_low 12 found.part found.there in
      let claim = by_slots found.part f found.inside in
      record { source = claim.source; claim = claim.claim; is = omega (arith, low, claim.is) }

  from_0 : (f : ℕ) → Contains level_0 f → IsClaimedAt (IsClaim claimed) 0 f
  unfolding level_0
  from_0 f h = elim (Contains-append_cases (flat_map slots_of (range_with_len 0 12)) (flat_map (pointers_of 1) level_1) f h) [
    | inl slot ↦ direct f slot
    | inr pointer ↦ by_pointers 0 level_1 f from_1 pointer
  ]

  pub from_level : (level f : ℕ) → Contains (fragments_of_level level) f → IsClaimedAt (IsClaim claimed) level f
  from_level zero f h = from_0 f h
  from_level (suc zero) f h = from_1 f h
  from_level (suc (suc zero)) f h = from_2 f h
  from_level (suc (suc (suc zero))) f h = from_3 f h
  from_level (suc (suc (suc (suc level)))) f h = absurd (none_in f h)

  -- ---- what is claimed is found

  slot_found : IsBounded claimed inodes pointers → (i slot f : ℕ) → Contains (claimed (Slot i slot)) f → Contains (slots_of slot) f
  slot_found bounds i slot f h = in_parts (λ j. claimed (Slot j slot)) (range_with_len 0 inodes) i f (in_range inodes i (bounds.inode i slot f h)) h

  pointer_found : IsBounded claimed inodes pointers → (u level at f : ℕ) → Contains (claimed (Pointer u level at)) f → Contains (pointers_of level u) f
  pointer_found bounds u level at f h =
      in_parts (λ j. claimed (Pointer u level j)) (range_with_len 0 pointers) at f (in_range pointers at (bounds.at u level at f h)) h

  direct_found : (slot f : ℕ) → slot < 12 → Contains (slots_of slot) f → Contains level_0 f
  unfolding level_0
  direct_found slot f low h =
      Contains-append_left (flat_map slots_of (range_with_len 0 12)) (flat_map (pointers_of 1) level_1) f
      (in_parts slots_of (range_with_len 0 12) slot f (in_range 12 slot low) h)

  indirect_found : (k f : ℕ) → k < 3 → Contains (slots_of (12 + k)) f → Contains (fragments_of_level (suc k)) f
  unfolding level_1 level_2 level_3
  indirect_found zero f low h = Contains-append_left (slots_of 12) (flat_map (pointers_of 2) level_2) f h
  indirect_found (suc zero) f low h = Contains-append_left (slots_of 13) (flat_map (pointers_of 3) level_3) f h
  indirect_found (suc (suc zero)) f low h = h
  indirect_found (suc (suc (suc k))) f low h = absurd (omega (arith, low))

  at_slot : (slot f : ℕ) → slot < 15 → Contains (slots_of slot) f → Contains (fragments_of_level (slot - 11)) f
  at_slot slot f low h = elim (cases_lt slot 12) [
    | inl few ↦
        let level : 0 ≡ slot - 11 = omega (arith, few) in
        subst (λ k. Contains (fragments_of_level k) f) level (direct_found slot f few h)
    | inr many ↦
        let level : suc (slot - 12) ≡ slot - 11 = omega (arith, many) in
        let shift : slot ≡ 12 + (slot - 12) = omega (arith, many) in
        subst (λ k. Contains (fragments_of_level k) f) level
        (indirect_found (slot - 12) f (omega (arith, low)) (subst (λ k. Contains (slots_of k) f) shift h))
  ]

  at_pointer : (level u f : ℕ) → Contains (fragments_of_level level) u → Contains (pointers_of level u) f → 0 < level → Contains (fragments_of_level (level - 1)) f
  unfolding level_0 level_1 level_2
  at_pointer zero u f there h some = absurd (omega (arith, some))
  at_pointer (suc zero) u f there h some =
      Contains-append_right (flat_map slots_of (range_with_len 0 12)) (flat_map (pointers_of 1) level_1) f (in_parts (pointers_of 1) level_1 u f there h)
  at_pointer (suc (suc zero)) u f there h some =
      Contains-append_right (slots_of 12) (flat_map (pointers_of 2) level_2) f (in_parts (pointers_of 2) level_2 u f there h)
  at_pointer (suc (suc (suc zero))) u f there h some =
      Contains-append_right (slots_of 13) (flat_map (pointers_of 3) level_3) f (in_parts (pointers_of 3) level_3 u f there h)
  at_pointer (suc (suc (suc (suc level)))) u f there h some = absurd (none_in u there)

  pub to_level : IsBounded claimed inodes pointers → (f : ℕ) (source : ClaimSource) → IsClaim claimed f source → Contains (fragments_of_level (level_of source)) f
  to_level bounds f (Slot i slot) (IsClaim.by_slot h) = at_slot slot f (bounds.slot i slot f h) (slot_found bounds i slot f h)
  to_level bounds f (Pointer u level at) (IsClaim.by_pointer {source = source} upper is above h) =
      at_pointer level u f (subst (λ k. Contains (fragments_of_level k) u) is (to_level bounds u source upper)) (pointer_found bounds u level at f h) above

  level_low : (level f : ℕ) → Contains (fragments_of_level level) f → level < 4
  level_low zero f h = omega arith
  level_low (suc zero) f h = omega arith
  level_low (suc (suc zero)) f h = omega arith
  level_low (suc (suc (suc zero))) f h = omega arith
  level_low (suc (suc (suc (suc level)))) f h = absurd (none_in f h)

  -- a fragment is claimed just where it is found
  pub found_claimed : (f : ℕ) → has_number all_claimed f ≡ true → (source : ClaimSource) × IsClaim claimed f source
  unfolding all_claimed
  found_claimed f e =
      let part = part_of fragments_of_level (range_with_len 0 4) f (number_there all_claimed f e) in
      let claim = from_level part.part f part.inside in
      (claim.source, claim.claim)

  pub claimed_found : IsBounded claimed inodes pointers → (f : ℕ) (source : ClaimSource) → IsClaim claimed f source → has_number all_claimed f ≡ true
  unfolding all_claimed
  claimed_found bounds f source claim =
      let there = to_level bounds f source claim in
      number_found all_claimed f
      (in_parts fragments_of_level (range_with_len 0 4) (level_of source) f (in_range 4 (level_of source) (level_low (level_of source) f there)) there)
