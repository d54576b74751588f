-- The numbers of each kind, kind after kind, are all malformations in their order.
use Rattle.std.proofs.Common.{◌≡◌, ◌∙◌, ◌↔◌, ◌⊎◌, inl, inr, ℕ, zero, suc, ◌+◌, ◌<◌, ◌≤◌, true, List, [], ◌∷◌, ◌++◌, All, AllPairs, Contains, Ok, get_or, refl, sym, ap, subst, rules, arith}
use Rattle.std.proofs.lemmas.Bool.Decides.{nat_tests}
use Rattle.std.proofs.lemmas.List.Elements.{Contains-append_cases, Contains-append_left, Contains-append_right, Contains-get_or, Contains-push_cases}
use Rattle.std.proofs.lemmas.List.Kept.{AllPairs-cons}
use Rattle.std.proofs.lemmas.List.Quantifiers.{all_pairs_push}
use Rattle.ufs_model.specs.Blocks.{Volume}
use Rattle.ufs_model.specs.Malformations.{IsBad, IsBadBy, IsMalformed, order_of}
use Rattle.ufs_model.specs.Superblocks.{geometry_of}
use Rattle.ufs_model.specs.declared.geometries.BadSuper.{BadSuper}
use Rattle.ufs_model.specs.declared.geometries.Geometry.{Geometry}
use Rattle.ufs_model.specs.declared.malformations.BadKind.{BadKind}
use Rattle.ufs_model.specs.declared.malformations.BadKind.TheVariants.{Super, GroupMagic, GroupMap, WrongType, Filesize, Past, Wild, WildIn, Align, AlignIn, Run, Twice, PastIn, Free, Unused, Hole, Chunk, Entry, EntryType, Dots, Names, DirTwice, RootNamed}
use Rattle.ufs_model.specs.Audits.{AreAll, AreMalformations, is_earlier_malformation}
use Rattle.ufs_check.specs.Verdicts.{all_kinds}
use Rattle.ufs_audit.specs.Listed.{listed, pairs_of}

-- ---- lists

contains_cons : {X : Type 0} (x : X) (xs : List X) (y : X) → Contains (x ∷ xs) y → (x ≡ y) ⊎ Contains xs y
contains_cons x xs y (zero, lt, is) = inl is
contains_cons x xs y (suc k, lt, is) = inr (k, omega arith, is)

there : {X : Type 0} (x : X) (xs : List X) (y : X) → Contains xs y → Contains (x ∷ xs) y
there x xs y (k, lt, is) = (suc k, omega arith, is)

pairs_tail : {X : Type 0} (R : X → X → Type 0) (x : X) (xs : List X) → AllPairs R (x ∷ xs) → AllPairs R xs
pairs_tail R x xs all = λ i j d before lt. all (suc i) (suc j) d (omega arith) (omega arith)

pairs_head : {X : Type 0} (R : X → X → Type 0) (x : X) (xs : List X) (y : X) → AllPairs R (x ∷ xs) → Contains xs y → R x y
pairs_head R x xs y all (k, lt, is) = subst (λ z. R x z) is (all 0 (suc k) y (omega arith) (omega arith))

append_moves : {X : Type 0} (xs : List X) (y : X) (ys : List X) → (xs ++ y ∷ []) ++ ys ≡ xs ++ y ∷ ys
append_moves [] y ys = refl
append_moves (x ∷ xs) y ys = ap (λ l. x ∷ l) (append_moves xs y ys)

append_none : {X : Type 0} (xs : List X) → xs ++ [] ≡ xs
append_none [] = refl
append_none (x ∷ xs) = ap (λ l. x ∷ l) (append_none xs)

-- two lists in order, the one before the other
append_pairs : {X : Type 0} (R : X → X → Type 0) (xs ys : List X) → AllPairs R xs → AllPairs R ys → ((x y : X) → Contains xs x → Contains ys y → R x y) → AllPairs R (xs ++ ys)
append_pairs R xs [] one other cross = subst (AllPairs R) (sym (append_none xs)) one
append_pairs R xs (y ∷ ys) one other cross = subst (AllPairs R) (append_moves xs y ys)
    (append_pairs R (xs ++ y ∷ []) ys (all_pairs_push R xs y one (λ k d lt. cross (get_or xs k d) y (Contains-get_or xs k d lt) (0, omega arith, refl))) (pairs_tail R y ys other)
    (λ a b has_a has_b. elim (Contains-push_cases xs y a has_a) [
      | inl before ↦ cross a b before (there y ys b has_b)
      | inr same ↦ subst (λ z. R z b) same (pairs_head R y ys b other has_b)
    ]))

all_of : {X : Type 0} (P : X → Type 0) (xs : List X) → ((x : X) → Contains xs x → P x) → All P xs
all_of P xs each = λ k d lt. each (get_or xs k d) (Contains-get_or xs k d lt)

-- ---- one kind

pairs_has : (kind : BadKind) (ns : List ℕ) (m : ℕ) → Contains ns m → Contains (pairs_of kind ns) (kind, m)
pairs_has kind [] m has = let lt = has.1 in absurd (omega arith)
pairs_has kind (n ∷ ns) m has = elim (contains_cons n ns m has) [
  | inl same ↦ (0, omega arith, ap (λ k. (kind, k)) same)
  | inr rest ↦ there (kind, n) (pairs_of kind ns) (kind, m) (pairs_has kind ns m rest)
]

-- a pair of a list of a kind's numbers
abbrev IsPairOf : BadKind → List ℕ → BadKind × ℕ → Type 0
IsPairOf kind ns x = (x.0 ≡ kind) × Contains ns (x.1)

pairs_from : (kind : BadKind) (ns : List ℕ) (x : BadKind × ℕ) → Contains (pairs_of kind ns) x → IsPairOf kind ns x
pairs_from kind [] x has = let lt = has.1 in absurd (omega arith)
pairs_from kind (n ∷ ns) x has = elim (contains_cons (kind, n) (pairs_of kind ns) x has) [
  | inl same ↦ subst (IsPairOf kind (n ∷ ns)) same (refl, (0, omega arith, refl))
  | inr rest ↦ let one = pairs_from kind ns x rest in (one.0, there n ns (x.1) (one.1))
]

abbrev Earlier : BadKind × ℕ → BadKind × ℕ → Type 0
Earlier one other = is_earlier_malformation one other ≡ true

earlier_number : (one other : BadKind × ℕ) → one.0 ≡ other.0 → one.1 < other.1 → Earlier one other
earlier_number one other same less = let kinds : order_of (one.0) ≡ order_of (other.0) = ap order_of same in grind (arith, nat_tests)

earlier_kind : (one other : BadKind × ℕ) → order_of (one.0) < order_of (other.0) → Earlier one other
earlier_kind one other less = grind (arith, nat_tests)

pairs_ordered : (kind : BadKind) (ns : List ℕ) → AllPairs ◌<◌ ns → AllPairs Earlier (pairs_of kind ns)
pairs_ordered kind [] ascend = λ i j d before lt. absurd (omega arith)
pairs_ordered kind (n ∷ ns) ascend =
    AllPairs-cons Earlier (kind, n) (pairs_of kind ns)
    (all_of (Earlier (kind, n)) (pairs_of kind ns) (λ x has. let one = pairs_from kind ns x has in
    earlier_number (kind, n) x (sym (one.0)) (pairs_head ◌<◌ n ns (x.1) ascend (one.1))))
    (pairs_ordered kind ns (pairs_tail ◌<◌ n ns ascend))

-- ---- all kinds

listed_has : (numbers : BadKind → List ℕ) (kinds : List BadKind) (kind : BadKind) (m : ℕ) → Contains kinds kind → Contains (numbers kind) m → Contains (listed numbers kinds) (kind, m)
listed_has numbers [] kind m has number = let lt = has.1 in absurd (omega arith)
listed_has numbers (first ∷ kinds) kind m has number = elim (contains_cons first kinds kind has) [
  | inl same ↦ Contains-append_left (pairs_of first (numbers first)) (listed numbers kinds) (kind, m)
      (subst (λ k. Contains (pairs_of first (numbers first)) (k, m)) same (pairs_has first (numbers first) m (rw same number)))
  | inr rest ↦ Contains-append_right (pairs_of first (numbers first)) (listed numbers kinds) (kind, m) (listed_has numbers kinds kind m rest number)
]

-- a pair of such a list
abbrev IsListed : (BadKind → List ℕ) → List BadKind → BadKind × ℕ → Type 0
IsListed numbers kinds x = Contains kinds (x.0) × Contains (numbers (x.0)) (x.1)

listed_from : (numbers : BadKind → List ℕ) (kinds : List BadKind) (x : BadKind × ℕ) → Contains (listed numbers kinds) x → IsListed numbers kinds x
listed_from numbers [] x has = let lt = has.1 in absurd (omega arith)
listed_from numbers (first ∷ kinds) x has = elim (Contains-append_cases (pairs_of first (numbers first)) (listed numbers kinds) x has) [
  | inl own ↦ let one = pairs_from first (numbers first) x own in ((0, omega arith, sym (one.0)), rw one.0 (one.1))
  | inr rest ↦ let one = listed_from numbers kinds x rest in (there first kinds (x.0) (one.0), one.1)
]

-- the orders of kinds rise, from a number on
abbrev RiseFrom : ℕ → List BadKind → Type 0
RiseFrom low [] = Unit {0}
RiseFrom low (kind ∷ kinds) = (low ≤ order_of kind) × RiseFrom (order_of kind + 1) kinds

rise_above : (low : ℕ) (kinds : List BadKind) (kind : BadKind) → RiseFrom low kinds → Contains kinds kind → low ≤ order_of kind
rise_above low [] kind rise has = let lt = has.1 in absurd (omega arith)
rise_above low (first ∷ kinds) kind rise has = elim (contains_cons first kinds kind has) [
  | inl same ↦ subst (λ k. low ≤ order_of k) same (rise.0)
  | inr rest ↦ let above = rise_above (order_of first + 1) kinds kind (rise.1) rest in let at = rise.0 in omega (arith, above, at)
]

listed_ordered : (numbers : BadKind → List ℕ) (low : ℕ) (kinds : List BadKind) → RiseFrom low kinds → ((kind : BadKind) → AllPairs ◌<◌ (numbers kind)) → AllPairs Earlier (listed numbers kinds)
listed_ordered numbers low [] rise ascend = λ i j d before lt. absurd (omega arith)
listed_ordered numbers low (kind ∷ kinds) rise ascend =
    append_pairs Earlier (pairs_of kind (numbers kind)) (listed numbers kinds) (pairs_ordered kind (numbers kind) (ascend kind))
    (listed_ordered numbers (order_of kind + 1) kinds (rise.1) ascend)
    (λ x y has_x has_y.
    let one = pairs_from kind (numbers kind) x has_x in
    let other = listed_from numbers kinds y has_y in
    let above = rise_above (order_of kind + 1) kinds (y.0) (rise.1) (other.0) in
    let less : order_of kind < order_of (y.0) = omega (arith, above) in
    earlier_kind x y (rw one.0 less))

kinds_rise : RiseFrom 1 all_kinds
kinds_rise = search rules

-- each kind but those of the superblock is among them
among : (kind : BadKind) → ((bad : BadSuper) → kind ≡ Super bad → ⊥) → Contains all_kinds kind
among (Super bad) none = absurd (none bad refl)
among GroupMagic none = (0, omega arith, refl)
among GroupMap none = (1, omega arith, refl)
among WrongType none = (2, omega arith, refl)
among Filesize none = (3, omega arith, refl)
among Past none = (4, omega arith, refl)
among Wild none = (5, omega arith, refl)
among WildIn none = (6, omega arith, refl)
among Align none = (7, omega arith, refl)
among AlignIn none = (8, omega arith, refl)
among Run none = (9, omega arith, refl)
among Twice none = (10, omega arith, refl)
among PastIn none = (11, omega arith, refl)
among Free none = (12, omega arith, refl)
among Unused none = (13, omega arith, refl)
among Hole none = (14, omega arith, refl)
among Chunk none = (15, omega arith, refl)
among Entry none = (16, omega arith, refl)
among EntryType none = (17, omega arith, refl)
among Dots none = (18, omega arith, refl)
among Names none = (19, omega arith, refl)
among DirTwice none = (20, omega arith, refl)
among RootNamed none = (21, omega arith, refl)

not_super : (g : Geometry) (v : Volume) (kind : BadKind) (m : ℕ) → IsBad g v kind m → (bad : BadSuper) → kind ≡ Super bad → ⊥
not_super g v kind m is bad same = subst (λ k. IsBad g v k m) same is

malformed_by : (l n : ℕ) (v : Volume) (g : Geometry) (kind : BadKind) (m : ℕ) → (geometry_of l n v).value ≡ Ok g → IsMalformed l n v kind m ↔ IsBad g v kind m
unfolding IsMalformed
malformed_by l n v g kind m is = (λ h. subst (λ r. IsBadBy v r kind m) is h, λ h. subst (λ r. IsBadBy v r kind m) (sym is) h)

-- Where the numbers of each kind are all of which it is there, the pairs are all malformations in their order.
pub malformations_of : (l n : ℕ) (v : Volume) (g : Geometry) (numbers : BadKind → List ℕ) → (geometry_of l n v).value ≡ Ok g
    → ((kind : BadKind) → AreAll (IsBad g v kind) (numbers kind)) → AreMalformations l n v (listed numbers all_kinds)
malformations_of l n v g numbers is all = record {
  each = λ kind m. (
    λ has. (malformed_by l n v g kind m is).1 (((all kind).each m).0 ((listed_from numbers all_kinds (kind, m) has).1)),
    λ bad.
        let here = (malformed_by l n v g kind m is).0 bad in
        listed_has numbers all_kinds kind m (among kind (not_super g v kind m here)) (((all kind).each m).1 here),
  );
  ordered = listed_ordered numbers 1 all_kinds kinds_rise (λ kind. (all kind).ascend);
}

-- ---- lists of kinds, one after another

append_assoc : {X : Type 0} (xs ys zs : List X) → (xs ++ ys) ++ zs ≡ xs ++ (ys ++ zs)
append_assoc [] ys zs = refl
append_assoc (x ∷ xs) ys zs = ap (λ l. x ∷ l) (append_assoc xs ys zs)

pub listed_append : (numbers : BadKind → List ℕ) (one other : List BadKind) → listed numbers one ++ listed numbers other ≡ listed numbers (one ++ other)
listed_append numbers [] other = refl
listed_append numbers (kind ∷ kinds) other =
    append_assoc (pairs_of kind (numbers kind)) (listed numbers kinds) (listed numbers other) ∙ ap (λ l. pairs_of kind (numbers kind) ++ l) (listed_append numbers kinds other)

-- what is added to a list of some kinds makes it one of more
pub listed_more : (numbers : BadKind → List ℕ) (one other : List BadKind) (old new : List (BadKind × ℕ)) → old ≡ listed numbers one → new ≡ old ++ listed numbers other → new ≡ listed numbers (one ++ other)
listed_more numbers one other old new is more = more ∙ ap (λ l. l ++ listed numbers other) is ∙ listed_append numbers one other
