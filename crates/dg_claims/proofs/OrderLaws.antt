-- The order of sources with their levels, lists in that order, and that it is the order of the claims on a fragment.
use Rattle.std.proofs.Common.{◌≡◌, ◌≤◌, ◌⊎◌, ◌↔◌, ◌∙◌, inl, inr, List, [], ◌∷◌, suc, ◌+◌, true, false, cond, Contains, length, refl, sym, ap, arith, rules, Ordering, Less, Equal, Greater}
use Rattle.std.proofs.lemmas.Bool.{false≢true}
use Rattle.std.proofs.lemmas.Bool.Decides.{nat_tests}
use Rattle.std.proofs.lemmas.Grind.{common_steps}
use Rattle.std.specs.BTreeMap.{is_at}
use Rattle.std.specs.BTreeSet.{insert_key}
use Rattle.std.specs.Cmp.{IsTotalOrder}
use Rattle.std.specs.List.Sorted.{IsStrictlySortedBy}
use Rattle.std.specs.Ordering.{is_eq, match_ordering, ordering_reverse}
use Rattle.std.specs.Set.{remove_key}
use Rattle.ufs_model.specs.Claims.{is_earlier_claim}
use Rattle.dg_claims.proofs.ListLaws.{contains_cons, contains_none, holds_of}
use Rattle.dg_claims.specs.Marks.{AreOrdered}
use Rattle.dg_claims.specs.Places.{mark_cmp, mark_of, source_of}
use Rattle.dg_claims.specs.contracts.places.MarkOrd.TheImpl as marks
use Rattle.dg_claims.specs.contracts.places.PlaceOrd.TheImpl as places
use Rattle.dg_claims.specs.declared.places.Mark.{Mark}
use Rattle.dg_claims.specs.declared.places.Place.{Place}
use Rattle.dg_claims.specs.declared.places.Place.TheVariants.{Slot, Pointer}

pub place_exact : (p q : Place) → places.cmp-value.it p q ≡ Equal → p ≡ q
place_exact (Slot i s) (Slot j t) e = search rules
place_exact (Slot i s) (Pointer f l a) e = search rules
place_exact (Pointer f l a) (Slot j t) e = search rules
place_exact (Pointer f l a) (Pointer g k b) e = search rules

pub mark_exact : (m n : Mark) → mark_cmp m n ≡ Equal → m ≡ n
mark_exact m n e = grind (arith, common_steps, place_exact)

total : IsTotalOrder mark_cmp
total = marks.Laws.total-law

pub earlier : (p q : Place) → mark_cmp (mark_of p) (mark_of q) ≡ Less → is_earlier_claim (source_of p) (source_of q) ≡ true
earlier (Slot i s) (Slot j t) e = grind (arith, common_steps, nat_tests)
earlier (Slot i s) (Pointer f l a) e = grind (arith, common_steps, nat_tests)
earlier (Pointer f l a) (Slot j t) e = grind (arith, common_steps, nat_tests)
earlier (Pointer f l a) (Pointer g k b) e = grind (arith, common_steps, nat_tests)

-- ---- the order

less_not_greater : Less ≡ Greater → ⊥
less_not_greater e = cc

less_not_equal : Less ≡ Equal → ⊥
less_not_equal e = cc

own_reverse : (r : Ordering) → r ≡ ordering_reverse r → r ≡ Equal
own_reverse Less e = absurd (less_not_greater e)
own_reverse Equal e = refl
own_reverse Greater e = absurd (less_not_greater (sym e))

pub mark_same : (m : Mark) → mark_cmp m m ≡ Equal
mark_same m = own_reverse (mark_cmp m m) (total.antisymm m m)

pub not_before_itself : (m n : Mark) → m ≡ n → mark_cmp m n ≡ Less → ⊥
not_before_itself m n e less = less_not_equal (sym less ∙ ap (mark_cmp m) (sym e) ∙ mark_same m)

reversed : (r s : Ordering) → r ≡ ordering_reverse s → (r ≡ Less → ⊥) → (r ≡ Equal → ⊥) → s ≡ Less
reversed Less s e less equal = absurd (less refl)
reversed Equal s e less equal = absurd (equal refl)
reversed Greater Less e less equal = refl
reversed Greater Equal e less equal = absurd (equal e)
reversed Greater Greater e less equal = absurd (less e)

-- of two that differ the one is before the other, or the other way round
pub other_way : (m n : Mark) → (m ≡ n → ⊥) → (mark_cmp m n ≡ Less → ⊥) → mark_cmp n m ≡ Less
other_way m n apart not_less = reversed (mark_cmp m n) (mark_cmp n m) (total.antisymm m n) not_less (λ e. apart (mark_exact m n e))

-- ---- lists in order

pub ordered_from : (ms : List Mark) → IsStrictlySortedBy mark_cmp ms → AreOrdered ms
unfolding IsStrictlySortedBy
ordered_from [] sorted = tt
ordered_from (m ∷ ms) sorted = (λ other has. holds_of (λ n. mark_cmp m n ≡ Less) ms (sorted.0) other has, ordered_from ms (sorted.1))

pub contains_insert : (ms : List Mark) (m x : Mark) → Contains (insert_key mark_cmp ms m) x ↔ (Contains ms x ⊎ (x ≡ m))
contains_insert [] m x =
    let one = contains_cons m [] x in (
      λ has. elim (one.0 has) [ inl e ↦ inr e | inr h ↦ inl h ],
      λ either. one.1 (elim either [ inl h ↦ inr h | inr e ↦ inl e ]),
    )
contains_insert (y ∷ ys) m x =
    let rest = contains_insert ys m x in
    let all = contains_cons y ys x in
    elim (mark_cmp m y) as (λ r. mark_cmp m y ≡ r → Contains (match_ordering r (m ∷ y ∷ ys) (y ∷ ys) (y ∷ insert_key mark_cmp ys m)) x ↔ (Contains (y ∷ ys) x ⊎ (x ≡ m))) [
      | Less ↦ λ is. let front = contains_cons m (y ∷ ys) x in (
        λ has. elim (front.0 has) [ inl e ↦ inr e | inr h ↦ inl h ],
        λ either. front.1 (elim either [ inl h ↦ inr h | inr e ↦ inl e ]),
      )
      | Equal ↦ λ is. (
        λ has. inl has,
        λ either. elim either [ inl h ↦ h | inr e ↦ all.1 (inl (e ∙ mark_exact m y is)) ],
      )
      | Greater ↦ λ is. let front = contains_cons y (insert_key mark_cmp ys m) x in (
        λ has. elim (front.0 has) [
          | inl e ↦ inl (all.1 (inl e))
          | inr h ↦ elim (rest.0 h) [ inl old ↦ inl (all.1 (inr old)) | inr e ↦ inr e ]
        ],
        λ either. front.1 (elim either [
          | inl h ↦ elim (all.0 h) [ inl e ↦ inl e | inr old ↦ inr (rest.1 (inl old)) ]
          | inr e ↦ inr (rest.1 (inr e))
        ]),
      )
    ] refl

pub length_insert : (ms : List Mark) (m : Mark) → length (insert_key mark_cmp ms m) ≤ length ms + 1
length_insert [] m = omega arith
length_insert (y ∷ ys) m =
    let rest = length_insert ys m in
    elim (mark_cmp m y) as (λ r. length (match_ordering r (m ∷ y ∷ ys) (y ∷ ys) (y ∷ insert_key mark_cmp ys m)) ≤ length (y ∷ ys) + 1) [
      | Less ↦ omega arith
      | Equal ↦ omega arith
      | Greater ↦ omega arith
    ]

is_equal : (r : Ordering) → is_eq r ≡ true → r ≡ Equal
is_equal Less e = absurd (false≢true e)
is_equal Equal e = refl
is_equal Greater e = absurd (false≢true e)

is_at_itself : (m y : Mark) → y ≡ m → is_at (mark_cmp m) y ≡ true
is_at_itself m y e = ap is_eq (ap (mark_cmp m) e ∙ mark_same m)

pub contains_remove : (ms : List Mark) (m x : Mark) → AreOrdered ms → Contains (remove_key (is_at (mark_cmp m)) ms) x ↔ (Contains ms x × (x ≡ m → ⊥))
contains_remove [] m x ordered = (λ has. absurd (contains_none x has), λ both. both.0)
contains_remove (y ∷ ys) m x ordered =
    let rest = contains_remove ys m x (ordered.1) in
    let all = contains_cons y ys x in
    elim (is_at (mark_cmp m) y) as (λ b. is_at (mark_cmp m) y ≡ b
    → Contains (cond b ys (y ∷ remove_key (is_at (mark_cmp m)) ys)) x ↔ (Contains (y ∷ ys) x × (x ≡ m → ⊥))) [
      | true ↦ λ is. let here : m ≡ y = mark_exact m y (is_equal (mark_cmp m y) is) in (
        λ has. (all.1 (inr has), λ e. not_before_itself y x (sym here ∙ sym e) (ordered.0 x has)),
        λ both. elim (all.0 (both.0)) [ inl e ↦ absurd (both.1 (e ∙ sym here)) | inr h ↦ h ],
      )
      | false ↦ λ is. let front = contains_cons y (remove_key (is_at (mark_cmp m)) ys) x in (
        λ has. elim (front.0 has) [
          | inl e ↦ (all.1 (inl e), λ same. false≢true (sym is ∙ is_at_itself m y (sym e ∙ same)))
          | inr h ↦ (all.1 (inr ((rest.0 h).0)), (rest.0 h).1)
        ],
        λ both. front.1 (elim (all.0 (both.0)) [ inl e ↦ inl e | inr h ↦ inr (rest.1 (h, both.1)) ]),
      )
    ] refl

pub ordered_remove : (ms : List Mark) (m : Mark) → AreOrdered ms → AreOrdered (remove_key (is_at (mark_cmp m)) ms)
ordered_remove [] m ordered = tt
ordered_remove (y ∷ ys) m ordered =
    elim (is_at (mark_cmp m) y) as (λ b. AreOrdered (cond b ys (y ∷ remove_key (is_at (mark_cmp m)) ys))) [
      | true ↦ ordered.1
      | false ↦ (λ other has. ordered.0 other (((contains_remove ys m other (ordered.1)).0 has).0), ordered_remove ys m (ordered.1))
    ]

pub length_remove : (ms : List Mark) (m : Mark) → length (remove_key (is_at (mark_cmp m)) ms) ≤ length ms
length_remove [] m = omega arith
length_remove (y ∷ ys) m =
    let rest = length_remove ys m in
    elim (is_at (mark_cmp m) y) as (λ b. length (cond b ys (y ∷ remove_key (is_at (mark_cmp m)) ys)) ≤ suc (length ys)) [
      | true ↦ omega arith
      | false ↦ omega arith
    ]

-- behind one that is before all, a list stays in order where one more is put in behind it
pub ordered_behind : (m n : Mark) (ms : List Mark) → ((other : Mark) → Contains ms other → mark_cmp m other ≡ Less) → mark_cmp m n ≡ Less
    → AreOrdered (insert_key mark_cmp ms n) → AreOrdered (m ∷ insert_key mark_cmp ms n)
ordered_behind m n ms below less ordered = (
  λ other has. elim ((contains_insert ms n other).0 has) [
    | inl h ↦ below other h
    | inr e ↦ ap (mark_cmp m) e ∙ less
  ],
  ordered,
)

-- one that is before the first is before all
pub before_all : (m n : Mark) (ms : List Mark) → mark_cmp m n ≡ Less → AreOrdered (n ∷ ms) → (other : Mark) → Contains ms other → mark_cmp m other ≡ Less
before_all m n ms less ordered other has = total.trans m n other less (ordered.0 other has)
