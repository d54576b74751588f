-- Sources from one to another in their order, and the runs of the first of some places.
use Rattle.std.proofs.Common.{◌≡◌, ℕ, ◌<◌, ◌≤◌, ◌/◌, ◌∙◌, List, Bool, false, Option, Some, None, IfSome, refl, sym, ap, subst, arith, div-le_self}
use Rattle.std.proofs.lemmas.Bool.{false≢true}
use Rattle.std.proofs.lemmas.Bool.Decides.{Decides-at, nat_tests}
use Rattle.std.proofs.lemmas.Grind.{common_steps}
use Rattle.std.specs.Bool.{Decides}
use Rattle.std.specs.BTreeMap.{BTreeMap}
use Rattle.std.specs.BTreeMap.Range.{IsEntryInRange, IsRangeOf}
use Rattle.std.specs.Map.Iter.{TakesFirst}
use Rattle.std.specs.Prelude.{IsSome, is_some, slice_get}
use Rattle.std.specs.declared.ops.Bound.TheVariants.{Included}
use Rattle.ufs_model.specs.Geometries.{IsGeometry}
use Rattle.ufs_model.specs.declared.claims.ClaimSource.{ClaimSource}
use Rattle.ufs_model.specs.declared.geometries.Geometry.{Geometry}
use Rattle.dg_claims.proofs.RunLaws.{at_entry}
use Rattle.dg_claims.specs.Kept.{HasNone, SetsFirst}
use Rattle.dg_claims.specs.Places.{pointer_place, slot_place}
use Rattle.dg_claims.specs.Runs.{HasAny, HasAnyEntry, IsUpTo, by_source, entry_at, run_at}
use Rattle.dg_claims.specs.contracts.places.PlaceOrd.TheImpl as order
use Rattle.dg_claims.specs.declared.places.Place.{Place}
use Rattle.dg_claims.specs.declared.runs.Run.{Run}

-- ---- the map's range

-- the first of a range tells whether there is any
first_between : {A : Type 0} (map : BTreeMap Place Run) (first last : Place) (left rest : List (Place × Run)) (shows : A → Place × Run) (item : Option A)
    → IsRangeOf order.cmp-value.it (Included first) (Included last) map left → TakesFirst shows left item rest → Decides (is_some item) (HasAnyEntry map.entries first last)
first_between map first last left rest shows None range steps = (
  λ e. absurd (false≢true e),
  λ has. absurd (false≢true (sym (ap is_some (range.5 (steps.0) (has.0) (has.1, has.2))) ∙ has.3)),
)
first_between map first last left rest shows (Some x) range steps =
    let here : IsEntryInRange order.cmp-value.it (Included first) (Included last) map (shows x) =
    subst (λ es. IfSome (slice_get es 0) (IsEntryInRange order.cmp-value.it (Included first) (Included last) map)) steps (range.1) in (
      λ e. ((shows x).0, (here.0).0, (here.0).1, ap is_some (here.1)),
      λ has. refl,
    )

pub any_between : {A : Type 0} (map : BTreeMap Place Run) (first last low high : Place) (left rest : List (Place × Run)) (shows : A → Place × Run) (item : Option A) (any : Bool) → low ≡ first → high ≡ last
    → IsRangeOf order.cmp-value.it (Included low) (Included high) map left → TakesFirst shows left item rest → any ≡ is_some item → Decides any (HasAnyEntry map.entries first last)
any_between map first last low high left rest shows item any begins ends range steps is =
    subst (λ l. Decides any (HasAnyEntry map.entries l last)) begins
    (subst (λ h. Decides any (HasAnyEntry map.entries low h)) ends
    (Decides-at any (is_some item) is (first_between map low high left rest shows item range steps)))

pub any_run : (entries : List (Place × Run)) (runs : List (ClaimSource × Run)) (first last : Place) (any : Bool) → by_source entries ≡ runs → Decides any (HasAnyEntry entries first last)
    → Decides any (HasAny runs first last)
any_run entries runs first last any view decides =
    let same : (place : Place) → is_some (run_at runs place) ≡ is_some (entry_at entries place) =
    λ place. ap is_some (ap (λ (rs : List (ClaimSource × Run)). run_at rs place) (sym view) ∙ at_entry entries place) in (
      λ e. let has = decides.0 e in (has.0, has.1, has.2, same (has.0) ∙ has.3),
      λ has. decides.1 (has.0, has.1, has.2, sym (same (has.0)) ∙ has.3),
    )

-- ---- slots and pointers in their order

pub slot_up : (inode a b : ℕ) → a ≤ b → IsUpTo (slot_place inode a) (slot_place inode b)
slot_up inode a b le = grind (arith, common_steps, nat_tests)

pub pointer_up : (fragment level a b : ℕ) → a ≤ b → IsUpTo (pointer_place fragment level a) (pointer_place fragment level b)
pointer_up fragment level a b le = grind (arith, common_steps, nat_tests)

no_run : {X : Type 0} (run : Option X) → (IsSome run → ⊥) → run ≡ None
no_run None none = refl
no_run (Some x) none = absurd (none refl)

none_between : (runs : List (ClaimSource × Run)) (first last : Place) (place_at : ℕ → Place) (n : ℕ) (any : Bool) → ((k : ℕ) → k < n → IsUpTo first (place_at k) × IsUpTo (place_at k) last)
    → Decides any (HasAny runs first last) → any ≡ false → SetsFirst runs runs place_at HasNone n
none_between runs first last place_at n any inside decides none = record {
  done = λ k lt. let both = inside k lt in no_run (run_at runs (place_at k)) (λ some. false≢true (sym none ∙ decides.1 (place_at k, both.0, both.1, some)));
  others = λ place off. refl;
}

pub bare_slots : (runs : List (ClaimSource × Run)) (inode : ℕ) (any : Bool) → Decides any (HasAny runs (slot_place inode 0) (slot_place inode 14)) → any ≡ false
    → SetsFirst runs runs (slot_place inode) HasNone 15
bare_slots runs inode any decides none =
    none_between runs (slot_place inode 0) (slot_place inode 14) (slot_place inode) 15 any (λ k lt. (slot_up inode 0 k (omega arith), slot_up inode k 14 (omega (arith, lt)))) decides none

pub bare_pointers : (g : Geometry) (runs : List (ClaimSource × Run)) (fragment level : ℕ) (any : Bool) → IsGeometry g
    → Decides any (HasAny runs (pointer_place fragment level 0) (pointer_place fragment level 65535)) → any ≡ false → SetsFirst runs runs (pointer_place fragment level) HasNone (g.fsize / 4)
bare_pointers g runs fragment level any is decides none =
    let size = is.fsize in
    let quarter : g.fsize / 4 ≤ g.fsize = div-le_self g.fsize 4 in
    none_between runs (pointer_place fragment level 0) (pointer_place fragment level 65535) (pointer_place fragment level) (g.fsize / 4) any
    (λ k lt. (pointer_up fragment level 0 k (omega arith), pointer_up fragment level k 65535 (omega (arith, lt, size.1, quarter)))) decides none
