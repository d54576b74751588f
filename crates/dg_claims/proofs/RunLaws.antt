-- Runs by their sources, and the fragments of a run.
use Rattle.std.proofs.Common.{◌≡◌, ◌∙◌, ℕ, zero, suc, ◌+◌, ◌<◌, ◌≤◌, ◌↔◌, inl, inr, Contains, List, [], ◌∷◌, Bool, cond, Some, None, OnOk, Result, Ok, Err, refl, ap, arith}
use Rattle.std.proofs.lemmas.Bool.{cases_eq}
use Rattle.std.proofs.lemmas.Bool.Decides.{nat_tests}
use Rattle.std.proofs.lemmas.Grind.{common_steps}
use Rattle.std.specs.BTreeMap.{is_at}
use Rattle.ufs_model.specs.Claims.{fragments_from}
use Rattle.ufs_model.specs.declared.claims.ClaimSource.{ClaimSource}
use Rattle.dg_claims.proofs.ListLaws.{contains_cons, contains_none}
use Rattle.dg_claims.specs.Places.{source_of}
use Rattle.dg_claims.specs.Runs.{by_source, entry_at, is_same_source, run_at, run_fragments, run_of}
use Rattle.dg_claims.specs.contracts.places.PlaceOrd.TheImpl as order
use Rattle.dg_claims.specs.declared.places.Place.{Place}
use Rattle.dg_claims.specs.declared.places.Place.TheVariants.{Slot, Pointer}
use Rattle.dg_claims.specs.declared.runs.Run.{Run}

same_key : (p q : Place) → is_same_source (source_of p) (source_of q) ≡ is_at (order.cmp-value.it p) q
same_key (Slot i s) (Slot j t) = grind (arith, common_steps, nat_tests)
same_key (Slot i s) (Pointer f l a) = refl
same_key (Pointer f l a) (Slot j t) = refl
same_key (Pointer f l a) (Pointer g k b) = grind (arith, common_steps, nat_tests)

cond_both : {X : Type 0} (a b : Bool) (x y z : X) → a ≡ b → y ≡ z → cond a x y ≡ cond b x z
cond_both a b x y z e f = ap (λ t. cond t x y) e ∙ ap (cond b x) f

-- the run at a place is the one in the map
pub at_entry : (entries : List (Place × Run)) (place : Place) → run_at (by_source entries) place ≡ entry_at entries place
unfolding run_of
at_entry [] place = refl
at_entry (entry ∷ entries) place = cond_both _ _ _ _ _ (same_key place entry.0) (at_entry entries place)

pub no_entry : (entries : List (Place × Run)) → entries ≡ [] → (source : ClaimSource) → run_of (by_source entries) source ≡ None
unfolding run_of
no_entry entries bare source = ap (λ es. run_of (by_source es) source) bare

pub on_ok : {A E P Q : Type 0} (r : Result A E) → (P → Q) → OnOk r P → OnOk r Q
on_ok (Ok a) f p = f p
on_ok (Err e) f p = tt

-- ---- the fragments of a run

-- the fragments from a on
pub contains_from : (k a f : ℕ) → Contains (fragments_from a k) f ↔ ((a ≤ f) × (f < a + k))
contains_from zero a f = (λ has. absurd (contains_none f has), λ both. absurd (omega (arith, both.0, both.1)))
contains_from (suc k) a f =
    let all = contains_cons a (fragments_from (suc a) k) f in
    let rest = contains_from k (suc a) f in (
      λ has. elim (all.0 has) [
        | inl e ↦ (omega (arith, e), omega (arith, e))
        | inr h ↦ let r = rest.0 h in (omega (arith, r.0), omega (arith, r.1))
      ],
      λ both. all.1 (elim (cases_eq f a) [
        | inl e ↦ inl e
        | inr ne ↦ inr (rest.1 (omega (arith, ne, both.0), omega (arith, both.1)))
      ]),
    )

-- the fragments of a run as they are in order
pub contains_run : (run : Run) (f : ℕ) → Contains (run_fragments (Some run)) f ↔ ((run.first ≤ f) × (f < run.first + run.count))
contains_run run f = contains_from run.count run.first f
