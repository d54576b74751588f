-- How many calls on the rack copies make.
use Rattle.std.proofs.Common.{◌≡◌, ◌<◌, ◌≤◌, ◌+◌, ◌*◌, ◌==◌, ℕ, suc, cond, List, [], ◌∷◌, length, inl, inr, refl, ap, arith}
use Rattle.std.specs.List.{Contains}
use Rattle.std.proofs.Math.Nat.{mul-le-mul_left, mul-suc}
use Rattle.std.proofs.lemmas.Bool.{cases_eq}
use Rattle.dg_model.specs.Moves.{sum_upto}
use Rattle.dg_model.specs.Tables.{IsTable, Table, count_on, sites_in}
use Rattle.dg_model.specs.declared.shapes.Shape.{Shape}
use Rattle.dg_model.specs.declared.sites.Site.{Site}
use Rattle.dg_model.proofs.SiteLists.{apart_test, count_on-cons, one_if, same_test, zero_if}
use Rattle.dg_model.proofs.SumLaws.{count_pos, sum_both, sum_le_most, sum_same}
use Rattle.dg_move.specs.Stores.{copy_calls}

-- a list has no more sites than it has on all boundaries
few_sites : (n : ℕ) (sites : List Site) → ((x : Site) → Contains sites x → x.boundary < n) → length sites ≤ sum_upto n (λ s. count_on s sites)
few_sites n [] within = omega arith
few_sites n (x ∷ xs) within =
    omega (
      arith,
      sum_same (λ s. count_on s (x ∷ xs)) (λ s. cond (x.boundary == s) 1 0 + count_on s xs) n (λ s low. count_on-cons s x xs),
      sum_both (λ s. cond (x.boundary == s) 1 0) (λ s. count_on s xs) n,
      count_pos n x.boundary (λ s. x.boundary == s) (within x (0, omega arith, refl)) (same_test x.boundary x.boundary refl),
      few_sites n xs (λ y there. within y (suc there.0, (let a = there.1 in omega arith), there.2)),
    )

-- a block that isn't on a boundary has a site on each other one at most
pub sites_left : (table : Table) (b s : ℕ) → IsTable table → s < table.shape.b → count_on s (sites_in table b) ≡ 0 → length (sites_in table b) + 1 ≤ table.shape.b
sites_left table b s ok below none =
    let sites = sites_in table b in
    let n = table.shape.b in
    omega (
      arith,
      few_sites n sites (λ x there. ok.boundaries b x.boundary x.slot there),
      sum_both (λ t. count_on t sites) (λ t. cond (s == t) 1 0) n,
      count_pos n s (λ t. s == t) below (same_test s s refl),
      sum_le_most (λ t. count_on t sites + cond (s == t) 1 0) n 1 (λ t low. elim (cases_eq s t) [
        | inl at ↦ omega (arith, one_if (s == t) (same_test s t at), ap (λ (k : ℕ). count_on k sites) at, none)
        | inr apart ↦ omega (arith, zero_if (s == t) (apart_test s t apart), ok.one_site b t)
      ]),
    )

-- one copy makes no more calls than a read of all these sites, and a write
pub one_copy : (table : Table) (b s : ℕ) → IsTable table → s < table.shape.b → count_on s (sites_in table b) ≡ 0
    → 2 * length (sites_in table b) + 2 ≤ copy_calls table 1
one_copy table b s ok below none = omega (arith, sites_left table b s ok below none)

pub copies_more : (table : Table) (k n : ℕ) → n ≡ k + 1 → copy_calls table n ≡ copy_calls table k + copy_calls table 1
copies_more table k n one =
    let e : n ≡ suc k = omega (arith, one) in
    let last : copy_calls table (suc k) ≡ copy_calls table k + 2 * table.shape.b = mul-suc (2 * table.shape.b) k in
    omega (arith, ap (λ (m : ℕ). copy_calls table m) e, last)

pub copies_less : (table : Table) (k n : ℕ) → k ≤ n → copy_calls table k ≤ copy_calls table n
copies_less table k n less = mul-le-mul_left (2 * table.shape.b) less

pub copies_same : (old new : Table) (k : ℕ) → new.shape ≡ old.shape → copy_calls new k ≡ copy_calls old k
copies_same old new k shape = ap (λ (s : Shape). 2 * s.b * k) shape
