-- Fragments that are all data are inside the volume.
use Rattle.std.proofs.Common.{◌≡◌, ℕ, zero, suc, ◌+◌, ◌/◌, ◌<◌, ◌≤◌, true, false, Bool, arith, refl}
use Rattle.std.specs.Prelude.{if◌then◌else◌, ◌==◌}
use Rattle.std.proofs.lemmas.Bool.Decides.{nat_tests}
use Rattle.std.proofs.lemmas.Bool.{and_parts}
use Rattle.ufs_model.specs.Numbers.{all_below}
use Rattle.ufs_model.specs.Pointers.{address, is_data_run}
use Rattle.ufs_model.specs.Roles.{is_data_of, role}
use Rattle.ufs_model.specs.declared.geometries.Geometry.{Geometry}
use Rattle.ufs_model.specs.declared.pointers.Address.{Address}
use Rattle.ufs_model.specs.declared.pointers.Address.TheVariants.{Hole, Wild, At}

data_inside : (g : Geometry) (c b : ℕ) → is_data_of c (role g b) ≡ true → b < g.size
unfolding role
data_inside g c b h = grind (arith, nat_tests)

run_inside : (g : Geometry) (a k : ℕ) → 1 ≤ k → is_data_run g a k ≡ true → a + k ≤ g.size
unfolding is_data_run
run_inside g a zero some h = absurd (omega arith)
run_inside g a (suc k) some h =
    let last = data_inside g (a / g.fpg) (a + k) ((and_parts (all_below (λ i. is_data_of (a / g.fpg) (role g (a + i))) k) (is_data_of (a / g.fpg) (role g (a + k))) h).1) in
    omega arith

address_cases : (P : Address → Type 0) (zero_pointer run : Bool) (a k : ℕ) → P Hole → P Wild → (run ≡ true → P (At a k))
    → P (if zero_pointer then Hole else if run then At a k else Wild)
address_cases P true run a k hole wild at = hole
address_cases P false true a k hole wild at = at refl
address_cases P false false a k hole wild at = wild

-- the fragments are so many, inside the volume
abbrev pub AreInside : ℕ → ℕ → Address → Type 0
AreInside size k Hole = Unit {0}
AreInside size k Wild = Unit {0}
AreInside size k (At a n) = (n ≡ k) × (a + n ≤ size)

pub address_inside : (g : Geometry) (a k : ℕ) → 1 ≤ k → AreInside g.size k (address g a k)
unfolding address
address_inside g a k some = address_cases (AreInside g.size k) (a == 0) (is_data_run g a k) a k tt tt (λ run. (refl, run_inside g a k some run))
