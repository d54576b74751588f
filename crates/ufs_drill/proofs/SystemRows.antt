-- How many blocks of each group of a drill's volume are blocks of the file system itself.
use Rattle.std.proofs.Common.{◌≡◌, ◌+◌, ◌*◌, ℕ, zero, suc, Bool, true, cond, refl}
use Rattle.std.specs.Prelude.{nat_le}
use Rattle.ufs_build.specs.Volumes.{geometry_of_spec}
use Rattle.ufs_drill.specs.Volumes.{drill_spec}
use Rattle.ufs_model.specs.Geometries.{cgbase, cgstart}
use Rattle.ufs_model.specs.Numbers.{all_below}
use Rattle.ufs_model.specs.Roles.{is_system, role, role_in}

-- of so many numbers from one on, how many pass a test
abbrev pub count_from : (ℕ → Bool) → ℕ → ℕ → ℕ
count_from test from zero = 0
count_from test from (suc n) = cond (test from) 1 0 + count_from test (suc from) n

abbrev pub is_own : ℕ → Bool
is_own b = is_system (role (geometry_of_spec drill_spec) b)

pub own_counts : all_below (λ c. nat_le (count_from is_own (2048 * c) 2048) 80) 16 ≡ true
unfolding geometry_of_spec role role_in cgstart cgbase
own_counts = refl
