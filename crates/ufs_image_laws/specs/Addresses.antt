-- Where the blocks of a file that was built stand.
use Rattle.std.specs.Prelude.{ℕ, ◌==◌, if◌then◌else◌}
use Rattle.ufs_model.specs.declared.geometries.Geometry.{Geometry}
use Rattle.ufs_model.specs.declared.pointers.Address.{Address}
use Rattle.ufs_model.specs.declared.pointers.Address.TheVariants.{At, Hole}
use Rattle.ufs_build.specs.Placements.{Addresses, address_at, fragments_of}

-- file block n of a file of so many bytes: a hole where it has no address
abbrev pub place_of : Geometry → ℕ → Addresses → ℕ → Address
place_of g size addresses n = if address_at addresses 0 n == 0 then Hole else At (address_at addresses 0 n) (fragments_of g size n)
