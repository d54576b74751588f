-- What is answered for a file block.
use Rattle.std.specs.Prelude.{◌≡◌, ◌+◌, ◌≤◌, ℕ, Option, Some, None}
use Rattle.ufs_model.specs.declared.geometries.Geometry.{Geometry}
use Rattle.ufs_model.specs.declared.pointers.Address.{Address}
use Rattle.ufs_model.specs.declared.pointers.Address.TheVariants.{Hole, Wild, At}
use Rattle.ufs_pointer.specs.declared.answers.BlockAnswer.{BlockAnswer}
use Rattle.ufs_pointer.specs.declared.answers.BlockAnswer.TheVariants.{Hole as HoleAnswer, Wild as WildAnswer, At as AtAnswer, Gone}

-- the address that is answered: none where a block of the chain is gone
abbrev pub address_in : BlockAnswer → Option Address
address_in HoleAnswer = Some Hole
address_in WildAnswer = Some Wild
address_in (AtAnswer a k) = Some (At a k)
address_in Gone = None

-- the fragments are inside the volume, from one to those of a file block
abbrev pub IsInside : Geometry → Address → Type 0
IsInside g Hole = Unit {0}
IsInside g Wild = Unit {0}
IsInside g (At a k) = (1 ≤ k) × (k ≤ g.frag) × (a + k ≤ g.size)

-- the same of a whole file block
abbrev pub IsWhole : Geometry → Address → Type 0
IsWhole g Hole = Unit {0}
IsWhole g Wild = Unit {0}
IsWhole g (At a k) = (k ≡ g.frag) × (a + k ≤ g.size)

-- the fragments are so many
abbrev pub HasSpan : ℕ → Address → Type 0
HasSpan count Hole = Unit {0}
HasSpan count Wild = Unit {0}
HasSpan count (At a k) = k ≡ count
