-- Blocks that are placed one after the other.
use Rattle.std.proofs.Common.{◌≡◌, ℕ, zero, suc, ◌+◌, ◌*◌, ◌/◌, ◌%◌, ◌<◌, ◌≤◌, Bool, true, false, Some, None, length, refl, arith, inl, inr}
use Rattle.std.specs.Int.{div_ceil}
use Rattle.std.proofs.Math.Nat.{mul-le-mul_left}
use Rattle.std.proofs.lemmas.Bool.{cases_eq}
use Rattle.ufs_model.specs.Geometries.{IsGeometry}
use Rattle.ufs_model.specs.declared.geometries.Geometry.{Geometry}
use Rattle.std.specs.Prelude.{if◌then◌else◌, ◌-◌}
use Rattle.ufs_build.specs.Nodes.{Node}
use Rattle.ufs_build.specs.Placements.{Placed, blocks_of, with_block_or_hole, with_blocks_below}

-- ---- where a file block begins

pub ceil_start : (a b n : ℕ) → 0 < b → n < div_ceil a b → n * b < a
ceil_start a b n some low = elim (cases_eq (a % b) 0) as (λ _. n * b < a) [
  | inl even ↦
      (let before : suc n ≤ a / b = omega arith in
      let whole : b * suc n ≤ b * (a / b) = mul-le-mul_left b before in
      let parts : b * (a / b) + a % b ≡ a = omega arith in
      let first : 0 < a = omega arith in
      omega arith)
  | inr rest ↦
      (let before : n ≤ a / b = omega arith in
      let whole : b * n ≤ b * (a / b) = mul-le-mul_left b before in
      let parts : b * (a / b) + a % b ≡ a = omega arith in
      omega arith)
]

start_cases : (g : Geometry) (node : Node) (n : ℕ) (inside : Bool) → node.inside ≡ inside → 0 < g.bsize
    → n < (if inside then 0 else div_ceil (length node.bytes) g.bsize) → n * g.bsize < length node.bytes
start_cases g node n true e some low = absurd (omega arith)
start_cases g node n false e some low = ceil_start (length node.bytes) g.bsize n some low

pub block_start : (g : Geometry) (node : Node) (n : ℕ) → IsGeometry g → n < blocks_of g node → n * g.bsize < length node.bytes
unfolding blocks_of
block_start g node n is low = start_cases g node n (node.inside) refl (let h = is.bsize in omega arith) low

-- ---- where there is no room

none_then : (g : Geometry) (node : Node) (n more : ℕ) (start : Placed) → with_blocks_below g node n start ≡ None
    → with_blocks_below g node (n + more) start ≡ None
none_then g node n zero start h = let e : n + 0 ≡ n = omega arith in rw e h
none_then g node n (suc more) start h =
    let e : n + suc more ≡ suc (n + more) = omega arith in
    rw (e, none_then g node n more start h) refl

pub no_room : (g : Geometry) (node : Node) (n m : ℕ) (start now : Placed) → with_blocks_below g node n start ≡ Some now
    → with_block_or_hole g node n now ≡ None → n < m → with_blocks_below g node m start ≡ None
no_room g node n m start now before none low =
    let stuck : with_blocks_below g node (suc n) start ≡ None = rw before none in
    let far : m ≡ suc n + (m - suc n) = omega arith in
    rw far (none_then g node (suc n) (m - suc n) start stuck)
