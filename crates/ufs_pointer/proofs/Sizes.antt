-- The file blocks of a file, and the bytes in them.
use Rattle.std.proofs.Common.{◌≡◌, ◌∙◌, ℕ, ◌+◌, ◌-◌, ◌*◌, ◌/◌, ◌%◌, ◌<◌, ◌≤◌, min, Bool, true, false, nat_le, nat_lt, if◌then◌else◌, refl, ap, arith}
use Rattle.std.specs.Int.{div_ceil}
use Rattle.std.proofs.lemmas.Bool.Decides.{nat_tests}
use Rattle.std.proofs.lemmas.Grind.{div_ceil_times}
use Rattle.std.proofs.lemmas.Nat.{div-mul-add}
use Rattle.std.proofs.Math.Nat.{mod-eq-sub-div-mul}
use Rattle.ufs_model.specs.Geometries.{IsGeometry}
use Rattle.ufs_model.specs.Inodes.{block_span, span}
use Rattle.ufs_model.specs.Paths.{bytes_in_block}
use Rattle.ufs_model.specs.declared.geometries.Geometry.{Geometry}
use Rattle.ufs_model.specs.declared.inodes.Inode.{Inode}

last_bytes : (s b n : ℕ) → n * b < s → s < (n + 1) * b → s % b ≡ s - n * b
last_bytes s b n low high =
    let e : n * b + (s - n * b) ≡ s = omega arith in
    let q : s / b ≡ n = ap (λ x. x / b) (let back : s ≡ n * b + (s - n * b) = omega arith in back) ∙ div-mul-add n b (s - n * b) (omega arith) in
    mod-eq-sub-div-mul s b ∙ ap (λ x. s - x * b) q

covers_by : (frag f b s n : ℕ) → b ≡ frag * f → 0 < f → (whole some : Bool) → nat_le ((n + 1) * b) s ≡ whole → nat_lt (n * b) s ≡ some
    → min b (s - n * b) ≤ (if whole then frag else if some then div_ceil (s % b) f else frag) * f
covers_by frag f b s n e pos true some h1 h2 = omega arith
covers_by frag f b s n e pos false true h1 h2 =
    let low : n * b < s = grind (arith, nat_tests) in
    let high : s < (n + 1) * b = grind (arith, nat_tests) in
    let rest = last_bytes s b n low high in
    let bound = (div_ceil_times (s % b) f pos).0 in
    omega arith
covers_by frag f b s n e pos false false h1 h2 =
    let none : s ≤ n * b = grind (arith, nat_tests) in
    let zeros : s - n * b ≡ 0 = omega arith in
    omega arith

covers_direct : (g : Geometry) (inode : Inode) (n : ℕ) → IsGeometry g → nat_le 12 n ≡ false → bytes_in_block g inode n ≤ block_span g inode n * g.fsize
unfolding span
covers_direct g inode n is direct =
    let size = is.fsize in
    rw direct (covers_by g.frag g.fsize g.bsize inode.size n (is.frag.3) (omega arith) _ _ refl refl)

covers_whole : (g : Geometry) (inode : Inode) (n : ℕ) → IsGeometry g → nat_le 12 n ≡ true → bytes_in_block g inode n ≤ block_span g inode n * g.fsize
unfolding span
covers_whole g inode n is indirect = rw indirect (let e = is.frag.3 in omega arith)

covers_either : (g : Geometry) (inode : Inode) (n : ℕ) (indirect : Bool) → IsGeometry g → nat_le 12 n ≡ indirect → bytes_in_block g inode n ≤ block_span g inode n * g.fsize
covers_either g inode n true is e = covers_whole g inode n is e
covers_either g inode n false is e = covers_direct g inode n is e

-- the fragments of a file block have the bytes of the file that stand in it
pub covers : (g : Geometry) (inode : Inode) (n : ℕ) → IsGeometry g → bytes_in_block g inode n ≤ block_span g inode n * g.fsize
covers g inode n is = covers_either g inode n _ is refl

-- a file block has at most so many bytes
pub block_fits : (g : Geometry) → IsGeometry g → (g.bsize ≤ g.frag * g.fsize) × (g.bsize ≤ 65536)
block_fits g is = (let e = is.frag.3 in omega arith, let size = is.bsize in omega arith)
