-- The numbers of pointers behind indirect blocks.
use Rattle.std.proofs.Common.{◌≡◌, ◌∙◌, ℕ, ◌-◌, ◌*◌, ◌/◌, ◌^◌, ◌<◌, ◌≤◌, nat_le, nat_lt, Bool, true, false, if◌then◌else◌, arith, ap, refl, sym}
use Rattle.std.proofs.lemmas.Bool.Decides.{nat_tests}
use native.Mathlib.Numerals.{unary_clauses}
use Rattle.std.proofs.Math.Nat.{mul-le-mul, pow-suc, one-mul, div-lt_iff_lt-mul}
use Rattle.ufs_model.specs.Geometries.{IsGeometry}
use Rattle.ufs_model.specs.Inodes.{block_span, span}
use Rattle.ufs_model.specs.Pointers.{indirect_of, locate_of}
use Rattle.ufs_model.specs.declared.geometries.Geometry.{Geometry}
use Rattle.ufs_model.specs.declared.inodes.Inode.{Inode}
use Rattle.ufs_model.specs.declared.pointers.Chain.{Chain}
use Rattle.ufs_model.specs.declared.pointers.Chain.TheVariants.{Direct, One, Two, Three}
use Rattle.ufs_pointer.specs.Chains.{chain_span}

-- an indirect block has 1024 to 16384 pointers
pub pointers : (g : Geometry) → IsGeometry g → (1024 ≤ g.nindir) × (g.nindir ≤ 16384)
pointers g is = let h = is.nindir in let low = is.bsize.1 in let high = is.bsize.2 in (omega arith, omega arith)

pub two_powers : (n : ℕ) → n ^ 2 ≡ n * n
two_powers n =
    let none : n ^ 0 ≡ 1 = simp unary_clauses in
    let one : n ^ 1 ≡ n = pow-suc n 0 ∙ ap (λ k. k * n) none ∙ one-mul n in
    pow-suc n 1 ∙ ap (λ k. k * n) one

pub square : (g : Geometry) → IsGeometry g → (g.nindir ^ 2 ≡ g.nindir * g.nindir) × (2 ^ 20 ≤ g.nindir * g.nindir) × (g.nindir * g.nindir ≤ 2 ^ 28)
square g is = let h = pointers g is in
    (two_powers g.nindir, mul-le-mul {n₁ = 1024} {m₁ = 1024} (h.0) (h.0), mul-le-mul {n₂ = 16384} {m₂ = 16384} (h.1) (h.1))

-- the quotient by an indirect block's pointers is below them
pub quotient_below : (n m : ℕ) → 1024 ≤ n → m < n ^ 2 → m / n < n
quotient_below n m low small = (div-lt_iff_lt-mul {k = n} {x = m} {y = n} (omega arith)).1 (rw (← two_powers n) small)

-- ---- the fragments of a file block

whole_span : (g : Geometry) (inode : Inode) (n : ℕ) → nat_lt n 12 ≡ false → span g inode n ≡ g.frag
unfolding span
whole_span g inode n h = let past : nat_le 12 n ≡ true = grind (arith, nat_tests) in rw past refl

far_span : (g : Geometry) (inode : Inode) (one two : Bool) (a b c d e f : ℕ)
    → chain_span g inode (if one then One a else if two then Two b c else Three d e f) ≡ g.frag
far_span g inode true two a b c d e f = refl
far_span g inode false true a b c d e f = refl
far_span g inode false false a b c d e f = refl

near_or_far : (g : Geometry) (inode : Inode) (n : ℕ) (direct : Bool) (far : Chain) → nat_lt n 12 ≡ direct → chain_span g inode far ≡ g.frag
    → chain_span g inode (if direct then Direct n else far) ≡ block_span g inode n
near_or_far g inode n true far e whole = refl
near_or_far g inode n false far e whole = whole ∙ sym (whole_span g inode n e)

-- a chain leads to the fragments of its block
pub block_chain : (g : Geometry) (inode : Inode) (n : ℕ) → chain_span g inode (locate_of g n) ≡ block_span g inode n
unfolding locate_of
block_chain g inode n =
    near_or_far g inode n _ (indirect_of g.nindir (n - 12)) refl (far_span g inode _ _ _ _ _ _ _ _)
