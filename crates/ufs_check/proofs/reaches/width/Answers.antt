use Rattle.std.proofs.Common.{◌≡◌, ◌∙◌, ℕ, ◌*◌, ◌^◌, ◌≤◌, ap, arith, sym}
use native.Mathlib.Numerals.{unary_clauses}
use Rattle.std.proofs.Math.Nat.{mul-le-mul, one-mul, pow-suc}
use Rattle.ufs_model.specs.Geometries.{IsGeometry}
use Rattle.ufs_model.specs.declared.geometries.Geometry.{Geometry}
use Rattle.ufs_check.proofs.reaches.width.Goals as goal

one_power : (n : ℕ) → n ^ 1 ≡ n
one_power n = let none : n ^ 0 ≡ 1 = simp unary_clauses in pow-suc n 0 ∙ ap (λ k. k * n) none ∙ one-mul n

pointers : (g : Geometry) → IsGeometry g → g.nindir ≤ 16384
pointers g is = let h = is.nindir in let high = is.bsize.2 in omega arith

pub returns-in-2-clause-value : goal.returns-in-2-clause-value
returns-in-2-clause-value c = rw (c.in-2.is, c.from-pointers.ensures) (sym (one_power c.args.g.now.nindir))

pub returns-in_default-clause-most : goal.returns-in_default-clause-most
returns-in_default-clause-most c =
    let most : c.from-pointers.result ≤ 16384 = rw c.from-pointers.ensures (pointers c.args.g.now c.requires.geometry) in
    mul-le-mul {n₂ = 16384} {m₂ = 16384} most most
