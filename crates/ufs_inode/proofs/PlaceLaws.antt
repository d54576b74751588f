-- Inodes are inside their group's inode blocks, and inside one fragment each.
use Rattle.std.proofs.Common.{◌≡◌, ℕ, ◌+◌, ◌*◌, ◌/◌, ◌%◌, ◌<◌, ◌≤◌, true, arith}
use Rattle.std.proofs.lemmas.Bool.Decides.{nat_tests}
use Rattle.std.proofs.Math.Nat.{div-lt_iff_lt-mul}
use Rattle.ufs_model.specs.Geometries.{IsGeometry, is_block_size, is_fragment_count}
use Rattle.ufs_model.specs.declared.geometries.Geometry.{Geometry}

-- ---- a fragment has whole inodes

kibibytes : (bsize : ℕ) → is_block_size bsize ≡ true → bsize ≡ 1024 * (bsize / 1024)
unfolding is_block_size
kibibytes bsize h = grind (arith, nat_tests)

share : (frag fsize k : ℕ) → is_fragment_count frag ≡ true → 1024 * k ≡ frag * fsize → fsize ≡ 128 * (fsize / 128)
unfolding is_fragment_count
share frag fsize k h e = grind (arith, nat_tests)

pub whole_inodes : (g : Geometry) → IsGeometry g → g.fsize ≡ 128 * (g.fsize / 128)
whole_inodes g is =
    let k = kibibytes g.bsize (is.bsize.0) in
    let e : 1024 * (g.bsize / 1024) ≡ g.frag * g.fsize = let product = is.frag.3 in omega arith in
    share g.frag g.fsize (g.bsize / 1024) (is.frag.0) e

scaled : (f m q : ℕ) → f ≡ 128 * m → f * q ≡ 128 * (m * q)
scaled f m q e = rw e (omega arith)

whole_left : (m k f : ℕ) → f ≡ 128 * m → 0 < f → (128 * k) % f + 128 ≤ f
whole_left m k f e some =
    let split : f * (128 * k / f) + (128 * k) % f ≡ 128 * k = omega arith in
    let product = scaled f m (128 * k / f) e in
    let low : (128 * k) % f < f = omega arith in
    omega arith

-- ---- the fragments with the inodes of a group

row_below : (r p n : ℕ) → 0 < n → r < p → p % n ≡ 0 → r / n < p / n
row_below r p n some low e =
    let h : r < p / n * n = omega arith in (div-lt_iff_lt-mul some).1 h

times_next : (f a b : ℕ) → a < b → f * a + f ≤ b * f
times_next f a b low = grind arith

column_below : (o f n : ℕ) → 0 < f → o < n * f → o / f < n
column_below o f n some low = (div-lt_iff_lt-mul some).1 low

-- The inode that is number r of its group: its file block is inside the group's inode blocks, and
-- it is inside that file block.
pub record IsPlaced (g : Geometry) (r : ℕ) : Type 0 where
  pub some : (0 < g.ipg) × (0 < g.inopb) × (0 < g.fsize)
  pub area : g.iblkno + g.frag * (r / g.inopb) + g.frag ≤ g.dblkno
  pub offset : 128 * (r % g.inopb) < 65536
  pub fragment : 128 * (r % g.inopb) / g.fsize < g.frag
  pub whole : (128 * (r % g.inopb)) % g.fsize + 128 ≤ g.fsize

pub placed : (g : Geometry) (r : ℕ) → IsGeometry g → r < g.ipg → IsPlaced g r
placed g r is low =
    let size = is.fsize in
    let block = is.bsize in
    let inodes = is.inopb in
    let parts = is.inodes in
    let some : 0 < g.inopb = omega arith in
    let row = row_below r g.ipg g.inopb some low (parts.1) in
    let area = times_next g.frag (r / g.inopb) (g.ipg / g.inopb) row in
    let end = is.dblkno in
    let column : 128 * (r % g.inopb) < g.bsize = omega arith in
    let inside : 128 * (r % g.inopb) < g.frag * g.fsize = let product = is.frag.3 in omega arith in
    let many = whole_inodes g is in
    record {
      some = (omega arith, some, omega arith);
      area = omega arith;
      offset = omega arith;
      fragment = column_below (128 * (r % g.inopb)) g.fsize g.frag (omega arith) inside;
      whole = whole_left (g.fsize / 128) (r % g.inopb) g.fsize many (omega arith);
    }
