-- The inodes of a group stand in its fragments one after another, so many in each.
use Rattle.std.proofs.Common.{◌≡◌, ◌∙◌, ℕ, ◌+◌, ◌-◌, ◌*◌, ◌/◌, ◌%◌, ◌^◌, ◌<◌, ◌≤◌, ap, sym, subst, arith}
use Rattle.std.proofs.lemmas.Nat.{div-add-mod', div-mul-add, mod-mul-add}
use Rattle.std.proofs.Math.Nat.{div-lt_iff_lt-mul, lt_of_mul-lt-mul_right, mul-add-div_right, mul-div-mul_left, mul-le-mul_right}
use Rattle.ufs_model.specs.Geometries.{IsGeometry, cgbase, cgstart, end_of}
use Rattle.ufs_model.specs.Inodes.{inode_block}
use Rattle.ufs_model.specs.declared.geometries.Geometry.{Geometry}
use Rattle.ufs_inode.proofs.PlaceLaws.{placed, whole_inodes}

-- ---- a row of fragments

-- a file block has the inodes of its fragments
inodes_of_block : (frag fsize m inopb bsize : ℕ) → fsize ≡ 128 * m → bsize ≡ frag * fsize → inopb ≡ bsize / 128 → inopb ≡ frag * m
inodes_of_block frag fsize m inopb bsize size whole is =
    let product : frag * fsize ≡ 128 * (frag * m) = rw size (grind arith) in
    omega (arith, product, whole, is)

-- inode number r of a group stands in the fragment r / m after the first one, where a file block of inodes has frag * m of them
row : (frag fsize m inopb r : ℕ) → 0 < m → fsize ≡ 128 * m → inopb ≡ frag * m → frag * (r / inopb) + 128 * (r % inopb) / fsize ≡ r / m
row frag fsize m inopb r some size many =
    let part : 128 * (r % inopb) / fsize ≡ r % inopb / m = rw size (mul-div-mul_left {m = 128} (r % inopb) m (omega arith)) in
    let turned : frag * (r / inopb) * m ≡ r / inopb * inopb = rw many (grind arith) in
    let split : frag * (r / inopb) * m + r % inopb ≡ r = ap (λ x. x + r % inopb) turned ∙ div-add-mod' r inopb in
    ap (λ x. frag * (r / inopb) + x) part ∙ sym (mul-add-div_right some (frag * (r / inopb)) (r % inopb)) ∙ ap (λ x. x / m) split

some_inodes : (g : Geometry) → IsGeometry g → 0 < g.fsize / 128
some_inodes g is = let size = is.fsize in omega arith

-- the block of inode number r of a group, counted from the first one with inodes
column_is : (g : Geometry) (r : ℕ) → IsGeometry g → g.frag * (r / g.inopb) + 128 * (r % g.inopb) / g.fsize ≡ r / (g.fsize / 128)
column_is g r is =
    let size = whole_inodes g is in
    let many = inodes_of_block g.frag g.fsize (g.fsize / 128) g.inopb g.bsize size (is.frag.3) is.inopb in
    row g.frag g.fsize (g.fsize / 128) g.inopb r (some_inodes g is) size many

block_is : (g : Geometry) (inode : ℕ) → IsGeometry g → inode_block g inode ≡ cgstart g (inode / g.ipg) + g.iblkno + inode % g.ipg / (g.fsize / 128)
unfolding inode_block
block_is g inode is = let sum = column_is g (inode % g.ipg) is in omega arith

below_last : (g : Geometry) (r : ℕ) → IsGeometry g → r < g.ipg → g.iblkno + r / (g.fsize / 128) < g.dblkno
below_last g r is low =
    let p = placed g r is low in
    let area = p.area in
    let part = p.fragment in
    let sum = column_is g r is in
    omega arith

-- ---- the group of a block

-- a number that is from p * c to before the next multiple
quotient : (p c b : ℕ) → p * c ≤ b → b < p * c + p → b / p ≡ c
quotient p c b low high =
    let sum : c * p + (b - p * c) ≡ b = grind arith in
    let rest : b - p * c < p = omega arith in
    subst (λ (n : ℕ). n / p ≡ c) sum (div-mul-add c p (b - p * c) rest)

in_group : (g : Geometry) (c b : ℕ) → IsGeometry g → c < g.ncg → cgstart g c ≤ b → b < cgstart g c + g.dblkno → (b / g.fpg ≡ c) × (b < g.size)
unfolding cgstart cgbase end_of
in_group g c b is small from to =
    let ends = is.ends c small in
    (quotient g.fpg c b (omega arith) (omega arith), omega arith)

-- Where an inode stands: its group, its number there, and its block.
pub record StandsAt (g : Geometry) (inode block : ℕ) : Type 0 where
  pub group : inode / g.ipg < g.ncg
  pub number : inode % g.ipg < g.ipg
  pub block_is : block ≡ cgstart g (inode / g.ipg) + g.iblkno + inode % g.ipg / (g.fsize / 128)
  pub of_group : block / g.fpg ≡ inode / g.ipg
  pub inside : block < g.size

pub stands_at : (g : Geometry) (inode : ℕ) → IsGeometry g → inode < g.ncg * g.ipg → StandsAt g inode (inode_block g inode)
stands_at g inode is low =
    let some : 0 < g.ipg = let parts = is.inodes in omega arith in
    let group : inode / g.ipg < g.ncg = (div-lt_iff_lt-mul some).1 low in
    let number : inode % g.ipg < g.ipg = omega arith in
    let block = block_is g inode is in
    let last = below_last g (inode % g.ipg) is number in
    let own = in_group g (inode / g.ipg) (inode_block g inode) is group (omega arith) (omega (arith, block, last)) in
    record { group = group; number = number; block_is = block; of_group = own.0; inside = own.1 }

-- ---- both ways

-- numbers that have a quotient
between : (r m d : ℕ) → 0 < m → r / m ≡ d → (d * m ≤ r) × (r < d * m + m)
between r m d some is =
    let split : d * m + r % m ≡ r = ap (λ x. x * m + r % m) (sym is) ∙ div-add-mod' r m in
    let low : r % m < m = omega arith in
    (omega arith, omega arith)

-- What is computed from a block: its group c and the start s of that, how many fragments d it is after the first one with
-- inodes, and the inodes of each.
pub record IsSpot (g : Geometry) (block c s d each : ℕ) : Type 0 where
  pub group : c ≡ block / g.fpg
  pub start : s ≡ cgstart g c
  pub after : d ≡ block - (s + g.iblkno)
  pub inodes : each ≡ g.fsize / 128

-- An inode that stands in the block is one of these.
pub record IsNear (g : Geometry) (inode block c s d each : ℕ) : Type 0 where
  pub inside : block < g.size
  pub after : s + g.iblkno ≤ block
  pub below : d * each < g.ipg
  pub low : c * g.ipg + d * each ≤ inode
  pub high : inode < c * g.ipg + d * each + each

pub near : (g : Geometry) (inode block c s d each : ℕ) → IsGeometry g → inode < g.ncg * g.ipg → inode_block g inode ≡ block → IsSpot g block c s d each
    → IsNear g inode block c s d each
near g inode block c s d each is low here spot =
    let at = subst (λ (b : ℕ). StandsAt g inode b) here (stands_at g inode is low) in
    let own : c ≡ inode / g.ipg = spot.group ∙ at.of_group in
    let first : s ≡ cgstart g (inode / g.ipg) = spot.start ∙ ap (cgstart g) own in
    let number : inode % g.ipg / each ≡ d =
    let place = at.block_is in
    let apart = spot.after in
    let same : inode % g.ipg / each ≡ inode % g.ipg / (g.fsize / 128) = ap (λ x. inode % g.ipg / x) spot.inodes in
    omega arith in
    let some : 0 < each = let parts = some_inodes g is in let inodes = spot.inodes in omega arith in
    let part = between (inode % g.ipg) each d some number in
    let split : c * g.ipg + inode % g.ipg ≡ inode = ap (λ x. x * g.ipg + inode % g.ipg) own ∙ div-add-mod' inode g.ipg in
    let less = at.number in
    let place = at.block_is in
    record {
      inside = at.inside;
      after = omega arith;
      below = omega arith;
      low = omega arith;
      high = omega arith;
    }

less_of : (d k each : ℕ) → d * each < k * each → d < k
less_of d k each low = lt_of_mul-lt-mul_right each low

-- so many inodes fill fragments
filled : (d each ipg k : ℕ) → 0 < each → ipg ≡ k * each → d * each < ipg → d * each + each ≤ ipg
filled d each ipg k some whole low =
    let fewer : d < k = less_of d k each (rw whole at low) in
    let next : d + 1 ≤ k = omega arith in
    let most = mul-le-mul_right {m = d + 1} {n = k} each next in
    let sum : (d + 1) * each ≡ d * each + each = grind arith in
    omega arith

-- the inodes of a group fill fragments
filled_group : (g : Geometry) (d each : ℕ) → IsGeometry g → each ≡ g.fsize / 128 → d * each < g.ipg → d * each + each ≤ g.ipg
filled_group g d each is inodes low =
    let some : 0 < each = let parts = some_inodes g is in omega arith in
    let many = inodes_of_block g.frag g.fsize (g.fsize / 128) g.inopb g.bsize (whole_inodes g is) (is.frag.3) is.inopb in
    let rest : g.ipg % g.inopb ≡ 0 = is.inodes.1 in
    let whole : g.ipg / g.inopb * g.inopb ≡ g.ipg = let split = div-add-mod' g.ipg g.inopb in omega arith in
    let same : g.inopb ≡ g.frag * each = many ∙ ap (λ x. g.frag * x) (sym inodes) in
    let product : g.ipg ≡ g.ipg / g.inopb * g.frag * each = let turned : g.ipg / g.inopb * g.inopb ≡ g.ipg / g.inopb * g.frag * each = rw same (grind arith) in sym whole ∙ turned in
    filled d each g.ipg (g.ipg / g.inopb * g.frag) some product low

-- Each of these stands in the block.
pub back : (g : Geometry) (inode block c s d each : ℕ) → IsGeometry g → IsSpot g block c s d each → c < g.ncg → s + g.iblkno ≤ block → d * each < g.ipg
    → c * g.ipg + d * each ≤ inode → inode < c * g.ipg + d * each + each → inode_block g inode ≡ block
back g inode block c s d each is spot group after below low high =
    let r = inode - c * g.ipg in
    let some : 0 < each = let parts = some_inodes g is in let inodes = spot.inodes in omega arith in
    let full = filled_group g d each is spot.inodes below in
    let small : r < g.ipg = omega arith in
    let sum : c * g.ipg + r ≡ inode = omega arith in
    let of_group : inode / g.ipg ≡ c = subst (λ (n : ℕ). n / g.ipg ≡ c) sum (div-mul-add c g.ipg r small) in
    let number : inode % g.ipg ≡ r = subst (λ (n : ℕ). n % g.ipg ≡ r) sum (mod-mul-add c g.ipg r small) in
    let apart : d * each + (r - d * each) ≡ r = omega arith in
    let column : r / each ≡ d = subst (λ (n : ℕ). n / each ≡ d) apart (div-mul-add d each (r - d * each) (omega arith)) in
    let fragment : inode % g.ipg / (g.fsize / 128) ≡ d = ap (λ x. x / (g.fsize / 128)) number ∙ ap (λ x. r / x) (sym spot.inodes) ∙ column in
    let start : cgstart g (inode / g.ipg) ≡ s = ap (cgstart g) of_group ∙ sym spot.start in
    let place = block_is g inode is in
    let gap = spot.after in
    omega arith

-- the groups' inodes are numbered one group after another
next_group : (c n p : ℕ) → c < n → c * p + p ≤ n * p
next_group c n p low = grind arith

pub last_fits : (g : Geometry) (c d each : ℕ) → IsGeometry g → c < g.ncg → each ≡ g.fsize / 128 → d * each < g.ipg
    → (c * g.ipg + d * each + each ≤ g.ncg * g.ipg) × (g.ncg * g.ipg < 2 ^ 32)
last_fits g c d each is low inodes below =
    let most = next_group c g.ncg g.ipg low in
    let full = filled_group g d each is inodes below in
    let parts = is.inodes in
    (omega arith, parts.2)
