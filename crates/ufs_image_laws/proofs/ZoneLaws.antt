-- Which fragments the parts of the file system itself stand in.
use Rattle.std.proofs.Common.{◌≡◌, ◌∙◌, ℕ, ◌+◌, ◌-◌, ◌*◌, ◌/◌, ◌%◌, ◌<◌, ◌≤◌, Bool, true, false, refl, sym, ap, subst, arith}
use Rattle.std.specs.Prelude.{if◌then◌else◌, nat_le, nat_lt}
use Rattle.std.proofs.Math.Nat.{add-mul, div-add-mod', div-lt_iff_lt-mul, lt_of_mul-lt-mul_right, mul-le-mul_right}
use Rattle.std.proofs.lemmas.Nat.{div-mul-add, div_below, le-div, mod_below}
use Rattle.std.proofs.lemmas.Bool.Decides.{nat_tests}
use Rattle.ufs_model.specs.Geometries.{IsGeometry, cgbase, cgstart, end_of, is_block_size, is_fragment_count}
use Rattle.ufs_model.specs.Inodes.{inode_block, inode_byte, inode_offset}
use Rattle.ufs_model.specs.Roles.{has_super, role, role_in}
use Rattle.ufs_model.specs.declared.geometries.Geometry.{Geometry}
use Rattle.ufs_model.specs.declared.roles.Role.{Role}
use Rattle.ufs_model.specs.declared.roles.Role.TheVariants.{Outside, System}
use Rattle.ufs_model.specs.declared.roles.SystemKind.TheVariants.{Boot, Group, Inodes, Super}
use Rattle.ufs_model.proofs.RoleLaws.{own_blocks}
use Rattle.ufs_build.specs.Images.{inode_place}

-- ---- sizes

pub record Sizes (g : Geometry) : Type 0 where
  pub some : 0 < g.fsize
  pub unit : g.fsize ≡ 128 * (g.fsize / 128)
  pub inodes : g.bsize ≡ 128 * g.inopb
  pub pointers : g.bsize ≡ 4 * g.nindir
  pub bytes : g.bsize ≡ g.frag * g.fsize
  pub fragments : (1 ≤ g.frag) × (g.frag ≤ 8)
  pub least : 4096 ≤ g.bsize
  pub groups : 0 < g.fpg
  pub some_inodes : 0 < g.ipg
  pub inopb : 0 < g.inopb

block_unit : (n : ℕ) → is_block_size n ≡ true → n ≡ 1024 * (n / 1024)
unfolding is_block_size
block_unit n h = grind (arith, nat_tests)

fragment_unit : (frag fsize bsize : ℕ) → is_fragment_count frag ≡ true → bsize ≡ 1024 * (bsize / 1024) → bsize ≡ frag * fsize → fsize ≡ 128 * (fsize / 128)
unfolding is_fragment_count
fragment_unit frag fsize bsize h unit product = grind (arith, nat_tests)

pub sizes : (g : Geometry) → IsGeometry g → Sizes g
sizes g is =
    let block = is.bsize in
    let unit = block_unit g.bsize (block.0) in
    let low = block.1 in
    let frag = is.frag in
    let size = is.fsize in
    let least = size.0 in
    let nindir = is.nindir in
    let inopb = is.inopb in
    let groups = is.groups in
    let inodes = is.inodes in
    record {
      some = omega arith;
      unit = fragment_unit g.frag g.fsize g.bsize (frag.0) unit (frag.3);
      inodes = omega arith;
      pointers = omega arith;
      bytes = frag.3;
      fragments = (frag.1, frag.2);
      least = low;
      groups = groups.1;
      some_inodes = inodes.0;
      inopb = omega arith;
    }

-- the fragment of a byte
pub fragment_of_byte : (a k l p : ℕ) → 0 < l → a * l ≤ p → p < (a + k) * l → (a ≤ p / l) × (p / l < a + k)
fragment_of_byte a k l p some low high = (le-div a p l some low, div_below p l (a + k) some high)

-- ---- the superblock

super_role : (past super boot : Bool) (rest : Role) → past ≡ false → super ≡ true
    → (if past then Outside else if super then System Super else if boot then System Boot else rest) ≡ System Super
super_role past super boot rest low is = rw (low, is) refl

pub few_blocks : (b s l : ℕ) → b * l < 9568 → 9568 ≤ s * l → b < s
few_blocks b s l low high = lt_of_mul-lt-mul_right l (let h : b * l < s * l = omega arith in h)

pub super_inside : (g : Geometry) → IsGeometry g → g.sblkno ≤ g.size
unfolding cgstart cgbase end_of
super_inside g is =
    let ends = is.ends 0 (let groups = is.groups in omega arith) in
    let h1 = is.cblkno in let h2 = is.iblkno in let h3 = is.dblkno in
    omega arith

pub super_zone : (g : Geometry) (p : ℕ) → IsGeometry g → 8192 ≤ p → p < 9568 → role g (p / g.fsize) ≡ System Super
unfolding role
super_zone g p is low high =
    let size = sizes g is in
    let some = size.some in
    let split = div-add-mod' p g.fsize in
    let rest = mod_below p g.fsize some in
    let next : (p / g.fsize + 1) * g.fsize ≡ p / g.fsize * g.fsize + g.fsize = grind arith in
    let before = few_blocks (p / g.fsize) g.sblkno g.fsize (omega arith) is.sblkno in
    let inside = super_inside g is in
    let past : nat_le g.size (p / g.fsize) ≡ false = grind (arith, nat_tests) in
    let one : p / g.fsize * g.fsize < 9568 = omega arith in
    let other : 8192 < (p / g.fsize + 1) * g.fsize = omega arith in
    let super : has_super g.fsize (p / g.fsize) ≡ true = grind (arith, nat_tests) in
    super_role (nat_le g.size (p / g.fsize)) (has_super g.fsize (p / g.fsize)) (nat_lt (p / g.fsize) (cgstart g 0 + g.sblkno))
    (role_in g (p / g.fsize / g.fpg) (cgstart g (p / g.fsize / g.fpg)) (p / g.fsize)) past super

-- ---- groups

quotient : (p c b : ℕ) → p * c ≤ b → b < p * c + p → b / p ≡ c
quotient p c b low high =
    let sum : c * p + (b - p * c) ≡ b = grind (arith) in
    let rest : b - p * c < p = omega arith in
    subst (λ (n : ℕ). n / p ≡ c) sum (div-mul-add c p (b - p * c) rest)

-- a group's own blocks are inside it
pub record InGroup (g : Geometry) (c b : ℕ) : Type 0 where
  pub low : g.fpg * c ≤ b
  pub high : b < g.fpg * c + g.fpg
  pub inside : b < g.size

pub in_group : (g : Geometry) (c b : ℕ) → IsGeometry g → c < g.ncg → cgstart g c ≤ b → b < cgstart g c + g.dblkno → InGroup g c b
unfolding cgstart cgbase end_of
in_group g c b is small from to = let ends = is.ends c small in record { low = omega arith; high = omega arith; inside = omega arith }

pub group_of : (g : Geometry) (c b : ℕ) → IsGeometry g → c < g.ncg → cgstart g c ≤ b → b < cgstart g c + g.dblkno → b / g.fpg ≡ c
group_of g c b is small from to = let in_it = in_group g c b is small from to in quotient g.fpg c b in_it.low in_it.high

-- the places inside a group are in order
pub record Order (g : Geometry) : Type 0 where
  pub copy : g.sblkno ≤ g.cblkno
  pub group : g.cblkno ≤ g.iblkno
  pub inodes : g.iblkno ≤ g.dblkno

pub order : (g : Geometry) → IsGeometry g → Order g
order g is = record {
  copy = let h = is.cblkno in omega arith;
  group = let h = is.iblkno in omega arith;
  inodes = let h = is.dblkno in omega arith;
}

pub group_zone : (g : Geometry) (c p : ℕ) → IsGeometry g → g.iblkno ≡ g.cblkno + g.frag → c < g.ncg → (cgstart g c + g.cblkno) * g.fsize ≤ p
    → p < (cgstart g c + g.cblkno) * g.fsize + g.bsize → role g (p / g.fsize) ≡ System Group
group_zone g c p is whole small low high =
    let size = sizes g is in
    let sum : (cgstart g c + g.cblkno + g.frag) * g.fsize ≡ (cgstart g c + g.cblkno) * g.fsize + g.frag * g.fsize = add-mul (cgstart g c + g.cblkno) g.frag g.fsize in
    let bytes = size.bytes in
    let range = fragment_of_byte (cgstart g c + g.cblkno) g.frag g.fsize p size.some low (omega arith) in
    let own = own_blocks g c is small in
    own.group (p / g.fsize) (range.0) (let h = range.1 in omega arith)

-- ---- inodes

pub inode_group : (g : Geometry) (i : ℕ) → IsGeometry g → i < g.ncg * g.ipg → i / g.ipg < g.ncg
inode_group g i is low =
    let size = sizes g is in
    (div-lt_iff_lt-mul {k = g.ipg} {x = i} {y = g.ncg} size.some_inodes).1 (omega arith)

inode_room : (frag per ipg inopb fsize i : ℕ) → 0 < inopb → 0 < fsize → 128 * inopb ≤ frag * fsize → per ≡ ipg / inopb → ipg % inopb ≡ 0 → i < ipg
    → frag * (i / inopb) + 128 * (i % inopb) / fsize < per * frag
inode_room frag per ipg inopb fsize i some positive fits is whole low =
    let rest = mod_below i inopb some in
    let split = div-add-mod' ipg inopb in
    let bytes : 128 * (i % inopb) < frag * fsize = omega arith in
    let part : 128 * (i % inopb) / fsize < frag = (div-lt_iff_lt-mul {k = fsize} {x = 128 * (i % inopb)} {y = frag} positive).1 bytes in
    let below : i / inopb < per = rw is ((div-lt_iff_lt-mul {k = inopb} {x = i} {y = ipg / inopb} some).1 (let h : i < ipg / inopb * inopb = omega arith in h)) in
    let more : (i / inopb + 1) * frag ≤ per * frag = mul-le-mul_right frag (let h : i / inopb + 1 ≤ per = omega arith in h) in
    let next : (i / inopb + 1) * frag ≡ frag * (i / inopb) + frag = grind (arith) in
    omega arith

-- the block of an inode is one of its group's inodes
pub record InInodes (g : Geometry) (i : ℕ) : Type 0 where
  pub low : cgstart g (i / g.ipg) + g.iblkno ≤ inode_block g i
  pub high : inode_block g i < cgstart g (i / g.ipg) + g.dblkno

pub in_inodes : (g : Geometry) (i : ℕ) → IsGeometry g → InInodes g i
unfolding inode_block
in_inodes g i is =
    let size = sizes g is in
    let inodes = is.inodes in
    let product = size.bytes in
    let many = size.inodes in
    let room = inode_room g.frag (g.ipg / g.inopb) g.ipg g.inopb g.fsize (i % g.ipg) size.inopb size.some (omega arith) refl (inodes.1) (mod_below i g.ipg size.some_inodes) in
    let h2 = is.dblkno in
    record { low = omega arith; high = omega arith }

pub inode_role : (g : Geometry) (i : ℕ) → IsGeometry g → i < g.ncg * g.ipg → role g (inode_block g i) ≡ System Inodes
inode_role g i is low =
    let in_it = in_inodes g i is in
    let own = own_blocks g (i / g.ipg) is (inode_group g i is low) in
    own.inodes (inode_block g i) in_it.low in_it.high

aligned : (m k q r : ℕ) → 128 * k ≡ q * (128 * m) + r → r < 128 * m → r + 128 ≤ 128 * m
aligned m k q r e low =
    let turn : q * (128 * m) ≡ 128 * (q * m) = grind arith in
    omega arith

-- the bytes of an inode are in its block
pub inode_fits : (g : Geometry) (i : ℕ) → IsGeometry g → inode_byte g i + 128 ≤ g.fsize
unfolding inode_byte
inode_fits g i is =
    let size = sizes g is in
    let unit = size.unit in
    let some = size.some in
    let split = div-add-mod' (inode_offset g i) g.fsize in
    let rest = mod_below (inode_offset g i) g.fsize some in
    let here : 128 * (i % g.ipg % g.inopb) ≡ inode_offset g i / g.fsize * (128 * (g.fsize / 128)) + inode_offset g i % g.fsize =
    sym split ∙ ap (λ (n : ℕ). inode_offset g i / g.fsize * n + inode_offset g i % g.fsize) unit in
    let fits = aligned (g.fsize / 128) (i % g.ipg % g.inopb) (inode_offset g i / g.fsize) (inode_offset g i % g.fsize) here (omega arith) in
    omega arith

-- where an inode stands, counted from its group's inodes
pub inode_at : (g : Geometry) (i : ℕ) → IsGeometry g → inode_place g i ≡ (cgstart g (i / g.ipg) + g.iblkno) * g.fsize + 128 * (i % g.ipg)
unfolding inode_place inode_block inode_byte
inode_at g i is =
    let size = sizes g is in
    let bytes = size.bytes in
    let many = size.inodes in
    let base = cgstart g (i / g.ipg) + g.iblkno in
    let q = i % g.ipg / g.inopb in
    let split = div-add-mod' (inode_offset g i) g.fsize in
    let place = div-add-mod' (i % g.ipg) g.inopb in
    let one : (base + g.frag * q + inode_offset g i / g.fsize) * g.fsize ≡ (base + g.frag * q) * g.fsize + inode_offset g i / g.fsize * g.fsize = add-mul (base + g.frag * q) (inode_offset g i / g.fsize) g.fsize in
    let two : (base + g.frag * q) * g.fsize ≡ base * g.fsize + g.frag * q * g.fsize = add-mul base (g.frag * q) g.fsize in
    let turn : g.frag * q * g.fsize ≡ q * (g.frag * g.fsize) = grind arith in
    let whole : q * (g.frag * g.fsize) ≡ 128 * (q * g.inopb) = ap (λ (n : ℕ). q * n) (sym bytes ∙ many) ∙ (let e : q * (128 * g.inopb) ≡ 128 * (q * g.inopb) = grind arith in e) in
    omega arith

-- the bytes of an inode
pub record InodeZone (g : Geometry) (i p : ℕ) : Type 0 where
  pub is : role g (p / g.fsize) ≡ System Inodes
  pub group : p / g.fsize / g.fpg ≡ i / g.ipg
  pub low : inode_place g i ≤ p
  pub high : p < inode_place g i + 128

pub inode_zone : (g : Geometry) (i p : ℕ) → IsGeometry g → i < g.ncg * g.ipg → inode_place g i ≤ p → p < inode_place g i + 128 → InodeZone g i p
unfolding inode_place
inode_zone g i p is small low high =
    let size = sizes g is in
    let fits = inode_fits g i is in
    let in_it = in_inodes g i is in
    let e : p ≡ inode_block g i * g.fsize + (p - inode_block g i * g.fsize) = omega arith in
    let block : p / g.fsize ≡ inode_block g i = ap (λ (n : ℕ). n / g.fsize) e ∙ div-mul-add (inode_block g i) g.fsize (p - inode_block g i * g.fsize) (omega arith) in
    let from = in_it.low in
    record {
      is = ap (role g) block ∙ inode_role g i is small;
      group = ap (λ (n : ℕ). n / g.fpg) block ∙ group_of g (i / g.ipg) (inode_block g i) is (inode_group g i is small) (omega arith) in_it.high;
      low = low;
      high = high;
    }

near : (base x y p : ℕ) → base + 128 * x ≤ p → p < base + 128 * x + 128 → base + 128 * y ≤ p → p < base + 128 * y + 128 → x ≡ y
near base x y p a b c d = omega arith

-- a byte is of one inode at most
pub one_inode : (g : Geometry) (i j p : ℕ) → IsGeometry g → InodeZone g i p → InodeZone g j p → i ≡ j
one_inode g i j p is one other =
    let group : i / g.ipg ≡ j / g.ipg = sym one.group ∙ other.group in
    let base : (cgstart g (j / g.ipg) + g.iblkno) * g.fsize ≡ (cgstart g (i / g.ipg) + g.iblkno) * g.fsize = ap (λ (c : ℕ). (cgstart g c + g.iblkno) * g.fsize) (sym group) in
    let first = inode_at g i is in
    let second = inode_at g j is ∙ ap (λ (n : ℕ). n + 128 * (j % g.ipg)) base in
    let a = one.low in let b = one.high in let c = other.low in let d = other.high in
    let rest : i % g.ipg ≡ j % g.ipg = near ((cgstart g (i / g.ipg) + g.iblkno) * g.fsize) (i % g.ipg) (j % g.ipg) p (omega arith) (omega arith) (omega arith) (omega arith) in
    sym (div-add-mod' i g.ipg) ∙ ap (λ (n : ℕ). n * g.ipg + i % g.ipg) group ∙ ap (λ (n : ℕ). j / g.ipg * g.ipg + n) rest ∙ div-add-mod' j g.ipg
