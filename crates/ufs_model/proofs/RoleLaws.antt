-- Each block is in the group that its number says, and a group's own blocks have their roles.
use Rattle.std.proofs.Common.{◌≡◌, ◌∙◌, ℕ, zero, suc, ◌+◌, ◌-◌, ◌*◌, ◌/◌, ◌<◌, ◌≤◌, true, false, arith, refl, subst}
use Rattle.std.specs.Prelude.{nat_le, nat_lt}
use Rattle.std.proofs.lemmas.Bool.Decides.{nat_tests}
use Rattle.std.proofs.lemmas.Nat.{div-mul-add}
use Rattle.ufs_model.specs.Geometries.{IsGeometry, cgbase, cgstart, end_of}
use Rattle.ufs_model.specs.Roles.{HasOwnBlocks, has_super, is_within, role, role_in}
use Rattle.ufs_model.specs.declared.geometries.Geometry.{Geometry}
use Rattle.ufs_model.specs.declared.roles.Role.TheVariants.{System}
use Rattle.ufs_model.specs.declared.roles.SystemKind.TheVariants.{Copy, Group, Inodes}

quotient : (p c b : ℕ) → p * c ≤ b → b < p * c + p → b / p ≡ c
quotient p c b low high =
    let sum : c * p + (b - p * c) ≡ b = grind (arith) in
    let rest : b - p * c < p = omega arith in
    subst (λ (n : ℕ). n / p ≡ c) sum (div-mul-add c p (b - p * c) rest)

-- the places inside a group are in order
record Order (g : Geometry) : Type 0 where
  copy : g.sblkno ≤ g.cblkno
  group : g.cblkno ≤ g.iblkno
  inodes : g.iblkno ≤ g.dblkno

order : (g : Geometry) → IsGeometry g → Order g
order g is = record {
  copy = let h = is.cblkno in omega arith;
  group = let h = is.iblkno in omega arith;
  inodes = let h = is.dblkno in omega arith;
}

-- the group's own blocks are inside it
record InGroup (g : Geometry) (c b : ℕ) : Type 0 where
  low : g.fpg * c ≤ b
  high : b < g.fpg * c + g.fpg
  inside : b < g.size

in_group : (g : Geometry) (c b : ℕ) → IsGeometry g → c < g.ncg → cgstart g c + g.sblkno ≤ b → b < cgstart g c + g.dblkno → InGroup g c b
unfolding cgstart cgbase end_of
in_group g c b is small from to =
    let ends = is.ends c small in
    record { low = omega arith; high = omega arith; inside = omega arith }

-- the own blocks of the first group and of all later ones begin after the superblock
after_first : (g : Geometry) (c b : ℕ) → IsGeometry g → c < g.ncg → cgstart g c + g.sblkno ≤ b → cgstart g 0 + g.sblkno ≤ b
unfolding cgstart cgbase end_of
after_first g zero b is small from = from
after_first g (suc c) b is small from =
    let ends = is.ends 0 (omega arith) in
    let places = order g is in
    let h1 = places.copy in let h2 = places.group in let h3 = places.inodes in
    let far : g.fpg ≤ g.fpg * suc c = grind arith in
    omega arith

past : (s l b : ℕ) → s ≤ b → 9568 ≤ s * l → 9568 ≤ b * l
past s l b le high = let more : s * l ≤ b * l = grind arith in omega arith

not_super : (g : Geometry) (b : ℕ) → IsGeometry g → g.sblkno ≤ b → has_super g.fsize b ≡ false
not_super g b is le = let h = past g.sblkno g.fsize b le is.sblkno in grind (arith, nat_tests)

role_of_own : (g : Geometry) (c b : ℕ) → IsGeometry g → c < g.ncg → cgstart g c + g.sblkno ≤ b → b < cgstart g c + g.dblkno
    → role g b ≡ role_in g c (cgstart g c) b
unfolding role
role_of_own g c b is small from to =
    let group = in_group g c b is small from to in
    let first = after_first g c b is small from in
    let here = quotient g.fpg c b group.low group.high in
    let inside : nat_le g.size b ≡ false = let h = group.inside in grind (arith, nat_tests) in
    let plain = not_super g b is (omega arith) in
    let late : nat_lt b (cgstart g 0 + g.sblkno) ≡ false = grind (arith, nat_tests) in
    rw (inside, plain, late, here) refl

within : (low high b : ℕ) → low ≤ b → b < high → is_within low high b ≡ true
within low high b from to = grind (arith, nat_tests)

not_within : (low high b : ℕ) → high ≤ b → is_within low high b ≡ false
not_within low high b past = grind (arith, nat_tests)

copy_in : (g : Geometry) (c s b : ℕ) → s + g.sblkno ≤ b → b < s + g.cblkno → role_in g c s b ≡ System Copy
unfolding role_in
copy_in g c s b from to = rw (within (s + g.sblkno) (s + g.cblkno) b from to) refl

group_in : (g : Geometry) (c s b : ℕ) → s + g.cblkno ≤ b → b < s + g.iblkno → role_in g c s b ≡ System Group
unfolding role_in
group_in g c s b from to =
    rw (not_within (s + g.sblkno) (s + g.cblkno) b from, within (s + g.cblkno) (s + g.iblkno) b from to) refl

inodes_in : (g : Geometry) (c s b : ℕ) → g.cblkno ≤ g.iblkno → s + g.iblkno ≤ b → b < s + g.dblkno → role_in g c s b ≡ System Inodes
unfolding role_in
inodes_in g c s b le from to =
    rw (not_within (s + g.sblkno) (s + g.cblkno) b (omega arith), not_within (s + g.cblkno) (s + g.iblkno) b from, within (s + g.iblkno) (s + g.dblkno) b from to) refl

pub own_blocks : (g : Geometry) (c : ℕ) → IsGeometry g → c < g.ncg → HasOwnBlocks g c
own_blocks g c is small =
    let places = order g is in
    let h1 = places.copy in let h2 = places.group in let h3 = places.inodes in
    record {
      copy = λ b from to. role_of_own g c b is small from (omega arith) ∙ copy_in g c (cgstart g c) b from to;
      group = λ b from to. role_of_own g c b is small (omega arith) (omega arith) ∙ group_in g c (cgstart g c) b from to;
      inodes = λ b from to. role_of_own g c b is small (omega arith) to ∙ inodes_in g c (cgstart g c) b h2 from to;
    }
