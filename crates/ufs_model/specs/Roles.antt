-- What a block is for, by the places in `fs.h` (`cgsblock`, `cgtod`, `cgimin`, `cgdmin`). The names
-- of the roles, and that the first that fits is taken, are this project's.
use Rattle.std.specs.Prelude.{◌≡◌, ℕ, ◌+◌, ◌*◌, ◌/◌, ◌<◌, ◌≤◌, ◌==◌, nat_lt, nat_le, ◌&&◌, Bool, true, false, if◌then◌else◌}
use Rattle.std.specs.Int.{div_ceil}
use Rattle.ufs_model.specs.Geometries.{cgstart}
use Rattle.ufs_model.specs.declared.geometries.Geometry.{Geometry}
use Rattle.ufs_model.specs.declared.roles.Role.{Role}
use Rattle.ufs_model.specs.declared.roles.Role.TheVariants.{Outside, System, Data}
use Rattle.ufs_model.specs.declared.roles.SystemKind.TheVariants.{Super, Boot, Copy, Group, Inodes, Summary}

-- a number is from one to before another
abbrev pub is_within : ℕ → ℕ → ℕ → Bool
is_within low high b = nat_le low b && nat_lt b high

-- a block of l bytes has a byte of the superblock, which has the bytes 8192 to 9567
abbrev pub has_super : ℕ → ℕ → Bool
has_super l b = nat_lt (b * l) 9568 && nat_lt 8192 ((b + 1) * l)

-- the role of a block of group c, whose own blocks are counted from start
unfoldable pub role_in : Geometry → ℕ → ℕ → ℕ → Role
role_in g c start b =
    if is_within (start + g.sblkno) (start + g.cblkno) b then System Copy
    else if is_within (start + g.cblkno) (start + g.iblkno) b then System Group
    else if is_within (start + g.iblkno) (start + g.dblkno) b then System Inodes
    else if is_within g.csaddr (g.csaddr + div_ceil g.cssize g.fsize) b then System Summary
    else Data c

-- The role of a block. It is in group b / fpg, and by the tests of the geometry each group's own
-- blocks are inside it.
unfoldable pub role : Geometry → ℕ → Role
role g b =
    if nat_le g.size b then Outside
    else if has_super g.fsize b then System Super
    else if nat_lt b (cgstart g 0 + g.sblkno) then System Boot
    else role_in g (b / g.fpg) (cgstart g (b / g.fpg)) b

-- data of group c
abbrev pub is_data_of : ℕ → Role → Bool
is_data_of c Outside = false
is_data_of c (System kind) = false
is_data_of c (Data d) = c == d

-- a block of the file system itself
abbrev pub is_system : Role → Bool
is_system Outside = false
is_system (System kind) = true
is_system (Data d) = false

-- The own blocks of group c have their roles, whatever is left of the order of the roles.
pub record HasOwnBlocks (g : Geometry) (c : ℕ) : Type 0 where
  pub copy : (b : ℕ) → cgstart g c + g.sblkno ≤ b → b < cgstart g c + g.cblkno → role g b ≡ System Copy
  pub group : (b : ℕ) → cgstart g c + g.cblkno ≤ b → b < cgstart g c + g.iblkno → role g b ≡ System Group
  pub inodes : (b : ℕ) → cgstart g c + g.iblkno ≤ b → b < cgstart g c + g.dblkno → role g b ≡ System Inodes
