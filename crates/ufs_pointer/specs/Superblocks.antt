-- Where the superblock stands (`SBOFF` in `fs.h`).
use Rattle.std.specs.Prelude.{ℕ, ◌-◌, ◌/◌, min}
use Rattle.std.specs.Int.{div_ceil}

-- The number of blocks with the superblock on a volume of n blocks of l bytes: of those with its 1376 bytes from byte 8192 on,
-- those that are there.
abbrev pub superblock_blocks : ℕ → ℕ → ℕ
superblock_blocks l n = min (div_ceil 1376 l) (n - 8192 / l)
