-- The blocks of an image that are written by a trace, and their order. Both are this project's own.
use Rattle.std.specs.Prelude.{ℕ, ◌*◌, ◌==◌, ◌&&◌, ◌++◌, Bool, true, false, not, List, take, drop, filter, reverse}
use Rattle.std.specs.List.{list_any, range_with_len}
use Rattle.ufs_model.specs.Roles.{role}
use Rattle.ufs_model.specs.declared.geometries.Geometry.{Geometry}
use Rattle.ufs_model.specs.declared.roles.Role.{Role}
use Rattle.ufs_model.specs.declared.roles.Role.TheVariants.{Outside, System, Data}
use Rattle.dg_words.specs.declared.commands.Order.{Order}
use Rattle.dg_words.specs.declared.commands.Order.TheVariants.{Up, Down, Late}

-- block b of an image whose blocks have l bytes
abbrev pub block_in : ℕ → List ℕ → ℕ → List ℕ
block_in l image b = take l (drop (b * l) image)

-- it isn't all zero
unfoldable pub is_written : ℕ → List ℕ → ℕ → Bool
is_written l image b = list_any (λ byte. not (byte == 0)) (block_in l image b)

-- the role is that of a block of files
abbrev pub is_data : Role → Bool
is_data (Data c) = true
is_data (System kind) = false
is_data Outside = false

-- the numbers below n that pass a test, ascending
abbrev pub numbers_where : (ℕ → Bool) → ℕ → List ℕ
numbers_where test n = filter test (range_with_len 0 n)

-- the written blocks, and those of them that are or aren't for files, all ascending
unfoldable pub written_blocks : Geometry → List ℕ → List ℕ
written_blocks g image = numbers_where (is_written g.fsize image) g.size

unfoldable pub written_data : Geometry → List ℕ → List ℕ
written_data g image = numbers_where (λ b. is_data (role g b) && is_written g.fsize image b) g.size

unfoldable pub written_system : Geometry → List ℕ → List ℕ
written_system g image = numbers_where (λ b. not (is_data (role g b)) && is_written g.fsize image b) g.size

-- each written block once, in an order
abbrev pub trace_of : Order → Geometry → List ℕ → List ℕ
trace_of Up g image = written_blocks g image
trace_of Down g image = reverse (written_blocks g image)
trace_of Late g image = written_data g image ++ reverse (written_system g image)
