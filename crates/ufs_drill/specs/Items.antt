-- The files of a drill: how many bytes each has, which bytes, and where it stands. The rules are this project's own.
use Rattle.std.specs.Prelude.{ℕ, zero, suc, ◌+◌, ◌*◌, ◌/◌, ◌%◌, ◌==◌, List, [], ◌∷◌, ◌++◌, if◌then◌else◌, codes, map, false}
use Rattle.std.specs.List.{range_with_len}
use Rattle.rand_core.specs.Pcg32Seed.{pcg32_seed}
use Rattle.rand_pcg.specs.Lcg.{Lcg}
use Rattle.rand_pcg.specs.Pcg.{pcg32, pcg32_of_seed}
use Rattle.ufs_build.specs.declared.items.Item.{Item}
use Rattle.ufs_build.specs.declared.items.ItemKind.TheVariants.{Dir, File}

-- ---- sizes

-- the generator of words behind the first k ones, from a seed
unfoldable pub generator_after : ℕ → ℕ → Lcg
generator_after seed zero = pcg32_of_seed (pcg32_seed 16 seed)
generator_after seed (suc k) = (pcg32 (generator_after seed k)).1

-- word k, counted from 0
abbrev pub word_at : ℕ → ℕ → ℕ
word_at seed k = (pcg32 (generator_after seed k)).0

-- one file in a hundred is a long one
abbrev pub extra_of : ℕ → ℕ
extra_of k = if k % 100 == 0 then 200000 else 0

-- how many bytes file k has, by its word
abbrev pub size_by : ℕ → ℕ → ℕ
size_by word k = word % 12000 + extra_of k

abbrev pub size_of : ℕ → ℕ → ℕ
size_of seed k = size_by (word_at seed k) k

-- ---- bytes

-- byte o of file k
abbrev pub byte_of : ℕ → ℕ → ℕ
byte_of k o = (31 * k + 7 * o + o / 256) % 251

-- so many bytes of file k
abbrev pub bytes_of : ℕ → ℕ → List ℕ
bytes_of k size = map (byte_of k) (range_with_len 0 size)

-- all of them
abbrev pub file_bytes : ℕ → ℕ → List ℕ
file_bytes seed k = bytes_of k (size_of seed k)

-- ---- places

-- the last decimal digit of a number
abbrev pub digit_of : ℕ → ℕ
digit_of n = 48 + n % 10

-- `/dX`
abbrev pub directory_path : ℕ → List ℕ
directory_path x = codes "/d" ++ digit_of x ∷ []

-- `/dX/fK`, where X is the last digit of k, and K the last four
abbrev pub file_path : ℕ → List ℕ
file_path k = directory_path k ++ (codes "/f" ++ digit_of (k / 1000) ∷ digit_of (k / 100) ∷ digit_of (k / 10) ∷ digit_of k ∷ [])

-- ---- items

abbrev pub directory_item : ℕ → Item
directory_item x = record { path = directory_path x; kind = Dir; bytes = []; sparse = false }

abbrev pub file_item : ℕ → ℕ → Item
file_item seed k = record { path = file_path k; kind = File; bytes = file_bytes seed k; sparse = false }

-- ten directories, and behind them the files
abbrev pub drill_items : ℕ → ℕ → List Item
drill_items seed files = map directory_item (range_with_len 0 10) ++ map (file_item seed) (range_with_len 0 files)
