-- How many bytes a directory has, by its entries: each takes a chunk of 512 bytes at most.
use Rattle.std.proofs.Common.{ℕ, suc, ◌+◌, ◌*◌, ◌≤◌, ◌==◌, Bool, true, false, List, [], ◌∷◌, length, arith, length-append}
use Rattle.std.specs.Prelude.{if◌then◌else◌}
use Rattle.ufs_model.specs.Chunks.{DirEntry}
use Rattle.ufs_model.specs.declared.numbers.Endian.{Endian}
use Rattle.ufs_build.specs.Directories.{directory_bytes, directory_entries, entries_from, entry_bytes, item_entry, packed, reclen_in, room_after}
use Rattle.ufs_build.specs.declared.items.Item.{Item}
use Rattle.ufs_image_laws.proofs.ItemLaws.{entry_size, reclen_small, room_small}
use Rattle.ufs_image_laws.specs.Rooms.{HaveShort, hits}

-- each entry has a short name
abbrev AreShort : List DirEntry → Type 0
AreShort [] = Unit {0}
AreShort (entry ∷ further) = (length entry.name ≤ 255) × AreShort further

packed_size : (endian : Endian) (room : ℕ) (entries : List DirEntry) → room ≤ 512 → AreShort entries → length (packed endian room entries) ≤ 512 * length entries
packed_size endian room [] h short = omega arith
packed_size endian room (entry ∷ further) h short =
    let own = reclen_small room entry further in
    let one = entry_size endian entry (reclen_in room entry further) 512 (omega arith) (let h = short.0 in omega (arith, h)) in
    let rest = packed_size endian (room_after room (reclen_in room entry further)) further (room_small room (reclen_in room entry further) h) (short.1) in
    let sum = length-append (entry_bytes endian entry (reclen_in room entry further)) (packed endian (room_after room (reclen_in room entry further)) further) in
    omega (arith, one, rest, sum)

-- ---- the entries of a directory

-- short entries, so many at most
record AreFew (entries : List DirEntry) (n : ℕ) : Type 0 where
  short : AreShort entries
  count : length entries ≤ n

few_by : (here : Bool) (entry : DirEntry) (further : List DirEntry) (n : ℕ) → length entry.name ≤ 255 → AreFew further n
    → AreFew (if here then entry ∷ further else further) ((if here then 1 else 0) + n)
few_by true entry further n short is = record { short = (short, is.short); count = let h = is.count in omega arith }
few_by false entry further n short is = record { short = is.short; count = let h = is.count in omega arith }

few_entries : (directory inode : ℕ) (items : List Item) (parents : List ℕ) → HaveShort items → AreFew (entries_from directory inode items parents) (hits directory parents)
few_entries directory inode [] parents short = record { short = tt; count = omega arith }
few_entries directory inode (item ∷ items) [] short = record { short = tt; count = omega arith }
few_entries directory inode (item ∷ items) (parent ∷ parents) short =
    few_by (parent == directory) (item_entry inode item) (entries_from directory (suc inode) items parents) (hits directory parents) (short.0)
    (few_entries directory (suc inode) items parents (short.1))

pub directory_size : (endian : Endian) (items : List Item) (parents : List ℕ) (directory up : ℕ) → HaveShort items
    → length (directory_bytes endian items parents directory up) ≤ 512 * (hits directory parents + 2)
unfolding directory_bytes directory_entries
directory_size endian items parents directory up short =
    let few = few_entries directory 3 items parents short in
    let count = few.count in
    let size = packed_size endian 512 (directory_entries items parents directory up) (omega arith) (omega arith, (omega arith, few.short)) in
    omega arith
