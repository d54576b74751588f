-- A name is found in a directory of a built volume.
use Rattle.std.proofs.Common.{◌≡◌, ◌∙◌, ℕ, zero, suc, ◌+◌, ◌-◌, ◌*◌, ◌/◌, ◌<◌, ◌≤◌, Bool, true, false, List, [], ◌∷◌, ◌++◌, length, drop, refl, sym, ap, arith, Some, None}
use Rattle.std.specs.Prelude.{Err, Ok, Option, Result, find, if◌then◌else◌, slice_get}
use Rattle.std.specs.Int.{div_ceil}
use Rattle.std.specs.List.{flat_map}
use Rattle.std.proofs.lemmas.Grind.{div_ceil_times}
use Rattle.std.proofs.lemmas.List.{drop-drop}
use Rattle.std.proofs.lemmas.List.Concat.{flat_map-append}
use Rattle.std.proofs.lemmas.Option.{same_Some}
use Rattle.ufs_model.specs.Blocks.{Reading, Volume}
use Rattle.ufs_model.specs.Chunks.{DirEntry, chunk_in, entries_in, find_in, found_of, has_name, is_used_entry, used_entries}
use Rattle.ufs_model.specs.Inodes.{block_count, kind_of}
use Rattle.ufs_model.specs.Paths.{chunks_in, chunks_of, find_from, find_in_block, find_of, find_through, found_else, found_or, is_directory, or_bad_chunk, unless_refused}
use Rattle.ufs_model.specs.declared.chunks.Found.{Found}
use Rattle.ufs_model.specs.declared.geometries.Geometry.{Geometry}
use Rattle.ufs_model.specs.declared.inodes.Inode.{Inode}
use Rattle.ufs_model.specs.declared.numbers.Endian.{Endian}
use Rattle.ufs_model.specs.declared.reads.PathRefusal.{PathRefusal}
use Rattle.ufs_model.specs.declared.reads.PathRefusal.TheVariants.{NotFound}
use Rattle.ufs_build.specs.Images.{volume_bytes}
use Rattle.ufs_build.specs.Nodes.{Node}
use Rattle.ufs_build.specs.Placements.{Addresses, AllPlaced, blocks_of}
use Rattle.ufs_image_laws.specs.Built.{blocks_in}
use Rattle.ufs_image_laws.proofs.AddressReads.{FileOf, SlotsLead, tests_of}
use Rattle.ufs_image_laws.proofs.ContentReads.{blocks_outside, ok_then}
use Rattle.ufs_image_laws.proofs.DirectoryReads.{BlockIs, IsDirectory, IsWholeChunk, before_block, block_is, block_unit, block_whole, chunks_read, chunks_split, found_in, in_block, no_refusal}
use Rattle.ufs_image_laws.proofs.FullLaws.{block_bytes_low}
use Rattle.ufs_image_laws.proofs.ListLaws.{Each}
use Rattle.ufs_image_laws.proofs.ZoneLaws.{sizes}

-- ---- the first of a list

abbrev pub or_else : Option DirEntry → Option DirEntry → Option DirEntry
or_else None further = further
or_else (Some entry) further = Some entry

find_append : (test : DirEntry → Bool) (xs ys : List DirEntry) → find test (xs ++ ys) ≡ or_else (find test xs) (find test ys)
find_append test [] ys = refl
find_append test (x ∷ xs) ys = find_by (test x) x (find test xs) (find test ys) (find test (xs ++ ys)) (find_append test xs ys)
  where
    find_by : (here : Bool) (x : DirEntry) (one other both : Option DirEntry) → both ≡ or_else one other → (if here then Some x else both) ≡ or_else (if here then Some x else one) other
    find_by true x one other both e = refl
    find_by false x one other both e = e

find_used : (name : List ℕ) (entries : List DirEntry) → find (has_name name) (used_entries entries) ≡ find (has_name name) entries
find_used name [] = refl
find_used name (entry ∷ entries) = used_by name (is_used_entry entry) entry (used_entries entries) entries refl (find_used name entries)
  where
    used_by : (name : List ℕ) (used : Bool) (entry : DirEntry) (one other : List DirEntry) → is_used_entry entry ≡ used → find (has_name name) one ≡ find (has_name name) other
        → find (has_name name) (if used then entry ∷ one else one) ≡ find (has_name name) (entry ∷ other)
    used_by name true entry one other e same = ap (λ (o : Option DirEntry). if has_name name entry then Some entry else o) same
    used_by name false entry one other e same = let none : has_name name entry ≡ false = rw e refl in rw none same

pub find_first : (test : DirEntry → Bool) (xs : List DirEntry) (k : ℕ) (x : DirEntry) → slice_get xs k ≡ Some x → test x ≡ true
    → ((m : ℕ) (y : DirEntry) → m < k → slice_get xs m ≡ Some y → test y ≡ false) → find test xs ≡ Some x
find_first test [] k x e is none = absurd (cc e)
find_first test (y ∷ xs) zero x e is none =
    let same : y ≡ x = same_Some y x e in
    let here : test y ≡ true = ap test same ∙ is in
    rw here (ap Some same)
find_first test (y ∷ xs) (suc k) x e is none =
    let first : test y ≡ false = none 0 y (omega arith) refl in
    rw first (find_first test xs k x e is (λ m z low f. none (suc m) z (omega arith) f))

-- ---- through chunks

found_both : (one other : Option DirEntry) → found_or (found_of one) (found_of other) ≡ found_of (or_else one other)
found_both None other = refl
found_both (Some entry) other = refl

in_whole : (endian : Endian) (name chunk : List ℕ) → IsWholeChunk endian chunk → find_in endian name chunk ≡ found_of (find (has_name name) (found_in endian chunk))
unfolding find_in chunk_in
in_whole endian name chunk is = rw is.fault (ap found_of (sym (find_used name (entries_in endian 0 chunk))))

through_chunks : (endian : Endian) (name : List ℕ) (chunks : List (List ℕ)) → Each (IsWholeChunk endian) chunks
    → find_through endian name chunks ≡ found_of (find (has_name name) (flat_map (found_in endian) chunks))
unfolding find_through
through_chunks endian name [] each = refl
through_chunks endian name (chunk ∷ chunks) each =
    ap (λ (one : Found). found_or one (find_through endian name chunks)) (in_whole endian name chunk (each.0))
    ∙ ap (found_or (found_of (find (has_name name) (found_in endian chunk)))) (through_chunks endian name chunks (each.1))
    ∙ found_both (find (has_name name) (found_in endian chunk)) (find (has_name name) (flat_map (found_in endian) chunks))
    ∙ ap found_of (sym (find_append (has_name name) (found_in endian chunk) (flat_map (found_in endian) chunks)))

-- ---- through blocks

-- the inode of the entry that is found
abbrev pub inode_found : Option DirEntry → Result ℕ PathRefusal
inode_found None = Err NotFound
inode_found (Some entry) = Ok entry.inode

abbrev pub maybe_inode : Option DirEntry → Option ℕ
maybe_inode None = None
maybe_inode (Some entry) = Some entry.inode

or_bad : (o : Option DirEntry) → or_bad_chunk (found_of o) ≡ Ok (maybe_inode o)
or_bad None = refl
or_bad (Some entry) = refl

else_by : (o further : Option DirEntry) (rest : Reading (Result ℕ PathRefusal)) (v : Volume) → (rest v).value ≡ inode_found further → (found_else (maybe_inode o) rest v).value ≡ inode_found (or_else o further)
else_by None further rest v e = e
else_by (Some entry) further rest v e = refl

abbrev pub rest_of : Geometry → ℕ → List ℕ → ℕ → List DirEntry
rest_of g count bytes n = flat_map (found_in g.endian) (chunks_in (count - before_block g count n) (drop (512 * before_block g count n) bytes))

rest_more : (g : Geometry) (count : ℕ) (bytes : List ℕ) (n : ℕ) → BlockIs g count n
    → rest_of g count bytes n ≡ flat_map (found_in g.endian) (chunks_in (in_block g count n) (drop (n * g.bsize) bytes)) ++ rest_of g count bytes (suc n)
rest_more g count bytes n is =
    let d = before_block g count n in
    let m = in_block g count n in
    let inside = is.inside in
    let next = is.next in
    let split : count - d ≡ m + (count - before_block g count (suc n)) = omega (arith, inside, next) in
    let place : 512 * d + 512 * m ≡ 512 * before_block g count (suc n) = omega (arith, next) in
    ap (λ (c : ℕ). flat_map (found_in g.endian) (chunks_in c (drop (512 * d) bytes))) split
    ∙ ap (flat_map (found_in g.endian)) (chunks_split m (count - before_block g count (suc n)) (drop (512 * d) bytes))
    ∙ flat_map-append (found_in g.endian) (chunks_in m (drop (512 * d) bytes)) (chunks_in (count - before_block g count (suc n)) (drop (512 * m) (drop (512 * d) bytes)))
    ∙ ap (λ (p : ℕ). flat_map (found_in g.endian) (chunks_in m (drop p bytes)) ++ flat_map (found_in g.endian) (chunks_in (count - before_block g count (suc n)) (drop (512 * m) (drop (512 * d) bytes)))) is.place
    ∙ ap (λ (ys : List ℕ). flat_map (found_in g.endian) (chunks_in m (drop (n * g.bsize) bytes)) ++ flat_map (found_in g.endian) (chunks_in (count - before_block g count (suc n)) ys))
    (drop-drop (512 * m) (512 * d) bytes ∙ ap (λ (p : ℕ). drop p bytes) place)

from_block : (g : Geometry) (nodes : List Node) (all : AllPlaced) (k : ℕ) (node : Node) (addresses : Addresses) (inode : Inode) (entries : List DirEntry) (name : List ℕ) (n left : ℕ)
    → FileOf g nodes all k node addresses → SlotsLead g node addresses inode → (dir : IsDirectory g node entries) → n + left ≡ blocks_of g node → before_block g dir.chunks.count (blocks_of g node) ≡ dir.chunks.count
    → (find_from g inode name n left (blocks_in g.fsize g.size (volume_bytes g nodes all))).value ≡ inode_found (find (has_name name) (rest_of g dir.chunks.count node.bytes n))
unfolding find_from find_in_block
from_block g nodes all k node addresses inode entries name n zero is slots dir sum last =
    let here : n ≡ blocks_of g node = omega arith in
    let none : dir.chunks.count - before_block g dir.chunks.count n ≡ 0 = ap (λ (b : ℕ). dir.chunks.count - before_block g dir.chunks.count b) here ∙ (let z : dir.chunks.count - before_block g dir.chunks.count (blocks_of g node) ≡ 0 = omega (arith, last) in z) in
    ap (λ (c : ℕ). inode_found (find (has_name name) (flat_map (found_in g.endian) (chunks_in c (drop (512 * before_block g dir.chunks.count n) node.bytes))))) (sym none)
from_block g nodes all k node addresses inode entries name n (suc left) is slots dir sum last =
    let v = blocks_in g.fsize g.size (volume_bytes g nodes all) in
    let tests = tests_of g nodes all k node addresses is in
    let chunks = dir.chunks in
    let size = chunks.size in
    let bytes = block_bytes_low g node n (sizes g tests) (omega arith) in
    let block = block_is g chunks.count n tests (omega arith) in
    let own = chunks_in (in_block g chunks.count n) (drop (n * g.bsize) node.bytes) in
    let found = find (has_name name) (flat_map (found_in g.endian) own) in
    let through = through_chunks g.endian name own (block_whole g node entries n dir tests bytes) in
    let shown : (find_in_block g inode name n v).value ≡ Ok (maybe_inode found) =
    ok_then (chunks_of g inode n) _ v own (chunks_read g nodes all k node addresses inode entries n is slots dir (omega arith)) ∙ ap or_bad_chunk through ∙ or_bad found in
    ok_then (find_in_block g inode name n) _ v (maybe_inode found) shown
    ∙ else_by found (find (has_name name) (rest_of g chunks.count node.bytes (suc n))) (find_from g inode name (suc n) left) v
    (from_block g nodes all k node addresses inode entries name (suc n) left is slots dir (omega arith) last)
    ∙ ap inode_found (sym (find_append (has_name name) (flat_map (found_in g.endian) own) (rest_of g chunks.count node.bytes (suc n)))
    ∙ ap (find (has_name name)) (sym (rest_more g chunks.count node.bytes n block)))

pub find_read : (g : Geometry) (nodes : List Node) (all : AllPlaced) (k : ℕ) (node : Node) (addresses : Addresses) (inode : Inode) (entries : List DirEntry) (name : List ℕ)
    → FileOf g nodes all k node addresses → SlotsLead g node addresses inode → (dir : IsDirectory g node entries) → is_directory (kind_of inode.mode) ≡ true
    → (find_of g inode name (blocks_in g.fsize g.size (volume_bytes g nodes all))).value ≡ inode_found (find (has_name name) entries)
unfolding find_of
find_read g nodes all k node addresses inode entries name is slots dir kind =
    let v = blocks_in g.fsize g.size (volume_bytes g nodes all) in
    let tests = tests_of g nodes all k node addresses is in
    let chunks = dir.chunks in
    let size = chunks.size in
    let own = sizes g tests in
    let least = own.least in
    let block = tests.bsize in
    let unit = block_unit g.bsize (block.0) in
    let small = dir.small in
    let same = slots.size in
    let blocks : block_count g inode ≡ blocks_of g node = ap (λ (s : ℕ). div_ceil s g.bsize) same ∙ sym (blocks_outside g node dir.outside) in
    let round = div_ceil_times (length node.bytes) g.bsize (omega arith) in
    let most : length node.bytes ≤ blocks_of g node * g.bsize = rw (blocks_outside g node dir.outside) (round.0) in
    let turn : blocks_of g node * g.bsize ≡ 512 * (blocks_of g node * (g.bsize / 512)) =
    ap (λ (b : ℕ). blocks_of g node * b) unit ∙ (let z : blocks_of g node * (512 * (g.bsize / 512)) ≡ 512 * (blocks_of g node * (g.bsize / 512)) = grind arith in z) in
    let last : before_block g chunks.count (blocks_of g node) ≡ chunks.count = omega arith in
    let first : before_block g chunks.count 0 ≡ 0 = omega arith in
    ap (λ refusal. (unless_refused refusal (find_from g inode name 0 (block_count g inode)) v).value) (no_refusal inode chunks.count kind (rw same small) (same ∙ size))
    ∙ ap (λ (n : ℕ). (find_from g inode name 0 n v).value) blocks
    ∙ from_block g nodes all k node addresses inode entries name 0 (blocks_of g node) is slots dir (omega arith) last
    ∙ ap (λ (d : ℕ). inode_found (find (has_name name) (flat_map (found_in g.endian) (chunks_in (chunks.count - d) (drop (512 * d) node.bytes))))) first
    ∙ ap (λ (c : ℕ). inode_found (find (has_name name) (flat_map (found_in g.endian) (chunks_in c node.bytes)))) (let z : chunks.count - 0 ≡ chunks.count = omega arith in z)
    ∙ ap (λ (es : List DirEntry). inode_found (find (has_name name) es)) chunks.are
