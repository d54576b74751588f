-- The entries of the directories of a built volume are read.
use Rattle.std.proofs.Common.{◌≡◌, ◌∙◌, ℕ, zero, suc, ◌+◌, ◌-◌, ◌*◌, ◌/◌, ◌%◌, ◌^◌, ◌<◌, ◌≤◌, ◌==◌, min, Bool, true, false, List, [], ◌∷◌, ◌++◌, length, take, drop, refl, sym, ap, subst, arith, inl, inr, Some, None, length-append, length-drop}
use Rattle.std.specs.Prelude.{Ok, if◌then◌else◌, nat_le, replicate}
use Rattle.std.specs.Int.{div_ceil}
use Rattle.std.specs.List.{flat_map}
use Rattle.std.specs.Option.{ok_or}
use Rattle.std.proofs.lemmas.Bool.{cases_Bool, eq-eqb, eqb-true, ne_eqb}
use Rattle.std.proofs.lemmas.Bool.Decides.{nat_tests}
use Rattle.std.proofs.lemmas.Grind.{div_ceil_times}
use Rattle.std.proofs.lemmas.List.{drop-drop, drop-take, drop_at, length-take, take-replicate, take-take, take_at}
use Rattle.std.proofs.lemmas.List.Concat.{flat_map-append}
use Rattle.ufs_model.specs.Blocks.{known}
use Rattle.ufs_model.specs.Chunks.{DirEntry, chunk_in, entries_in, fault_at, fault_in, reclen_holds, used_entries}
use Rattle.ufs_model.specs.Geometries.{IsGeometry, is_block_size}
use Rattle.ufs_model.specs.Inodes.{block_count, kind_of}
use Rattle.ufs_model.specs.Numbers.{number_at}
use Rattle.ufs_model.specs.Paths.{block_of, bytes_in_block, chunks_in, chunks_of, directory_refusal, entries_before, entries_of, entries_through, is_directory, unless_refused}
use Rattle.ufs_model.specs.declared.chunks.BadEntry.TheVariants.{Reclen}
use Rattle.ufs_model.specs.declared.geometries.Geometry.{Geometry}
use Rattle.ufs_model.specs.declared.inodes.Inode.{Inode}
use Rattle.ufs_model.specs.declared.numbers.Endian.{Endian}
use Rattle.ufs_model.specs.declared.numbers.Endian.TheVariants.{Big, Little}
use Rattle.ufs_model.specs.declared.reads.BadRead.TheVariants.{Hole}
use Rattle.ufs_model.specs.declared.reads.PathRefusal.TheVariants.{Bad}
use Rattle.ufs_build.specs.Directories.{packed}
use Rattle.ufs_build.specs.Images.{volume_bytes}
use Rattle.ufs_build.specs.Nodes.{Node}
use Rattle.ufs_build.specs.Placements.{Addresses, AllPlaced, address_at, block_bytes, blocks_of, fragments_of}
use Rattle.ufs_image_laws.specs.Built.{blocks_in}
use Rattle.ufs_image_laws.proofs.AddressReads.{FileOf, SlotsLead, tests_of}
use Rattle.ufs_image_laws.proofs.ChunkLaws.{IsGoodEntry, entry_room, rest_is}
use Rattle.ufs_image_laws.proofs.ContentReads.{block_read, blocks_outside, hole_bytes, hole_is, ok_then, part_by}
use Rattle.ufs_image_laws.proofs.FullLaws.{block_bytes_low}
use Rattle.ufs_image_laws.proofs.ListLaws.{Each}
use Rattle.ufs_image_laws.proofs.ZoneLaws.{sizes}

-- ---- chunks of bytes

each_left : {X : Type 0} (P : X → Type 0) (xs ys : List X) → Each P (xs ++ ys) → Each P xs
each_left P [] ys h = tt
each_left P (x ∷ xs) ys h = (h.0, each_left P xs ys (h.1))

each_right : {X : Type 0} (P : X → Type 0) (xs ys : List X) → Each P (xs ++ ys) → Each P ys
each_right P [] ys h = h
each_right P (x ∷ xs) ys h = each_right P xs ys (h.1)

pub chunks_split : (m k : ℕ) (xs : List ℕ) → chunks_in (m + k) xs ≡ chunks_in m xs ++ chunks_in k (drop (512 * m) xs)
chunks_split zero k xs = ap (λ (n : ℕ). chunks_in n xs) (let z : 0 + k ≡ k = omega arith in z) ∙ ap (λ (n : ℕ). chunks_in k (drop n xs)) (let z : 0 ≡ 512 * 0 = omega arith in z)
chunks_split (suc m) k xs =
    ap (λ (n : ℕ). chunks_in n xs) (let z : suc m + k ≡ suc (m + k) = omega arith in z)
    ∙ ap (λ (cs : List (List ℕ)). take 512 xs ∷ cs) (chunks_split m k (drop 512 xs)
    ∙ ap (λ (ys : List ℕ). chunks_in m (drop 512 xs) ++ chunks_in k ys) (drop-drop (512 * m) 512 xs ∙ ap (λ (n : ℕ). drop n xs) (let z : 512 + 512 * m ≡ 512 * suc m = omega arith in z)))

chunks_take : (m n : ℕ) (xs : List ℕ) → 512 * m ≤ n → chunks_in m (take n xs) ≡ chunks_in m xs
chunks_take zero n xs fits = refl
chunks_take (suc m) n xs fits =
    let rest : n ≡ 512 + (n - 512) = omega arith in
    ap (λ (c : List ℕ). c ∷ chunks_in m (drop 512 (take n xs))) (take-take 512 n xs (omega arith))
    ∙ ap (λ (cs : List (List ℕ)). take 512 xs ∷ cs)
    (ap (λ (k : ℕ). chunks_in m (drop 512 (take k xs))) rest ∙ ap (chunks_in m) (drop-take 512 (n - 512) xs) ∙ chunks_take m (n - 512) (drop 512 xs) (omega arith))

-- the entries of a chunk
abbrev pub found_in : Endian → List ℕ → List DirEntry
found_in endian chunk = used_entries (entries_in endian 0 chunk)

pub record IsWholeChunk (endian : Endian) (chunk : List ℕ) : Type 0 where
  pub fault : fault_in endian 0 chunk ≡ None

through_whole : (endian : Endian) (chunks : List (List ℕ)) → Each (IsWholeChunk endian) chunks → entries_through endian chunks ≡ Ok (flat_map (found_in endian) chunks)
unfolding chunk_in
through_whole endian [] each = refl
through_whole endian (chunk ∷ chunks) each =
    let rest = through_whole endian chunks (each.1) in
    let first = each.0 in
    let none = first.fault in
    rw (none, rest) refl

-- Bytes that are whole chunks with these entries.
pub record AreChunks (endian : Endian) (entries : List DirEntry) (bytes : List ℕ) : Type 0 where
  pub count : ℕ
  pub size : length bytes ≡ 512 * count
  pub few : count ≤ length entries
  pub whole : Each (IsWholeChunk endian) (chunks_in count bytes)
  pub are : flat_map (found_in endian) (chunks_in count bytes) ≡ entries

used_all : (entries : List DirEntry) → Each IsGoodEntry entries → used_entries entries ≡ entries
used_all [] good = refl
used_all (entry ∷ entries) good =
    let first = good.0 in
    let used : (entry.inode == 0) ≡ false = ne_eqb entry.inode 0 first.some in
    let rest = used_all entries (good.1) in
    rw (used, rest) refl

pub are_chunks : (endian : Endian) (fuel : ℕ) (entries : List DirEntry) → length entries ≤ fuel → Each IsGoodEntry entries → AreChunks endian entries (packed endian 512 entries)
are_chunks endian fuel [] few good = record { count = 0; size = refl; few = omega arith; whole = tt; are = refl }
are_chunks endian zero (entry ∷ further) few good = absurd (omega arith)
are_chunks endian (suc fuel) (entry ∷ further) few good =
    let is = rest_is endian 512 entry further (good.0) (good.1) (omega arith) (omega arith)
    (let first = good.0 in let room = entry_room entry.name first.short in let most = room.1 in omega arith) in
    let less = is.less in
    let both = is.good in
    let later = are_chunks endian fuel is.later (omega arith) (both.1) in
    let size = is.size in
    let rest_size = later.size in
    let sum = length-append is.chunk (packed endian 512 is.later) in
    let front : take 512 (is.chunk ++ packed endian 512 is.later) ≡ is.chunk = take_at is.chunk (packed endian 512 is.later) 512 size in
    let behind : drop 512 (is.chunk ++ packed endian 512 is.later) ≡ packed endian 512 is.later = drop_at is.chunk (packed endian 512 is.later) 512 size in
    let chunks : chunks_in (suc later.count) (is.chunk ++ packed endian 512 is.later) ≡ is.chunk ∷ chunks_in later.count (packed endian 512 is.later) = rw (front, behind) refl in
    let here : found_in endian is.chunk ≡ is.here = ap used_entries is.are ∙ used_all is.here (both.0) in
    let out : AreChunks endian (entry ∷ further) (is.chunk ++ packed endian 512 is.later) = record {
      count = suc later.count;
      size = omega (arith, sum, size, rest_size);
      few = let h = later.few in omega (arith, h, less);
      whole = subst (Each (IsWholeChunk endian)) (sym chunks) (record { fault = is.fault }, later.whole);
      are = ap (flat_map (found_in endian)) chunks ∙ ap (λ (es : List DirEntry). es ++ flat_map (found_in endian) (chunks_in later.count (packed endian 512 is.later))) here
          ∙ ap (λ (es : List DirEntry). is.here ++ es) later.are ∙ sym is.all;
    } in
    subst (AreChunks endian (entry ∷ further)) (sym is.laid_bytes) out

-- ---- a block of a directory

pub block_unit : (n : ℕ) → is_block_size n ≡ true → n ≡ 512 * (n / 512)
unfolding is_block_size
block_unit n h = grind (arith, nat_tests)

zero_chunk : (endian : Endian) → fault_in endian 0 (replicate 512 0) ≡ Some Reclen
unfolding fault_in fault_at reclen_holds number_at
zero_chunk Little = refl
zero_chunk Big = refl

-- Bytes of a file that are whole chunks.
pub record IsDirectory (g : Geometry) (node : Node) (entries : List DirEntry) : Type 0 where
  pub chunks : AreChunks g.endian entries node.bytes
  pub outside : node.inside ≡ false
  pub small : length node.bytes < 2 ^ 32

-- how many chunks stand before file block n, and in it
abbrev pub before_block : Geometry → ℕ → ℕ → ℕ
before_block g count n = min (n * (g.bsize / 512)) count

abbrev pub in_block : Geometry → ℕ → ℕ → ℕ
in_block g count n = min g.bsize (512 * count - n * g.bsize) / 512

pub record BlockIs (g : Geometry) (count n : ℕ) : Type 0 where
  pub before : before_block g count n ≡ n * (g.bsize / 512)
  pub place : 512 * before_block g count n ≡ n * g.bsize
  pub next : before_block g count (suc n) ≡ before_block g count n + in_block g count n
  pub whole : 512 * in_block g count n ≡ min g.bsize (512 * count - n * g.bsize)
  pub some : 1 ≤ in_block g count n
  pub inside : before_block g count n + in_block g count n ≤ count

block_numbers : (bsize unit count n : ℕ) → bsize ≡ 512 * unit → 1 ≤ unit → n * bsize < 512 * count
    → (512 * (n * unit) ≡ n * bsize) × (n * unit < count) × (min bsize (512 * count - n * bsize) / 512 ≡ min unit (count - n * unit)) × (suc n * unit ≡ n * unit + unit)
block_numbers bsize unit count n e some low =
    let turn : n * (512 * unit) ≡ 512 * (n * unit) = grind arith in
    let same : n * bsize ≡ 512 * (n * unit) = ap (λ (b : ℕ). n * b) e ∙ turn in
    (omega arith, omega arith, omega arith, omega arith)

pub block_is : (g : Geometry) (count n : ℕ) → IsGeometry g → n * g.bsize < 512 * count → BlockIs g count n
block_is g count n is low =
    let block = is.bsize in
    let unit = block_unit g.bsize (block.0) in
    let least = block.1 in
    let numbers = block_numbers g.bsize (g.bsize / 512) count n unit (omega arith) low in
    let a = numbers.0 in
    let b = numbers.1 in
    let c = numbers.2 in
    let d = numbers.3 in
    record { before = omega arith; place = omega arith; next = omega arith; whole = omega arith; some = omega arith; inside = omega arith }

-- the chunks in block n are whole, and stand behind those before it
pub block_whole : (g : Geometry) (node : Node) (entries : List DirEntry) (n : ℕ) (is : IsDirectory g node entries) → IsGeometry g → n * g.bsize < length node.bytes
    → Each (IsWholeChunk g.endian) (chunks_in (in_block g is.chunks.count n) (drop (n * g.bsize) node.bytes))
block_whole g node entries n is tests low =
    let chunks = is.chunks in
    let size = chunks.size in
    let block = block_is g chunks.count n tests (omega arith) in
    let inside = block.inside in
    let d = before_block g chunks.count n in
    let m = in_block g chunks.count n in
    let all : chunks_in chunks.count node.bytes ≡ chunks_in (d + m) node.bytes ++ chunks_in (chunks.count - (d + m)) (drop (512 * (d + m)) node.bytes) =
    ap (λ (c : ℕ). chunks_in c node.bytes) (let z : chunks.count ≡ d + m + (chunks.count - (d + m)) = omega arith in z) ∙ chunks_split (d + m) (chunks.count - (d + m)) node.bytes in
    let front = each_left (IsWholeChunk g.endian) (chunks_in (d + m) node.bytes) (chunks_in (chunks.count - (d + m)) (drop (512 * (d + m)) node.bytes)) (subst (Each (IsWholeChunk g.endian)) all chunks.whole) in
    let own = each_right (IsWholeChunk g.endian) (chunks_in d node.bytes) (chunks_in m (drop (512 * d) node.bytes)) (subst (Each (IsWholeChunk g.endian)) (chunks_split d m node.bytes) front) in
    subst (λ (p : ℕ). Each (IsWholeChunk g.endian) (chunks_in m (drop p node.bytes))) block.place own

first_whole : (endian : Endian) (m : ℕ) (xs : List ℕ) → 1 ≤ m → Each (IsWholeChunk endian) (chunks_in m xs) → fault_in endian 0 (take 512 xs) ≡ None
first_whole endian zero xs some each = absurd (omega arith)
first_whole endian (suc m) xs some each = let first = each.0 in first.fault

-- no block of a directory is a hole
pub never_hole : (g : Geometry) (nodes : List Node) (all : AllPlaced) (k : ℕ) (node : Node) (addresses : Addresses) (entries : List DirEntry) (n : ℕ) → FileOf g nodes all k node addresses
    → IsDirectory g node entries → n < blocks_of g node → (address_at addresses 0 n == 0) ≡ false
never_hole g nodes all k node addresses entries n is dir low =
    let tests = tests_of g nodes all k node addresses is in
    let chunks = dir.chunks in
    let size = chunks.size in
    let bytes = block_bytes_low g node n (sizes g tests) low in
    let block = block_is g chunks.count n tests (omega arith) in
    let whole = block_whole g node entries n dir tests bytes in
    let fault = first_whole g.endian (in_block g chunks.count n) (drop (n * g.bsize) node.bytes) block.some whole in
    let some = block.some in
    let exact = block.whole in
    let least = (sizes g tests).least in
    let long : length (block_bytes g node.bytes n) ≡ min g.bsize (length node.bytes - n * g.bsize) =
    length-take g.bsize (drop (n * g.bsize) node.bytes) ∙ ap (λ (r : ℕ). min g.bsize r) (length-drop (n * g.bsize) node.bytes) in
    elim (cases_Bool (address_at addresses 0 n == 0)) as (λ _. (address_at addresses 0 n == 0) ≡ false) [
      | inr some ↦ some
      | inl none ↦
          let hole = hole_is g nodes all k node addresses n is low (eqb-true (address_at addresses 0 n) 0 none) in
          let zeros : take 512 (drop (n * g.bsize) node.bytes) ≡ replicate 512 0 =
          sym (take-take 512 g.bsize (drop (n * g.bsize) node.bytes) (omega arith)) ∙ ap (take 512) (hole_bytes g node n hole)
          ∙ take-replicate 512 (length (block_bytes g node.bytes n)) 0 (omega (arith, long, some, exact, size)) in
          absurd (let clash : Some Reclen ≡ None = sym (zero_chunk g.endian) ∙ ap (fault_in g.endian 0) (sym zeros) ∙ fault in cc clash)
    ]

pub chunks_read : (g : Geometry) (nodes : List Node) (all : AllPlaced) (k : ℕ) (node : Node) (addresses : Addresses) (inode : Inode) (entries : List DirEntry) (n : ℕ) → FileOf g nodes all k node addresses
    → SlotsLead g node addresses inode → (dir : IsDirectory g node entries) → n < blocks_of g node
    → (chunks_of g inode n (blocks_in g.fsize g.size (volume_bytes g nodes all))).value ≡ Ok (chunks_in (in_block g dir.chunks.count n) (drop (n * g.bsize) node.bytes))
unfolding chunks_of
chunks_read g nodes all k node addresses inode entries n is slots dir low =
    let image = volume_bytes g nodes all in
    let v = blocks_in g.fsize g.size image in
    let tests = tests_of g nodes all k node addresses is in
    let chunks = dir.chunks in
    let size = chunks.size in
    let bytes = block_bytes_low g node n (sizes g tests) low in
    let block = block_is g chunks.count n tests (omega arith) in
    let exact = block.whole in
    let some = never_hole g nodes all k node addresses entries n is dir low in
    let own = take (fragments_of g (length node.bytes) n * g.fsize) (drop (address_at addresses 0 n * g.fsize) image) in
    let m = in_block g chunks.count n in
    let count : bytes_in_block g inode n ≡ 512 * m = ap (λ (s : ℕ). min g.bsize (s - n * g.bsize)) (slots.size ∙ size) ∙ sym exact in
    let long : length (block_bytes g node.bytes n) ≡ min g.bsize (length node.bytes - n * g.bsize) =
    length-take g.bsize (drop (n * g.bsize) node.bytes) ∙ ap (λ (r : ℕ). min g.bsize r) (length-drop (n * g.bsize) node.bytes) in
    let same : 512 * m ≡ length (block_bytes g node.bytes n) = exact ∙ ap (λ (s : ℕ). min g.bsize (s - n * g.bsize)) (sym size) ∙ sym long in
    let read : take (512 * m) own ≡ block_bytes g node.bytes n = part_by g nodes all k node addresses n (512 * m) false is low some same in
    let shown : (block_of g inode n v).value ≡ Ok (Some own) =
    block_read g nodes all k node addresses inode n is slots low dir.small ∙ ap (λ (none : Bool). Ok (if none then None else Some own)) some in
    let quotient : bytes_in_block g inode n / 512 ≡ m = ap (λ (c : ℕ). c / 512) count ∙ (let z : 512 * m / 512 ≡ m = omega arith in z) in
    ok_then (block_of g inode n) _ v (Some own) shown
    ∙ ok_then (known (ok_or (Some own) (Bad Hole))) _ v own refl
    ∙ ap (λ (c : ℕ). Ok (chunks_in c own)) quotient
    ∙ ap Ok (sym (chunks_take m (512 * m) own (let r : 512 * m ≤ 512 * m = omega arith in r)) ∙ ap (chunks_in m) read
    ∙ chunks_take m g.bsize (drop (n * g.bsize) node.bytes) (omega (arith, exact)))

-- ---- the entries

entries_front : (g : Geometry) (nodes : List Node) (all : AllPlaced) (k : ℕ) (node : Node) (addresses : Addresses) (inode : Inode) (entries : List DirEntry) (n : ℕ) → FileOf g nodes all k node addresses
    → SlotsLead g node addresses inode → (dir : IsDirectory g node entries) → n ≤ blocks_of g node
    → (entries_before g inode n (blocks_in g.fsize g.size (volume_bytes g nodes all))).value
    ≡ Ok (flat_map (found_in g.endian) (chunks_in (before_block g dir.chunks.count n) node.bytes))
unfolding entries_before
entries_front g nodes all k node addresses inode entries zero is slots dir low =
    ap (λ (c : ℕ). Ok (flat_map (found_in g.endian) (chunks_in c node.bytes))) (let z : 0 ≡ before_block g dir.chunks.count 0 = omega arith in z)
entries_front g nodes all k node addresses inode entries (suc n) is slots dir low =
    let v = blocks_in g.fsize g.size (volume_bytes g nodes all) in
    let tests = tests_of g nodes all k node addresses is in
    let chunks = dir.chunks in
    let size = chunks.size in
    let bytes = block_bytes_low g node n (sizes g tests) (omega arith) in
    let block = block_is g chunks.count n tests (omega arith) in
    let d = before_block g chunks.count n in
    let m = in_block g chunks.count n in
    let front = flat_map (found_in g.endian) (chunks_in d node.bytes) in
    let own = chunks_in m (drop (n * g.bsize) node.bytes) in
    let more : chunks_in (before_block g chunks.count (suc n)) node.bytes ≡ chunks_in d node.bytes ++ own =
    ap (λ (c : ℕ). chunks_in c node.bytes) block.next ∙ chunks_split d m node.bytes ∙ ap (λ (p : ℕ). chunks_in d node.bytes ++ chunks_in m (drop p node.bytes)) block.place in
    ok_then (entries_before g inode n) _ v front (entries_front g nodes all k node addresses inode entries n is slots dir (omega arith))
    ∙ ok_then (chunks_of g inode n) _ v own (chunks_read g nodes all k node addresses inode entries n is slots dir (omega arith))
    ∙ ok_then (known (entries_through g.endian own)) _ v (flat_map (found_in g.endian) own) (through_whole g.endian own (block_whole g node entries n dir tests bytes))
    ∙ ap Ok (sym (flat_map-append (found_in g.endian) (chunks_in d node.bytes) own) ∙ ap (flat_map (found_in g.endian)) (sym more))

pub no_refusal : (inode : Inode) (count : ℕ) → is_directory (kind_of inode.mode) ≡ true → inode.size < 2 ^ 32 → inode.size ≡ 512 * count → directory_refusal inode ≡ None
unfolding directory_refusal
no_refusal inode count directory small whole =
    let few : nat_le (2 ^ 32) inode.size ≡ false = grind (arith, nat_tests) in
    let chunks : (inode.size % 512 == 0) ≡ true = eq-eqb (inode.size % 512) 0 (omega arith) in
    rw (directory, few, chunks) refl

pub entries_read : (g : Geometry) (nodes : List Node) (all : AllPlaced) (k : ℕ) (node : Node) (addresses : Addresses) (inode : Inode) (entries : List DirEntry) → FileOf g nodes all k node addresses
    → SlotsLead g node addresses inode → (dir : IsDirectory g node entries) → is_directory (kind_of inode.mode) ≡ true
    → (entries_of g inode (blocks_in g.fsize g.size (volume_bytes g nodes all))).value ≡ Ok entries
unfolding entries_of
entries_read g nodes all k node addresses inode entries is slots dir kind =
    let v = blocks_in g.fsize g.size (volume_bytes g nodes all) in
    let tests = tests_of g nodes all k node addresses is in
    let chunks = dir.chunks in
    let size = chunks.size in
    let own = sizes g tests in
    let least = own.least in
    let block = tests.bsize in
    let unit = block_unit g.bsize (block.0) in
    let small = dir.small in
    let same = slots.size in
    let blocks : block_count g inode ≡ blocks_of g node = ap (λ (s : ℕ). div_ceil s g.bsize) same ∙ sym (blocks_outside g node dir.outside) in
    let round = div_ceil_times (length node.bytes) g.bsize (omega arith) in
    let most : length node.bytes ≤ blocks_of g node * g.bsize = rw (blocks_outside g node dir.outside) (round.0) in
    let turn : blocks_of g node * g.bsize ≡ 512 * (blocks_of g node * (g.bsize / 512)) =
    ap (λ (b : ℕ). blocks_of g node * b) unit ∙ (let z : blocks_of g node * (512 * (g.bsize / 512)) ≡ 512 * (blocks_of g node * (g.bsize / 512)) = grind arith in z) in
    let last : before_block g chunks.count (blocks_of g node) ≡ chunks.count = omega arith in
    ap (λ refusal. (unless_refused refusal (entries_before g inode (block_count g inode)) v).value) (no_refusal inode chunks.count kind (rw same small) (same ∙ size))
    ∙ ap (λ (n : ℕ). (entries_before g inode n v).value) blocks
    ∙ entries_front g nodes all k node addresses inode entries (blocks_of g node) is slots dir (let r : blocks_of g node ≤ blocks_of g node = omega arith in r)
    ∙ ap (λ (c : ℕ). Ok (flat_map (found_in g.endian) (chunks_in c node.bytes))) last
    ∙ ap Ok chunks.are
