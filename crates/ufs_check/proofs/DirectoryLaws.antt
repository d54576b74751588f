-- Looking at the file blocks of a directory, one after the other.
use Rattle.std.proofs.Common.{◌≡◌, ◌∙◌, ℕ, zero, suc, ◌+◌, ◌-◌, ◌/◌, ◌<◌, ◌≤◌, Bool, true, false, List, [], ◌∷◌, ◌++◌, Option, Some, None, Result, Ok, Err, refl, sym, ap, subst, add-one, arith}
use Rattle.std.specs.Prelude.{◌||◌, ◌&&◌, map}
use Rattle.std.specs.List.{list_any}
use Rattle.std.specs.Option.{is_some, ok_or}
use Rattle.std.specs.Result.{is_ok}
use Rattle.std.proofs.lemmas.List.{map-append}
use Rattle.ufs_model.specs.Blocks.{Reading, Volume, bind, known}
use Rattle.ufs_model.specs.Chunks.{DirEntry, chunk_in, entries_in, fault_in}
use Rattle.ufs_model.specs.Paths.{block_of, bytes_in_block, chunks_in, chunks_of, entries_before, entries_then, entries_through}
use Rattle.ufs_model.specs.Readings.{and_then, on_ok}
use Rattle.ufs_model.specs.Superblocks.{unless_bad}
use Rattle.ufs_model.specs.declared.chunks.BadEntry.{BadEntry}
use Rattle.ufs_model.specs.declared.geometries.Geometry.{Geometry}
use Rattle.ufs_model.specs.declared.inodes.Inode.{Inode}
use Rattle.ufs_model.specs.declared.numbers.Endian.{Endian}
use Rattle.ufs_model.specs.declared.reads.BadRead.TheVariants.{Hole as BadHole, Chunk as BadChunk}
use Rattle.ufs_model.specs.declared.reads.PathRefusal.{PathRefusal}
use Rattle.ufs_model.specs.declared.reads.PathRefusal.TheVariants.{Bad}
use Rattle.ufs_check.specs.Directories.{AreAlike, SaysEntries, ScannedBelow, ScansBlock, chunks_said, entries_said, hole_at, hole_said, refused_at, refused_said}
use Rattle.ufs_check.specs.Entries.{entries_all, is_refused}
use Rattle.ufs_check.specs.OwnedEntries.{Sees, seen_all, seen_in}
use Rattle.ufs_check.specs.declared.directories.Scan.{Scan}
use Rattle.ufs_check.specs.declared.owned_entries.OwnedEntry.{OwnedEntry}
use Rattle.ufs_check.proofs.ChunkLaws.{not_some, or_first}

-- ---- the entries of chunks

chunk_case : (endian : Endian) (chunk : List ℕ) (fault : Option BadEntry) → fault_in endian 0 chunk ≡ fault → chunk_in endian chunk ≡ unless_bad fault (entries_in endian 0 chunk)
unfolding chunk_in
chunk_case endian chunk fault is = rw is refl

pub through_whole : (endian : Endian) (chunks : List (List ℕ)) → list_any (is_refused endian) chunks ≡ false → entries_through endian chunks ≡ Ok (entries_all endian chunks)
through_whole endian [] none = refl
through_whole endian (chunk ∷ chunks) none =
    let parts = or_first (is_refused endian chunk) (list_any (is_refused endian) chunks) none in
    rw (chunk_case endian chunk None (not_some (fault_in endian 0 chunk) parts.0), through_whole endian chunks parts.1) refl

refused_then : (endian : Endian) (fault : Option BadEntry) (chunk : List ℕ) (chunks : List (List ℕ)) → fault_in endian 0 chunk ≡ fault → (is_some fault || list_any (is_refused endian) chunks) ≡ true
    → (list_any (is_refused endian) chunks ≡ true → entries_through endian chunks ≡ Err (Bad BadChunk)) → entries_then (chunk_in endian chunk) (entries_through endian chunks) ≡ Err (Bad BadChunk)
refused_then endian (Some bad) chunk chunks is some rest = rw (chunk_case endian chunk (Some bad) is) refl
refused_then endian None chunk chunks is some rest = rw (chunk_case endian chunk None is, rest some) refl

pub through_refused : (endian : Endian) (chunks : List (List ℕ)) → list_any (is_refused endian) chunks ≡ true → entries_through endian chunks ≡ Err (Bad BadChunk)
through_refused endian [] some = let no : false ≡ true = some in cc
through_refused endian (chunk ∷ chunks) some = refused_then endian (fault_in endian 0 chunk) chunk chunks refl some (through_refused endian chunks)

-- ---- the chunks of a file block

and_none : (a : Bool) → (a && false) ≡ false
and_none true = refl
and_none false = refl

and_all : (a : Bool) → (a && true) ≡ a
and_all true = refl
and_all false = refl

or_end : (a : Bool) → (a || false) ≡ a
or_end true = refl
or_end false = refl

or_all : (a : Bool) → (a || true) ≡ true
or_all true = refl
or_all false = refl

scans_hole : (g : Geometry) (v : Volume) (k : ℕ) (block : Result (Option (List ℕ)) PathRefusal) (old new : Scan) → Ok None ≡ block
    → new.hole ≡ true → new.chunk ≡ old.chunk → new.read ≡ false → ScansBlock g v k block old new
scans_hole g v k block old new is hole chunk read = subst (λ block. ScansBlock g v k block old new) is (record {
  hole = hole ∙ sym (or_all old.hole);
  chunk = chunk ∙ sym (or_end old.chunk);
  read = read ∙ sym (and_none old.read);
  entries = λ was entries said. let no : Err (Bad BadHole) ≡ Ok entries = said in cc;
})

scans_wild : (g : Geometry) (v : Volume) (k : ℕ) (refusal : PathRefusal) (block : Result (Option (List ℕ)) PathRefusal) (old new : Scan) → Err refusal ≡ block
    → new.hole ≡ old.hole → new.chunk ≡ old.chunk → new.read ≡ false → ScansBlock g v k block old new
scans_wild g v k refusal block old new is hole chunk read = subst (λ block. ScansBlock g v k block old new) is (record {
  hole = hole ∙ sym (or_end old.hole);
  chunk = chunk ∙ sym (or_end old.chunk);
  read = read ∙ sym (and_none old.read);
  entries = λ was entries said. let no : Err refusal ≡ Ok entries = said in cc;
})

pub data_refused : (g : Geometry) (v : Volume) (k : ℕ) (bytes : List ℕ) (old new : Scan) → list_any (is_refused g.endian) (chunks_in k bytes) ≡ true
    → new.hole ≡ old.hole → new.chunk ≡ true → new.read ≡ false → ScansBlock g v k (Ok (Some bytes)) old new
data_refused g v k bytes old new some hole chunk read = record {
  hole = hole ∙ sym (or_end old.hole);
  chunk = rw some (chunk ∙ sym (or_all old.chunk));
  read = rw (through_refused g.endian (chunks_in k bytes) some) (read ∙ sym (and_none old.read));
  entries = λ was entries is. let no : Err (Bad BadChunk) ≡ Ok entries = sym (through_refused g.endian (chunks_in k bytes) some) ∙ is in cc;
}

pub data_passed : (g : Geometry) (v : Volume) (k : ℕ) (bytes : List ℕ) (scan : Scan) → list_any (is_refused g.endian) (chunks_in k bytes) ≡ false → scan.read ≡ false
    → ScansBlock g v k (Ok (Some bytes)) scan scan
data_passed g v k bytes scan none unread = record {
  hole = sym (or_end scan.hole);
  chunk = rw none (sym (or_end scan.chunk));
  read = rw unread refl;
  entries = λ was entries is. let no : false ≡ true = sym unread ∙ was in cc;
}

pub data_whole : (g : Geometry) (v : Volume) (k : ℕ) (bytes : List ℕ) (old new : Scan) → list_any (is_refused g.endian) (chunks_in k bytes) ≡ false
    → new.hole ≡ old.hole → new.chunk ≡ old.chunk → new.read ≡ old.read → Sees g v (entries_all g.endian (chunks_in k bytes)) old.entries.items new.entries.items
    → ScansBlock g v k (Ok (Some bytes)) old new
data_whole g v k bytes old new none hole chunk read sees = record {
  hole = hole ∙ sym (or_end old.hole);
  chunk = rw none (chunk ∙ sym (or_end old.chunk));
  read = rw (through_whole g.endian (chunks_in k bytes) none) (read ∙ sym (and_all old.read));
  entries = λ was entries is.
      let both : Ok (entries_all g.endian (chunks_in k bytes)) ≡ Ok entries = sym (through_whole g.endian (chunks_in k bytes) none) ∙ is in
      let same : entries_all g.endian (chunks_in k bytes) ≡ entries = cc in
      subst (λ es. Sees g v es old.entries.items new.entries.items) same sees;
}

-- ---- the entries of one more file block

abbrev pub joined : Result (List DirEntry) PathRefusal → Result (List DirEntry) PathRefusal → Result (List DirEntry) PathRefusal
joined (Err refusal) further = Err refusal
joined (Ok front) (Ok entries) = Ok (front ++ entries)
joined (Ok front) (Err refusal) = Err refusal

last_part : (v : Volume) (front : List DirEntry) (entries : Result (List DirEntry) PathRefusal) → (on_ok entries (λ entries. known (Ok (front ++ entries))) v).value ≡ joined (Ok front) entries
last_part v front (Ok entries) = refl
last_part v front (Err refusal) = refl

chunk_part : (endian : Endian) (v : Volume) (front : List DirEntry) (chunks : Result (List (List ℕ)) PathRefusal)
    → (on_ok chunks (λ chunks. and_then (known (entries_through endian chunks)) (λ entries. known (Ok (front ++ entries)))) v).value ≡ joined (Ok front) (entries_said endian chunks)
unfolding and_then bind
chunk_part endian v front (Ok chunks) = last_part v front (entries_through endian chunks)
chunk_part endian v front (Err refusal) = refl

front_part : (endian : Endian) (v : Volume) (front : Result (List DirEntry) PathRefusal) (chunks : Reading (Result (List (List ℕ)) PathRefusal))
    → (on_ok front (λ front. and_then chunks (λ chunks. and_then (known (entries_through endian chunks)) (λ entries. known (Ok (front ++ entries))))) v).value ≡ joined front (entries_said endian ((chunks v).value))
unfolding and_then bind
front_part endian v (Ok front) chunks = chunk_part endian v front ((chunks v).value)
front_part endian v (Err refusal) chunks = refl

said_part : (v : Volume) (k : ℕ) (block : Result (Option (List ℕ)) PathRefusal)
    → (on_ok block (λ block. and_then (known (ok_or block (Bad BadHole))) (λ bytes. known (Ok (chunks_in k bytes)))) v).value ≡ chunks_said k block
unfolding and_then bind
said_part v k (Ok None) = refl
said_part v k (Ok (Some bytes)) = refl
said_part v k (Err refusal) = refl

pub chunks_value : (g : Geometry) (inode : Inode) (n : ℕ) (v : Volume) → (chunks_of g inode n v).value ≡ chunks_said (bytes_in_block g inode n / 512) ((block_of g inode n v).value)
unfolding chunks_of and_then bind
chunks_value g inode n v = said_part v (bytes_in_block g inode n / 512) ((block_of g inode n v).value)

pub before_next : (g : Geometry) (inode : Inode) (n : ℕ) (v : Volume)
    → (entries_before g inode (suc n) v).value ≡ joined ((entries_before g inode n v).value) (entries_said g.endian ((chunks_of g inode n v).value))
unfolding entries_before and_then bind
before_next g inode n v = front_part g.endian v ((entries_before g inode n v).value) (chunks_of g inode n)

-- ---- what is found in one more file block

says_joined : (g : Geometry) (v : Volume) (front entries : Result (List DirEntry) PathRefusal) (old_read new_read : Bool) (old new : List OwnedEntry)
    → SaysEntries g v old_read old front → new_read ≡ (old_read && is_ok entries) → (old_read ≡ true → (es : List DirEntry) → entries ≡ Ok es → Sees g v es old new)
    → SaysEntries g v new_read new (joined front entries)
says_joined g v (Err refusal) entries old_read new_read old new says read sees = read ∙ ap (λ b. b && is_ok entries) says
says_joined g v (Ok front) (Err refusal) old_read new_read old new says read sees = read ∙ and_none old_read
says_joined g v (Ok front) (Ok es) old_read new_read old new says read sees = (
  read ∙ ap (λ b. b && true) says.0,
  sees says.0 es refl ∙ ap (λ x. x ++ map (seen_in g v) es) says.1 ∙ sym (map-append (seen_in g v) front es),
)

pub scanned_next : (g : Geometry) (inode : Inode) (v : Volume) (n : ℕ) (old new : Scan) → ScannedBelow g inode v n old
    → ScansBlock g v (bytes_in_block g inode n / 512) ((block_of g inode n v).value) old new → ScannedBelow g inode v (n + 1) new
unfolding hole_at refused_at
scanned_next g inode v n old new so_far one = rw add-one (record {
  hole = one.hole ∙ ap (λ b. b || hole_said ((block_of g inode n v).value)) so_far.hole;
  chunk = one.chunk ∙ ap (λ b. b || refused_said g.endian (chunks_said (bytes_in_block g inode n / 512) ((block_of g inode n v).value))) so_far.chunk;
  entries = subst (λ entries. SaysEntries g v new.read new.entries.items entries)
      (sym (before_next g inode n v ∙ ap (λ chunks. joined ((entries_before g inode n v).value) (entries_said g.endian chunks)) (chunks_value g inode n v)))
      (says_joined g v ((entries_before g inode n v).value) (entries_said g.endian (chunks_said (bytes_in_block g inode n / 512) ((block_of g inode n v).value)))
      old.read new.read old.entries.items new.entries.items so_far.entries one.read one.entries);
})

-- file block n adds this
abbrev pub Scans : Geometry → Inode → Volume → ℕ → Scan → Scan → Type 0
Scans g inode v n old new = ScansBlock g v (bytes_in_block g inode n / 512) ((block_of g inode n v).value) old new

-- file blocks in which nothing more is found
scanned_rest : (g : Geometry) (inode : Inode) (v : Volume) (n d : ℕ) (scan : Scan) → ((m : ℕ) → n ≤ m → m < n + d → Scans g inode v m scan scan)
    → ScannedBelow g inode v n scan → ScannedBelow g inode v (n + d) scan
scanned_rest g inode v n zero scan more so_far = let same : n ≡ n + 0 = omega arith in subst (λ m. ScannedBelow g inode v m scan) same so_far
scanned_rest g inode v n (suc d) scan more so_far =
    let before = scanned_rest g inode v n d scan (λ m low high. more m low (omega arith)) so_far in
    let same : n + d + 1 ≡ n + suc d = omega arith in
    subst (λ m. ScannedBelow g inode v m scan) same (scanned_next g inode v (n + d) scan scan before (more (n + d) (omega arith) (omega arith)))

-- a file block, and further ones in which nothing more is found
scanned_gap : (g : Geometry) (inode : Inode) (v : Volume) (n next : ℕ) (old new : Scan) → n < next → Scans g inode v n old new
    → ((m : ℕ) → n ≤ m → m < next → Scans g inode v m new new) → ScannedBelow g inode v n old → ScannedBelow g inode v next new
scanned_gap g inode v n next old new after one more so_far =
    let end : n + 1 + (next - (n + 1)) ≡ next = omega arith in
    subst (λ m. ScannedBelow g inode v m new) end
    (scanned_rest g inode v (n + 1) (next - (n + 1)) new (λ m low high. more m (omega arith) (omega arith)) (scanned_next g inode v n old new so_far one))

-- a hole, and all that reads the same
pub scanned_hole : (g : Geometry) (inode : Inode) (v : Volume) (n next : ℕ) (old new : Scan) → n < next → Ok None ≡ (block_of g inode n v).value → AreAlike g inode v n next
    → new.hole ≡ true → new.chunk ≡ old.chunk → new.read ≡ false → ScannedBelow g inode v n old → ScannedBelow g inode v next new
scanned_hole g inode v n next old new after here alike hole chunk read =
    scanned_gap g inode v n next old new after (scans_hole g v _ _ old new here hole chunk read)
    (λ m low high. scans_hole g v _ _ new new (here ∙ sym (alike m low high)) hole refl read)

-- the same of a pointer that is wild
pub scanned_wild : (g : Geometry) (inode : Inode) (v : Volume) (n next : ℕ) (refusal : PathRefusal) (old new : Scan) → n < next → Err refusal ≡ (block_of g inode n v).value
    → AreAlike g inode v n next → new.hole ≡ old.hole → new.chunk ≡ old.chunk → new.read ≡ false → ScannedBelow g inode v n old → ScannedBelow g inode v next new
scanned_wild g inode v n next refusal old new after here alike hole chunk read =
    scanned_gap g inode v n next old new after (scans_wild g v _ refusal _ old new here hole chunk read)
    (λ m low high. scans_wild g v _ refusal _ new new (here ∙ sym (alike m low high)) refl refl read)

-- nothing is found in no file block
pub scanned_none : (g : Geometry) (inode : Inode) (v : Volume) (scan : Scan) → scan.hole ≡ false → scan.chunk ≡ false → scan.read ≡ true → scan.entries.items ≡ [] → ScannedBelow g inode v 0 scan
unfolding entries_before
scanned_none g inode v scan hole chunk read none = record { hole = hole; chunk = chunk; entries = (read, ap seen_all none) }
