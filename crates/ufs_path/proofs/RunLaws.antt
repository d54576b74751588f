-- The chunks of file blocks: by the address of a file block, and what is known of them.
use Rattle.std.proofs.Common.{◌≡◌, ◌≢◌, ◌∙◌, ◌/◌, ◌+◌, ◌-◌, ◌≤◌, ◌⊎◌, inl, inr, ℕ, zero, suc, true, false, List, [], ◌++◌, Option, Some, None, Result, Ok, Err, refl, sym, ap, subst, arith}
use Rattle.std.specs.Prelude.{IfSome}
use Rattle.std.specs.Option.{is_some, ok_or}
use Rattle.std.specs.Result.{is_ok}
use Rattle.std.proofs.lemmas.Bool.{cases_eq}
use Rattle.std.specs.List.{Contains}
use Rattle.std.proofs.lemmas.List.{append-nil}
use Rattle.ufs_model.specs.Blocks.{Reading, Volume, area_of, bind, known}
use Rattle.ufs_model.specs.Chunks.{DirEntry}
use Rattle.ufs_model.specs.Paths.{block_of, bytes_at, bytes_in_block, chunks_in, chunks_of, entries_before, entries_through}
use Rattle.ufs_model.specs.Pointers.{file_block_of}
use Rattle.ufs_model.specs.Readings.{and_then, on_ok}
use Rattle.ufs_model.specs.declared.geometries.Geometry.{Geometry}
use Rattle.ufs_model.specs.declared.inodes.Inode.{Inode}
use Rattle.ufs_model.specs.declared.pointers.Address.{Address}
use Rattle.ufs_model.specs.declared.pointers.Address.TheVariants.{Hole, Wild, At}
use Rattle.ufs_model.specs.declared.reads.BadRead.TheVariants.{Hole as BadHole}
use Rattle.ufs_model.specs.declared.reads.PathRefusal.{PathRefusal}
use Rattle.ufs_model.specs.declared.reads.PathRefusal.TheVariants.{Bad}
use Rattle.ufs_pointer.specs.Fetches.{IsNeeded}
use Rattle.ufs_path.proofs.EntryLaws.{entry_fronts}
use Rattle.ufs_path.proofs.NeedLaws.{needs_front}
use Rattle.ufs_path.proofs.ReadsLaws.{then_is}
use Rattle.ufs_path.proofs.PartLaws.{joined, value_both}
use Rattle.ufs_path.specs.Parents.{AreKnown, IsBlockRead, IsKnown, known_of, run_entries, sound_of}
use Rattle.ufs_path.specs.Walks.{block_entries}
use Rattle.ufs_path.specs.declared.chunk_runs.ChunkRun.{ChunkRun}
use Rattle.ufs_path.specs.declared.chunk_runs.Judged.{Judged}
use Rattle.ufs_path.specs.declared.chunk_runs.Judged.TheVariants.{Refused, Sound, Entered}

-- ---- by the address of a file block

abbrev through_at : Geometry → Inode → ℕ → Volume → Address → Result (List DirEntry) PathRefusal
through_at g inode n v x =
    (on_ok ((on_ok ((bytes_at g x v).value) (λ block. and_then (known (ok_or block (Bad BadHole))) (λ bytes. known (Ok (chunks_in (bytes_in_block g inode n / 512) bytes)))) v).value)
    (λ chunks. known (entries_through g.endian chunks)) v).value

entries_by : (g : Geometry) (inode : Inode) (n : ℕ) (v : Volume) → (block_entries g inode n v).value ≡ through_at g inode n v ((file_block_of g inode n v).value)
unfolding block_entries chunks_of block_of and_then bind
entries_by g inode n v = refl

at_run : (g : Geometry) (inode : Inode) (n : ℕ) (v : Volume) (a k : ℕ)
    → through_at g inode n v (At a k) ≡ entries_through g.endian (chunks_in (bytes_in_block g inode n / 512) ((area_of g.fsize a k v).value))
unfolding bytes_at and_then bind
at_run g inode n v a k = refl

at_hole : (g : Geometry) (inode : Inode) (n : ℕ) (v : Volume) → is_ok (through_at g inode n v Hole) ≡ false
unfolding bytes_at and_then bind
at_hole g inode n v = refl

at_wild : (g : Geometry) (inode : Inode) (n : ℕ) (v : Volume) → is_ok (through_at g inode n v Wild) ≡ false
unfolding bytes_at and_then bind
at_wild g inode n v = refl

pub run_found : (g : Geometry) (inode : Inode) (n : ℕ) (v : Volume) (a k c : ℕ) → At a k ≡ (file_block_of g inode n v).value → c ≡ bytes_in_block g inode n / 512
    → (block_entries g inode n v).value ≡ run_entries g v (record { start = a; fragments = k; chunks = c })
run_found g inode n v a k c at chunks =
    entries_by g inode n v ∙ ap (through_at g inode n v) (sym at) ∙ at_run g inode n v a k
    ∙ ap (λ (m : ℕ). entries_through g.endian (chunks_in m ((area_of g.fsize a k v).value))) (sym chunks)

pub hole_found : (g : Geometry) (inode : Inode) (n : ℕ) (v : Volume) → Hole ≡ (file_block_of g inode n v).value → is_ok ((block_entries g inode n v).value) ≡ false
hole_found g inode n v at = ap (λ r. is_ok r) (entries_by g inode n v ∙ ap (through_at g inode n v) (sym at)) ∙ at_hole g inode n v

pub wild_found : (g : Geometry) (inode : Inode) (n : ℕ) (v : Volume) → Wild ≡ (file_block_of g inode n v).value → is_ok ((block_entries g inode n v).value) ≡ false
wild_found g inode n v at = ap (λ r. is_ok r) (entries_by g inode n v ∙ ap (through_at g inode n v) (sym at)) ∙ at_wild g inode n v

quiet_at : {A B R : Type 0} (x : Result A R) (f : A → Reading (Result B R)) (v : Volume) → ((a : A) → (f a v).needs ≡ []) → (on_ok x f v).needs ≡ []
quiet_at (Ok a) f v quiet = quiet a
quiet_at (Err e) f v quiet = refl

-- what follows needs nothing more
needs_quiet : {A B R : Type 0} (d : Reading (Result A R)) (f : A → Reading (Result B R)) (v : Volume) (b : ℕ) → ((a : A) → (f a v).needs ≡ []) → IsNeeded (and_then d f) v b → IsNeeded d v b
needs_quiet d f v b quiet h =
    subst (λ xs. Contains xs b) (ap (λ c. c.needs) (then_is d f v) ∙ ap (λ ys. (d v).needs ++ ys) (quiet_at ((d v).value) f v quiet) ∙ append-nil ((d v).needs)) h

quiet_chunks : (count : ℕ) (v : Volume) (block : Option (List ℕ))
    → (and_then (known (ok_or block (Bad BadHole))) (λ bytes. known {A = Result (List (List ℕ)) PathRefusal} (Ok (chunks_in count bytes))) v).needs ≡ []
unfolding and_then bind
quiet_chunks count v None = refl
quiet_chunks count v (Some bytes) = refl

chunks_needed : (g : Geometry) (inode : Inode) (n : ℕ) (v : Volume) (b : ℕ) → IsNeeded (chunks_of g inode n) v b → IsBlockRead g inode n v b
unfolding chunks_of
chunks_needed g inode n v b h = needs_quiet (block_of g inode n) _ v b (quiet_chunks (bytes_in_block g inode n / 512) v) h

-- what is needed for the entries of a file block is needed to read it
pub listed_needed : (g : Geometry) (inode : Inode) (n : ℕ) (v : Volume) (b : ℕ) → IsNeeded (block_entries g inode n) v b → IsBlockRead g inode n v b
unfolding block_entries
listed_needed g inode n v b h = chunks_needed g inode n v b (needs_quiet (chunks_of g inode n) _ v b (λ chunks. refl) h)

-- so is what is needed for its address
pub address_needed : (g : Geometry) (inode : Inode) (n : ℕ) (v : Volume) (b : ℕ) → IsNeeded (file_block_of g inode n) v b → IsBlockRead g inode n v b
unfolding block_of
address_needed g inode n v b h = needs_front (file_block_of g inode n) (bytes_at g) v b h

-- ---- what is known

cases_run : (x y : ChunkRun) → (x ≡ y) ⊎ (x ≢ y)
cases_run x y = elim (cases_eq x.start y.start) [
  | inr apart ↦ inr (λ e. apart (ap (λ (r : ChunkRun). r.start) e))
  | inl a ↦ elim (cases_eq x.fragments y.fragments) [
    | inr apart ↦ inr (λ e. apart (ap (λ (r : ChunkRun). r.fragments) e))
    | inl b ↦ elim (cases_eq x.chunks y.chunks) [
      | inr apart ↦ inr (λ e. apart (ap (λ (r : ChunkRun). r.chunks) e))
      | inl c ↦ inl (λ i. record { start = a i; fragments = b i; chunks = c i })
    ]
  ]
]

-- more is known of one run
pub known_more : (g : Geometry) (v : Volume) (kept : ℕ → Option ℕ) (old new : List (ChunkRun × Judged)) (run : ChunkRun) (judged : Judged) → known_of new run ≡ Some judged
    → ((other : ChunkRun) → (other ≡ run → ⊥) → known_of new other ≡ known_of old other) → IsKnown g v kept run judged → AreKnown g v kept old → AreKnown g v kept new
known_more g v kept old new run judged here others is known other = elim (cases_run other run) [
  | inl same ↦ subst (λ (r : ChunkRun). IfSome (known_of new r) (IsKnown g v kept r)) (sym same) (subst (λ o. IfSome o (IsKnown g v kept run)) (sym here) is)
  | inr apart ↦ subst (λ o. IfSome o (IsKnown g v kept other)) (sym (others other apart)) (known other)
]

grows_one : (g : Geometry) (v : Volume) (kept more : ℕ → Option ℕ) (run : ChunkRun) (judged : Judged) → ((n : ℕ) → is_some (kept n) ≡ true → is_some (more n) ≡ true)
    → IsKnown g v kept run judged → IsKnown g v more run judged
grows_one g v kept more run Refused grows is = is
grows_one g v kept more run Sound grows is = is
grows_one g v kept more run Entered grows is = (is.0, is.1, λ n named. grows n (is.2 n named))

grows_some : (g : Geometry) (v : Volume) (kept more : ℕ → Option ℕ) (run : ChunkRun) (o : Option Judged) → ((n : ℕ) → is_some (kept n) ≡ true → is_some (more n) ≡ true)
    → IfSome o (IsKnown g v kept run) → IfSome o (IsKnown g v more run)
grows_some g v kept more run None grows is = tt
grows_some g v kept more run (Some judged) grows is = grows_one g v kept more run judged grows is

-- more inodes are kept
pub known_grows : (g : Geometry) (v : Volume) (kept more : ℕ → Option ℕ) (runs : List (ChunkRun × Judged)) → ((n : ℕ) → is_some (kept n) ≡ true → is_some (more n) ≡ true)
    → AreKnown g v kept runs → AreKnown g v more runs
known_grows g v kept more runs grows known run = grows_some g v kept more run (known_of runs run) grows (known run)

-- what is known says whether a run is sound
pub sound_known : (g : Geometry) (v : Volume) (kept : ℕ → Option ℕ) (run : ChunkRun) (judged : Judged) → IsKnown g v kept run judged → sound_of judged ≡ is_ok (run_entries g v run)
sound_known g v kept run Refused is = sym is
sound_known g v kept run Sound is = sym is
sound_known g v kept run Entered is = sym (ap (λ r. is_ok r) (is.1))

pub known_at : (g : Geometry) (v : Volume) (kept : ℕ → Option ℕ) (runs : List (ChunkRun × Judged)) (run : ChunkRun) (judged : Judged) → known_of runs run ≡ Some judged → AreKnown g v kept runs → IsKnown g v kept run judged
known_at g v kept runs run judged here known = subst (λ o. IfSome o (IsKnown g v kept run)) here (known run)

-- ---- file blocks one after another

joined_sound : {A R : Type 0} (x y : Result (List A) R) → is_ok x ≡ true → is_ok (joined x y) ≡ is_ok y
joined_sound (Ok x) (Ok y) is = refl
joined_sound (Ok x) (Err e) is = refl
joined_sound (Err e) y is = let no : false ≡ true = is in cc

joined_bad : {A R : Type 0} (x y : Result (List A) R) → is_ok x ≡ false → is_ok (joined x y) ≡ false
joined_bad (Ok x) y is = let no : true ≡ false = is in cc
joined_bad (Err e) y is = refl

-- what the first file blocks say, by one less and the last
before_next : (g : Geometry) (inode : Inode) (k : ℕ) (v : Volume) → (entries_before g inode (suc k) v).value ≡ joined ((entries_before g inode k v).value) ((block_entries g inode k v).value)
before_next g inode k v = sym (ap (λ c. c.value) ((entry_fronts g inode).more k v)) ∙ value_both (entries_before g inode k) (block_entries g inode k) v

pub before_first : (g : Geometry) (inode : Inode) (v : Volume) → (entries_before g inode 0 v).value ≡ Ok []
before_first g inode v = sym (ap (λ c. c.value) ((entry_fronts g inode).none v))

-- one file block more, where those before can be read
pub before_more : (g : Geometry) (inode : Inode) (k n : ℕ) (v : Volume) → n ≡ k + 1 → is_ok ((entries_before g inode k v).value) ≡ true
    → is_ok ((entries_before g inode n v).value) ≡ is_ok ((block_entries g inode k v).value)
before_more g inode k n v one is =
    let e : n ≡ suc k = omega (arith, one) in
    ap (λ (m : ℕ). is_ok ((entries_before g inode m v).value)) e
    ∙ ap (λ r. is_ok r) (before_next g inode k v) ∙ joined_sound ((entries_before g inode k v).value) ((block_entries g inode k v).value) is

bad_on : (g : Geometry) (inode : Inode) (k d : ℕ) (v : Volume) → is_ok ((entries_before g inode k v).value) ≡ false → is_ok ((entries_before g inode (d + k) v).value) ≡ false
bad_on g inode k zero v bad = ap (λ (m : ℕ). is_ok ((entries_before g inode m v).value)) (let e : 0 + k ≡ k = omega arith in e) ∙ bad
bad_on g inode k (suc d) v bad =
    ap (λ (m : ℕ). is_ok ((entries_before g inode m v).value)) (let e : suc d + k ≡ suc (d + k) = omega arith in e)
    ∙ ap (λ r. is_ok r) (before_next g inode (d + k) v)
    ∙ joined_bad ((entries_before g inode (d + k) v).value) ((block_entries g inode (d + k) v).value) (bad_on g inode k d v bad)

-- where those of a front can't be read, those of the whole can't
pub bad_whole : (g : Geometry) (inode : Inode) (k count : ℕ) (v : Volume) → k ≤ count → is_ok ((entries_before g inode k v).value) ≡ false → is_ok ((entries_before g inode count v).value) ≡ false
bad_whole g inode k count v within bad =
    ap (λ (m : ℕ). is_ok ((entries_before g inode m v).value)) (let e : count ≡ (count - k) + k = omega (arith, within) in e) ∙ bad_on g inode k (count - k) v bad

-- the entries of a front and those of the next file block
pub record Splits (g : Geometry) (inode : Inode) (k : ℕ) (v : Volume) (entries : List DirEntry) : Type 0 where
  pub front : List DirEntry
  pub last : List DirEntry
  pub front_is : (entries_before g inode k v).value ≡ Ok front
  pub last_is : (block_entries g inode k v).value ≡ Ok last
  pub whole : entries ≡ front ++ last

split_by : {A R : Type 0} (x y : Result (List A) R) (items : List A) → joined x y ≡ Ok items → (a : List A) × (b : List A) × (x ≡ Ok a) × (y ≡ Ok b) × (items ≡ a ++ b)
split_by (Ok x) (Ok y) items e = (x, y, refl, refl, (let same : items ≡ x ++ y = cc in same))
split_by (Ok x) (Err r) items e = cc
split_by (Err r) y items e = cc

pub splits : (g : Geometry) (inode : Inode) (k n : ℕ) (v : Volume) (entries : List DirEntry) → n ≡ k + 1 → (entries_before g inode n v).value ≡ Ok entries → Splits g inode k v entries
splits g inode k n v entries one is =
    let e : n ≡ suc k = omega (arith, one) in
    let parts = split_by ((entries_before g inode k v).value) ((block_entries g inode k v).value) entries
    (sym (before_next g inode k v) ∙ sym (ap (λ (m : ℕ). (entries_before g inode m v).value) e) ∙ is) in
    record { front = parts.0; last = parts.1; front_is = parts.2; last_is = parts.3; whole = parts.4 }
