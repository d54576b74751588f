-- Handing on entries, some after others.
use Rattle.std.proofs.Common.{◌≡◌, ◌∙◌, ℕ, suc, ◌+◌, ◌-◌, ◌*◌, ◌<◌, ◌≤◌, Bool, List, [], ◌∷◌, ◌++◌, Some, Ok, Err, drop, take, refl, sym, ap, subst, arith}
use Rattle.std.specs.Option.{option_map}
use Rattle.std.proofs.lemmas.List.{append-nil, append_assoc, length-append}
use Rattle.std.proofs.lemmas.List.Elements.{filter-append}
use Rattle.ufs_model.specs.Blocks.{Volume}
use Rattle.ufs_model.specs.Chunks.{DirEntry, entries_in, is_used_entry, used_entries}
use Rattle.ufs_model.specs.Listings.{Listed, listed_entries}
use Rattle.ufs_model.specs.Paths.{chunks_in, entries_before}
use Rattle.ufs_model.specs.Readings.{Grows, ReadsAs}
use Rattle.ufs_model.specs.declared.geometries.Geometry.{Geometry}
use Rattle.ufs_model.specs.declared.inodes.Inode.{Inode}
use Rattle.ufs_model.specs.declared.numbers.Endian.{Endian}
use Rattle.ufs_path.proofs.ChunkLaws.{chunks_end, chunks_next}
use Rattle.ufs_path.proofs.EntryLaws.{entry_fronts, lines_both, lines_fail, lines_fail_whole, lines_none}
use Rattle.ufs_path.proofs.PartLaws.{front_more}
use Rattle.ufs_path.proofs.ReadsLaws.{wider}
use Rattle.ufs_path.specs.Answers.{refusal_of}
use Rattle.ufs_path.specs.Walks.{AreHanded, StopsFailed, StopsUnread, block_entries, entries_among}
use Rattle.ufs_path.specs.declared.faults.LookFault.{LookFault}

-- the used of an entry, and of those after it
pub used_front : (entry : DirEntry) (entries further : List DirEntry) → entries ≡ entry ∷ further → used_entries entries ≡ used_entries (entry ∷ []) ++ used_entries further
used_front entry entries further e = ap used_entries e ∙ filter-append is_used_entry (entry ∷ []) further

-- the used entries of a chunk, and of those after it
pub among_next : (endian : Endian) (count i : ℕ) (block chunk : List ℕ) (whole done : List DirEntry) → i < count → chunk ≡ take 512 (drop (i * 512) block) → whole ≡ done ++ entries_among endian (chunks_in (count - i) (drop (i * 512) block))
    → whole ≡ done ++ (used_entries (entries_in endian 0 chunk) ++ entries_among endian (chunks_in (count - (i + 1)) (drop ((i + 1) * 512) block)))
among_next endian count i block chunk whole done low is e =
    e ∙ ap (λ xs. done ++ xs) (ap (entries_among endian) (chunks_next count i block low)
    ∙ ap (λ c. used_entries (entries_in endian 0 c) ++ entries_among endian (chunks_in (count - (i + 1)) (drop ((i + 1) * 512) block))) (sym is))

pub among_end : (endian : Endian) (count i : ℕ) (bytes : List ℕ) (whole done : List DirEntry) → count ≤ i → whole ≡ done ++ entries_among endian (chunks_in (count - i) bytes) → done ≡ whole
among_end endian count i bytes whole done past e = sym (e ∙ ap (λ chunks. done ++ entries_among endian chunks) (chunks_end count i bytes past) ∙ append-nil done)

-- nothing was handed on yet
pub handed_none : {S : Type 0} {took : S → List Listed → S → Type 0} {stands : Volume → Type 0} {tells : Type 0} {before after : ℕ → Bool} (g : Geometry) (s : S) → ((s : S) → took s [] s)
    → AreHanded took s s [] (λ entries. ReadsAs stands before tells after (listed_entries g 1 entries)) 0
handed_none g s nothing = record { lines = []; count = refl; taken = nothing s; read = lines_none g 1 }

-- other calls come after
pub handed_later : {S : Type 0} {took : S → List Listed → S → Type 0} {stands : Volume → Type 0} {tells told : Type 0} {before now after : ℕ → Bool} {entries : List DirEntry} {n : ℕ} {old new : S} (g : Geometry) → Grows now after → (told → tells)
    → AreHanded took old new entries (λ entries. ReadsAs stands before tells now (listed_entries g 1 entries)) n
    → AreHanded took old new entries (λ entries. ReadsAs stands before told after (listed_entries g 1 entries)) n
handed_later g further tell are = record {
  lines = are.lines;
  count = are.count;
  taken = are.taken;
  read = wider (Some (Ok are.lines)) (λ b h. h) further (λ v h. h) tell are.read;
}

-- entries, and then others
pub handed_then : {S : Type 0} {took : S → List Listed → S → Type 0} {stands still : Volume → Type 0} {tells told : Type 0} {before now after : ℕ → Bool} (g : Geometry) (xs ys : List DirEntry) (m n : ℕ) (old middle new : S)
    → ((a b c : S) (x y : List Listed) → took a x b → took b y c → took a (x ++ y) c)
    → Grows before now → Grows now after → ((v : Volume) → stands v → still v) → (told → tells)
    → AreHanded took old middle xs (λ entries. ReadsAs stands before tells now (listed_entries g 1 entries)) m
    → AreHanded took middle new ys (λ entries. ReadsAs still now told after (listed_entries g 1 entries)) n
    → AreHanded took old new (xs ++ ys) (λ entries. ReadsAs stands before told after (listed_entries g 1 entries)) (m + n)
handed_then g xs ys m n old middle new both grows further keeps tell one two = record {
  lines = one.lines ++ two.lines;
  count = let a = one.count in let b = two.count in let e = length-append one.lines two.lines in omega arith;
  taken = both old middle new one.lines two.lines one.taken two.taken;
  read = lines_both g 1 xs ys one.lines two.lines
      (wider (Some (Ok one.lines)) (λ b h. h) further (λ v h. h) tell one.read)
      (wider (Some (Ok two.lines)) grows (λ b h. h) keeps (λ h. h) two.read);
}

rows : (xs ys front rest zs : List DirEntry) → ys ≡ front ++ rest → xs ++ (ys ++ zs) ≡ (xs ++ front) ++ (rest ++ zs)
rows xs ys front rest zs e =
    ap (λ y. xs ++ (y ++ zs)) e ∙ ap (λ y. xs ++ y) (append_assoc front rest zs) ∙ sym (append_assoc xs front (rest ++ zs))

-- entries, and then others of which one isn't read
pub unread_then : {S : Type 0} {took : S → List Listed → S → Type 0} {stands still : Volume → Type 0} {tells told : Type 0} {before now after : ℕ → Bool} (g : Geometry) (xs ys zs whole : List DirEntry) (m n : ℕ) (fault : LookFault) (old middle new : S)
    → ((a b c : S) (x y : List Listed) → took a x b → took b y c → took a (x ++ y) c)
    → Grows before now → Grows now after → ((v : Volume) → stands v → still v) → (told → tells) → whole ≡ xs ++ (ys ++ zs)
    → AreHanded took old middle xs (λ entries. ReadsAs stands before tells now (listed_entries g 1 entries)) m
    → StopsUnread took middle new ys (λ entries. ReadsAs still now told after (listed_entries g 1 entries)) n fault
    → StopsUnread took old new whole (λ entries. ReadsAs stands before told after (listed_entries g 1 entries)) (m + n) fault
unread_then {stands = stands} {told = told} {before = before} {after = after} g xs ys zs whole m n fault old middle new both grows further keeps tell e one two = record {
  front = xs ++ two.front;
  rest = two.rest ++ zs;
  whole = e ∙ rows xs ys two.front two.rest zs two.whole;
  handed = handed_then g xs two.front m n old middle new both grows further keeps tell one two.handed;
  unread = subst (λ entries. ReadsAs stands before told after (listed_entries g 1 entries) (option_map Err (refusal_of fault))) (append_assoc xs ys zs ∙ sym e)
      (lines_fail_whole g 1 (xs ++ ys) zs (refusal_of fault) (λ b h. further b (grows b h))
      (lines_fail g 1 xs ys one.lines (refusal_of fault) (λ b h. further b (grows b h))
      (wider (Some (Ok one.lines)) (λ b h. h) further (λ v h. h) tell one.read)
      (wider (option_map Err (refusal_of fault)) grows (λ b h. h) keeps (λ h. h) two.unread)));
}

-- entries, and then others at which the receiver fails
pub failed_then : {S : Type 0} {took took_part : S → List Listed → S → Type 0} {faults : S → ℕ} {stands still : Volume → Type 0} {tells told : Type 0} {before now after : ℕ → Bool} (g : Geometry) (xs ys zs whole : List DirEntry) (m : ℕ) (old middle new : S)
    → ((a b c : S) (x y : List Listed) → took a x b → took_part b y c → took_part a (x ++ y) c) → faults old ≤ faults middle
    → Grows before now → Grows now after → ((v : Volume) → stands v → still v) → (told → tells) → whole ≡ xs ++ (ys ++ zs)
    → AreHanded took old middle xs (λ entries. ReadsAs stands before tells now (listed_entries g 1 entries)) m
    → StopsFailed took_part faults middle new ys (λ entries. ReadsAs still now told after (listed_entries g 1 entries))
    → StopsFailed took_part faults old new whole (λ entries. ReadsAs stands before told after (listed_entries g 1 entries))
failed_then g xs ys zs whole m old middle new both later grows further keeps tell e one two = record {
  front = xs ++ two.front;
  rest = two.rest ++ zs;
  whole = e ∙ rows xs ys two.front two.rest zs two.whole;
  lines = one.lines ++ two.lines;
  taken = both old middle new one.lines two.lines one.taken two.taken;
  read = lines_both g 1 xs two.front one.lines two.lines
      (wider (Some (Ok one.lines)) (λ b h. h) further (λ v h. h) tell one.read)
      (wider (Some (Ok two.lines)) grows (λ b h. h) keeps (λ h. h) two.read);
  rose = let r = two.rose in omega arith;
}

-- ---- block after block

pub more_read : {stands still : Volume → Type 0} {tells told last : Type 0} {before now later after : ℕ → Bool} (g : Geometry) (inode : Inode) (k : ℕ) (xs ys : List DirEntry)
    → Grows before now → Grows now later → Grows later after → ((v : Volume) → stands v → still v) → (told → tells) → (last → told)
    → ReadsAs stands before tells now (entries_before g inode k) (Some (Ok xs)) → ReadsAs still now told later (block_entries g inode k) (Some (Ok ys))
    → ReadsAs stands before last after (entries_before g inode (suc k)) (Some (Ok (xs ++ ys)))
more_read g inode k xs ys grows further on keeps tell tell_last one two =
    front_more (entry_fronts g inode) k xs ys
    (wider (Some (Ok xs)) (λ b h. h) (λ b h. on b (further b h)) (λ v h. h) (λ h. tell (tell_last h)) one)
    (wider (Some (Ok ys)) grows on keeps tell_last two)
