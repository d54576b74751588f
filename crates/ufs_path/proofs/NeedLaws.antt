-- Which blocks the parts of a reading need, and so the whole.
use Rattle.std.proofs.Common.{◌≡◌, ◌∙◌, ℕ, zero, suc, ◌+◌, ◌-◌, ◌*◌, ◌<◌, ◌≤◌, Bool, true, false, List, [], ◌∷◌, ◌++◌, Option, Some, None, Result, Ok, Err, length, drop, sym, subst, arith}
use Rattle.std.specs.Prelude.{Contains, if◌then◌else◌}
use Rattle.std.proofs.lemmas.Bool.Decides.{nat_tests}
use Rattle.std.proofs.lemmas.List.{append_assoc}
use Rattle.std.proofs.lemmas.List.Elements.{Contains-append_left, Contains-append_right}
use Rattle.ufs_model.specs.Blocks.{Consulted, Reading, Volume, bind, consult, known}
use Rattle.ufs_model.specs.Chunks.{DirEntry}
use Rattle.ufs_model.specs.Inodes.{block_count, inode_block, inode_of, is_inode_number}
use Rattle.ufs_model.specs.Listings.{Listed, listed_entries, listed_entry, listing_of, ls_of}
use Rattle.ufs_model.specs.Paths.{allocated, block_of, cat_of, chunks_of, contents_of, directory_refusal, entries_before, file_refusal, find_from, find_in_block, find_of, found_else, front_of, look_from, look_of, named_inode, names_after, names_of, part_of, unless_refused, volume_geometry}
use Rattle.ufs_model.specs.Readings.{ReadsAs, and_then, on_ok}
use Rattle.ufs_model.specs.Superblocks.{geometry_of}
use Rattle.ufs_model.specs.declared.geometries.Geometry.{Geometry}
use Rattle.ufs_model.specs.declared.inodes.Inode.{Inode}
use Rattle.ufs_model.specs.declared.reads.BadRead.TheVariants.{Entry}
use Rattle.ufs_model.specs.declared.reads.PathRefusal.{PathRefusal}
use Rattle.ufs_model.specs.declared.reads.PathRefusal.TheVariants.{Bad}
use Rattle.ufs_pointer.specs.Fetches.{IsNeeded}
use Rattle.ufs_path.proofs.EntryLaws.{entry_fronts, listed_append}
use Rattle.ufs_path.proofs.PartLaws.{AreFronts, rest_is}
use Rattle.ufs_path.specs.Consults.{Leads}
use Rattle.ufs_path.specs.Parts.{cat_below}
use Rattle.ufs_path.specs.Walks.{block_entries, lines_before, ls_below}

-- ---- one reading after another

pub needs_front : {A B : Type 0} (d : Reading A) (f : A → Reading B) (v : Volume) (b : ℕ) → IsNeeded d v b → IsNeeded (bind d f) v b
unfolding bind
needs_front d f v b h = Contains-append_left ((d v).needs) ((f ((d v).value) v).needs) b h

pub needs_first : {A B R : Type 0} (d : Reading (Result A R)) (f : A → Reading (Result B R)) (v : Volume) (b : ℕ) → IsNeeded d v b → IsNeeded (and_then d f) v b
unfolding and_then
needs_first d f v b h = needs_front d (λ answer. on_ok answer f) v b h

pub needs_second : {A B R : Type 0} (d : Reading (Result A R)) (f : A → Reading (Result B R)) (a : A) (v : Volume) (b : ℕ) → Ok a ≡ (d v).value → IsNeeded (f a) v b → IsNeeded (and_then d f) v b
unfolding and_then bind
needs_second d f a v b is h = Contains-append_right ((d v).needs) ((on_ok ((d v).value) f v).needs) b (subst (λ answer. IsNeeded (on_ok answer f) v b) is h)

same_needs : {A : Type 0} (one other : Consulted A) (b : ℕ) → one ≡ other → Contains one.needs b → Contains other.needs b
same_needs {A} one other b same h = subst (λ (c : Consulted A). Contains c.needs b) same h

-- ---- what is left to read, of which each block is needed for the whole

pub leads_first : {A B R : Type 0} {stands : Volume → Type 0} {tells : Type 0} {whole : Reading (Result B R)} (d : Reading (Result A R)) (f : A → Reading (Result B R))
    → Leads stands tells whole (and_then d f) → tells → (v : Volume) → stands v → (b : ℕ) → IsNeeded d v b → IsNeeded whole v b
leads_first d f lead is v holds b h = lead.go is v holds b (needs_first d f v b h)

pub leads_on : {A B R : Type 0} {stands still : Volume → Type 0} {tells told : Type 0} {before now : ℕ → Bool} {whole : Reading (Result B R)} (d : Reading (Result A R)) (f : A → Reading (Result B R)) (a : A)
    → ((v : Volume) → stands v → still v) → (told → tells) → Leads stands tells whole (and_then d f) → ReadsAs still before told now d (Some (Ok a)) → Leads stands told whole (f a)
leads_on d f a keeps tell lead reads = record { go = λ is v holds b h. lead.go (tell is) v holds b (needs_second d f a v b ((reads.rule is v (keeps v holds)).answer) h) }

-- ---- parts end to end

fronts_first : {A R : Type 0} {front part : ℕ → Reading (Result (List A) R)} → AreFronts front part → (k : ℕ) (v : Volume) (b : ℕ) → IsNeeded (front k) v b → IsNeeded (front (suc k)) v b
fronts_first {front = front} {part = part} are k v b h = same_needs _ _ b (are.more k v) (needs_first (front k) (λ items. and_then (part k) (λ last. known (Ok (items ++ last)))) v b h)

fronts_grow : {A R : Type 0} {front part : ℕ → Reading (Result (List A) R)} → AreFronts front part → (k d : ℕ) (v : Volume) (b : ℕ) → IsNeeded (front k) v b → IsNeeded (front (d + k)) v b
fronts_grow {front = front} are k zero v b h = subst (λ j. IsNeeded (front j) v b) (let e : k ≡ 0 + k = omega arith in e) h
fronts_grow {front = front} are k (suc d) v b h = subst (λ j. IsNeeded (front j) v b) (let e : suc (d + k) ≡ suc d + k = omega arith in e) (fronts_first are (d + k) v b (fronts_grow are k d v b h))

-- a part is needed where those before it are read
pub part_needed : {A R : Type 0} {front part : ℕ → Reading (Result (List A) R)} → AreFronts front part → (k count : ℕ) (items : List A) (v : Volume) (b : ℕ) → k < count → Ok items ≡ (front k v).value
    → IsNeeded (part k) v b → IsNeeded (front count) v b
part_needed {front = front} {part = part} are k count items v b low is h =
    subst (λ j. IsNeeded (front j) v b) (let e : (count - suc k) + suc k ≡ count = omega arith in e)
    (fronts_grow are (suc k) (count - suc k) v b
    (same_needs _ _ b (are.more k v) (needs_second (front k) _ items v b is (needs_first (part k) (λ last. known (Ok (items ++ last))) v b h))))

-- ---- the superblock, and inodes

pub geometry_needed : (l n : ℕ) (v : Volume) (b : ℕ) → IsNeeded (geometry_of l n) v b → IsNeeded (volume_geometry l n) v b
unfolding volume_geometry
geometry_needed l n v b h = needs_front (geometry_of l n) _ v b h

pub inode_needed : (g : Geometry) (i block : ℕ) (v : Volume) → block ≡ inode_block g i → IsNeeded (allocated g i) v block
unfolding inode_of
inode_needed g i block v is =
    needs_front _ _ v block (needs_front (consult g.fsize (inode_block g i)) _ v block (0, omega arith, sym is))

number_by : (test : Bool) (d e : Reading (Result Inode PathRefusal)) (v : Volume) (b : ℕ) → test ≡ true → IsNeeded d v b → IsNeeded (if test then d else e) v b
number_by true d e v b is h = h
number_by false d e v b is h = let no : false ≡ true = is in cc

pub named_needed : (g : Geometry) (i : ℕ) (v : Volume) (b : ℕ) → 2 ≤ i → i < g.ncg * g.ipg → IsNeeded (allocated g i) v b → IsNeeded (named_inode g i) v b
unfolding named_inode
named_needed g i v b low high h =
    let is : is_inode_number g i ≡ true = grind (arith, nat_tests) in
    number_by (is_inode_number g i) (allocated g i) (known (Err (Bad Entry))) v b is h

-- ---- directories

pub block_found : (g : Geometry) (inode : Inode) (name : List ℕ) (n : ℕ) (v : Volume) (b : ℕ) → IsNeeded (block_of g inode n) v b → IsNeeded (find_in_block g inode name n) v b
unfolding find_in_block chunks_of
block_found g inode name n v b h = needs_first (chunks_of g inode n) _ v b (needs_first (block_of g inode n) _ v b h)

pub block_listed : (g : Geometry) (inode : Inode) (n : ℕ) (v : Volume) (b : ℕ) → IsNeeded (block_of g inode n) v b → IsNeeded (block_entries g inode n) v b
unfolding block_entries chunks_of
block_listed g inode n v b h = needs_first (chunks_of g inode n) _ v b (needs_first (block_of g inode n) _ v b h)

pub next_block : {stands : Volume → Type 0} {tells : Type 0} {whole : Reading (Result ℕ PathRefusal)} (g : Geometry) (inode : Inode) (name : List ℕ) (n count : ℕ) → n < count
    → Leads stands tells whole (find_from g inode name n (count - n))
    → Leads stands tells whole (and_then (find_in_block g inode name n) (λ found. found_else found (find_from g inode name (suc n) (count - suc n))))
unfolding find_from
next_block {stands} {tells} {whole} g inode name n count low lead =
    subst (λ left. Leads stands tells whole (find_from g inode name n left)) (let e : count - n ≡ suc (count - suc n) = omega arith in e) lead

pub next_inode : {stands : Volume → Type 0} {tells : Type 0} {whole : Reading (Result (ℕ × Inode) PathRefusal)} (g : Geometry) (path name rest : List ℕ) (i : ℕ) → names_after path ≡ name ∷ names_after rest
    → Leads stands tells whole (look_from g (names_after path) i)
    → Leads stands tells whole (and_then (named_inode g i) (λ inode. and_then (find_of g inode name) (λ next. look_from g (names_after rest) next)))
unfolding look_from
next_inode {stands} {tells} {whole} g path name rest i e lead = subst (λ names. Leads stands tells whole (look_from g names i)) e lead

pub last_inode : {stands : Volume → Type 0} {tells : Type 0} {whole : Reading (Result (ℕ × Inode) PathRefusal)} (g : Geometry) (path : List ℕ) (i : ℕ) → length path ≡ 0
    → Leads stands tells whole (look_from g (names_after path) i) → Leads stands tells whole (and_then (named_inode g i) (λ inode. known (Ok (i, inode))))
unfolding look_from
last_inode g [] i e lead = lead
last_inode g (b ∷ path) i e lead = absurd (omega arith)

unless_needed : {A : Type 0} (refusal : Option PathRefusal) (d : Reading (Result A PathRefusal)) (v : Volume) (b : ℕ) → refusal ≡ None → IsNeeded d v b → IsNeeded (unless_refused refusal d) v b
unless_needed None d v b none h = h
unless_needed (Some refusal) d v b none h = let no : Some refusal ≡ None = none in cc

pub search_needed : (g : Geometry) (inode : Inode) (name : List ℕ) (count : ℕ) (v : Volume) (b : ℕ) → directory_refusal inode ≡ None → count ≡ block_count g inode
    → IsNeeded (find_from g inode name 0 count) v b → IsNeeded (find_of g inode name) v b
unfolding find_of
search_needed g inode name count v b none is h = unless_needed (directory_refusal inode) (find_from g inode name 0 (block_count g inode)) v b none (subst (λ k. IsNeeded (find_from g inode name 0 k) v b) is h)

-- ---- files

pub block_read : (g : Geometry) (inode : Inode) (n : ℕ) (v : Volume) (b : ℕ) → IsNeeded (block_of g inode n) v b → IsNeeded (part_of g inode n) v b
unfolding part_of
block_read g inode n v b h = needs_first (block_of g inode n) _ v b h

pub contents_needed : (g : Geometry) (inode : Inode) (count : ℕ) (v : Volume) (b : ℕ) → file_refusal inode ≡ None → count ≡ block_count g inode
    → IsNeeded (front_of g inode count) v b → IsNeeded (contents_of g inode) v b
unfolding contents_of
contents_needed g inode count v b none is h = unless_needed (file_refusal inode) (front_of g inode (block_count g inode)) v b none (subst (λ k. IsNeeded (front_of g inode k) v b) is h)

pub below_first : (g : Geometry) (path : List ℕ) (v : Volume) (b : ℕ) → IsNeeded (look_from g (names_of path) 2) v b → IsNeeded (cat_below path g) v b
unfolding cat_below
below_first g path v b h = needs_first (look_from g (names_of path) 2) _ v b h

pub below_second : (g : Geometry) (path : List ℕ) (number : ℕ) (inode : Inode) (v : Volume) (b : ℕ) → Ok (number, inode) ≡ (look_from g (names_of path) 2 v).value
    → IsNeeded (contents_of g inode) v b → IsNeeded (cat_below path g) v b
unfolding cat_below
below_second g path number inode v b is h = needs_second (look_from g (names_of path) 2) _ (number, inode) v b is h

pub cat_first : (l n : ℕ) (path : List ℕ) (v : Volume) (b : ℕ) → IsNeeded (volume_geometry l n) v b → IsNeeded (cat_of l n path) v b
unfolding cat_of
cat_first l n path v b h = needs_first (volume_geometry l n) _ v b h

pub cat_second : (l n : ℕ) (path : List ℕ) (g : Geometry) (v : Volume) (b : ℕ) → Ok g ≡ (volume_geometry l n v).value → IsNeeded (cat_below path g) v b → IsNeeded (cat_of l n path) v b
unfolding cat_of cat_below
cat_second l n path g v b is h = needs_second (volume_geometry l n) _ g v b is h

pub look_first : (l n : ℕ) (path : List ℕ) (v : Volume) (b : ℕ) → IsNeeded (volume_geometry l n) v b → IsNeeded (look_of l n path) v b
unfolding look_of
look_first l n path v b h = needs_first (volume_geometry l n) _ v b h

pub look_second : (l n : ℕ) (path : List ℕ) (g : Geometry) (v : Volume) (b : ℕ) → Ok g ≡ (volume_geometry l n v).value → IsNeeded (look_from g (names_of path) 2) v b → IsNeeded (look_of l n path) v b
unfolding look_of
look_second l n path g v b is h = needs_second (volume_geometry l n) _ g v b is h

-- ---- listings

pub entry_needed : (g : Geometry) (depth : ℕ) (entry : DirEntry) (v : Volume) (b : ℕ) → IsNeeded (named_inode g entry.inode) v b → IsNeeded (listed_entries g depth (entry ∷ [])) v b
unfolding listed_entries listed_entry
entry_needed g depth entry v b h = needs_first (listed_entry g depth entry) _ v b (needs_first (named_inode g entry.inode) _ v b h)

-- entries in the middle are needed where the lines of those before them are read
pub lines_needed : (g : Geometry) (depth : ℕ) (xs ys zs whole : List DirEntry) (lines : List Listed) (v : Volume) (b : ℕ) → whole ≡ xs ++ (ys ++ zs) → Ok lines ≡ (listed_entries g depth xs v).value
    → IsNeeded (listed_entries g depth ys) v b → IsNeeded (listed_entries g depth whole) v b
lines_needed g depth xs ys zs whole lines v b e is h =
    subst (λ entries. IsNeeded (listed_entries g depth entries) v b) (append_assoc xs ys zs ∙ sym e)
    (same_needs _ _ b (listed_append g depth (xs ++ ys) zs v) (needs_first (listed_entries g depth (xs ++ ys)) _ v b
    (same_needs _ _ b (listed_append g depth xs ys v) (needs_second (listed_entries g depth xs) _ lines v b is (needs_first (listed_entries g depth ys) _ v b h)))))

pub entries_first : (g : Geometry) (inode : Inode) (count : ℕ) (v : Volume) (b : ℕ) → IsNeeded (entries_before g inode count) v b → IsNeeded (lines_before g inode count) v b
unfolding lines_before
entries_first g inode count v b h = needs_first (entries_before g inode count) _ v b h

pub block_first : (g : Geometry) (inode : Inode) (k count : ℕ) (entries : List DirEntry) (v : Volume) (b : ℕ) → k < count → Ok entries ≡ (entries_before g inode k v).value
    → IsNeeded (block_entries g inode k) v b → IsNeeded (lines_before g inode count) v b
block_first g inode k count entries v b low is h = entries_first g inode count v b (part_needed (entry_fronts g inode) k count entries v b low is h)

pub lines_second : (g : Geometry) (inode : Inode) (blocks count : ℕ) (done found all : List DirEntry) (lines : List Listed) (v : Volume) (b : ℕ) → blocks ≤ count
    → Ok (done ++ found) ≡ (entries_before g inode blocks v).value → Ok all ≡ (entries_before g inode count v).value → Ok lines ≡ (listed_entries g 1 done v).value
    → IsNeeded (listed_entries g 1 found) v b → IsNeeded (lines_before g inode count) v b
unfolding lines_before
lines_second g inode blocks count done found all lines v b le some is read h =
    let rest = drop (length (done ++ found)) all in
    needs_second (entries_before g inode count) _ all v b is
    (lines_needed g 1 done found rest all lines v b (rest_is (entry_fronts g inode) blocks count v (done ++ found) all le some is ∙ append_assoc done found rest) read h)

pub listing_needed : (g : Geometry) (inode : Inode) (count : ℕ) (v : Volume) (b : ℕ) → lines_before g inode count ≡ listing_of g inode → IsNeeded (lines_before g inode count) v b → IsNeeded (listing_of g inode) v b
listing_needed g inode count v b same h = subst (λ d. IsNeeded d v b) same h

pub ls_below_first : (g : Geometry) (path : List ℕ) (v : Volume) (b : ℕ) → IsNeeded (look_from g (names_of path) 2) v b → IsNeeded (ls_below path g) v b
unfolding ls_below
ls_below_first g path v b h = needs_first (look_from g (names_of path) 2) _ v b h

pub ls_below_second : (g : Geometry) (path : List ℕ) (number : ℕ) (inode : Inode) (v : Volume) (b : ℕ) → Ok (number, inode) ≡ (look_from g (names_of path) 2 v).value
    → IsNeeded (listing_of g inode) v b → IsNeeded (ls_below path g) v b
unfolding ls_below
ls_below_second g path number inode v b is h = needs_second (look_from g (names_of path) 2) _ (number, inode) v b is h

pub ls_first : (l n : ℕ) (path : List ℕ) (v : Volume) (b : ℕ) → IsNeeded (volume_geometry l n) v b → IsNeeded (ls_of l n path) v b
unfolding ls_of
ls_first l n path v b h = needs_first (volume_geometry l n) _ v b h

pub ls_second : (l n : ℕ) (path : List ℕ) (g : Geometry) (v : Volume) (b : ℕ) → Ok g ≡ (volume_geometry l n v).value → IsNeeded (ls_below path g) v b → IsNeeded (ls_of l n path) v b
unfolding ls_of ls_below
ls_second l n path g v b is h = needs_second (volume_geometry l n) _ g v b is h
