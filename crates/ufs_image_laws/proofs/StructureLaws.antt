-- What isn't wrong with a built volume.
use Rattle.std.proofs.Common.{◌≡◌, ◌≢◌, ◌∙◌, ℕ, ◌+◌, ◌-◌, ◌*◌, ◌/◌, ◌%◌, ◌^◌, ◌<◌, ◌≤◌, ◌⊎◌, ◌==◌, not, Bool, true, false, List, length, drop, get_or, refl, sym, ap, subst, arith, inl, inr, Some, None}
use Rattle.std.specs.Prelude.{Contains, Err, MatchOption, Ok, Option, Result, if◌then◌else◌, nat_le, nat_lt, slice_get}
use Rattle.std.specs.Int.{div_ceil}
use Rattle.std.proofs.Math.Nat.{mul-le-mul_right}
use Rattle.std.proofs.lemmas.Bool.{and_parts, cases_eq, cases_lt, eq-eqb, false≢true, leb-true, ltb-true, lt-ltb, ne_eqb}
use Rattle.std.proofs.lemmas.Bool.Decides.{nat_tests}
use Rattle.std.proofs.lemmas.List.{get_or_past}
use Rattle.std.proofs.lemmas.Grind.{div_ceil_times}
use Rattle.std.proofs.lemmas.Nat.{mul-lt}
use Rattle.ufs_model.specs.Blocks.{Volume}
use Rattle.ufs_model.specs.Chunks.{DirEntry}
use Rattle.ufs_model.specs.GroupMaps.{is_marked_unused}
use Rattle.ufs_model.specs.Inodes.{block_count, has_pointers, inode_of, is_inode_number, kind_has_pointers, kind_of}
use Rattle.ufs_model.specs.Malformations.{HasBadChunk, HasCrossing, HasHole, HasMisaligned, HasMisalignedIn, HasPast, HasTwoClaims, HasWild, HasWildIn, IsBad, IsDirectory as IsDirectoryInode, IsFree, IsInode, IsPointed, IsUpper, first_block, pointer_at as pointer_value}
use Rattle.ufs_model.specs.Paths.{chunks_in}
use Rattle.ufs_model.specs.Pointers.{address}
use Rattle.ufs_model.specs.declared.geometries.Geometry.{Geometry}
use Rattle.ufs_model.specs.declared.group_maps.BadGroup.{BadGroup}
use Rattle.ufs_model.specs.declared.group_maps.Group.{Group}
use Rattle.ufs_model.specs.declared.inodes.Inode.{Inode}
use Rattle.ufs_model.specs.declared.inodes.Kind.TheVariants.{Directory, Unknown}
use Rattle.ufs_model.specs.declared.malformations.BadKind.{BadKind}
use Rattle.ufs_model.specs.declared.malformations.BadKind.TheVariants.{Super, GroupMagic, GroupMap, WrongType, Filesize, Past, Wild as WildSlot, WildIn, Align, AlignIn, Run, Twice, PastIn, Free, Unused, Hole as HoleIn, Chunk, Entry, EntryType, Dots, Names, DirTwice, RootNamed}
use Rattle.ufs_model.specs.declared.reads.PathRefusal.{PathRefusal}
use Rattle.ufs_model.specs.declared.pointers.Address.TheVariants.{At, Hole, Wild}
use Rattle.ufs_build.specs.Images.{slot_address as slot_value, volume_bytes}
use Rattle.ufs_build.specs.Nodes.{Node}
use Rattle.ufs_build.specs.Placements.{Addresses, AllPlaced, address_at, addresses_at, blocks_of, count_through, first_through, fragments_of, indirect_count, is_used}
use Rattle.ufs_image_laws.specs.Built.{blocks_in}
use Rattle.ufs_image_laws.proofs.AddressReads.{FileOf, SlotsLead, address_spot, below, block_found, full_of, placed_of, spot, tests_of}
use Rattle.ufs_image_laws.proofs.ChainLaws.{two_powers}
use Rattle.ufs_image_laws.proofs.ClaimReads.{AreFiles, HasKind, IsFiles, claim_of_file, claimed_used, file_of_inode, lower_count, no_addresses, no_node, not_inside, one_claim, pointer_at, slot_spot}
use Rattle.ufs_image_laws.proofs.ContentReads.{blocks_outside}
use Rattle.ufs_image_laws.proofs.DirectoryReads.{AreChunks, IsDirectory, IsWholeChunk, block_whole, chunks_read, in_block, never_hole}
use Rattle.ufs_image_laws.proofs.FullLaws.{block_bytes_low, room_at}
use Rattle.ufs_image_laws.proofs.GroupReads.{free_read, group_read, unused_read}
use Rattle.ufs_image_laws.proofs.InodeReads.{inode_none, inode_read}
use Rattle.ufs_image_laws.proofs.ListLaws.{each_has, has_contained}
use Rattle.ufs_image_laws.proofs.PlacingLaws.{HasFragment, count_of, data_in_run, data_inside}
use Rattle.ufs_image_laws.proofs.ZoneLaws.{sizes}

-- What is known of a built volume here.
pub record AreWhole (g : Geometry) (nodes : List Node) (all : AllPlaced) : Type 0 where
  pub files : AreFiles g nodes all
  pub cgsize : g.cgsize ≡ g.bsize
  pub directories : (k : ℕ) (node : Node) → slice_get nodes k ≡ Some node → kind_of node.mode ≡ Directory → (entries : List DirEntry) × AreChunks g.endian entries node.bytes

abbrev pub volume_of : Geometry → List Node → AllPlaced → Volume
volume_of g nodes all = blocks_in g.fsize g.size (volume_bytes g nodes all)

-- ---- inodes

-- an allocated inode is that of a file
pub record IsFound (g : Geometry) (nodes : List Node) (all : AllPlaced) (i : ℕ) (P : Inode → Type 0) : Type 0 where
  pub k : ℕ
  pub number : i ≡ 2 + k
  pub low : k < length nodes
  pub node : Node
  pub addresses : Addresses
  pub file : FileOf g nodes all k node addresses
  pub inode : Inode
  pub mode : inode.mode ≡ node.mode
  pub size : inode.size ≡ length node.bytes
  pub slots : node.inside ≡ false → SlotsLead g node addresses inode
  pub holds : P inode

match_if : (b : Bool) (o : Option Inode) (P : Inode → Type 0) → MatchOption (if b then o else None) ⊥ P → (b ≡ true) × MatchOption o ⊥ P
match_if true o P h = (refl, h)
match_if false o P h = absurd h

match_none : (o : Option Inode) (P : Inode → Type 0) → o ≡ None → MatchOption o ⊥ P → ⊥
match_none o P e h = subst (λ (x : Option Inode). MatchOption x ⊥ P) e h

match_some : (o : Option Inode) (P : Inode → Type 0) (inode : Inode) → o ≡ Some inode → MatchOption o ⊥ P → P inode
match_some o P inode e h = subst (λ (x : Option Inode). MatchOption x ⊥ P) e h

pub found_inode : (g : Geometry) (nodes : List Node) (all : AllPlaced) (i : ℕ) (P : Inode → Type 0) → AreWhole g nodes all → IsInode g (volume_of g nodes all) i P → IsFound g nodes all i P
found_inode g nodes all i P is h =
    let files = is.files in
    let test = match_if (is_inode_number g i) ((inode_of g i (volume_of g nodes all)).value) P h in
    let both = and_parts (nat_le 2 i) (nat_lt i (g.ncg * g.ipg)) (test.0) in
    let from = leb-true 2 i (both.0) in
    let high = ltb-true i (g.ncg * g.ipg) (both.1) in
    elim (cases_lt i (2 + length nodes)) as (λ _. IsFound g nodes all i P) [
      | inr past ↦ absurd (match_none ((inode_of g i (volume_of g nodes all)).value) P (inode_none g nodes all i files.volume high (inr past)) (test.1))
      | inl own ↦
          let k = i - 2 in
          let number : i ≡ 2 + k = omega arith in
          let file = file_of_inode g nodes all k files (omega arith) in
          let node = get_or nodes k no_node in
          let addresses = get_or all.files k no_addresses in
          let kind = files.kinds k node file.node_is in
          let numbers = kind.numbers in
          let read = inode_read g nodes all k node addresses files.numbers files.volume file.node_is file.addresses_are numbers.some numbers.mode numbers.size in
          let there = subst (λ (n : ℕ). MatchOption ((inode_of g n (volume_of g nodes all)).value) ⊥ P) number (test.1) in
          record {
            k = k;
            number = number;
            low = omega arith;
            node = node;
            addresses = addresses;
            file = file;
            inode = read.inode;
            mode = read.mode;
            size = read.size;
            slots = λ outside. record { size = read.size; slots = read.slots outside };
            holds = match_some ((inode_of g (2 + k) (volume_of g nodes all)).value) P read.inode read.is there;
          }
    ]

kind_at : (g : Geometry) (nodes : List Node) (all : AllPlaced) (i : ℕ) (P : Inode → Type 0) → AreWhole g nodes all → (found : IsFound g nodes all i P) → HasKind g found.node
kind_at g nodes all i P is found = let files = is.files in let file = found.file in files.kinds found.k found.node file.node_is

outside_of : (g : Geometry) (nodes : List Node) (all : AllPlaced) (i : ℕ) (P : Inode → Type 0) → AreWhole g nodes all → (found : IsFound g nodes all i P) → has_pointers g found.inode ≡ true
    → found.node.inside ≡ false
outside_of g nodes all i P is found e =
    let kind = kind_at g nodes all i P is found in
    let same : has_pointers g found.inode ≡ not found.node.inside = rw (found.size, found.mode) kind.pointers in
    not_inside found.node.inside (sym same ∙ e)

-- ---- what an address can be

spot_not_wild : (a k : ℕ) (none : Bool) → (if none then Hole else At a k) ≡ Wild → ⊥
spot_not_wild a k true e = cc e
spot_not_wild a k false e = cc e

spot_at : (a k start count : ℕ) (none : Bool) → (a == 0) ≡ none → (if none then Hole else At a k) ≡ At start count → (a ≢ 0) × (a ≡ start) × (k ≡ count)
spot_at a k start count true e same = absurd (cc same)
spot_at a k start count false e same = ((λ none. false≢true (sym e ∙ eq-eqb a 0 none)), at_start a k start count same, at_count a k start count same)
  where
    at_start : (a k start count : ℕ) → At a k ≡ At start count → a ≡ start
    at_start a k start count e = cc e

    at_count : (a k start count : ℕ) → At a k ≡ At start count → k ≡ count
    at_count a k start count e = cc e

-- a block begins where its fragments fit between two multiples of a file block's
aligned_at : (g : Geometry) (nodes : List Node) (all : AllPlaced) (k : ℕ) (node : Node) (addresses : Addresses) (level index start count : ℕ) → FileOf g nodes all k node addresses → level < 4
    → spot g (length node.bytes) addresses level index ≡ At start count → start % g.frag + count ≤ g.frag
aligned_at g nodes all k node addresses level index start count is low e =
    let parts = spot_at (address_at addresses level index) (count_of g (length node.bytes) level index) start count (address_at addresses level index == 0) refl e in
    let placed = (placed_of g nodes all k node addresses is).is in
    let run = placed.runs level index low (parts.0) in
    subst (λ (c : ℕ). start % g.frag + c ≤ g.frag) (parts.2) (subst (λ (a : ℕ). a % g.frag + count_of g (length node.bytes) level index ≤ g.frag) (parts.1) run.aligned)

-- ---- slots

no_wild : (g : Geometry) (nodes : List Node) (all : AllPlaced) (i : ℕ) → AreWhole g nodes all → IsPointed g (volume_of g nodes all) i (HasWild g (volume_of g nodes all)) → ⊥
no_wild g nodes all i is h =
    let v = volume_of g nodes all in
    let found = found_inode g nodes all i (λ inode. (has_pointers g inode ≡ true) × HasWild g v inode) is h in
    let both = found.holds in
    let bad = both.1 in
    let slots = found.slots (outside_of g nodes all i _ is found (both.0)) in
    let there = slot_spot g nodes all found.k found.node found.addresses found.inode bad.slot found.file slots bad.is in
    spot_not_wild (address_at found.addresses (there.0) (there.1)) (count_of g (length found.node.bytes) (there.0) (there.1)) (address_at found.addresses (there.0) (there.1) == 0) (sym (there.3) ∙ bad.wild)

no_misaligned : (g : Geometry) (nodes : List Node) (all : AllPlaced) (i : ℕ) → AreWhole g nodes all → IsPointed g (volume_of g nodes all) i (HasMisaligned g (volume_of g nodes all)) → ⊥
no_misaligned g nodes all i is h =
    let v = volume_of g nodes all in
    let found = found_inode g nodes all i (λ inode. (has_pointers g inode ≡ true) × HasMisaligned g v inode) is h in
    let both = found.holds in
    let bad = both.1 in
    let slots = found.slots (outside_of g nodes all i _ is found (both.0)) in
    let there = slot_spot g nodes all found.k found.node found.addresses found.inode bad.slot found.file slots bad.is in
    let fits = aligned_at g nodes all found.k found.node found.addresses (there.0) (there.1) bad.start g.frag found.file (there.2) (sym (there.3) ∙ bad.whole) in
    let middle = bad.middle in
    middle (omega arith)

no_crossing : (g : Geometry) (nodes : List Node) (all : AllPlaced) (i : ℕ) → AreWhole g nodes all → IsPointed g (volume_of g nodes all) i (HasCrossing g (volume_of g nodes all)) → ⊥
no_crossing g nodes all i is h =
    let v = volume_of g nodes all in
    let found = found_inode g nodes all i (λ inode. (has_pointers g inode ≡ true) × HasCrossing g v inode) is h in
    let both = found.holds in
    let bad = both.1 in
    let slots = found.slots (outside_of g nodes all i _ is found (both.0)) in
    let low = bad.is in
    let there = slot_spot g nodes all found.k found.node found.addresses found.inode bad.slot found.file slots (omega arith) in
    let fits = aligned_at g nodes all found.k found.node found.addresses (there.0) (there.1) bad.start bad.count found.file (there.2) (sym (there.3) ∙ bad.short) in
    let crosses = bad.crosses in
    omega arith

-- ---- pointers

upper_of : (g : Geometry) (nodes : List Node) (all : AllPlaced) (f level : ℕ) → AreWhole g nodes all → (upper : IsUpper g (volume_of g nodes all) f level) → IsFiles g nodes all f upper.source
upper_of g nodes all f level is upper = claim_of_file g nodes all f upper.source is.files upper.claim

-- what a pointer of an indirect block leads to
pointer_spot : (g : Geometry) (nodes : List Node) (all : AllPlaced) (f level at : ℕ) → AreWhole g nodes all → (upper : IsUpper g (volume_of g nodes all) f level) → at < g.fsize / 4
    → (k : ℕ) × (node : Node) × (addresses : Addresses) × (FileOf g nodes all k node addresses) × (lower : ℕ) × (index : ℕ) × (lower < 4)
    × (address g (pointer_value g (volume_of g nodes all) f at) g.frag ≡ spot g (length node.bytes) addresses lower index)
pointer_spot g nodes all f level at is upper less =
    let above = upper_of g nodes all f level is upper in
    let node = above.node in
    let addresses = above.addresses in
    let some = upper.above in
    let same : above.level ≡ level = sym above.of_level ∙ upper.of_level in
    let low : level < 4 = rw (← same) above.below_four in
    let has = subst (λ (l : ℕ). HasFragment g (length node.bytes) addresses l above.index f) same above.has in
    let read = pointer_at g nodes all above.k node addresses level above.index f at above.file some low has less in
    let i = (f - address_at addresses level above.index) * (g.fsize / 4) + at in (
      above.k,
      node,
      addresses,
      above.file,
      level - 1,
      below g level above.index i,
      (let z : level - 1 < 4 = omega arith in z),
      ap (λ (a : ℕ). address g a g.frag) (read.1)
          ∙ ap (address g (address_at addresses (level - 1) (below g level above.index i))) (lower_count g (length node.bytes) level above.index i some)
          ∙ address_spot g node addresses (level - 1) (below g level above.index i) (placed_of g nodes all above.k node addresses above.file) (omega arith),
    )

no_wild_in : (g : Geometry) (nodes : List Node) (all : AllPlaced) (f : ℕ) → AreWhole g nodes all → HasWildIn g (volume_of g nodes all) f → ⊥
no_wild_in g nodes all f is bad =
    let there = pointer_spot g nodes all f bad.level bad.at is bad.upper bad.is in
    spot_not_wild (address_at (there.2) (there.4) (there.5)) (count_of g (length (there.1).bytes) (there.4) (there.5)) (address_at (there.2) (there.4) (there.5) == 0) (sym (there.7) ∙ bad.wild)

no_misaligned_in : (g : Geometry) (nodes : List Node) (all : AllPlaced) (f : ℕ) → AreWhole g nodes all → HasMisalignedIn g (volume_of g nodes all) f → ⊥
no_misaligned_in g nodes all f is bad =
    let there = pointer_spot g nodes all f bad.level bad.at is bad.upper bad.is in
    let fits = aligned_at g nodes all (there.0) (there.1) (there.2) (there.4) (there.5) bad.start g.frag (there.3) (there.6) (sym (there.7) ∙ bad.whole) in
    let middle = bad.middle in
    middle (omega arith)

-- ---- slots past the end

some_room : (xs : List ℕ) (i : ℕ) → get_or xs i 0 ≢ 0 → i < length xs
some_room xs i some = elim (cases_lt i (length xs)) as (λ _. i < length xs) [
  | inl low ↦ low
  | inr past ↦ absurd (some (get_or_past xs i 0 past))
]

no_blocks : (blocks first through : ℕ) → 0 < through → blocks ≤ first → div_ceil (blocks - first) through ≡ 0
no_blocks blocks first through some past =
    let none : blocks - first ≡ 0 = omega arith in
    let round = div_ceil_times (blocks - first) through some in
    let most = round.1 in
    elim (cases_lt 0 (div_ceil (blocks - first) through)) as (λ _. div_ceil (blocks - first) through ≡ 0) [
      | inr le ↦ omega arith
      | inl lt ↦
          let least : 1 * through ≤ div_ceil (blocks - first) through * through = mul-le-mul_right through lt in
          absurd (omega arith)
    ]

-- no indirect block of a level, where the file ends before those that are reached through it
no_upper : (g : Geometry) (nodes : List Node) (all : AllPlaced) (k : ℕ) (node : Node) (addresses : Addresses) (level : ℕ) → FileOf g nodes all k node addresses → level < 4
    → room_at g (blocks_of g node) level ≡ indirect_count g level (blocks_of g node) → 0 < count_through g level → blocks_of g node ≤ first_through g level
    → address_at addresses level 0 ≢ 0 → ⊥
no_upper g nodes all k node addresses level is low room through past some =
    let found = full_of g nodes all k node addresses is in
    let full = found.2 in
    let size = full.room level low in
    let here = some_room (addresses_at addresses level) 0 some in
    let none = no_blocks (blocks_of g node) (first_through g level) (count_through g level) through past in
    omega (arith, size, room, none, here)

past_by : (g : Geometry) (nodes : List Node) (all : AllPlaced) (k : ℕ) (node : Node) (addresses : Addresses) (slot : ℕ) → FileOf g nodes all k node addresses → slot < 15
    → slot_value addresses slot ≢ 0 → blocks_of g node ≤ first_block g slot → ⊥
past_by g nodes all k node addresses slot is low some past =
    let size = sizes g (tests_of g nodes all k node addresses is) in
    let pointers = size.pointers in
    let least = size.least in
    let many : 0 < g.nindir = omega arith in
    let two_many : 0 < g.nindir * g.nindir = mul-lt 0 0 g.nindir g.nindir many many in
    let three_many : 0 < g.nindir * g.nindir * g.nindir = mul-lt 0 0 (g.nindir * g.nindir) g.nindir two_many many in
    elim (cases_lt slot 12) as (λ _. ⊥) [
      | inl near ↦
          let not13 : (slot == 13) ≡ false = ne_eqb slot 13 (λ z. omega arith) in
          let not14 : (slot == 14) ≡ false = ne_eqb slot 14 (λ z. omega arith) in
          let first : first_block g slot ≡ slot = rw (not13, not14) refl in
          let direct : nat_lt slot 12 ≡ true = grind (arith, nat_tests) in
          let value : slot_value addresses slot ≡ address_at addresses 0 slot = rw direct refl in
          let found = full_of g nodes all k node addresses is in
          let full = found.2 in
          some (value ∙ full.behind slot (omega arith))
      | inr upper ↦ elim (cases_eq slot 12) as (λ _. ⊥) [
        | inl one ↦
            no_upper g nodes all k node addresses 1 is (omega arith) refl many (subst (λ (n : ℕ). blocks_of g node ≤ first_block g n) one past)
            (subst (λ (n : ℕ). slot_value addresses n ≢ 0) one some)
        | inr not12 ↦ elim (cases_eq slot 13) as (λ _. ⊥) [
          | inl two ↦
              no_upper g nodes all k node addresses 2 is (omega arith) refl two_many (subst (λ (n : ℕ). blocks_of g node ≤ first_block g n) two past)
              (subst (λ (n : ℕ). slot_value addresses n ≢ 0) two some)
          | inr not13 ↦
              let last : slot ≡ 14 = omega arith in
              let square = two_powers g.nindir in
              let past14 = subst (λ (n : ℕ). blocks_of g node ≤ first_block g n) last past in
              no_upper g nodes all k node addresses 3 is (omega arith) refl three_many (omega (arith, square, past14))
              (subst (λ (n : ℕ). slot_value addresses n ≢ 0) last some)
        ]
      ]
    ]

no_past : (g : Geometry) (nodes : List Node) (all : AllPlaced) (i : ℕ) → AreWhole g nodes all → IsPointed g (volume_of g nodes all) i (HasPast g (volume_of g nodes all)) → ⊥
no_past g nodes all i is h =
    let v = volume_of g nodes all in
    let found = found_inode g nodes all i (λ inode. (has_pointers g inode ≡ true) × HasPast g v inode) is h in
    let both = found.holds in
    let bad = both.1 in
    let outside = outside_of g nodes all i _ is found (both.0) in
    let slots = found.slots outside in
    let some = bad.some in
    let blocks : blocks_of g found.node ≡ block_count g found.inode = blocks_outside g found.node outside ∙ ap (λ (n : ℕ). div_ceil n g.bsize) (sym found.size) in
    past_by g nodes all found.k found.node found.addresses bad.slot found.file bad.is (λ none. some (slots.slots bad.slot bad.is ∙ none)) (rw blocks bad.past)

-- ---- fragments

no_free : (g : Geometry) (nodes : List Node) (all : AllPlaced) (f : ℕ) → AreWhole g nodes all → IsFree g (volume_of g nodes all) f → ⊥
no_free g nodes all f is bad =
    let files = is.files in
    let of_file = claim_of_file g nodes all f bad.source files bad.claim in
    let used = claimed_used g nodes all f bad.source of_file in
    let has = of_file.has in
    let placed = (placed_of g nodes all of_file.k of_file.node of_file.addresses of_file.file).is in
    let run = placed.runs of_file.level of_file.index of_file.below_four has.some in
    let data_of = data_in_run g (address_at of_file.addresses of_file.level of_file.index) (count_of g (length of_file.node.bytes) of_file.level of_file.index) f run.run has.low has.high in
    let inside = data_inside g (address_at of_file.addresses of_file.level of_file.index / g.fpg) f data_of in
    let marked = free_read g nodes all f files.numbers is.cgsize files.volume inside in
    let both = and_parts _ (not (is_used all.used f)) (sym marked ∙ bad.free) in
    false≢true (ap not (sym used) ∙ both.1)

no_twice : (g : Geometry) (nodes : List Node) (all : AllPlaced) (f : ℕ) → AreWhole g nodes all → HasTwoClaims g (volume_of g nodes all) f → ⊥
no_twice g nodes all f is bad = let differ = bad.differ in differ (one_claim g nodes all f bad.one bad.other is.files bad.first bad.second)

no_unused : (g : Geometry) (nodes : List Node) (all : AllPlaced) (i : ℕ) → AreWhole g nodes all
    → IsInode g (volume_of g nodes all) i (λ _. (is_marked_unused g i (volume_of g nodes all)).value ≡ true) → ⊥
no_unused g nodes all i is h =
    let files = is.files in
    let found = found_inode g nodes all i (λ _. (is_marked_unused g i (volume_of g nodes all)).value ≡ true) is h in
    let volume = files.volume in
    let few = volume.few in
    let low = found.low in
    let number = found.number in
    let marked = unused_read g nodes all i files.numbers is.cgsize volume (omega arith) in
    let own : nat_lt i (length nodes + 2) ≡ true = lt-ltb i (length nodes + 2) (omega arith) in
    false≢true (ap not (sym own) ∙ sym marked ∙ found.holds)

no_unknown : (g : Geometry) (nodes : List Node) (all : AllPlaced) (i : ℕ) → AreWhole g nodes all → IsInode g (volume_of g nodes all) i (λ inode. kind_of inode.mode ≡ Unknown) → ⊥
no_unknown g nodes all i is h =
    let found = found_inode g nodes all i (λ inode. kind_of inode.mode ≡ Unknown) is h in
    let kind = kind_at g nodes all i _ is found in
    kind.known (ap kind_of (sym found.mode) ∙ found.holds)

-- ---- directories

-- a directory among the files
pub record IsFoundDirectory (g : Geometry) (nodes : List Node) (all : AllPlaced) (i : ℕ) (P : Inode → Type 0) : Type 0 where
  pub found : IsFound g nodes all i (λ inode. (kind_of inode.mode ≡ Directory) × P inode)
  pub entries : List DirEntry
  pub chunks : AreChunks g.endian entries found.node.bytes
  pub outside : found.node.inside ≡ false

pub outside_by_kind : (g : Geometry) (node : Node) → HasKind g node → kind_of node.mode ≡ Directory → node.inside ≡ false
outside_by_kind g node kind e =
    not_inside node.inside (sym kind.pointers ∙ ap (λ k. kind_has_pointers g (length node.bytes) k) e)

pub found_directory : (g : Geometry) (nodes : List Node) (all : AllPlaced) (i : ℕ) (P : Inode → Type 0) → AreWhole g nodes all → IsDirectoryInode g (volume_of g nodes all) i P
    → IsFoundDirectory g nodes all i P
found_directory g nodes all i P is h =
    let found = found_inode g nodes all i (λ inode. (kind_of inode.mode ≡ Directory) × P inode) is h in
    let both = found.holds in
    let file = found.file in
    let directory : kind_of found.node.mode ≡ Directory = ap kind_of (sym found.mode) ∙ both.0 in
    let entries = is.directories found.k found.node file.node_is directory in
    record { found = found; entries = entries.0; chunks = entries.1; outside = outside_by_kind g found.node (kind_at g nodes all i _ is found) directory }

no_hole_in : (g : Geometry) (nodes : List Node) (all : AllPlaced) (i : ℕ) → AreWhole g nodes all
    → IsDirectoryInode g (volume_of g nodes all) i (λ inode. (inode.size < 2 ^ 32) × HasHole g (volume_of g nodes all) inode) → ⊥
no_hole_in g nodes all i is h =
    let v = volume_of g nodes all in
    let dir = found_directory g nodes all i (λ inode. (inode.size < 2 ^ 32) × HasHole g v inode) is h in
    let found = dir.found in
    let both = (found.holds).1 in
    let bad = both.1 in
    let small : length found.node.bytes < 2 ^ 32 = rw (← found.size) (both.0) in
    let slots = found.slots dir.outside in
    let blocks : block_count g found.inode ≡ blocks_of g found.node = ap (λ (n : ℕ). div_ceil n g.bsize) found.size ∙ sym (blocks_outside g found.node dir.outside) in
    let low : bad.n < blocks_of g found.node = rw (← blocks) bad.is in
    let there = block_found g nodes all found.k found.node found.addresses found.inode bad.n found.file slots low small in
    let some = never_hole g nodes all found.k found.node found.addresses dir.entries bad.n found.file (record { chunks = dir.chunks; outside = dir.outside; small = small }) low in
    let at : At (address_at found.addresses 0 bad.n) (fragments_of g (length found.node.bytes) bad.n) ≡ Hole =
    sym (ap (λ (b : Bool). if b then Hole else At (address_at found.addresses 0 bad.n) (fragments_of g (length found.node.bytes) bad.n)) some) ∙ sym there ∙ bad.hole in
    cc at

same_chunks : (x y : List (List ℕ)) → ◌≡◌ {A = Result (List (List ℕ)) PathRefusal} (Ok x) (Ok y) → x ≡ y
same_chunks x y e = cc e

bad_group : {group : Group} {bad : BadGroup} → ◌≡◌ {A = Result Group BadGroup} (Ok group) (Err bad) → ⊥
bad_group e = cc e

chunk_by : (g : Geometry) (nodes : List Node) (all : AllPlaced) (k : ℕ) (node : Node) (addresses : Addresses) (inode : Inode) (entries : List DirEntry) → FileOf g nodes all k node addresses
    → SlotsLead g node addresses inode → (dir : IsDirectory g node entries) → inode.size ≡ length node.bytes → HasBadChunk g (volume_of g nodes all) inode → ⊥
chunk_by g nodes all k node addresses inode entries is slots dir same bad =
    let tests = tests_of g nodes all k node addresses is in
    let blocks : block_count g inode ≡ blocks_of g node = ap (λ (n : ℕ). div_ceil n g.bsize) same ∙ sym (blocks_outside g node dir.outside) in
    let low : bad.n < blocks_of g node = rw (← blocks) bad.is in
    let chunks = dir.chunks in
    let own = chunks_in (in_block g chunks.count bad.n) (drop (bad.n * g.bsize) node.bytes) in
    let read = chunks_read g nodes all k node addresses inode entries bad.n is slots dir low in
    let whole = block_whole g node entries bad.n dir tests (block_bytes_low g node bad.n (sizes g tests) low) in
    let is_own : bad.chunks ≡ own = same_chunks bad.chunks own (sym bad.are ∙ read) in
    let contained = subst (λ (cs : List (List ℕ)). Contains cs bad.chunk) is_own bad.contains in
    let good = each_has (IsWholeChunk g.endian) bad.chunk own whole (has_contained bad.chunk own contained) in
    let clash : None ≡ Some bad.bad = sym good.fault ∙ bad.refused in
    cc clash

no_bad_chunk : (g : Geometry) (nodes : List Node) (all : AllPlaced) (i : ℕ) → AreWhole g nodes all
    → IsDirectoryInode g (volume_of g nodes all) i (λ inode. (inode.size < 2 ^ 32) × ((inode.size % 512 ≢ 0) ⊎ HasBadChunk g (volume_of g nodes all) inode)) → ⊥
no_bad_chunk g nodes all i is h =
    let v = volume_of g nodes all in
    let dir = found_directory g nodes all i (λ inode. (inode.size < 2 ^ 32) × ((inode.size % 512 ≢ 0) ⊎ HasBadChunk g v inode)) is h in
    let found = dir.found in
    let both = (found.holds).1 in
    let small : length found.node.bytes < 2 ^ 32 = rw (← found.size) (both.0) in
    let slots = found.slots dir.outside in
    let chunks = dir.chunks in
    let size = chunks.size in
    let own = found.size in
    elim (both.1) as (λ _. ⊥) [
      | inl odd ↦ odd (omega arith)
      | inr bad ↦ chunk_by g nodes all found.k found.node found.addresses found.inode dir.entries found.file slots (record { chunks = dir.chunks; outside = dir.outside; small = small }) own bad
    ]

-- ---- all of these kinds

-- those of the superblock, group blocks, inodes, pointers, fragments and chunks of directories
abbrev pub is_structural : BadKind → Bool
is_structural (Super kind) = true
is_structural GroupMagic = true
is_structural GroupMap = true
is_structural WrongType = true
is_structural Filesize = false
is_structural Past = true
is_structural WildSlot = true
is_structural WildIn = true
is_structural Align = true
is_structural AlignIn = true
is_structural Run = true
is_structural Twice = true
is_structural PastIn = false
is_structural Free = true
is_structural Unused = true
is_structural HoleIn = true
is_structural Chunk = true
is_structural Entry = false
is_structural EntryType = false
is_structural Dots = false
is_structural Names = false
is_structural DirTwice = false
is_structural RootNamed = false

pub no_malformation : (g : Geometry) (nodes : List Node) (all : AllPlaced) (kind : BadKind) (n : ℕ) → AreWhole g nodes all → is_structural kind ≡ true → IsBad g (volume_of g nodes all) kind n → ⊥
no_malformation g nodes all (Super kind) n is e bad = bad
no_malformation g nodes all GroupMagic n is e bad = let files = is.files in bad_group (sym (group_read g nodes all n files.numbers is.cgsize files.volume (bad.0)) ∙ bad.1)
no_malformation g nodes all GroupMap n is e bad = let files = is.files in bad_group (sym (group_read g nodes all n files.numbers is.cgsize files.volume (bad.0)) ∙ bad.1)
no_malformation g nodes all WrongType n is e bad = no_unknown g nodes all n is bad
no_malformation g nodes all Filesize n is e bad = false≢true e
no_malformation g nodes all Past n is e bad = no_past g nodes all n is bad
no_malformation g nodes all WildSlot n is e bad = no_wild g nodes all n is bad
no_malformation g nodes all WildIn n is e bad = no_wild_in g nodes all n is bad
no_malformation g nodes all Align n is e bad = no_misaligned g nodes all n is bad
no_malformation g nodes all AlignIn n is e bad = no_misaligned_in g nodes all n is bad
no_malformation g nodes all Run n is e bad = no_crossing g nodes all n is bad
no_malformation g nodes all Twice n is e bad = no_twice g nodes all n is bad
no_malformation g nodes all PastIn n is e bad = false≢true e
no_malformation g nodes all Free n is e bad = no_free g nodes all n is bad
no_malformation g nodes all Unused n is e bad = no_unused g nodes all n is bad
no_malformation g nodes all HoleIn n is e bad = no_hole_in g nodes all n is bad
no_malformation g nodes all Chunk n is e bad = no_bad_chunk g nodes all n is bad
no_malformation g nodes all Entry n is e bad = false≢true e
no_malformation g nodes all EntryType n is e bad = false≢true e
no_malformation g nodes all Dots n is e bad = false≢true e
no_malformation g nodes all Names n is e bad = false≢true e
no_malformation g nodes all DirTwice n is e bad = false≢true e
no_malformation g nodes all RootNamed n is e bad = false≢true e
