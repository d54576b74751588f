-- Volumes that are alike in what malformations speak of have the same malformations.
use Rattle.std.proofs.Common.{◌≡◌, ◌≢◌, ◌∙◌, ◌⊎◌, ◌↔◌, ℕ, ◌/◌, ◌%◌, ◌^◌, ◌<◌, ◌≤◌, inl, inr, Bool, true, List, Option, Some, None, Result, Ok, Err, refl, sym, ap, subst}
use Rattle.std.specs.Prelude.{MatchOption, false, if◌then◌else◌}
use Rattle.ufs_model.specs.Blocks.{Consulted, Volume, block_at}
use Rattle.ufs_model.specs.Chunks.{DirEntry}
use Rattle.ufs_model.specs.Claims.{IsClaim, level_of, source_fragments}
use Rattle.ufs_model.specs.Geometries.{IsGeometry}
use Rattle.ufs_model.specs.GroupMaps.{group_bytes, group_in, is_marked_free, is_marked_unused}
use Rattle.ufs_model.specs.Inodes.{block_count, entry_type_of, has_pointers, inode_of, is_inode_number, kind_of}
use Rattle.ufs_model.specs.Malformations.{Claims, EntryAt, FirstBlock, HasBadChunk, HasBadEntry, HasBadType, HasCrossing, HasDots, HasEntries, HasHole, HasMisaligned, HasMisalignedIn, HasPast, HasPastIn, HasSameNames, HasTwoClaims, HasWild, HasWildIn, IsBad, IsDirectory, IsFree, IsInode, IsNamed, IsNamedTwice, IsParent, IsPlain, IsPointed, IsUp, IsUpper, PlainAt, inode_at, pointer_at}
use Rattle.ufs_model.specs.Malformations.FirstBlock.{of_pointer}
use Rattle.ufs_model.specs.Owners.{IsOwner}
use Rattle.ufs_model.specs.Owners.IsOwner.{by_own_slot, by_upper}
use Rattle.ufs_model.specs.Paths.{chunks_of, entries_of}
use Rattle.ufs_model.specs.Pointers.{address, file_block_of, pointer_in}
use Rattle.ufs_model.specs.declared.claims.ClaimSource.{ClaimSource}
use Rattle.ufs_model.specs.declared.claims.ClaimSource.TheVariants.{Pointer, Slot}
use Rattle.ufs_model.specs.declared.geometries.Geometry.{Geometry}
use Rattle.ufs_model.specs.declared.group_maps.BadGroup.{BadGroup}
use Rattle.ufs_model.specs.declared.group_maps.BadGroup.TheVariants.{Magic as BadMagic, Map as BadMap}
use Rattle.ufs_model.specs.declared.inodes.Inode.{Inode}
use Rattle.ufs_model.specs.declared.inodes.Kind.TheVariants.{Directory, Unknown}
use Rattle.ufs_model.specs.declared.malformations.BadKind.{BadKind}
use Rattle.ufs_model.specs.declared.malformations.BadKind.TheVariants.{Super, GroupMagic, GroupMap, WrongType, Filesize, Past, Wild as WildSlot, WildIn, Align, AlignIn, Run, Twice, PastIn, Free, Unused, Hole as HoleIn, Chunk, Entry, EntryType, Dots, Names, DirTwice, RootNamed}
use Rattle.ufs_model.specs.declared.pointers.Address.{Address}
use Rattle.ufs_model.specs.declared.reads.PathRefusal.{PathRefusal}
use Rattle.ufs_frames.proofs.ClaimLaws.{number_below, owner_along}
use Rattle.ufs_frames.proofs.DataLaws.{claim_data, data_group, inode_group}
use Rattle.ufs_frames.proofs.LocalLaws.{bind_same}

-- the same of two volumes with a geometry
pub record AreAlike (g : Geometry) (v w : Volume) : Type 0 where
  pub geometry : IsGeometry g
  pub inodes : (i : ℕ) → inode_at g w i ≡ inode_at g v i
  pub claims : (f : ℕ) (source : ClaimSource) → IsClaim (source_fragments g w) f source ↔ IsClaim (source_fragments g v) f source
  pub uppers : (f : ℕ) (source : ClaimSource) → IsClaim (source_fragments g v) f source → 0 < level_of source → block_at g.fsize w f ≡ block_at g.fsize v f
  pub firsts : (source : ClaimSource) (i n : ℕ) → FirstBlock g w source i n ↔ FirstBlock g v source i n
  pub groups : (c : ℕ) → c < g.ncg → group_bytes g c w ≡ group_bytes g c v
  pub addresses : (i n : ℕ) (inode : Inode) → inode_at g v i ≡ Some inode → kind_of inode.mode ≡ Directory → inode.size < 2 ^ 32 → n < block_count g inode
      → file_block_of g inode n w ≡ file_block_of g inode n v
  pub chunks : (i n : ℕ) (inode : Inode) → inode_at g v i ≡ Some inode → kind_of inode.mode ≡ Directory → inode.size < 2 ^ 32 → n < block_count g inode
      → chunks_of g inode n w ≡ chunks_of g inode n v
  pub entries : (i : ℕ) (inode : Inode) → inode_at g v i ≡ Some inode → kind_of inode.mode ≡ Directory → entries_of g inode w ≡ entries_of g inode v

pub turned : (g : Geometry) (v w : Volume) → AreAlike g v w → AreAlike g w v
turned g v w alike = record {
  geometry = alike.geometry;
  inodes = λ i. sym (alike.inodes i);
  claims = λ f source. ((alike.claims f source).1, (alike.claims f source).0);
  uppers = λ f source claim above. sym (alike.uppers f source ((alike.claims f source).0 claim) above);
  firsts = λ source i n. ((alike.firsts source i n).1, (alike.firsts source i n).0);
  groups = λ c low. sym (alike.groups c low);
  addresses = λ i n inode there is small low. sym (alike.addresses i n inode (sym (alike.inodes i) ∙ there) is small low);
  chunks = λ i n inode there is small low. sym (alike.chunks i n inode (sym (alike.inodes i) ∙ there) is small low);
  entries = λ i inode there is. sym (alike.entries i inode (sym (alike.inodes i) ∙ there) is);
}

match_by : (found : Option Inode) (P Q : Inode → Type 0) → ((inode : Inode) → found ≡ Some inode → P inode → Q inode) → MatchOption found ⊥ P → MatchOption found ⊥ Q
match_by None P Q each h = h
match_by (Some inode) P Q each h = each inode refl h

match_not : (found : Option Inode) (P : Inode → Type 0) → MatchOption found ⊥ P → (found ≡ None → ⊥)
match_not None P h is = h
match_not (Some inode) P h is = let no : Some inode ≡ None = is in cc

is_number : (within : Bool) (found : Option Inode) (P : Inode → Type 0) → MatchOption (if within then found else None) ⊥ P → within ≡ true
is_number true found P h = refl
is_number false found P h = absurd h

-- a fragment with an owner is claimed at its level
owner_upper : (g : Geometry) (v : Volume) (f i level : ℕ) → IsOwner (Claims g v) f i level → 0 < level → IsUpper g v f level
owner_upper g v f i level (by_own_slot {slot = slot} one is) above = record { source = Slot i slot; claim = one.claim; of_level = is; above = above }
owner_upper g v f i level (by_upper {upper = upper} {at = at} {above = height} one is owner) above = record { source = Pointer upper height at; claim = one.claim; of_level = is; above = above }

reached_above : (g : Geometry) (v : Volume) (f level at i n : ℕ) → FirstBlock g v (Pointer f level at) i n → 0 < level
reached_above g v f level at i n (of_pointer place before here is above) = above

module _ (g : Geometry) (v w : Volume) (alike : AreAlike g v w) where
  -- ---- inodes

  inode_with : (i : ℕ) (P Q : Inode → Type 0) → ((inode : Inode) → inode_at g v i ≡ Some inode → P inode → Q inode) → IsInode g v i P → IsInode g w i Q
  inode_with i P Q each h = subst (λ (found : Option Inode). MatchOption found ⊥ Q) (sym (alike.inodes i)) (match_by (inode_at g v i) P Q each h)

  pointed_with : (i : ℕ) (P Q : Inode → Type 0) → ((inode : Inode) → P inode → Q inode) → IsPointed g v i P → IsPointed g w i Q
  pointed_with i P Q each h = inode_with i (λ inode. (has_pointers g inode ≡ true) × P inode) (λ inode. (has_pointers g inode ≡ true) × Q inode) (λ inode there both. (both.0, each inode (both.1))) h

  directory_with : (i : ℕ) (P Q : Inode → Type 0) → ((inode : Inode) → inode_at g v i ≡ Some inode → kind_of inode.mode ≡ Directory → P inode → Q inode) → IsDirectory g v i P → IsDirectory g w i Q
  directory_with i P Q each h = inode_with i (λ inode. (kind_of inode.mode ≡ Directory) × P inode) (λ inode. (kind_of inode.mode ≡ Directory) × Q inode)
      (λ inode there both. (both.0, each inode there (both.0) (both.1))) h

  past : (inode : Inode) → HasPast g v inode → HasPast g w inode
  past inode h = record { slot = h.slot; is = h.is; some = h.some; past = h.past }

  wild : (inode : Inode) → HasWild g v inode → HasWild g w inode
  wild inode h = record { slot = h.slot; is = h.is; wild = h.wild }

  misaligned : (inode : Inode) → HasMisaligned g v inode → HasMisaligned g w inode
  misaligned inode h = record { slot = h.slot; start = h.start; is = h.is; whole = h.whole; middle = h.middle }

  crossing : (inode : Inode) → HasCrossing g v inode → HasCrossing g w inode
  crossing inode h = record { slot = h.slot; start = h.start; count = h.count; is = h.is; short = h.short; fewer = h.fewer; crosses = h.crosses }

  -- ---- fragments

  upper : (f level : ℕ) → IsUpper g v f level → IsUpper g w f level
  upper f level h = record { source = h.source; claim = (alike.claims f h.source).1 h.claim; of_level = h.of_level; above = h.above }

  pointer : (f level at : ℕ) → IsUpper g v f level → pointer_at g w f at ≡ pointer_at g v f at
  pointer f level at h = ap (λ block. pointer_in g.endian block at) (alike.uppers f h.source h.claim (subst (λ (k : ℕ). 0 < k) (sym h.of_level) h.above))

  wild_in : (f : ℕ) → HasWildIn g v f → HasWildIn g w f
  wild_in f h = record {
    level = h.level;
    at = h.at;
    upper = upper f h.level h.upper;
    is = h.is;
    wild = ap (λ (a : ℕ). address g a g.frag) (pointer f h.level h.at h.upper) ∙ h.wild;
  }

  misaligned_in : (f : ℕ) → HasMisalignedIn g v f → HasMisalignedIn g w f
  misaligned_in f h = record {
    level = h.level;
    at = h.at;
    start = h.start;
    upper = upper f h.level h.upper;
    is = h.is;
    whole = ap (λ (a : ℕ). address g a g.frag) (pointer f h.level h.at h.upper) ∙ h.whole;
    middle = h.middle;
  }

  two_claims : (f : ℕ) → HasTwoClaims g v f → HasTwoClaims g w f
  two_claims f h = record { one = h.one; other = h.other; differ = h.differ; first = (alike.claims f h.one).1 h.first; second = (alike.claims f h.other).1 h.second }

  past_in : (f : ℕ) → HasPastIn g v f → HasPastIn g w f
  past_in f h =
      let above = reached_above g v f h.level h.at h.i h.block h.reaches in
      let same = pointer f h.level h.at (owner_upper g v f h.i h.level h.owned above) in
      record {
        level = h.level;
        at = h.at;
        i = h.i;
        inode = h.inode;
        block = h.block;
        owned = owner_along (Claims g v) (Claims g w) alike.claims h.owned;
        is = h.is;
        some = λ none. h.some (sym same ∙ none);
        reaches = (alike.firsts (Pointer f h.level h.at) h.i h.block).1 h.reaches;
        owner = alike.inodes h.i ∙ h.owner;
        past = h.past;
      }

  marked_free : (f : ℕ) → f / g.fpg < g.ncg → is_marked_free g f w ≡ is_marked_free g f v
  unfolding is_marked_free
  marked_free f low = bind_same (group_bytes g (f / g.fpg)) _ v w (alike.groups (f / g.fpg) low) refl

  marked_unused : (i : ℕ) → i / g.ipg < g.ncg → is_marked_unused g i w ≡ is_marked_unused g i v
  unfolding is_marked_unused
  marked_unused i low = bind_same (group_bytes g (i / g.ipg)) _ v w (alike.groups (i / g.ipg) low) refl

  free : (f : ℕ) → IsFree g v f → IsFree g w f
  free f h = record {
    source = h.source;
    claim = (alike.claims f h.source).1 h.claim;
    free = ap (λ (c : Consulted Bool). c.value) (marked_free f (data_group g f alike.geometry (claim_data g v f h.source h.claim))) ∙ h.free;
  }

  unused : (i : ℕ) → IsBad g v Unused i → IsBad g w Unused i
  unused i h =
      let number = number_below g i (is_number (is_inode_number g i) ((inode_of g i v).value) (λ _. (is_marked_unused g i v).value ≡ true) h) in
      inode_with i (λ _. (is_marked_unused g i v).value ≡ true) (λ _. (is_marked_unused g i w).value ≡ true)
      (λ inode there is. ap (λ (c : Consulted Bool). c.value) (marked_unused i (inode_group g i alike.geometry number)) ∙ is) h

  group_bad : (c : ℕ) (bad : BadGroup) → (c < g.ncg) × (group_in g c (group_bytes g c v).value ≡ Err bad) → (c < g.ncg) × (group_in g c (group_bytes g c w).value ≡ Err bad)
  group_bad c bad (low, is) = (low, ap (λ (bytes : Consulted (List ℕ)). group_in g c bytes.value) (alike.groups c low) ∙ is)

  -- ---- directories

  hole : (i : ℕ) → IsBad g v HoleIn i → IsBad g w HoleIn i
  hole i h = directory_with i (λ inode. (inode.size < 2 ^ 32) × HasHole g v inode) (λ inode. (inode.size < 2 ^ 32) × HasHole g w inode)
      (λ inode there is both. (both.0, hole_in i inode there is (both.0) (both.1))) h
    where
      hole_in : (i : ℕ) (inode : Inode) → inode_at g v i ≡ Some inode → kind_of inode.mode ≡ Directory → inode.size < 2 ^ 32 → HasHole g v inode → HasHole g w inode
      hole_in i inode there is small h = record {
        n = h.n;
        is = h.is;
        hole = ap (λ (c : Consulted Address). c.value) (alike.addresses i h.n inode there is small h.is) ∙ h.hole;
      }

  bad_chunk : (i : ℕ) (inode : Inode) → inode_at g v i ≡ Some inode → kind_of inode.mode ≡ Directory → inode.size < 2 ^ 32 → HasBadChunk g v inode → HasBadChunk g w inode
  bad_chunk i inode there is small h = record {
    n = h.n;
    chunks = h.chunks;
    chunk = h.chunk;
    bad = h.bad;
    is = h.is;
    are = ap (λ (c : Consulted (Result (List (List ℕ)) PathRefusal)). c.value) (alike.chunks i h.n inode there is small h.is) ∙ h.are;
    contains = h.contains;
    refused = h.refused;
  }

  chunk_in : (i : ℕ) (inode : Inode) → inode_at g v i ≡ Some inode → kind_of inode.mode ≡ Directory → inode.size < 2 ^ 32
      → (inode.size % 512 ≢ 0) ⊎ HasBadChunk g v inode → (inode.size % 512 ≢ 0) ⊎ HasBadChunk g w inode
  chunk_in i inode there is small (inl part) = inl part
  chunk_in i inode there is small (inr bad) = inr (bad_chunk i inode there is small bad)

  chunk : (i : ℕ) → IsBad g v Chunk i → IsBad g w Chunk i
  chunk i h = directory_with i (λ inode. (inode.size < 2 ^ 32) × ((inode.size % 512 ≢ 0) ⊎ HasBadChunk g v inode)) (λ inode. (inode.size < 2 ^ 32) × ((inode.size % 512 ≢ 0) ⊎ HasBadChunk g w inode))
      (λ inode there is both. (both.0, chunk_in i inode there is (both.0) (both.1))) h

  -- ---- entries

  has_entries : (i : ℕ) (entries : List DirEntry) → HasEntries g v i entries → HasEntries g w i entries
  has_entries i entries h = directory_with i (λ inode. (entries_of g inode v).value ≡ Ok entries) (λ inode. (entries_of g inode w).value ≡ Ok entries)
      (λ inode there is are. ap (λ (c : Consulted (Result (List DirEntry) PathRefusal)). c.value) (alike.entries i inode there is) ∙ are) h

  entry_at : (i k : ℕ) (entry : DirEntry) → EntryAt g v i k entry → EntryAt g w i k entry
  entry_at i k entry h = record { entries = h.entries; are = has_entries i h.entries h.are; here = h.here }

  is_named : (entry : DirEntry) → IsNamed g v entry → IsNamed g w entry
  is_named entry h = inode_with entry.inode (λ _. Unit {0}) (λ _. Unit {0}) (λ inode there h. h) h

  is_plain : (entry : DirEntry) → IsPlain g v entry → IsPlain g w entry
  is_plain entry h = record { dot = h.dot; dot_dot = h.dot_dot }

  plain_at : (i k named : ℕ) → PlainAt g v i k named → PlainAt g w i k named
  plain_at i k named h = record { entry = h.entry; here = entry_at i k h.entry h.here; plain = is_plain h.entry h.plain; names = h.names }

  bad_entry : (i : ℕ) → HasBadEntry g v i → HasBadEntry g w i
  bad_entry i h = record { k = h.k; entry = h.entry; here = entry_at i h.k h.entry h.here; none = alike.inodes h.entry.inode ∙ h.none }

  bad_type : (i : ℕ) → HasBadType g v i → HasBadType g w i
  bad_type i h = record {
    k = h.k;
    entry = h.entry;
    here = entry_at i h.k h.entry h.here;
    typed = h.typed;
    other = inode_with h.entry.inode (λ inode. entry_type_of (kind_of inode.mode) ≢ Some h.entry.kind) (λ inode. entry_type_of (kind_of inode.mode) ≢ Some h.entry.kind) (λ inode there h. h) h.other;
  }

  same_names : (i : ℕ) → HasSameNames g v i → HasSameNames g w i
  same_names i h = record {
    j = h.j;
    k = h.k;
    one = h.one;
    other = h.other;
    differ = h.differ;
    first = entry_at i h.j h.one h.first;
    second = entry_at i h.k h.other h.second;
    one_named = is_named h.one h.one_named;
    other_named = is_named h.other h.other_named;
    same = h.same;
  }

  pub is_directory : (i : ℕ) → IsDirectory g v i (λ _. Unit {0}) → IsDirectory g w i (λ _. Unit {0})
  is_directory i h = directory_with i (λ _. Unit {0}) (λ _. Unit {0}) (λ inode there is h. h) h

  named_twice : (d : ℕ) → IsNamedTwice g v d → IsNamedTwice g w d
  named_twice d h = record {
    i = h.i;
    j = h.j;
    k = h.k;
    l = h.l;
    directory = is_directory d h.directory;
    differ = h.differ;
    first = plain_at h.i h.j d h.first;
    second = plain_at h.k h.l d h.second;
  }

-- both ways are needed of parents
parent_back : (g : Geometry) (v w : Volume) → AreAlike g v w → (i d : ℕ) → IsParent g w i d → IsParent g v i d
parent_back g v w alike i d h = record {
  k = h.k;
  entry = plain_at g w v (turned g v w alike) d h.k i h.entry;
  least = λ other k low plain. h.least other k low (plain_at g v w alike other k i plain);
}

is_up : (g : Geometry) (v w : Volume) → AreAlike g v w → (i p : ℕ) → IsUp g v i p → IsUp g w i p
is_up g v w alike i p h = record {
  directory = is_directory g v w alike p h.directory;
  root = h.root;
  parent = λ other d parent. h.parent other d (parent_back g v w alike i d parent);
}

has_dots : (g : Geometry) (v w : Volume) → AreAlike g v w → (i : ℕ) → HasDots g v i → HasDots g w i
has_dots g v w alike i h = record {
  own = h.own;
  up = h.up;
  first = entry_at g v w alike i 0 h.own h.first;
  second = entry_at g v w alike i 1 h.up h.second;
  is_own = λ named. h.is_own (is_named g w v (turned g v w alike) h.own named);
  is_up = λ named. let both = h.is_up (is_named g w v (turned g v w alike) h.up named) in (both.0, is_up g v w alike i h.up.inode (both.1));
}

-- ---- all kinds

pub same_bad : (g : Geometry) (v w : Volume) → AreAlike g v w → (kind : BadKind) (n : ℕ) → IsBad g v kind n → IsBad g w kind n
same_bad g v w alike (Super kind) n h = h
same_bad g v w alike GroupMagic n h = group_bad g v w alike n BadMagic h
same_bad g v w alike GroupMap n h = group_bad g v w alike n BadMap h
same_bad g v w alike WrongType n h = inode_with g v w alike n (λ inode. kind_of inode.mode ≡ Unknown) (λ inode. kind_of inode.mode ≡ Unknown) (λ inode there h. h) h
same_bad g v w alike Filesize n h = pointed_with g v w alike n (λ inode. 2 ^ 32 ≤ inode.size) (λ inode. 2 ^ 32 ≤ inode.size) (λ inode h. h) h
same_bad g v w alike Past n h = pointed_with g v w alike n (HasPast g v) (HasPast g w) (past g v w alike) h
same_bad g v w alike WildSlot n h = pointed_with g v w alike n (HasWild g v) (HasWild g w) (wild g v w alike) h
same_bad g v w alike WildIn n h = wild_in g v w alike n h
same_bad g v w alike Align n h = pointed_with g v w alike n (HasMisaligned g v) (HasMisaligned g w) (misaligned g v w alike) h
same_bad g v w alike AlignIn n h = misaligned_in g v w alike n h
same_bad g v w alike Run n h = pointed_with g v w alike n (HasCrossing g v) (HasCrossing g w) (crossing g v w alike) h
same_bad g v w alike Twice n h = two_claims g v w alike n h
same_bad g v w alike PastIn n h = past_in g v w alike n h
same_bad g v w alike Free n h = free g v w alike n h
same_bad g v w alike Unused n h = unused g v w alike n h
same_bad g v w alike HoleIn n h = hole g v w alike n h
same_bad g v w alike Chunk n h = chunk g v w alike n h
same_bad g v w alike Entry n h = bad_entry g v w alike n h
same_bad g v w alike EntryType n h = bad_type g v w alike n h
same_bad g v w alike Dots n h = ((h.0.0, has_entries g v w alike n (h.0.0) (h.0.1)), λ dots. h.1 (has_dots g w v (turned g v w alike) n dots))
same_bad g v w alike Names n h = same_names g v w alike n h
same_bad g v w alike DirTwice n h = named_twice g v w alike n h
same_bad g v w alike RootNamed n h = (inode_with g v w alike 2 (λ _. Unit {0}) (λ _. Unit {0}) (λ inode there h. h) (h.0), (h.1.0, plain_at g v w alike n (h.1.0) 2 (h.1.1)))
