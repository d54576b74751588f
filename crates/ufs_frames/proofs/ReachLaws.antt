-- What is reached through the slots of an inode is claimed: its indirect blocks, and the fragments of its file blocks.
use Rattle.std.proofs.Common.{◌≡◌, ◌∙◌, ℕ, suc, ◌+◌, ◌-◌, ◌*◌, ◌/◌, ◌%◌, ◌^◌, ◌<◌, ◌≤◌, ◌⊎◌, lit<, inl, inr, length, Bool, true, false, [], ◌++◌, Option, Some, None, refl, sym, ap, subst, arith}
use Rattle.std.specs.Prelude.{◌==◌, Contains, if◌then◌else◌, nat_le, nat_lt, slice_get}
use Rattle.std.proofs.lemmas.Bool.Decides.{nat_tests}
use Rattle.std.proofs.lemmas.List.Elements.{Contains-append_cases}
use Rattle.ufs_model.specs.Blocks.{Consulted, Volume, area_of, bind, block_at}
use Rattle.ufs_model.specs.Claims.{IsClaim, fragments_at, fragments_from, level_of, pointer_fragments, slot_fragments, slot_fragments_in, source_fragments}
use Rattle.ufs_model.specs.Claims.IsClaim.{by_pointer, by_slot}
use Rattle.ufs_model.specs.Geometries.{IsGeometry}
use Rattle.ufs_model.specs.Inodes.{block_count, has_pointers, inode_of, is_inode_number, slot_of, span}
use Rattle.ufs_model.specs.Malformations.{FirstBlock, first_block, inode_at}
use Rattle.ufs_model.specs.Malformations.FirstBlock.{of_pointer, of_slot}
use Rattle.ufs_model.specs.Paths.{block_of, bytes_at}
use Rattle.ufs_model.specs.Pointers.{address, chain_address, file_block_of, is_data_run, locate_of, pointer_in, slot_address, through}
use Rattle.ufs_model.specs.declared.claims.ClaimSource.{ClaimSource}
use Rattle.ufs_model.specs.declared.claims.ClaimSource.TheVariants.{Pointer, Slot}
use Rattle.ufs_model.specs.declared.geometries.Geometry.{Geometry}
use Rattle.ufs_model.specs.declared.inodes.Inode.{Inode}
use Rattle.ufs_model.specs.declared.pointers.Address.{Address}
use Rattle.ufs_model.specs.declared.pointers.Address.TheVariants.{At, Hole, Wild}
use Rattle.ufs_model.specs.declared.pointers.Chain.{Chain}
use Rattle.ufs_model.specs.declared.pointers.Chain.TheVariants.{Direct, One, Two, Three}
use Rattle.ufs_frames.specs.Chains.{IsChain}
use Rattle.ufs_frames.specs.Frames.{IsFile, IsWhole}
use Rattle.ufs_frames.proofs.FragmentLaws.{area_have, chain_bounds, count_few, fragments_get, fragments_have, in_none, place_below, pointer_at_fragment, quarters}

-- ---- what a source claims, where an address is reached through it

pub record IsReached (g : Geometry) (v : Volume) (i level : ℕ) (source : ClaimSource) (at : Address) : Type 0 where
  pub first : ℕ
  pub owner : FirstBlock g v source i first
  pub of_level : level_of source ≡ level
  pub are : source_fragments g v source ≡ fragments_at at
  pub claims : (f : ℕ) → Contains (fragments_at at) f → IsClaim (source_fragments g v) f source

-- where an address leads to fragments, they are claimed at a level; above 0 they are a whole file block
pub record IsClaimed (g : Geometry) (v : Volume) (i level : ℕ) (at : Address) : Type 0 where
  pub reached : (a k : ℕ) → at ≡ At a k → (source : ClaimSource) × IsReached g v i level source (At a k)
  pub whole : 0 < level → (a k : ℕ) → at ≡ At a k → k ≡ g.frag

-- block b is claimed by a source through which a file block of inode i is reached
pub record IsReachedFor (g : Geometry) (v : Volume) (i b : ℕ) : Type 0 where
  pub source : ClaimSource
  pub first : ℕ
  pub claim : IsClaim (source_fragments g v) b source
  pub reaches : FirstBlock g v source i first

-- what is claimed at no fragment is claimed anyhow
claims_nothing : (g : Geometry) (v : Volume) (i level : ℕ) (at : Address) → ((a k : ℕ) → at ≡ At a k → ⊥) → IsClaimed g v i level at
claims_nothing g v i level at none = record { reached = λ a k is. absurd (none a k is); whole = λ above a k is. absurd (none a k is) }

span_by : (zero_pointer run : Bool) (a k b j : ℕ) → (if zero_pointer then Hole else if run then At a k else Wild) ≡ At b j → j ≡ k
span_by true run a k b j is = let no : Hole ≡ At b j = is in cc
span_by false true a k b j is = let same : At a k ≡ At b j = is in cc
span_by false false a k b j is = let no : Wild ≡ At b j = is in cc

pub address_span : (g : Geometry) (a k b j : ℕ) → address g a k ≡ At b j → j ≡ k
unfolding address
address_span g a k b j is = span_by (a == 0) (is_data_run g a k) a k b j is

slot_by : (g : Geometry) (slot : ℕ) (inode : Inode) (within : Bool) (found : Option Inode) → (if within then found else None) ≡ Some inode
    → (if within then slot_fragments_in g slot found else []) ≡ slot_fragments g inode slot
slot_by g slot inode true found is = rw is refl
slot_by g slot inode false found is = let no : None ≡ Some inode = is in cc

pub slot_claims : (g : Geometry) (v : Volume) (i slot : ℕ) (inode : Inode) → inode_at g v i ≡ Some inode → has_pointers g inode ≡ true → slot < 15
    → source_fragments g v (Slot i slot) ≡ fragments_at (slot_address g inode slot)
unfolding source_fragments slot_fragments
slot_claims g v i slot inode is pointers low =
    let within : nat_lt slot 15 ≡ true = grind (arith, nat_tests) in
    slot_by g slot inode (is_inode_number g i) ((inode_of g i v).value) is ∙ rw (pointers, within) refl

pub slot_whole : (g : Geometry) (inode : Inode) (slot : ℕ) → 12 ≤ slot → span g inode slot ≡ g.frag
unfolding span
slot_whole g inode slot high = let past : nat_le 12 slot ≡ true = grind (arith, nat_tests) in rw past refl

pub slot_claimed : (g : Geometry) (v : Volume) (i slot : ℕ) (inode : Inode) → inode_at g v i ≡ Some inode → has_pointers g inode ≡ true → slot < 15
    → IsClaimed g v i (slot - 11) (slot_address g inode slot)
slot_claimed g v i slot inode is pointers low = record {
  reached = λ a k at.
      let are = slot_claims g v i slot inode is pointers low ∙ ap fragments_at at in
      (Slot i slot, record { first = first_block g slot; owner = of_slot; of_level = refl; are = are; claims = λ f h. by_slot (subst (λ fragments. Contains fragments f) (sym are) h) });
  whole = λ above a k at. address_span g (slot_of inode slot) (span g inode slot) a k at ∙ slot_whole g inode slot (omega arith);
}

-- ---- through an indirect block

pub pointer_claims : (g : Geometry) (v : Volume) (f level at : ℕ) → at < g.fsize / 4
    → source_fragments g v (Pointer f level at) ≡ fragments_at (address g (pointer_in g.endian (block_at g.fsize v f) at) g.frag)
unfolding source_fragments pointer_fragments
pointer_claims g v f level at low = let within : nat_lt at (g.fsize / 4) ≡ true = grind (arith, nat_tests) in rw within refl

pub upper_blocks : (g : Geometry) (v : Volume) (i level a : ℕ) (source : ClaimSource) → IsWhole g v → IsReached g v i (suc level) source (At a g.frag)
    → (j : ℕ) → j < g.frag → length (block_at g.fsize v (a + j)) ≡ g.fsize
upper_blocks g v i level a source whole one j low =
    let of_level = one.of_level in
    whole.uppers (a + j) source (one.claims (a + j) (fragments_have a g.frag (a + j) (omega arith) (omega arith))) (omega arith)

through_reached : (g : Geometry) (v : Volume) (i level p a b j : ℕ) (source : ClaimSource) → IsWhole g v → p / (g.fsize / 4) < g.frag
    → IsReached g v i (suc level) source (At a g.frag) → address g (pointer_in g.endian ((area_of g.fsize a g.frag v).value) p) g.frag ≡ At b j
    → IsReached g v i level (Pointer (a + p / (g.fsize / 4)) (suc level) (p % (g.fsize / 4))) (At b j)
through_reached g v i level p a b j source whole low one is =
    let quarter = quarters g whole.geometry in
    let some = quarter.1 in
    let f = a + p / (g.fsize / 4) in
    let at = p % (g.fsize / 4) in
    let inside : p % (g.fsize / 4) < g.fsize / 4 = omega arith in
    let same = pointer_at_fragment g.endian g.fsize a g.frag p v (upper_blocks g v i level a source whole one) (quarter.0) some low in
    let are : source_fragments g v (Pointer (a + p / (g.fsize / 4)) (suc level) (p % (g.fsize / 4))) ≡ fragments_at (At b j) =
    pointer_claims g v f (suc level) at inside ∙ ap (λ pointer. fragments_at (address g pointer g.frag)) (sym same) ∙ ap fragments_at is in
    let upper : slice_get (source_fragments g v source) (p / (g.fsize / 4)) ≡ Some (a + p / (g.fsize / 4)) = rw one.are (fragments_get a g.frag (p / (g.fsize / 4)) low) in
    record {
      first = one.first + (p / (g.fsize / 4) * (g.fsize / 4) + p % (g.fsize / 4)) * g.nindir ^ (suc level - 1);
      owner = of_pointer (p / (g.fsize / 4)) one.owner upper one.of_level (omega arith);
      of_level = let back : suc level - 1 ≡ level = omega arith in back;
      are = are;
      claims = λ h inside. by_pointer (one.claims f (fragments_have a g.frag f (omega arith) (omega arith))) one.of_level (omega arith) (subst (λ fragments. Contains fragments h) (sym are) inside);
    }

pub through_claimed : (g : Geometry) (v : Volume) (i level p : ℕ) (at : Address) → IsWhole g v → p / (g.fsize / 4) < g.frag
    → IsClaimed g v i (suc level) at → IsClaimed g v i level ((through g p at v).value)
unfolding through bind
through_claimed g v i level p Hole whole low one = claims_nothing g v i level Hole (λ a k is. let no : Hole ≡ At a k = is in cc)
through_claimed g v i level p Wild whole low one = claims_nothing g v i level Wild (λ a k is. let no : Wild ≡ At a k = is in cc)
through_claimed g v i level p (At a k) whole low one =
    let same : k ≡ g.frag = one.whole (omega arith) a k refl in
    let reached = one.reached a k refl in
    let upper = subst (λ k. IsReached g v i (suc level) reached.0 (At a k)) same reached.1 in
    record {
      reached = λ b j is. (
        Pointer (a + p / (g.fsize / 4)) (suc level) (p % (g.fsize / 4)),
        through_reached g v i level p a b j reached.0 whole low upper (subst (λ k. address g (pointer_in g.endian ((area_of g.fsize a k v).value) p) g.frag ≡ At b j) same is),
      );
      whole = λ above b j is. address_span g (pointer_in g.endian ((area_of g.fsize a k v).value) p) g.frag b j is;
    }

through_needs : (g : Geometry) (v : Volume) (i level p b : ℕ) (at : Address) → IsClaimed g v i (suc level) at → Contains ((through g p at v).needs) b → IsReachedFor g v i b
unfolding through bind
through_needs g v i level p b Hole one h = absurd (in_none b h)
through_needs g v i level p b Wild one h = absurd (in_none b h)
through_needs g v i level p b (At a k) one h = elim (Contains-append_cases ((area_of g.fsize a k v).needs) [] b h) [
  | inl here ↦ let reached = one.reached a k refl in record { source = reached.0; first = reached.1.first; claim = reached.1.claims b (area_have g.fsize a k b v here); reaches = reached.1.owner }
  | inr none ↦ absurd (in_none b none)
]

-- ---- the chain of a file block

-- what a chain leads to is claimed as data, and it goes through indirect blocks alone
record IsChained (g : Geometry) (v : Volume) (i : ℕ) (reading : Consulted Address) : Type 0 where
  claimed : IsClaimed g v i 0 reading.value
  needs : (b : ℕ) → Contains reading.needs b → IsReachedFor g v i b

chain_by : (g : Geometry) (v : Volume) (i : ℕ) (inode : Inode) (chain : Chain) → IsWhole g v → IsFile g v i inode → IsChain g.nindir chain → IsChained g v i (chain_address g inode chain v)
unfolding bind
chain_by g v i inode (Direct slot) whole file low = record {
  claimed = let none : slot - 11 ≡ 0 = omega arith in subst (λ level. IsClaimed g v i level (slot_address g inode slot)) none (slot_claimed g v i slot inode file.there file.pointers (omega arith));
  needs = λ b h. absurd (in_none b h);
}
chain_by g v i inode (One p) whole file low =
    let top = slot_claimed g v i 12 inode file.there file.pointers (lit< tt) in
    record {
      claimed = through_claimed g v i 0 p (slot_address g inode 12) whole (place_below g p whole.geometry low) top;
      needs = λ b h. through_needs g v i 0 p b (slot_address g inode 12) top h;
    }
chain_by g v i inode (Two p q) whole file low =
    let top = slot_claimed g v i 13 inode file.there file.pointers (lit< tt) in
    let one = through_claimed g v i 1 p (slot_address g inode 13) whole (place_below g p whole.geometry low.0) top in
    record {
      claimed = through_claimed g v i 0 q ((through g p (slot_address g inode 13) v).value) whole (place_below g q whole.geometry low.1) one;
      needs = λ b h. elim (Contains-append_cases ((through g p (slot_address g inode 13) v).needs) ((through g q ((through g p (slot_address g inode 13) v).value) v).needs) b h) [
        | inl first ↦ through_needs g v i 1 p b (slot_address g inode 13) top first
        | inr second ↦ through_needs g v i 0 q b ((through g p (slot_address g inode 13) v).value) one second
      ];
    }
chain_by g v i inode (Three p q r) whole file low =
    let top = slot_claimed g v i 14 inode file.there file.pointers (lit< tt) in
    let two = through_claimed g v i 2 p (slot_address g inode 14) whole (place_below g p whole.geometry low.0) top in
    let one = through_claimed g v i 1 q ((through g p (slot_address g inode 14) v).value) whole (place_below g q whole.geometry low.1) two in
    record {
      claimed = through_claimed g v i 0 r ((through g q ((through g p (slot_address g inode 14) v).value) v).value) whole (place_below g r whole.geometry low.2) one;
      needs = λ b h. elim (Contains-append_cases ((through g p (slot_address g inode 14) v).needs)
          ((through g q ((through g p (slot_address g inode 14) v).value) v).needs ++ (through g r ((through g q ((through g p (slot_address g inode 14) v).value) v).value) v).needs) b h) [
            | inl first ↦ through_needs g v i 2 p b (slot_address g inode 14) top first
            | inr others ↦ elim (Contains-append_cases ((through g q ((through g p (slot_address g inode 14) v).value) v).needs)
                ((through g r ((through g q ((through g p (slot_address g inode 14) v).value) v).value) v).needs) b others) [
                  | inl second ↦ through_needs g v i 1 q b ((through g p (slot_address g inode 14) v).value) two second
                  | inr third ↦ through_needs g v i 0 r b ((through g q ((through g p (slot_address g inode 14) v).value) v).value) one third
                ]
          ];
    }

file_block_chained : (g : Geometry) (v : Volume) (i n : ℕ) (inode : Inode) → IsWhole g v → IsFile g v i inode → n < 2 ^ 30 → IsChained g v i (file_block_of g inode n v)
unfolding file_block_of
file_block_chained g v i n inode whole file small = chain_by g v i inode (locate_of g n) whole file (chain_bounds g n whole.geometry small)

-- ---- the bytes of a file block

record HasFragment (at : Address) (b : ℕ) : Type 0 where
  start : ℕ
  count : ℕ
  are : at ≡ At start count
  here : Contains (fragments_from start count) b

bytes_need : (g : Geometry) (v : Volume) (b : ℕ) (at : Address) → Contains ((bytes_at g at v).needs) b → HasFragment at b
unfolding bytes_at bind
bytes_need g v b Hole h = absurd (in_none b h)
bytes_need g v b Wild h = absurd (in_none b h)
bytes_need g v b (At a k) h = elim (Contains-append_cases ((area_of g.fsize a k v).needs) [] b h) [
  | inl here ↦ record { start = a; count = k; are = refl; here = area_have g.fsize a k b v here }
  | inr none ↦ absurd (in_none b none)
]

block_needs : (g : Geometry) (inode : Inode) (n b : ℕ) (v : Volume) → Contains ((block_of g inode n v).needs) b
    → Contains ((file_block_of g inode n v).needs) b ⊎ Contains ((bytes_at g ((file_block_of g inode n v).value) v).needs) b
unfolding block_of bind
block_needs g inode n b v h = Contains-append_cases ((file_block_of g inode n v).needs) ((bytes_at g ((file_block_of g inode n v).value) v).needs) b h

pub few : (g : Geometry) (inode : Inode) (n : ℕ) → IsGeometry g → inode.size < 2 ^ 32 → n < block_count g inode → n < 2 ^ 30
few g inode n is small low = let most = count_few inode.size g.bsize (is.bsize.1) small in omega arith

-- what is needed to find a file block
pub file_block_needs : (g : Geometry) (v : Volume) (i n b : ℕ) (inode : Inode) → IsWhole g v → IsFile g v i inode → inode.size < 2 ^ 32 → n < block_count g inode
    → Contains ((file_block_of g inode n v).needs) b → IsReachedFor g v i b
file_block_needs g v i n b inode whole file small low h = (file_block_chained g v i n inode whole file (few g inode n whole.geometry small low)).needs b h

-- what is needed to read it
pub block_of_needs : (g : Geometry) (v : Volume) (i n b : ℕ) (inode : Inode) → IsWhole g v → IsFile g v i inode → inode.size < 2 ^ 32 → n < block_count g inode
    → Contains ((block_of g inode n v).needs) b → IsReachedFor g v i b
block_of_needs g v i n b inode whole file small low h = elim (block_needs g inode n b v h) [
  | inl upper ↦ file_block_needs g v i n b inode whole file small low upper
  | inr bytes ↦
      let chained = file_block_chained g v i n inode whole file (few g inode n whole.geometry small low) in
      let here = bytes_need g v b ((file_block_of g inode n v).value) bytes in
      let reached = chained.claimed.reached here.start here.count here.are in
      record { source = reached.0; first = reached.1.first; claim = reached.1.claims b here.here; reaches = reached.1.owner }
]
