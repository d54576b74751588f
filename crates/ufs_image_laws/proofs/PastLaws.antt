-- No pointer of an indirect block leads past the end of its file.
use Rattle.std.proofs.Common.{◌≡◌, ◌≢◌, ◌∙◌, ℕ, zero, suc, ◌+◌, ◌-◌, ◌*◌, ◌/◌, ◌^◌, ◌<◌, ◌≤◌, ◌==◌, Bool, true, false, List, length, get_or, refl, sym, ap, subst, arith, inl, inr, Some, None}
use Rattle.std.specs.Prelude.{Contains, Option, if◌then◌else◌, slice_get}
use Rattle.std.specs.Int.{div_ceil}
use native.Mathlib.Numerals.{unary_clauses}
use Rattle.std.proofs.Math.Nat.{mul-le-mul_right, one-mul, pow-suc}
use Rattle.std.proofs.lemmas.Bool.{cases_eq, cases_lt, ne_eqb}
use Rattle.std.proofs.lemmas.Grind.{div_ceil_times}
use Rattle.std.proofs.lemmas.List.{get_or_past}
use Rattle.std.proofs.lemmas.Nat.{mul-lt}
use Rattle.std.proofs.lemmas.Option.{get_or_from_slice_get, same_Some, slice_get_within}
use Rattle.ufs_model.specs.Claims.{IsClaim, fragments_at, fragments_from, level_of, source_fragments}
use Rattle.ufs_model.specs.Claims.IsClaim.{by_slot}
use Rattle.ufs_model.specs.Inodes.{block_count, inode_of, is_inode_number}
use Rattle.ufs_model.specs.Malformations.{FirstBlock, HasPastIn, first_block, inode_at, pointer_at as pointer_value}
use Rattle.ufs_model.specs.Malformations.FirstBlock.{of_pointer, of_slot}
use Rattle.ufs_model.specs.declared.claims.ClaimSource.{ClaimSource}
use Rattle.ufs_model.specs.declared.claims.ClaimSource.TheVariants.{Pointer, Slot}
use Rattle.ufs_model.specs.declared.geometries.Geometry.{Geometry}
use Rattle.ufs_model.specs.declared.inodes.Inode.{Inode}
use Rattle.ufs_model.specs.declared.pointers.Address.TheVariants.{At, Hole}
use Rattle.ufs_build.specs.Nodes.{Node}
use Rattle.ufs_build.specs.Placements.{Addresses, AllPlaced, address_at, addresses_at, blocks_of}
use Rattle.ufs_image_laws.proofs.AddressReads.{FileOf, below, full_of, tests_of}
use Rattle.ufs_image_laws.proofs.ChainLaws.{two_powers}
use Rattle.ufs_image_laws.proofs.ClaimReads.{AreFiles, IsFiles, IsSlot, Via, claim_of_file, pointer_at, pointer_files}
use Rattle.ufs_image_laws.proofs.ContentReads.{blocks_outside}
use Rattle.ufs_image_laws.proofs.InodeReads.{inode_read}
use Rattle.ufs_image_laws.proofs.FullLaws.{room_at}
use Rattle.ufs_image_laws.proofs.PlacingLaws.{HasFragment, count_of}
use Rattle.ufs_image_laws.proofs.StructureLaws.{volume_of}
use Rattle.ufs_image_laws.proofs.ZoneLaws.{sizes}

-- ---- the first file block behind a block

-- the first file block that is reached through the block at a level
abbrev pub reach : Geometry → ℕ → ℕ → ℕ
reach g zero index = index
reach g (suc zero) index = 12 + index * g.nindir
reach g (suc (suc zero)) index = 12 + g.nindir + index * (g.nindir * g.nindir)
reach g (suc (suc (suc level))) index = 12 + g.nindir + g.nindir * g.nindir + index * (g.nindir * g.nindir * g.nindir)

none_power : (n : ℕ) → n ^ 0 ≡ 1
none_power n = simp unary_clauses

one_power : (n : ℕ) → n ^ 1 ≡ n
one_power n = pow-suc n 0 ∙ ap (λ k. k * n) (none_power n) ∙ one-mul n

-- one level down
reach_below : (g : Geometry) (level index i : ℕ) → 0 < level → level < 4 → reach g level index + i * g.nindir ^ (level - 1) ≡ reach g (level - 1) (below g level index i)
reach_below g zero index i some low = absurd (omega arith)
reach_below g (suc zero) index i some low =
    let power : i * g.nindir ^ 0 ≡ i * 1 = ap (λ (p : ℕ). i * p) (none_power g.nindir) in
    omega (arith, power)
reach_below g (suc (suc zero)) index i some low =
    let power : i * g.nindir ^ 1 ≡ i * g.nindir = ap (λ (p : ℕ). i * p) (one_power g.nindir) in
    let w = g.nindir in
    let sum : (1 + index * w + i) * w ≡ w + index * (w * w) + i * w = grind arith in
    omega (arith, power, sum)
reach_below g (suc (suc (suc zero))) index i some low =
    let power : i * g.nindir ^ 2 ≡ i * (g.nindir * g.nindir) = ap (λ (p : ℕ). i * p) (two_powers g.nindir) in
    let w = g.nindir in
    let sum : (1 + index * w + i) * (w * w) ≡ w * w + index * (w * w * w) + i * (w * w) = grind arith in
    omega (arith, power, sum)
reach_below g (suc (suc (suc (suc level)))) index i some low = absurd (omega arith)

-- ---- what is reached through a source

get_from : (a k place f : ℕ) → slice_get (fragments_from a k) place ≡ Some f → f ≡ a + place
get_from a zero place f e = absurd (cc e)
get_from a (suc k) zero f e = let same = same_Some a f e in omega arith
get_from a (suc k) (suc place) f e = let rest = get_from (suc a) k place f e in omega arith

get_spot : (a k place f : ℕ) (none : Bool) → slice_get (fragments_at (if none then Hole else At a k)) place ≡ Some f → f ≡ a + place
get_spot a k place f true e = absurd (cc e)
get_spot a k place f false e = get_from a k place f e

contained : (xs : List ℕ) (place f : ℕ) → slice_get xs place ≡ Some f → Contains xs f
contained xs place f e = (place, slice_get_within xs place f e, get_or_from_slice_get xs place f f e)

upper_is : (g : Geometry) (nodes : List Node) (all : AllPlaced) (f place : ℕ) (source : ClaimSource) (is : IsFiles g nodes all f source)
    → slice_get (source_fragments g (volume_of g nodes all) source) place ≡ Some f → f ≡ address_at is.addresses is.level is.index + place
upper_is g nodes all f place source is here =
    get_spot (address_at is.addresses is.level is.index) (count_of g (length is.node.bytes) is.level is.index) place f (address_at is.addresses is.level is.index == 0)
    (ap (λ (xs : List ℕ). slice_get xs place) (sym is.fragments) ∙ here)

-- the file and the first block of a source whose fragments are known
record Reaches (g : Geometry) (nodes : List Node) (all : AllPlaced) (f i n : ℕ) (source : ClaimSource) : Type 0 where
  files : IsFiles g nodes all f source
  inode : i ≡ 2 + files.k
  block : n ≡ reach g files.level files.index

first_slot : (g : Geometry) (level index slot : ℕ) → IsSlot level index slot → first_block g slot ≡ reach g level index
first_slot g level index slot (inl near) =
    let low = near.0 in
    let not13 : (slot == 13) ≡ false = ne_eqb slot 13 (λ z. omega arith) in
    let not14 : (slot == 14) ≡ false = ne_eqb slot 14 (λ z. omega arith) in
    let first : first_block g slot ≡ slot = rw (not13, not14) refl in
    first ∙ sym (near.2) ∙ ap (λ (l : ℕ). reach g l index) (sym (near.1))
first_slot g level index slot (inr far) =
    let from = far.0 in
    let to = far.1 in
    elim (cases_eq slot 12) as (λ _. first_block g slot ≡ reach g level index) [
      | inl one ↦
          let level_is : level ≡ 1 = let z = far.2 in omega arith in
          ap (first_block g) one ∙ (let z : 12 ≡ 12 + 0 * g.nindir = omega arith in z) ∙ ap (λ (x : ℕ). reach g 1 x) (sym (far.3)) ∙ ap (λ (l : ℕ). reach g l index) (sym level_is)
      | inr not12 ↦ elim (cases_eq slot 13) as (λ _. first_block g slot ≡ reach g level index) [
        | inl two ↦
            let level_is : level ≡ 2 = let z = far.2 in omega arith in
            ap (first_block g) two ∙ (let z : 12 + g.nindir ≡ 12 + g.nindir + 0 * (g.nindir * g.nindir) = omega arith in z) ∙ ap (λ (x : ℕ). reach g 2 x) (sym (far.3)) ∙ ap (λ (l : ℕ). reach g l index) (sym level_is)
        | inr not13 ↦
            let three : slot ≡ 14 = omega arith in
            let level_is : level ≡ 3 = let z = far.2 in omega arith in
            let square = two_powers g.nindir in
            ap (first_block g) three
            ∙ (let z : 12 + g.nindir + g.nindir ^ 2 ≡ 12 + g.nindir + g.nindir * g.nindir + 0 * (g.nindir * g.nindir * g.nindir) = omega (arith, square) in z)
            ∙ ap (λ (x : ℕ). reach g 3 x) (sym (far.3)) ∙ ap (λ (l : ℕ). reach g l index) (sym level_is)
      ]
    ]

slot_of_source : (i slot j other : ℕ) → Slot i slot ≡ Slot j other → (i ≡ j) × (slot ≡ other)
slot_of_source i slot j other e = (cc e, cc e)

pointer_of_source : (f level at upper above number : ℕ) → Pointer f level at ≡ Pointer upper above number → (f ≡ upper) × (level ≡ above) × (at ≡ number)
pointer_of_source f level at upper above number e = (cc e, cc e, cc e)

slot_reaches : (g : Geometry) (nodes : List Node) (all : AllPlaced) (f i slot : ℕ) (is : IsFiles g nodes all f (Slot i slot)) → Via g is.k is.addresses is.level is.index (Slot i slot)
    → Reaches g nodes all f i (first_block g slot) (Slot i slot)
slot_reaches g nodes all f i slot is (inl own) =
    let parts = slot_of_source i slot (2 + is.k) (own.0) (own.1) in
    record { files = is; inode = parts.0; block = ap (first_block g) (parts.1) ∙ first_slot g is.level is.index (own.0) (own.2) }
slot_reaches g nodes all f i slot is (inr pointer) = absurd (let clash : Slot i slot ≡ Pointer pointer.upper (is.level + 1) pointer.at = pointer.is in cc clash)

-- through a pointer
pointer_reaches : (g : Geometry) (nodes : List Node) (all : AllPlaced) (f i n upper level at place : ℕ) (above : ClaimSource) → AreFiles g nodes all → Reaches g nodes all upper i n above
    → slice_get (source_fragments g (volume_of g nodes all) above) place ≡ Some upper → level_of above ≡ level → 0 < level
    → Contains (source_fragments g (volume_of g nodes all) (Pointer upper level at)) f
    → Reaches g nodes all f i (n + (place * (g.fsize / 4) + at) * g.nindir ^ (level - 1)) (Pointer upper level at)
pointer_reaches g nodes all f i n upper level at place above is reached here same some h =
    let from = reached.files in
    let w = g.fsize / 4 in
    let made = pointer_files g nodes all f upper level at above is from same some h in
    let level_is : from.level ≡ level = sym from.of_level ∙ same in
    let low : level < 4 = rw (← level_is) from.below_four in
    let there = upper_is g nodes all upper place above from here in
    let quotient : upper - address_at from.addresses level from.index ≡ place =
    ap (λ (l : ℕ). upper - address_at from.addresses l from.index) (sym level_is) ∙ (let z : upper - address_at from.addresses from.level from.index ≡ place = omega arith in z) in
    let number : (upper - address_at from.addresses level from.index) * w + at ≡ place * w + at = ap (λ (q : ℕ). q * w + at) quotient in
    let step = reach_below g level from.index (place * w + at) some low in
    let first : n ≡ reach g level from.index = reached.block ∙ ap (λ (l : ℕ). reach g l from.index) level_is in
    record {
      files = made.0;
      inode = reached.inode ∙ ap (λ (m : ℕ). 2 + m) (sym (made.1));
      block = ap (λ (m : ℕ). m + (place * w + at) * g.nindir ^ (level - 1)) first ∙ step
          ∙ ap (λ (m : ℕ). reach g (level - 1) (below g level from.index m)) (sym number)
          ∙ ap (reach g (level - 1)) (sym (made.3)) ∙ ap (λ (l : ℕ). reach g l (made.0).index) (sym (made.2));
    }

reaches : (g : Geometry) (nodes : List Node) (all : AllPlaced) (source : ClaimSource) (i n place f : ℕ) → AreFiles g nodes all → FirstBlock g (volume_of g nodes all) source i n
    → slice_get (source_fragments g (volume_of g nodes all) source) place ≡ Some f → Reaches g nodes all f i n source
reaches g nodes all source i n place f is (of_slot {slot = slot}) e =
    let claim : IsClaim (source_fragments g (volume_of g nodes all)) f (Slot i slot) = by_slot (contained (source_fragments g (volume_of g nodes all) (Slot i slot)) place f e) in
    let files = claim_of_file g nodes all f (Slot i slot) is claim in
    slot_reaches g nodes all f i slot files files.via
reaches g nodes all source i n place f is (of_pointer {f = upper} {level = level} {at = at} {n = m} {source = above} first_place first here same some) e =
    pointer_reaches g nodes all f i m upper level at first_place above is (reaches g nodes all above i m first_place upper is first here) here same some
    (contained (source_fragments g (volume_of g nodes all) (Pointer upper level at)) place f e)

-- ---- what has an address is before the file's end

reach_by : (blocks first through index : ℕ) → 0 < through → index < div_ceil (blocks - first) through → first + index * through < blocks
reach_by blocks first through index some low =
    let round = div_ceil_times (blocks - first) through some in
    let most = round.1 in
    let next : (index + 1) * through ≤ div_ceil (blocks - first) through * through = mul-le-mul_right through (let h : index + 1 ≤ div_ceil (blocks - first) through = omega arith in h) in
    let sum : (index + 1) * through ≡ index * through + through = grind arith in
    omega arith

reach_low : (g : Geometry) (blocks level index : ℕ) → 0 < g.nindir → level < 3 → index < room_at g blocks level → reach g level index < blocks
reach_low g blocks zero index many low here = here
reach_low g blocks (suc zero) index many low here = reach_by blocks 12 g.nindir index many here
reach_low g blocks (suc (suc zero)) index many low here =
    reach_by blocks (12 + g.nindir) (g.nindir * g.nindir) index (mul-lt 0 0 g.nindir g.nindir many many) here
reach_low g blocks (suc (suc (suc level))) index many low here = absurd (omega arith)

some_room : (xs : List ℕ) (i : ℕ) → get_or xs i 0 ≢ 0 → i < length xs
some_room xs i some = elim (cases_lt i (length xs)) as (λ _. i < length xs) [
  | inl low ↦ low
  | inr past ↦ absurd (some (get_or_past xs i 0 past))
]

pub before_end : (g : Geometry) (nodes : List Node) (all : AllPlaced) (k : ℕ) (node : Node) (addresses : Addresses) (level index : ℕ) → FileOf g nodes all k node addresses → level < 3
    → address_at addresses level index ≢ 0 → reach g level index < blocks_of g node
before_end g nodes all k node addresses level index is low some =
    let size = sizes g (tests_of g nodes all k node addresses is) in
    let pointers = size.pointers in
    let least = size.least in
    let found = full_of g nodes all k node addresses is in
    let full = found.2 in
    let room = full.room level (omega arith) in
    reach_low g (blocks_of g node) level index (omega arith) low (rw (← room) (some_room (addresses_at addresses level) index some))

-- a file with a block has its bytes outside its inode
outside_blocks : (g : Geometry) (node : Node) (n : ℕ) → n < blocks_of g node → node.inside ≡ false
unfolding blocks_of
outside_blocks g node n low = outside_by node.inside (div_ceil (length node.bytes) g.bsize) n low
  where
    outside_by : (inside : Bool) (blocks n : ℕ) → n < (if inside then 0 else blocks) → inside ≡ false
    outside_by true blocks n low = absurd (omega arith)
    outside_by false blocks n low = refl

-- ---- no such pointer

size_at : (g : Geometry) (nodes : List Node) (all : AllPlaced) (k : ℕ) (node : Node) (addresses : Addresses) (i : ℕ) (inode : Inode) → AreFiles g nodes all → FileOf g nodes all k node addresses
    → i ≡ 2 + k → inode_at g (volume_of g nodes all) i ≡ Some inode → inode.size ≡ length node.bytes
size_at g nodes all k node addresses i inode is file number e =
    let kind = is.kinds k node file.node_is in
    let numbers = kind.numbers in
    let read = inode_read g nodes all k node addresses is.numbers is.volume file.node_is file.addresses_are numbers.some numbers.mode numbers.size in
    let there = inode_if (is_inode_number g i) ((inode_of g i (volume_of g nodes all)).value) inode e in
    let same : inode ≡ read.inode = same_Some inode read.inode (sym there ∙ ap (λ (n : ℕ). (inode_of g n (volume_of g nodes all)).value) number ∙ read.is) in
    ap (λ (x : Inode). x.size) same ∙ read.size
  where
    inode_if : (b : Bool) (o : Option Inode) (inode : Inode) → (if b then o else None) ≡ Some inode → o ≡ Some inode
    inode_if true o inode e = e
    inode_if false o inode e = absurd (cc e)

past_at : (g : Geometry) (nodes : List Node) (all : AllPlaced) (f level at i n place : ℕ) (above : ClaimSource) (inode : Inode) → AreFiles g nodes all → Reaches g nodes all f i n above
    → slice_get (source_fragments g (volume_of g nodes all) above) place ≡ Some f → level_of above ≡ level → 0 < level → at < g.fsize / 4
    → pointer_value g (volume_of g nodes all) f at ≢ 0 → inode_at g (volume_of g nodes all) i ≡ Some inode
    → block_count g inode ≤ n + (place * (g.fsize / 4) + at) * g.nindir ^ (level - 1) → ⊥
past_at g nodes all f level at i n place above inode is reached here same some less pointer owner past =
    let from = reached.files in
    let node = from.node in
    let addresses = from.addresses in
    let w = g.fsize / 4 in
    let level_is : from.level ≡ level = sym from.of_level ∙ same in
    let low : level < 4 = rw (← level_is) from.below_four in
    let has = subst (λ (l : ℕ). HasFragment g (length node.bytes) addresses l from.index f) level_is from.has in
    let there = upper_is g nodes all f place above from here in
    let quotient : f - address_at addresses level from.index ≡ place =
    ap (λ (l : ℕ). f - address_at addresses l from.index) (sym level_is) ∙ (let z : f - address_at addresses from.level from.index ≡ place = omega arith in z) in
    let number : (f - address_at addresses level from.index) * w + at ≡ place * w + at = ap (λ (q : ℕ). q * w + at) quotient in
    let read = pointer_at g nodes all from.k node addresses level from.index f at from.file some low has less in
    let value : pointer_value g (volume_of g nodes all) f at ≡ address_at addresses (level - 1) (below g level from.index (place * w + at)) =
    read.1 ∙ ap (λ (m : ℕ). address_at addresses (level - 1) (below g level from.index m)) number in
    let inside = before_end g nodes all from.k node addresses (level - 1) (below g level from.index (place * w + at)) from.file (omega arith) (λ none. pointer (value ∙ none)) in
    let outside = outside_blocks g node (reach g (level - 1) (below g level from.index (place * w + at))) inside in
    let step = reach_below g level from.index (place * w + at) some low in
    let first : n ≡ reach g level from.index = reached.block ∙ ap (λ (l : ℕ). reach g l from.index) level_is in
    let size = size_at g nodes all from.k node addresses i inode is from.file reached.inode owner in
    let blocks : block_count g inode ≡ blocks_of g node = ap (λ (s : ℕ). div_ceil s g.bsize) size ∙ sym (blocks_outside g node outside) in
    let block : n + (place * w + at) * g.nindir ^ (level - 1) ≡ reach g (level - 1) (below g level from.index (place * w + at)) =
    ap (λ (m : ℕ). m + (place * w + at) * g.nindir ^ (level - 1)) first ∙ step in
    omega arith

past_by : (g : Geometry) (nodes : List Node) (all : AllPlaced) (source : ClaimSource) (i block f level at : ℕ) (inode : Inode) → AreFiles g nodes all → FirstBlock g (volume_of g nodes all) source i block
    → source ≡ Pointer f level at → at < g.fsize / 4 → pointer_value g (volume_of g nodes all) f at ≢ 0 → inode_at g (volume_of g nodes all) i ≡ Some inode → block_count g inode ≤ block → ⊥
past_by g nodes all source i block f level at inode is (of_slot {slot = slot}) e less pointer owner past = absurd (let clash : Slot i slot ≡ Pointer f level at = e in cc clash)
past_by g nodes all source i block f level at inode is (of_pointer {f = own} {level = height} {at = number} {n = n} {source = above} place first here same some) e less pointer owner past =
    let parts = pointer_of_source own height number f level at e in
    let reached = reaches g nodes all above i n place own is first here in
    past_at g nodes all own height number i n place above inode is reached here same some (rw (parts.2) less)
    (λ none. pointer (ap (λ (x : ℕ). pointer_value g (volume_of g nodes all) x at) (sym (parts.0)) ∙ ap (λ (x : ℕ). pointer_value g (volume_of g nodes all) own x) (sym (parts.2)) ∙ none))
    owner past

pub no_past_in : (g : Geometry) (nodes : List Node) (all : AllPlaced) (f : ℕ) → AreFiles g nodes all → HasPastIn g (volume_of g nodes all) f → ⊥
no_past_in g nodes all f is bad =
    past_by g nodes all (Pointer f bad.level bad.at) bad.i bad.block f bad.level bad.at bad.inode is bad.reaches refl bad.is bad.some bad.owner bad.past
