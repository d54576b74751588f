-- Each block of a file of a built volume is claimed.
use Rattle.std.proofs.Common.{◌≡◌, ◌≢◌, ◌∙◌, ℕ, zero, suc, ◌+◌, ◌-◌, ◌*◌, ◌/◌, ◌%◌, ◌^◌, ◌<◌, ◌≤◌, ◌⊎◌, ◌==◌, not, Bool, true, false, List, [], ◌∷◌, length, refl, sym, ap, subst, arith, inl, inr}
use Rattle.std.specs.Prelude.{Contains, if◌then◌else◌, nat_lt}
use Rattle.std.proofs.Math.Nat.{div-add-mod', div-div-eq-div-mul, mul-le-mul, mul-le-mul_right}
use Rattle.std.proofs.lemmas.Bool.{and_from, cases_eq, cases_lt, false_from_ne_true, lt-ltb, ne_eqb}
use Rattle.std.proofs.lemmas.List.Elements.{Contains-append_left, Contains-append_right}
use Rattle.std.proofs.lemmas.Nat.{div_below, mod_below, mul-lt}
use Rattle.std.proofs.lemmas.Option.{slice_get_within}
use Rattle.ufs_model.specs.Blocks.{block_at}
use Rattle.ufs_model.specs.Claims.{IsClaim, fragments_at, fragments_from, level_of, pointer_fragments, slot_fragments, slot_fragments_in, source_fragments}
use Rattle.ufs_model.specs.Claims.IsClaim.{by_pointer, by_slot}
use Rattle.ufs_model.specs.Inodes.{has_pointers, inode_of}
use Rattle.ufs_model.specs.Pointers.{address, pointer_in, slot_address}
use Rattle.ufs_model.specs.declared.claims.ClaimSource.{ClaimSource}
use Rattle.ufs_model.specs.declared.claims.ClaimSource.TheVariants.{Pointer, Slot}
use Rattle.ufs_model.specs.declared.geometries.Geometry.{Geometry}
use Rattle.ufs_model.specs.declared.inodes.Inode.{Inode}
use Rattle.ufs_model.specs.declared.pointers.Address.TheVariants.{At, Hole}
use Rattle.ufs_build.specs.Nodes.{Node}
use Rattle.ufs_build.specs.Placements.{Addresses, AllPlaced, address_at, blocks_of, first_through, is_hole}
use Rattle.ufs_image_laws.proofs.AddressReads.{FileOf, SlotsLead, address_spot, below, blocks_few, full_of, placed_of, spot, tests_of}
use Rattle.ufs_image_laws.proofs.ChainLaws.{one_place, quotient_is}
use Rattle.ufs_image_laws.proofs.ClaimReads.{AreFiles, lower_count, pointer_at, slot_far, slot_near}
use Rattle.ufs_image_laws.proofs.FullLaws.{HasChain, index_above}
use Rattle.ufs_image_laws.proofs.InodeReads.{inode_read}
use Rattle.ufs_image_laws.proofs.LookLaws.{number_is}
use Rattle.ufs_image_laws.proofs.PlacingLaws.{HasFragment, count_of}
use Rattle.ufs_image_laws.proofs.StructureLaws.{volume_of}
use Rattle.ufs_image_laws.proofs.ZoneLaws.{sizes}

-- ---- fragments at an address

pub from_contains : (a k f : ℕ) → a ≤ f → f < a + k → Contains (fragments_from a k) f
from_contains a zero f low high = absurd (omega arith)
from_contains a (suc k) f low high = elim (cases_eq a f) as (λ _. Contains (fragments_from a (suc k)) f) [
  | inl same ↦ Contains-append_left (a ∷ []) (fragments_from (suc a) k) f (0, (let z : 0 < 1 = omega arith in z), same)
  | inr differ ↦ Contains-append_right (a ∷ []) (fragments_from (suc a) k) f (from_contains (suc a) k f (omega arith) (omega arith))
]

spot_contains : (g : Geometry) (size : ℕ) (addresses : Addresses) (level index f : ℕ) → HasFragment g size addresses level index f → Contains (fragments_at (spot g size addresses level index)) f
spot_contains g size addresses level index f has =
    let there : (address_at addresses level index == 0) ≡ false = ne_eqb (address_at addresses level index) 0 has.some in
    subst (λ (b : Bool). Contains (fragments_at (if b then Hole else At (address_at addresses level index) (count_of g size level index))) f) (sym there)
    (from_contains (address_at addresses level index) (count_of g size level index) f has.low has.high)

-- all fragments of a block are claimed at its level
record IsClaimedBlock (g : Geometry) (nodes : List Node) (all : AllPlaced) (size : ℕ) (addresses : Addresses) (level index : ℕ) : Type 0 where
  claims : (f : ℕ) → HasFragment g size addresses level index f
      → (source : ClaimSource) × IsClaim (source_fragments g (volume_of g nodes all)) f source × (level_of source ≡ level)

-- ---- by a slot

slot_list_by : (g : Geometry) (inode : Inode) (slot : ℕ) → has_pointers g inode ≡ true → slot < 15 → slot_fragments g inode slot ≡ fragments_at (slot_address g inode slot)
unfolding slot_fragments
slot_list_by g inode slot pointers low =
    ap (λ (b : Bool). if b then fragments_at (slot_address g inode slot) else []) (and_from (has_pointers g inode) (nat_lt slot 15) pointers (lt-ltb slot 15 low))

slot_list : (g : Geometry) (nodes : List Node) (all : AllPlaced) (k : ℕ) (node : Node) (addresses : Addresses) (slot : ℕ) → AreFiles g nodes all → FileOf g nodes all k node addresses
    → node.inside ≡ false → slot < 15 → (inode : Inode) × SlotsLead g node addresses inode
    × (source_fragments g (volume_of g nodes all) (Slot (2 + k) slot) ≡ fragments_at (slot_address g inode slot))
unfolding source_fragments
slot_list g nodes all k node addresses slot is file outside low =
    let v = volume_of g nodes all in
    let kind = is.kinds k node file.node_is in
    let numbers = kind.numbers in
    let volume = is.volume in
    let few = volume.few in
    let place = slice_get_within nodes k node file.node_is in
    let read = inode_read g nodes all k node addresses is.numbers volume file.node_is file.addresses_are numbers.some numbers.mode numbers.size in
    let number = number_is g (2 + k) (omega arith) (omega arith) in
    let pointers : has_pointers g read.inode ≡ true = rw (read.size, read.mode) (kind.pointers ∙ ap not outside) in (
      read.inode,
      record { size = read.size; slots = read.slots outside },
      ap (λ (b : Bool). if b then slot_fragments_in g slot ((inode_of g (2 + k) v).value) else []) number
          ∙ ap (slot_fragments_in g slot) read.is ∙ slot_list_by g read.inode slot pointers low,
    )

slot_level : (level index slot : ℕ) → ((slot < 12) × (level ≡ 0) × (index ≡ slot)) ⊎ ((12 ≤ slot) × (level ≡ slot - 11) × (index ≡ 0)) → slot - 11 ≡ level
slot_level level index slot (inl near) = let low = near.0 in let e = near.1 in omega arith
slot_level level index slot (inr far) = sym (far.1)

slot_leads : (g : Geometry) (nodes : List Node) (all : AllPlaced) (k : ℕ) (node : Node) (addresses : Addresses) (inode : Inode) (slot level index : ℕ) → FileOf g nodes all k node addresses
    → SlotsLead g node addresses inode → slot < 15 → ((slot < 12) × (level ≡ 0) × (index ≡ slot)) ⊎ ((12 ≤ slot) × (level ≡ slot - 11) × (index ≡ 0))
    → slot_address g inode slot ≡ spot g (length node.bytes) addresses level index
slot_leads g nodes all k node addresses inode slot level index is slots low (inl near) =
    slot_near g nodes all k node addresses inode slot is slots (near.0) ∙ ap (λ (l : ℕ). spot g (length node.bytes) addresses l slot) (sym (near.1))
    ∙ ap (spot g (length node.bytes) addresses level) (sym (near.2))
slot_leads g nodes all k node addresses inode slot level index is slots low (inr far) =
    slot_far g nodes all k node addresses inode slot is slots (far.0) low ∙ ap (λ (l : ℕ). spot g (length node.bytes) addresses l 0) (sym (far.1))
    ∙ ap (spot g (length node.bytes) addresses level) (sym (far.2))

slot_claimed : (g : Geometry) (nodes : List Node) (all : AllPlaced) (k : ℕ) (node : Node) (addresses : Addresses) (slot level index : ℕ) → AreFiles g nodes all → FileOf g nodes all k node addresses
    → node.inside ≡ false → slot < 15 → ((slot < 12) × (level ≡ 0) × (index ≡ slot)) ⊎ ((12 ≤ slot) × (level ≡ slot - 11) × (index ≡ 0))
    → IsClaimedBlock g nodes all (length node.bytes) addresses level index
slot_claimed g nodes all k node addresses slot level index is file outside low which = record {
  claims = λ f has.
      let list = slot_list g nodes all k node addresses slot is file outside low in
      let there = slot_leads g nodes all k node addresses (list.0) slot level index file (list.1) low which in
      let inside : Contains (source_fragments g (volume_of g nodes all) (Slot (2 + k) slot)) f =
      subst (λ (xs : List ℕ). Contains xs f) (sym (list.2 ∙ ap fragments_at there)) (spot_contains g (length node.bytes) addresses level index f has) in
      (Slot (2 + k) slot, by_slot inside, slot_level level index slot which);
}

-- ---- by a pointer

pointer_claimed : (g : Geometry) (nodes : List Node) (all : AllPlaced) (k : ℕ) (node : Node) (addresses : Addresses) (level upper i : ℕ) → FileOf g nodes all k node addresses
    → 0 < level → level < 4 → address_at addresses level upper ≢ 0 → i < g.nindir → IsClaimedBlock g nodes all (length node.bytes) addresses level upper
    → IsClaimedBlock g nodes all (length node.bytes) addresses (level - 1) (below g level upper i)
unfolding source_fragments pointer_fragments
pointer_claimed g nodes all k node addresses level upper i file some low there less above = record {
  claims = λ f has.
      let v = volume_of g nodes all in
      let size = sizes g (tests_of g nodes all k node addresses file) in
      let bytes = size.bytes in
      let pointers = size.pointers in
      let unit = size.unit in
      let w = g.fsize / 4 in
      let four : g.fsize ≡ 4 * w = omega arith in
      let some_w : 0 < w = let positive = size.some in omega arith in
      let a = address_at addresses level upper in
      let fragment = a + i / w in
      let at = i % w in
      let split = div-add-mod' i w in
      let last : at < w = mod_below i w some_w in
      let product : g.frag * g.fsize ≡ 4 * (w * g.frag) = ap (λ (x : ℕ). g.frag * x) four ∙ (let z : g.frag * (4 * w) ≡ 4 * (w * g.frag) = grind arith in z) in
      let row : i / w < g.frag = div_below i w g.frag some_w (let turn : g.frag * w ≡ w * g.frag = omega arith in omega arith) in
      let count : count_of g (length node.bytes) level upper ≡ g.frag = let e : (level == 0) ≡ false = ne_eqb level 0 (λ z. omega arith) in rw e refl in
      let in_upper : HasFragment g (length node.bytes) addresses level upper fragment = record { some = there; low = omega arith; high = rw count (omega arith) } in
      let claim = above.claims fragment in_upper in
      let read = pointer_at g nodes all k node addresses level upper fragment at file some low in_upper last in
      let number : (fragment - a) * w + at ≡ i = ap (λ (q : ℕ). q * w + at) (let z : fragment - a ≡ i / w = omega arith in z) ∙ split in
      let value : pointer_in g.endian (block_at g.fsize v fragment) at ≡ address_at addresses (level - 1) (below g level upper i) =
      read.1 ∙ ap (λ (m : ℕ). address_at addresses (level - 1) (below g level upper m)) number in
      let leads : address g (pointer_in g.endian (block_at g.fsize v fragment) at) g.frag ≡ spot g (length node.bytes) addresses (level - 1) (below g level upper i) =
      ap (λ (x : ℕ). address g x g.frag) value ∙ ap (address g (address_at addresses (level - 1) (below g level upper i))) (lower_count g (length node.bytes) level upper i some)
      ∙ address_spot g node addresses (level - 1) (below g level upper i) (placed_of g nodes all k node addresses file) (omega arith) in
      let list : source_fragments g v (Pointer fragment level at) ≡ fragments_at (spot g (length node.bytes) addresses (level - 1) (below g level upper i)) =
      ap (λ (b : Bool). if b then fragments_at (address g (pointer_in g.endian (block_at g.fsize v fragment) at) g.frag) else []) (lt-ltb at w last) ∙ ap fragments_at leads in (
        Pointer fragment level at,
        by_pointer (claim.1) (claim.2) some (subst (λ (xs : List ℕ). Contains xs f) (sym list) (spot_contains g (length node.bytes) addresses (level - 1) (below g level upper i) f has)),
        refl,
      );
}

-- ---- the blocks above a file block

-- what is known of a file block
record IsReached (g : Geometry) (nodes : List Node) (all : AllPlaced) (k : ℕ) (node : Node) (addresses : Addresses) (m : ℕ) : Type 0 where
  files : AreFiles g nodes all
  file : FileOf g nodes all k node addresses
  outside : node.inside ≡ false
  chain : HasChain g addresses m
  few : m < 2 ^ 30
  large : 1024 ≤ g.nindir

three_claimed : (g : Geometry) (nodes : List Node) (all : AllPlaced) (k : ℕ) (node : Node) (addresses : Addresses) (m : ℕ) → IsReached g nodes all k node addresses m
    → IsClaimedBlock g nodes all (length node.bytes) addresses 3 (index_above g 3 m)
three_claimed g nodes all k node addresses m is =
    let large = is.large in
    let few = is.few in
    let many : 1024 * 1024 ≤ g.nindir * g.nindir = mul-le-mul {n₁ = 1024} {m₁ = 1024} large large in
    let most : 1024 * 1024 * 1024 ≤ g.nindir * g.nindir * g.nindir = mul-le-mul {n₁ = 1024 * 1024} {m₁ = 1024} many large in
    slot_claimed g nodes all k node addresses 14 3 (index_above g 3 m) is.files is.file is.outside (omega arith)
    (inr (omega arith, refl, one_place (g.nindir * g.nindir * g.nindir) (m - (12 + g.nindir + g.nindir * g.nindir)) (omega arith)))

-- a quotient of at least one, and that of the rest
quotient_less : (x w : ℕ) → 0 < w → 1 ≤ x / w → (w ≤ x) × (x / w ≡ 1 + (x - w) / w)
quotient_less x w some one =
    let split = div-add-mod' x w in
    let least : 1 * w ≤ x / w * w = mul-le-mul_right w one in
    let from : w ≤ x = omega arith in
    let rest = div-add-mod' (x - w) w in
    let sum : (1 + (x - w) / w) * w ≡ w + (x - w) / w * w = grind arith in
    (from, quotient_is x w (1 + (x - w) / w) ((x - w) % w) (omega arith) (mod_below (x - w) w some))

two_claimed : (g : Geometry) (nodes : List Node) (all : AllPlaced) (k : ℕ) (node : Node) (addresses : Addresses) (m : ℕ) → IsReached g nodes all k node addresses m
    → first_through g 2 ≤ m → IsClaimedBlock g nodes all (length node.bytes) addresses 2 (index_above g 2 m)
two_claimed g nodes all k node addresses m is first =
    let w = g.nindir in
    let large = is.large in
    let some : 0 < w * w = mul-lt 0 0 w w (omega arith) (omega arith) in
    let x = m - (12 + w) in
    elim (cases_eq (x / (w * w)) 0) as (λ _. IsClaimedBlock g nodes all (length node.bytes) addresses 2 (index_above g 2 m)) [
      | inl none ↦ slot_claimed g nodes all k node addresses 13 2 (index_above g 2 m) is.files is.file is.outside (omega arith) (inr (omega arith, refl, none))
      | inr there ↦
          let less = quotient_less x (w * w) some (omega arith) in
          let from = less.0 in
          let y = m - (12 + w + w * w) in
          let rest : x - w * w ≡ y = omega arith in
          let j = y / (w * w) in
          let index : x / (w * w) ≡ 1 + j = less.1 ∙ ap (λ (z : ℕ). 1 + z / (w * w)) rest in
          let upper : j / w ≡ index_above g 3 m = div-div-eq-div-mul y (w * w) w in
          let split = div-add-mod' j w in
          let made : below g 3 (index_above g 3 m) (j % w) ≡ index_above g 2 m =
          ap (λ (q : ℕ). 1 + q * w + j % w) (sym upper) ∙ (let z : 1 + j / w * w + j % w ≡ 1 + j = omega arith in z) ∙ sym index in
          let chain = is.chain in
          subst (λ (i : ℕ). IsClaimedBlock g nodes all (length node.bytes) addresses 2 i) made
          (pointer_claimed g nodes all k node addresses 3 (index_above g 3 m) (j % w) is.file (omega arith) (omega arith) (chain.three (omega arith)) (mod_below j w (omega arith))
          (three_claimed g nodes all k node addresses m is))
    ]

one_claimed : (g : Geometry) (nodes : List Node) (all : AllPlaced) (k : ℕ) (node : Node) (addresses : Addresses) (m : ℕ) → IsReached g nodes all k node addresses m
    → first_through g 1 ≤ m → IsClaimedBlock g nodes all (length node.bytes) addresses 1 (index_above g 1 m)
one_claimed g nodes all k node addresses m is first =
    let w = g.nindir in
    let large = is.large in
    let x = m - 12 in
    elim (cases_eq (x / w) 0) as (λ _. IsClaimedBlock g nodes all (length node.bytes) addresses 1 (index_above g 1 m)) [
      | inl none ↦ slot_claimed g nodes all k node addresses 12 1 (index_above g 1 m) is.files is.file is.outside (omega arith) (inr (omega arith, refl, none))
      | inr there ↦
          let less = quotient_less x w (omega arith) (omega arith) in
          let from = less.0 in
          let y = m - (12 + w) in
          let rest : x - w ≡ y = omega arith in
          let j = y / w in
          let index : x / w ≡ 1 + j = less.1 ∙ ap (λ (z : ℕ). 1 + z / w) rest in
          let upper : j / w ≡ index_above g 2 m = div-div-eq-div-mul y w w in
          let split = div-add-mod' j w in
          let made : below g 2 (index_above g 2 m) (j % w) ≡ index_above g 1 m =
          ap (λ (q : ℕ). 1 + q * w + j % w) (sym upper) ∙ (let z : 1 + j / w * w + j % w ≡ 1 + j = omega arith in z) ∙ sym index in
          let chain = is.chain in
          subst (λ (i : ℕ). IsClaimedBlock g nodes all (length node.bytes) addresses 1 i) made
          (pointer_claimed g nodes all k node addresses 2 (index_above g 2 m) (j % w) is.file (omega arith) (omega arith) (chain.two (omega arith)) (mod_below j w (omega arith))
          (two_claimed g nodes all k node addresses m is (omega arith)))
    ]

own_claimed : (g : Geometry) (nodes : List Node) (all : AllPlaced) (k : ℕ) (node : Node) (addresses : Addresses) (m : ℕ) → IsReached g nodes all k node addresses m
    → IsClaimedBlock g nodes all (length node.bytes) addresses 0 m
own_claimed g nodes all k node addresses m is =
    let w = g.nindir in
    let large = is.large in
    elim (cases_lt m 12) as (λ _. IsClaimedBlock g nodes all (length node.bytes) addresses 0 m) [
      | inl near ↦ slot_claimed g nodes all k node addresses m 0 m is.files is.file is.outside (omega arith) (inl (near, refl, refl))
      | inr far ↦
          let x = m - 12 in
          let split = div-add-mod' x w in
          let made : below g 1 (index_above g 1 m) (x % w) ≡ m = omega arith in
          let chain = is.chain in
          subst (λ (i : ℕ). IsClaimedBlock g nodes all (length node.bytes) addresses 0 i) made
          (pointer_claimed g nodes all k node addresses 1 (index_above g 1 m) (x % w) is.file (omega arith) (omega arith) (chain.one far) (mod_below x w (omega arith))
          (one_claimed g nodes all k node addresses m is far))
    ]

-- ---- each block

reached : (g : Geometry) (nodes : List Node) (all : AllPlaced) (k : ℕ) (node : Node) (addresses : Addresses) (m : ℕ) → AreFiles g nodes all → FileOf g nodes all k node addresses → node.inside ≡ false
    → length node.bytes < 2 ^ 32 → m < blocks_of g node → HasChain g addresses m → IsReached g nodes all k node addresses m
reached g nodes all k node addresses m is file outside small low chain =
    let size = sizes g (tests_of g nodes all k node addresses file) in
    let least = size.least in
    let pointers = size.pointers in
    let few = blocks_few g node small size in
    record { files = is; file = file; outside = outside; chain = chain; few = omega arith; large = omega arith }

pub block_claimed : (g : Geometry) (nodes : List Node) (all : AllPlaced) (k : ℕ) (node : Node) (addresses : Addresses) (level index f : ℕ) → AreFiles g nodes all → FileOf g nodes all k node addresses
    → node.inside ≡ false → length node.bytes < 2 ^ 32 → level < 4 → HasFragment g (length node.bytes) addresses level index f
    → (source : ClaimSource) × IsClaim (source_fragments g (volume_of g nodes all)) f source × (level_of source ≡ level)
block_claimed g nodes all k node addresses zero index f is file outside small low has =
    let found = full_of g nodes all k node addresses file in
    let full = found.2 in
    let there = has.some in
    let inside : index < blocks_of g node = elim (cases_lt index (blocks_of g node)) as (λ _. index < blocks_of g node) [
      | inl lt ↦ lt
      | inr ge ↦ absurd (there (full.behind index ge))
    ] in
    let chain = full.some index inside (false_from_ne_true (is_hole g node index) (λ hole. there (full.hole index hole))) in
    let own = own_claimed g nodes all k node addresses index (reached g nodes all k node addresses index is file outside small inside chain) in
    own.claims f has
block_claimed g nodes all k node addresses (suc zero) index f is file outside small low has =
    let found = full_of g nodes all k node addresses file in
    let full = found.2 in
    let why = full.because 1 index (omega arith) low has.some in
    let own = one_claimed g nodes all k node addresses why.m (reached g nodes all k node addresses why.m is file outside small why.low (full.some why.m why.low why.whole)) why.first in
    own.claims f (subst (λ (i : ℕ). HasFragment g (length node.bytes) addresses 1 i f) why.is has)
block_claimed g nodes all k node addresses (suc (suc zero)) index f is file outside small low has =
    let found = full_of g nodes all k node addresses file in
    let full = found.2 in
    let why = full.because 2 index (omega arith) low has.some in
    let own = two_claimed g nodes all k node addresses why.m (reached g nodes all k node addresses why.m is file outside small why.low (full.some why.m why.low why.whole)) why.first in
    own.claims f (subst (λ (i : ℕ). HasFragment g (length node.bytes) addresses 2 i f) why.is has)
block_claimed g nodes all k node addresses (suc (suc (suc zero))) index f is file outside small low has =
    let found = full_of g nodes all k node addresses file in
    let full = found.2 in
    let why = full.because 3 index (omega arith) low has.some in
    let own = three_claimed g nodes all k node addresses why.m (reached g nodes all k node addresses why.m is file outside small why.low (full.some why.m why.low why.whole)) in
    own.claims f (subst (λ (i : ℕ). HasFragment g (length node.bytes) addresses 3 i f) why.is has)
block_claimed g nodes all k node addresses (suc (suc (suc (suc level)))) index f is file outside small low has = absurd (omega arith)
