-- The claims of a built volume are those of its files.
use Rattle.std.proofs.Common.{◌≡◌, ◌≢◌, ◌∙◌, ℕ, zero, suc, ◌+◌, ◌-◌, ◌*◌, ◌/◌, ◌%◌, ◌<◌, ◌≤◌, ◌⊎◌, ◌&&◌, ◌==◌, not, Bool, true, false, List, [], ◌∷◌, length, get_or, refl, sym, ap, subst, arith, inl, inr, Some, None}
use Rattle.std.specs.Prelude.{Contains, Option, if◌then◌else◌, nat_le, nat_lt, replicate, slice_get}
use Rattle.std.proofs.Math.Nat.{add-mul}
use Rattle.std.proofs.lemmas.Bool.{and_parts, cases_eq, cases_lt, eq-eqb, false≢true, leb-true, ltb-true, ne_eqb}
use Rattle.std.proofs.lemmas.Bool.Decides.{nat_tests}
use Rattle.std.proofs.lemmas.List.{length-replicate}
use Rattle.std.proofs.lemmas.List.Elements.{Contains-append_cases}
use Rattle.std.proofs.lemmas.Nat.{div-mul-add, mod-mul-add, mul-add-lt, same_from_place}
use Rattle.std.proofs.lemmas.Option.{same_Some, slice_get-get_or}
use Rattle.ufs_model.specs.Blocks.{block_at}
use Rattle.ufs_model.specs.Claims.{IsClaim, fragments_at, fragments_from, level_of, pointer_fragments, slot_fragments, slot_fragments_in, source_fragments}
use Rattle.ufs_model.specs.Claims.IsClaim.{by_pointer, by_slot}
use Rattle.ufs_model.specs.Inodes.{has_pointers, inode_of, is_inode_number, kind_has_pointers, kind_of, slot_of, span}
use Rattle.ufs_model.specs.Numbers.{number_at}
use Rattle.ufs_model.specs.Pointers.{address, pointer_in, slot_address}
use Rattle.ufs_model.specs.declared.claims.ClaimSource.{ClaimSource}
use Rattle.ufs_model.specs.declared.claims.ClaimSource.TheVariants.{Pointer, Slot}
use Rattle.ufs_model.specs.declared.geometries.Geometry.{Geometry}
use Rattle.ufs_model.specs.declared.inodes.Inode.{Inode}
use Rattle.ufs_model.specs.declared.inodes.Kind.TheVariants.{Unknown}
use Rattle.ufs_model.specs.declared.pointers.Address.{Address}
use Rattle.ufs_model.specs.declared.pointers.Address.TheVariants.{At, Hole}
use Rattle.ufs_build.specs.Images.{first_below, slot_address as slot_value, volume_bytes}
use Rattle.ufs_build.specs.Nodes.{Node}
use Rattle.ufs_build.specs.Parts.{Part, number_bytes}
use Rattle.ufs_build.specs.Placements.{Addresses, AllPlaced, address_at, blocks_of, is_used}
use Rattle.ufs_image_laws.specs.Built.{blocks_in}
use Rattle.ufs_image_laws.specs.Claims.{IsOfFile}
use Rattle.ufs_image_laws.specs.Inodes.{IsInodeOf}
use Rattle.ufs_image_laws.proofs.AddressReads.{FileOf, SlotsLead, address_spot, below, block_stands, direct_read, far_count, full_of, in_blocks, in_level, placed_of, spot, tests_of, upper_slot}
use Rattle.ufs_image_laws.proofs.AreaLaws.{block_is}
use Rattle.ufs_image_laws.proofs.InodeReads.{inode_none, inode_read, small_address}
use Rattle.ufs_image_laws.proofs.ItemLaws.{HasNumbers}
use Rattle.ufs_image_laws.proofs.NumberLaws.{number_back, number_in_area}
use Rattle.ufs_image_laws.proofs.PlacingLaws.{ArePlaced, HasFragment, IsPlaced, both_ways, count_of, not_before}
use Rattle.ufs_image_laws.proofs.SuperLaws.{NumbersFit}
use Rattle.ufs_image_laws.proofs.VolumeLaws.{AreVolume, first_placed}
use Rattle.ufs_image_laws.proofs.ZoneLaws.{sizes}

-- ---- fragments at an address

nothing_at : (g : Geometry) (a k : ℕ) → a ≡ 0 → address g a k ≡ Hole
unfolding address
nothing_at g a k e = let none : (a == 0) ≡ true = eq-eqb a 0 e in rw none refl

in_none : (f : ℕ) → Contains [] f → ⊥
in_none f h = let low = h.1 in omega arith

first_at : (k a f : ℕ) → k < 1 → get_or (a ∷ []) k f ≡ f → a ≡ f
first_at zero a f low e = e
first_at (suc k) a f low e = absurd (omega arith)

in_one : (a f : ℕ) → Contains (a ∷ []) f → a ≡ f
in_one a f h = first_at (h.0) a f (h.1) (h.2)

fragments_within : (a k f : ℕ) → Contains (fragments_from a k) f → (a ≤ f) × (f < a + k)
fragments_within a zero f h = absurd (in_none f h)
fragments_within a (suc k) f h = elim (Contains-append_cases (a ∷ []) (fragments_from (suc a) k) f h) as (λ _. (a ≤ f) × (f < a + suc k)) [
  | inl first ↦ let same = in_one a f first in (omega arith, omega arith)
  | inr later ↦ let range = fragments_within (suc a) k f later in (let low = range.0 in omega arith, let high = range.1 in omega arith)
]

if_contains : (b : Bool) (xs : List ℕ) (f : ℕ) → Contains (if b then xs else []) f → (b ≡ true) × Contains xs f
if_contains true xs f h = (refl, h)
if_contains false xs f h = absurd (in_none f h)

spot_by : (a k f : ℕ) (none : Bool) → (a == 0) ≡ none → Contains (fragments_at (if none then Hole else At a k)) f → (a ≢ 0) × (a ≤ f) × (f < a + k)
spot_by a k f true e h = absurd (in_none f h)
spot_by a k f false e h = let range = fragments_within a k f h in ((λ none. false≢true (sym e ∙ eq-eqb a 0 none)), range.0, range.1)

at_spot : (g : Geometry) (size : ℕ) (addresses : Addresses) (level index f : ℕ) → Contains (fragments_at (spot g size addresses level index)) f → HasFragment g size addresses level index f
at_spot g size addresses level index f h =
    let is = spot_by (address_at addresses level index) (count_of g size level index) f (address_at addresses level index == 0) refl h in
    record { some = is.0; low = is.1; high = is.2 }

-- ---- whose a fragment is

-- what is asked of the files: pointers stand in an inode unless the bytes do
pub record HasKind (g : Geometry) (node : Node) : Type 0 where
  pub numbers : HasNumbers node
  pub pointers : kind_has_pointers g (length node.bytes) (kind_of node.mode) ≡ not node.inside
  pub known : kind_of node.mode ≡ Unknown → ⊥

-- the slot of an inode by which a block is reached
abbrev pub IsSlot : ℕ → ℕ → ℕ → Type 0
IsSlot level index slot = ((slot < 12) × (level ≡ 0) × (index ≡ slot)) ⊎ ((12 ≤ slot) × (slot < 15) × (level ≡ slot - 11) × (index ≡ 0))

-- the pointer by which it is reached
pub record IsPointer (g : Geometry) (addresses : Addresses) (level index : ℕ) (source : ClaimSource) : Type 0 where
  pub upper : ℕ
  pub at : ℕ
  pub number : ℕ
  pub place : ℕ
  pub is : source ≡ Pointer upper (level + 1) at
  pub low : place < g.nindir
  pub index_is : index ≡ below g (level + 1) number place
  pub fragment : upper ≡ address_at addresses (level + 1) number + place / (g.fsize / 4)
  pub rest : at ≡ place % (g.fsize / 4)

-- the source by which it is reached
abbrev pub Via : Geometry → ℕ → Addresses → ℕ → ℕ → ClaimSource → Type 0
Via g k addresses level index source = ((slot : ℕ) × (source ≡ Slot (2 + k) slot) × IsSlot level index slot) ⊎ IsPointer g addresses level index source

-- a fragment of a block of a file, and the source that claims it
pub record IsFiles (g : Geometry) (nodes : List Node) (all : AllPlaced) (f : ℕ) (source : ClaimSource) : Type 0 where
  pub k : ℕ
  pub node : Node
  pub addresses : Addresses
  pub level : ℕ
  pub index : ℕ
  pub file : FileOf g nodes all k node addresses
  pub below_four : level < 4
  pub has : HasFragment g (length node.bytes) addresses level index f
  pub of_level : level_of source ≡ level
  pub via : Via g k addresses level index source
  pub fragments : source_fragments g (blocks_in g.fsize g.size (volume_bytes g nodes all)) source ≡ fragments_at (spot g (length node.bytes) addresses level index)

-- ---- by a slot

pub not_inside : (b : Bool) → not b ≡ true → b ≡ false
not_inside true e = absurd (false≢true e)
not_inside false e = refl

outside_by : (g : Geometry) (node : Node) (inode : Inode) → HasKind g node → inode.mode ≡ node.mode → inode.size ≡ length node.bytes → has_pointers g inode ≡ true → node.inside ≡ false
outside_by g node inode kind mode size e =
    let both : not node.inside ≡ true = sym kind.pointers ∙ rw (← size, ← mode) e in
    not_inside node.inside both

-- what a slot leads to
pub slot_far : (g : Geometry) (nodes : List Node) (all : AllPlaced) (k : ℕ) (node : Node) (addresses : Addresses) (inode : Inode) (slot : ℕ) → FileOf g nodes all k node addresses
    → SlotsLead g node addresses inode → 12 ≤ slot → slot < 15 → slot_address g inode slot ≡ spot g (length node.bytes) addresses (slot - 11) 0
slot_far g nodes all k node addresses inode slot is slots upper low =
    let size = length node.bytes in
    let test : nat_le 12 slot ≡ true = grind (arith, nat_tests) in
    let direct : nat_lt slot 12 ≡ false = grind (arith, nat_tests) in
    let value : slot_value addresses slot ≡ address_at addresses (slot - 11) 0 = rw direct refl in
    let count : g.frag ≡ count_of g size (slot - 11) 0 = let e : (slot - 11 == 0) ≡ false = ne_eqb (slot - 11) 0 (λ z. omega arith) in rw e refl in
    upper_slot g node addresses inode slot slots test low ∙ ap (λ (a : ℕ). address g a g.frag) value ∙ ap (address g (address_at addresses (slot - 11) 0)) count
    ∙ address_spot g node addresses (slot - 11) 0 (placed_of g nodes all k node addresses is) (omega arith)

pub slot_near : (g : Geometry) (nodes : List Node) (all : AllPlaced) (k : ℕ) (node : Node) (addresses : Addresses) (inode : Inode) (slot : ℕ) → FileOf g nodes all k node addresses
    → SlotsLead g node addresses inode → slot < 12 → slot_address g inode slot ≡ spot g (length node.bytes) addresses 0 slot
slot_near g nodes all k node addresses inode slot is slots near =
    let size = length node.bytes in
    elim (cases_lt slot (blocks_of g node)) as (λ _. slot_address g inode slot ≡ spot g size addresses 0 slot) [
      | inl block ↦ direct_read g nodes all k node addresses inode slot is slots near block
      | inr behind ↦
          let direct : nat_lt slot 12 ≡ true = grind (arith, nat_tests) in
          let value : slot_value addresses slot ≡ address_at addresses 0 slot = rw direct refl in
          let found = full_of g nodes all k node addresses is in
          let full = found.2 in
          let none : address_at addresses 0 slot ≡ 0 = full.behind slot behind in
          let empty : (address_at addresses 0 slot == 0) ≡ true = eq-eqb (address_at addresses 0 slot) 0 none in
          nothing_at g (slot_of inode slot) (span g inode slot) (slots.slots slot (omega arith) ∙ value ∙ none)
          ∙ ap (λ (b : Bool). if b then Hole else At (address_at addresses 0 slot) (count_of g size 0 slot)) (sym empty)
    ]

pub slot_spot : (g : Geometry) (nodes : List Node) (all : AllPlaced) (k : ℕ) (node : Node) (addresses : Addresses) (inode : Inode) (slot : ℕ) → FileOf g nodes all k node addresses
    → SlotsLead g node addresses inode → slot < 15 → (level : ℕ) × (index : ℕ) × (level < 4) × (slot_address g inode slot ≡ spot g (length node.bytes) addresses level index)
slot_spot g nodes all k node addresses inode slot is slots low =
    elim (cases_lt slot 12) as (λ _. (level : ℕ) × (index : ℕ) × (level < 4) × (slot_address g inode slot ≡ spot g (length node.bytes) addresses level index)) [
      | inr upper ↦ (slot - 11, 0, omega arith, slot_far g nodes all k node addresses inode slot is slots upper low)
      | inl near ↦ (0, slot, omega arith, slot_near g nodes all k node addresses inode slot is slots near)
    ]

slot_is : (g : Geometry) (nodes : List Node) (all : AllPlaced) (k : ℕ) (node : Node) (addresses : Addresses) (inode : Inode) (slot f : ℕ) → FileOf g nodes all k node addresses
    → SlotsLead g node addresses inode → slot < 15
    → source_fragments g (blocks_in g.fsize g.size (volume_bytes g nodes all)) (Slot (2 + k) slot) ≡ fragments_at (slot_address g inode slot)
    → Contains (fragments_at (slot_address g inode slot)) f → IsFiles g nodes all f (Slot (2 + k) slot)
slot_is g nodes all k node addresses inode slot f is slots low own h =
    let size = length node.bytes in
    elim (cases_lt slot 12) as (λ _. IsFiles g nodes all f (Slot (2 + k) slot)) [
      | inr upper ↦
          let there = slot_far g nodes all k node addresses inode slot is slots upper low in
          record {
            k = k;
            node = node;
            addresses = addresses;
            level = slot - 11;
            index = 0;
            file = is;
            below_four = omega arith;
            has = at_spot g size addresses (slot - 11) 0 f (subst (λ (a : Address). Contains (fragments_at a) f) there h);
            of_level = refl;
            via = inl (slot, refl, inr (upper, low, refl, refl));
            fragments = own ∙ ap fragments_at there;
          }
      | inl near ↦
          let level : slot - 11 ≡ 0 = omega arith in
          let there = slot_near g nodes all k node addresses inode slot is slots near in
          record {
            k = k;
            node = node;
            addresses = addresses;
            level = 0;
            index = slot;
            file = is;
            below_four = omega arith;
            has = at_spot g size addresses 0 slot f (subst (λ (a : Address). Contains (fragments_at a) f) there h);
            of_level = level;
            via = inl (slot, refl, inl (near, refl, refl));
            fragments = own ∙ ap fragments_at there;
          }
    ]

-- the inode of a source is that of a file
slot_claim_by : (g : Geometry) (nodes : List Node) (all : AllPlaced) (k : ℕ) (node : Node) (addresses : Addresses) (slot f : ℕ) (found : Option Inode) → FileOf g nodes all k node addresses → HasKind g node
    → IsInodeOf node addresses found
    → source_fragments g (blocks_in g.fsize g.size (volume_bytes g nodes all)) (Slot (2 + k) slot) ≡ slot_fragments_in g slot found
    → Contains (slot_fragments_in g slot found) f → IsFiles g nodes all f (Slot (2 + k) slot)
unfolding slot_fragments
slot_claim_by g nodes all k node addresses slot f None is kind own outer h = absurd (in_none f h)
slot_claim_by g nodes all k node addresses slot f (Some inode) is kind own outer h =
    let same : inode ≡ own.inode = same_Some inode own.inode own.is in
    let tests = if_contains (has_pointers g inode && nat_lt slot 15) (fragments_at (slot_address g inode slot)) f h in
    let both = and_parts (has_pointers g inode) (nat_lt slot 15) (tests.0) in
    let mode : inode.mode ≡ node.mode = ap (λ (i : Inode). i.mode) same ∙ own.mode in
    let size : inode.size ≡ length node.bytes = ap (λ (i : Inode). i.size) same ∙ own.size in
    let outside = outside_by g node inode kind mode size (both.0) in
    let slots : SlotsLead g node addresses inode = record { size = size; slots = λ s low. ap (λ (i : Inode). slot_of i s) same ∙ own.slots outside s low } in
    slot_is g nodes all k node addresses inode slot f is slots (ltb-true slot 15 (both.1))
    (outer ∙ ap (λ (b : Bool). if b then fragments_at (slot_address g inode slot) else []) (tests.0)) (tests.1)

-- What is known of a volume and its files.
pub record AreFiles (g : Geometry) (nodes : List Node) (all : AllPlaced) : Type 0 where
  pub volume : AreVolume g nodes all
  pub numbers : NumbersFit g
  pub kinds : (k : ℕ) (node : Node) → slice_get nodes k ≡ Some node → HasKind g node
  pub count : length all.files ≡ length nodes

pub no_node : Node
no_node = record { mode = 0; bytes = []; sparse = false; inside = false }

pub no_addresses : Addresses
no_addresses = record { data_blocks = []; ones = []; twos = []; threes = [] }

-- the file whose inode this is
pub file_of_inode : (g : Geometry) (nodes : List Node) (all : AllPlaced) (k : ℕ) → AreFiles g nodes all → k < length nodes
    → FileOf g nodes all k (get_or nodes k no_node) (get_or all.files k no_addresses)
file_of_inode g nodes all k is low =
    let count = is.count in
    record { volume = is.volume; numbers = is.numbers; node_is = slice_get-get_or nodes k no_node low; addresses_are = slice_get-get_or all.files k no_addresses (omega (arith, count, low)) }

by_inode : (g : Geometry) (nodes : List Node) (all : AllPlaced) (i slot f : ℕ) → AreFiles g nodes all → 2 ≤ i → i < g.ncg * g.ipg
    → source_fragments g (blocks_in g.fsize g.size (volume_bytes g nodes all)) (Slot i slot)
    ≡ slot_fragments_in g slot ((inode_of g i (blocks_in g.fsize g.size (volume_bytes g nodes all))).value)
    → Contains (slot_fragments_in g slot ((inode_of g i (blocks_in g.fsize g.size (volume_bytes g nodes all))).value)) f → IsFiles g nodes all f (Slot i slot)
by_inode g nodes all i slot f is low high outer h =
    let v = blocks_in g.fsize g.size (volume_bytes g nodes all) in
    elim (cases_lt i (2 + length nodes)) as (λ _. IsFiles g nodes all f (Slot i slot)) [
      | inr past ↦
          absurd (in_none f (subst (λ (found : Option Inode). Contains (slot_fragments_in g slot found) f) (inode_none g nodes all i is.volume high (inr past)) h))
      | inl own ↦
          let k = i - 2 in
          let number : i ≡ 2 + k = omega arith in
          let file = file_of_inode g nodes all k is (omega arith) in
          let node = get_or nodes k no_node in
          let addresses = get_or all.files k no_addresses in
          let kind = is.kinds k node file.node_is in
          let numbers = kind.numbers in
          let read = inode_read g nodes all k node addresses is.numbers is.volume file.node_is file.addresses_are numbers.some numbers.mode numbers.size in
          subst (λ (n : ℕ). IsFiles g nodes all f (Slot n slot)) (sym number)
          (slot_claim_by g nodes all k node addresses slot f ((inode_of g (2 + k) v).value) file kind read
          (subst (λ (n : ℕ). source_fragments g v (Slot n slot) ≡ slot_fragments_in g slot ((inode_of g n v).value)) number outer)
          (subst (λ (n : ℕ). Contains (slot_fragments_in g slot ((inode_of g n v).value)) f) number h))
    ]

by_slot_claim : (g : Geometry) (nodes : List Node) (all : AllPlaced) (i slot f : ℕ) → AreFiles g nodes all
    → Contains (source_fragments g (blocks_in g.fsize g.size (volume_bytes g nodes all)) (Slot i slot)) f → IsFiles g nodes all f (Slot i slot)
unfolding source_fragments
by_slot_claim g nodes all i slot f is h =
    let tests = if_contains (is_inode_number g i) (slot_fragments_in g slot ((inode_of g i (blocks_in g.fsize g.size (volume_bytes g nodes all))).value)) f h in
    let both = and_parts (nat_le 2 i) (nat_lt i (g.ncg * g.ipg)) (tests.0) in
    by_inode g nodes all i slot f is (leb-true 2 i (both.0)) (ltb-true i (g.ncg * g.ipg) (both.1))
    (ap (λ (b : Bool). if b then slot_fragments_in g slot ((inode_of g i (blocks_in g.fsize g.size (volume_bytes g nodes all))).value) else []) (tests.0)) (tests.1)

-- ---- by a pointer

quarter : (fsize m : ℕ) → fsize ≡ 128 * m → fsize ≡ 4 * (fsize / 4)
quarter fsize m e = omega arith

-- a pointer in a fragment of an indirect block is one of the block's
pub pointer_at : (g : Geometry) (nodes : List Node) (all : AllPlaced) (k : ℕ) (node : Node) (addresses : Addresses) (level index upper at : ℕ) → FileOf g nodes all k node addresses
    → 0 < level → level < 4 → HasFragment g (length node.bytes) addresses level index upper → at < g.fsize / 4
    → ((upper - address_at addresses level index) * (g.fsize / 4) + at < g.nindir)
    × (pointer_in g.endian (block_at g.fsize (blocks_in g.fsize g.size (volume_bytes g nodes all)) upper) at
    ≡ address_at addresses (level - 1) (below g level index ((upper - address_at addresses level index) * (g.fsize / 4) + at)))
pointer_at g nodes all k node addresses level index upper at is some low has less =
    let image = volume_bytes g nodes all in
    let placed = placed_of g nodes all k node addresses is in
    let file = placed.is in
    let run = file.runs level index low has.some in
    let size = sizes g (tests_of g nodes all k node addresses is) in
    let unit = quarter g.fsize (g.fsize / 128) size.unit in
    let bytes = size.bytes in
    let pointers = size.pointers in
    let a = address_at addresses level index in
    let q = upper - a in
    let w = g.fsize / 4 in
    let count : count_of g (length node.bytes) level index ≡ g.frag = let e : (level == 0) ≡ false = ne_eqb level 0 (λ z. omega arith) in rw e refl in
    let from = has.low in
    let to : upper < a + g.frag = rw (← count) has.high in
    let inside = run.inside in
    let within : a + g.frag ≤ g.size = rw (← count) inside in
    let row : q * w + at < w * g.frag = mul-add-lt q w at g.frag (omega arith) less in
    let turn : w * g.frag ≡ g.nindir = (let product : g.frag * g.fsize ≡ 4 * (w * g.frag) = ap (λ (x : ℕ). g.frag * x) unit ∙ (let z : g.frag * (4 * w) ≡ 4 * (w * g.frag) = grind arith in z) in omega arith) in
    let i = q * w + at in
    let few : i < g.nindir = omega arith in
    let sum : upper * g.fsize ≡ a * g.fsize + q * g.fsize = ap (λ (x : ℕ). x * g.fsize) (let z : upper ≡ a + q = omega arith in z) ∙ add-mul a q g.fsize in
    let product : q * g.fsize ≡ 4 * (q * w) = ap (λ (x : ℕ). q * x) unit ∙ (let z : q * (4 * w) ≡ 4 * (q * w) = grind arith in z) in
    let place : upper * g.fsize + 4 * at ≡ a * g.fsize + 4 * i = omega arith in
    let part : Part = record { at = a * g.fsize + 4 * i; bytes = number_bytes g.endian 4 (address_at addresses (level - 1) (below g level index i)) } in
    let stands = block_stands g nodes all k node addresses part is (in_blocks g node addresses level part some low (in_level g addresses level index i part has.some few (inl refl))) in (
      few,
      ap (λ (xs : List ℕ). pointer_in g.endian xs at) (block_is g.fsize g.size image upper (omega arith))
          ∙ number_in_area g.endian 4 image (upper * g.fsize) (4 * at) g.fsize (omega arith)
          ∙ ap (number_at g.endian 4 image) place
          ∙ number_back g.endian 4 (address_at addresses (level - 1) (below g level index i)) image (a * g.fsize + 4 * i)
          (small_address g node addresses (level - 1) (below g level index i) is.numbers placed (omega arith)) stands,
    )

pub lower_count : (g : Geometry) (size level index i : ℕ) → 0 < level → g.frag ≡ count_of g size (level - 1) (below g level index i)
lower_count g size level index i some =
    elim (cases_eq (level - 1) 0) as (λ _. g.frag ≡ count_of g size (level - 1) (below g level index i)) [
      | inr upper ↦ let e : (level - 1 == 0) ≡ false = ne_eqb (level - 1) 0 upper in rw e refl
      | inl data_level ↦
          let e : (level - 1 == 0) ≡ true = eq-eqb (level - 1) 0 data_level in
          let one : level ≡ 1 = omega arith in
          let first : (level == 1) ≡ true = eq-eqb level 1 one in
          let first_is : first_below level ≡ 12 = rw first refl in
          let far : 12 ≤ below g level index i = omega arith in
          rw e (far_count g size (below g level index i) far)
    ]

by_pointer_claim : (g : Geometry) (nodes : List Node) (all : AllPlaced) (f upper level at : ℕ) (source : ClaimSource) → AreFiles g nodes all → IsFiles g nodes all upper source
    → level_of source ≡ level → 0 < level → Contains (source_fragments g (blocks_in g.fsize g.size (volume_bytes g nodes all)) (Pointer upper level at)) f
    → IsFiles g nodes all f (Pointer upper level at)
unfolding source_fragments pointer_fragments
by_pointer_claim g nodes all f upper level at source is above same some h =
    let v = blocks_in g.fsize g.size (volume_bytes g nodes all) in
    let tests = if_contains (nat_lt at (g.fsize / 4)) (fragments_at (address g (pointer_in g.endian (block_at g.fsize v upper) at) g.frag)) f h in
    let less = ltb-true at (g.fsize / 4) (tests.0) in
    let node = above.node in
    let addresses = above.addresses in
    let size = length node.bytes in
    let level_is : above.level ≡ level = sym above.of_level ∙ same in
    let low : level < 4 = rw (← level_is) above.below_four in
    let has = subst (λ (l : ℕ). HasFragment g size addresses l above.index upper) level_is above.has in
    let read = pointer_at g nodes all above.k node addresses level above.index upper at above.file some low has less in
    let i = (upper - address_at addresses level above.index) * (g.fsize / 4) + at in
    let there : address g (pointer_in g.endian (block_at g.fsize v upper) at) g.frag ≡ spot g size addresses (level - 1) (below g level above.index i) =
    ap (λ (a : ℕ). address g a g.frag) (read.1) ∙ ap (address g (address_at addresses (level - 1) (below g level above.index i))) (lower_count g size level above.index i some)
    ∙ address_spot g node addresses (level - 1) (below g level above.index i) (placed_of g nodes all above.k node addresses above.file) (omega arith) in
    let next : level - 1 + 1 ≡ level = omega arith in
    let from = has.low in
    record {
      k = above.k;
      node = node;
      addresses = addresses;
      level = level - 1;
      index = below g level above.index i;
      file = above.file;
      below_four = omega arith;
      has = at_spot g size addresses (level - 1) (below g level above.index i) f (subst (λ (a : Address). Contains (fragments_at a) f) there (tests.1));
      of_level = refl;
      via = inr (record {
        upper = upper;
        at = at;
        number = above.index;
        place = i;
        is = ap (λ (l : ℕ). Pointer upper l at) (sym next);
        low = read.0;
        index_is = ap (λ (l : ℕ). below g l above.index i) (sym next);
        fragment = (let quotient : i / (g.fsize / 4) ≡ upper - address_at addresses level above.index = div-mul-add (upper - address_at addresses level above.index) (g.fsize / 4) at less in
            let e : upper ≡ address_at addresses level above.index + i / (g.fsize / 4) = omega arith in e ∙ ap (λ (l : ℕ). address_at addresses l above.index + i / (g.fsize / 4)) (sym next));
        rest = sym (mod-mul-add (upper - address_at addresses level above.index) (g.fsize / 4) at less);
      });
      fragments = ap (λ (b : Bool). if b then fragments_at (address g (pointer_in g.endian (block_at g.fsize v upper) at) g.frag) else []) (tests.0) ∙ ap fragments_at there;
    }

-- the same, and which block it is
pub pointer_files : (g : Geometry) (nodes : List Node) (all : AllPlaced) (f upper level at : ℕ) (source : ClaimSource) → AreFiles g nodes all → (above : IsFiles g nodes all upper source)
    → level_of source ≡ level → 0 < level → Contains (source_fragments g (blocks_in g.fsize g.size (volume_bytes g nodes all)) (Pointer upper level at)) f
    → (is : IsFiles g nodes all f (Pointer upper level at)) × (is.k ≡ above.k) × (is.level ≡ level - 1)
    × (is.index ≡ below g level above.index ((upper - address_at above.addresses level above.index) * (g.fsize / 4) + at))
unfolding by_pointer_claim
pointer_files g nodes all f upper level at source is above same some h = (by_pointer_claim g nodes all f upper level at source is above same some h, refl, refl, refl)

-- Each claim is that of a block of a file.
pub claim_of_file : (g : Geometry) (nodes : List Node) (all : AllPlaced) (f : ℕ) (source : ClaimSource) → AreFiles g nodes all
    → IsClaim (source_fragments g (blocks_in g.fsize g.size (volume_bytes g nodes all))) f source → IsFiles g nodes all f source
claim_of_file g nodes all f source is (by_slot {inode = i} {slot = slot} h) = by_slot_claim g nodes all i slot f is h
claim_of_file g nodes all f source is (by_pointer {upper = upper} {level = level} {at = at} {source = above} claim same some h) =
    by_pointer_claim g nodes all f upper level at above is (claim_of_file g nodes all upper above is claim) same some h

-- ---- each fragment has one claim

fresh_at : (g : Geometry) (k : ℕ) (nodes : List Node) (files : List Addresses) (node : Node) (addresses : Addresses) (before after : List Bool) (level index f : ℕ) → length before ≡ g.size
    → ArePlaced g nodes files before after → slice_get nodes k ≡ Some node → slice_get files k ≡ Some addresses → level < 4 → HasFragment g (length node.bytes) addresses level index f
    → is_used before f ≡ false
fresh_at g k [] files node addresses before after level index f long placed e e' low has = absurd (cc e)
fresh_at g k (first ∷ nodes) [] node addresses before after level index f long placed e e' low has = absurd (cc e')
fresh_at g zero (first ∷ nodes) (own ∷ files) node addresses before after level index f long placed e e' low has =
    let here = first_placed g first before (placed.0) own long (placed.1) in
    let own_has = subst (λ (n : Node). HasFragment g (length n.bytes) own level index f) (sym (same_Some first node e))
    (subst (λ (a : Addresses). HasFragment g (length node.bytes) a level index f) (sym (same_Some own addresses e')) has) in
    let run = here.runs level index low own_has.some in
    run.fresh f own_has.low own_has.high
fresh_at g (suc k) (first ∷ nodes) (own ∷ files) node addresses before after level index f long placed e e' low has =
    let here = first_placed g first before (placed.0) own long (placed.1) in
    not_before (is_used before f) (is_used (placed.0) f) (here.kept f) (fresh_at g k nodes files node addresses (placed.0) after level index f here.long (placed.2) e e' low has)

used_first : (g : Geometry) (first : Node) (own : Addresses) (node : Node) (addresses : Addresses) (before mid : List Bool) (level index f : ℕ)
    → IsPlaced g (length first.bytes) before (record { used = mid; addresses = own }) → first ≡ node → own ≡ addresses → level < 4 → HasFragment g (length node.bytes) addresses level index f
    → is_used mid f ≡ true
used_first g first own node addresses before mid level index f here e e' low has =
    let own_has = subst (λ (n : Node). HasFragment g (length n.bytes) own level index f) (sym e)
    (subst (λ (a : Addresses). HasFragment g (length node.bytes) a level index f) (sym e') has) in
    let run = here.runs level index low own_has.some in
    run.used f own_has.low own_has.high

-- a fragment of one of the files
abbrev pub HasOne : Geometry → List Node → List Addresses → ℕ → ℕ → Type 0
HasOne g nodes files k f =
    (node : Node) × (addresses : Addresses) × (level : ℕ) × (index : ℕ) × (slice_get nodes k ≡ Some node) × (slice_get files k ≡ Some addresses) × (level < 4)
    × HasFragment g (length node.bytes) addresses level index f

pub same_file : (g : Geometry) (nodes : List Node) (files : List Addresses) (before after : List Bool) (f i j : ℕ) → length before ≡ g.size → ArePlaced g nodes files before after
    → HasOne g nodes files i f → HasOne g nodes files j f → i ≡ j
same_file g [] files before after f i j long placed one other = absurd (cc (one.4))
same_file g (first ∷ nodes) [] before after f i j long placed one other = absurd (cc (one.5))
same_file g (first ∷ nodes) (own ∷ files) before after f zero zero long placed one other = refl
same_file g (first ∷ nodes) (own ∷ files) before after f zero (suc j) long placed one other =
    let here = first_placed g first before (placed.0) own long (placed.1) in
    let used = used_first g first own (one.0) (one.1) before (placed.0) (one.2) (one.3) f here (same_Some first (one.0) (one.4)) (same_Some own (one.1) (one.5)) (one.6) (one.7) in
    absurd (both_ways (is_used (placed.0) f) used
    (fresh_at g j nodes files (other.0) (other.1) (placed.0) after (other.2) (other.3) f here.long (placed.2) (other.4) (other.5) (other.6) (other.7)))
same_file g (first ∷ nodes) (own ∷ files) before after f (suc i) zero long placed one other =
    let here = first_placed g first before (placed.0) own long (placed.1) in
    let used = used_first g first own (other.0) (other.1) before (placed.0) (other.2) (other.3) f here (same_Some first (other.0) (other.4)) (same_Some own (other.1) (other.5)) (other.6) (other.7) in
    absurd (both_ways (is_used (placed.0) f) used
    (fresh_at g i nodes files (one.0) (one.1) (placed.0) after (one.2) (one.3) f here.long (placed.2) (one.4) (one.5) (one.6) (one.7)))
same_file g (first ∷ nodes) (own ∷ files) before after f (suc i) (suc j) long placed one other =
    let here = first_placed g first before (placed.0) own long (placed.1) in
    ap suc (same_file g nodes files (placed.0) after f i j here.long (placed.2) one other)

first_cases : (level : ℕ) → (level ≡ 0 → first_below (level + 1) ≡ 12) × (1 ≤ first_below (level + 1))
first_cases level =
    elim (cases_eq level 0) as (λ _. (level ≡ 0 → first_below (level + 1) ≡ 12) × (1 ≤ first_below (level + 1))) [
      | inl none ↦
          let e : (level + 1 == 1) ≡ true = eq-eqb (level + 1) 1 (omega arith) in
          let is : first_below (level + 1) ≡ 12 = rw e refl in
          ((λ _. is), omega arith)
      | inr some ↦
          let e : (level + 1 == 1) ≡ false = ne_eqb (level + 1) 1 (λ z. omega arith) in
          let is : first_below (level + 1) ≡ 1 = rw e refl in
          ((λ none. absurd (some none)), omega arith)
    ]

slot_same : (level index s t : ℕ) → IsSlot level index s → IsSlot level index t → s ≡ t
slot_same level index s t (inl x) (inl y) = sym (x.2) ∙ y.2
slot_same level index s t (inl x) (inr y) = let a = x.1 in let b = y.2 in let c = y.0 in absurd (omega arith)
slot_same level index s t (inr x) (inl y) = let a = y.1 in let b = x.2 in let c = x.0 in absurd (omega arith)
slot_same level index s t (inr x) (inr y) = let a = x.2 in let b = y.2 in let c = x.0 in let d = y.0 in omega arith

no_pointer : (g : Geometry) (addresses : Addresses) (level index slot : ℕ) (source : ClaimSource) → IsSlot level index slot → IsPointer g addresses level index source → ⊥
no_pointer g addresses level index slot source (inl x) p =
    let first = first_cases level in
    let twelve = (first.0) (x.1) in
    let near = x.0 in
    let same = x.2 in
    let place = p.index_is in
    omega arith
no_pointer g addresses level index slot source (inr x) p =
    let first = first_cases level in
    let one = first.1 in
    let none = x.3 in
    let place = p.index_is in
    omega arith

pointers_same : (g : Geometry) (addresses : Addresses) (level index : ℕ) (one other : ClaimSource) → IsPointer g addresses level index one → IsPointer g addresses level index other → one ≡ other
pointers_same g addresses level index one other p q =
    let a = p.index_is in
    let b = q.index_is in
    let both = same_from_place p.number p.place q.number q.place g.nindir p.low q.low (omega arith) in
    let upper : p.upper ≡ q.upper = p.fragment ∙ ap (λ (n : ℕ). address_at addresses (level + 1) n + p.place / (g.fsize / 4)) (both.0)
    ∙ ap (λ (i : ℕ). address_at addresses (level + 1) q.number + i / (g.fsize / 4)) (both.1) ∙ sym q.fragment in
    let at : p.at ≡ q.at = p.rest ∙ ap (λ (i : ℕ). i % (g.fsize / 4)) (both.1) ∙ sym q.rest in
    p.is ∙ ap (λ (u : ℕ). Pointer u (level + 1) p.at) upper ∙ ap (λ (n : ℕ). Pointer q.upper (level + 1) n) at ∙ sym q.is

sources_same : (g : Geometry) (k : ℕ) (addresses : Addresses) (level index : ℕ) (one other : ClaimSource) → Via g k addresses level index one → Via g k addresses level index other → one ≡ other
sources_same g k addresses level index one other (inl x) (inl y) = x.1 ∙ ap (λ (s : ℕ). Slot (2 + k) s) (slot_same level index (x.0) (y.0) (x.2) (y.2)) ∙ sym (y.1)
sources_same g k addresses level index one other (inl x) (inr q) = absurd (no_pointer g addresses level index (x.0) other (x.2) q)
sources_same g k addresses level index one other (inr p) (inl y) = absurd (no_pointer g addresses level index (y.0) one (y.2) p)
sources_same g k addresses level index one other (inr p) (inr q) = pointers_same g addresses level index one other p q

pub one_of : (g : Geometry) (nodes : List Node) (all : AllPlaced) (f : ℕ) (source : ClaimSource) (is : IsFiles g nodes all f source) → HasOne g nodes all.files is.k f
one_of g nodes all f source is = let file = is.file in (is.node, is.addresses, is.level, is.index, file.node_is, file.addresses_are, is.below_four, is.has)

-- the files of two claims on a fragment are one, and so are their sources
same_claims : (g : Geometry) (nodes : List Node) (all : AllPlaced) (f : ℕ) (one other : ClaimSource) → IsFiles g nodes all f one → IsFiles g nodes all f other → one ≡ other
same_claims g nodes all f one other x y =
    let file = x.file in
    let volume = file.volume in
    let other_file = y.file in
    let k : y.k ≡ x.k = sym (same_file g nodes all.files (replicate g.size false) all.used f x.k y.k (length-replicate g.size false) volume.placed (one_of g nodes all f one x) (one_of g nodes all f other y)) in
    let node : y.node ≡ x.node = same_Some y.node x.node (sym other_file.node_is ∙ ap (slice_get nodes) k ∙ file.node_is) in
    let addresses : y.addresses ≡ x.addresses = same_Some y.addresses x.addresses (sym other_file.addresses_are ∙ ap (slice_get all.files) k ∙ file.addresses_are) in
    let has : HasFragment g (length x.node.bytes) x.addresses y.level y.index f =
    subst (λ (n : Node). HasFragment g (length n.bytes) x.addresses y.level y.index f) node (subst (λ (a : Addresses). HasFragment g (length y.node.bytes) a y.level y.index f) addresses y.has) in
    let placed = (placed_of g nodes all x.k x.node x.addresses file).is in
    let places = placed.apart y.level y.index x.level x.index f y.below_four x.below_four has x.has in
    let via = subst (λ (i : ℕ). Via g x.k x.addresses x.level i other) (places.1) (subst (λ (l : ℕ). Via g x.k x.addresses l y.index other) (places.0)
    (subst (λ (a : Addresses). Via g x.k a y.level y.index other) addresses (subst (λ (n : ℕ). Via g n y.addresses y.level y.index other) k y.via))) in
    sources_same g x.k x.addresses x.level x.index one other x.via via

pub one_claim : (g : Geometry) (nodes : List Node) (all : AllPlaced) (f : ℕ) (one other : ClaimSource) → AreFiles g nodes all
    → IsClaim (source_fragments g (blocks_in g.fsize g.size (volume_bytes g nodes all))) f one → IsClaim (source_fragments g (blocks_in g.fsize g.size (volume_bytes g nodes all))) f other → one ≡ other
one_claim g nodes all f one other is x y = same_claims g nodes all f one other (claim_of_file g nodes all f one is x) (claim_of_file g nodes all f other is y)

-- ---- a claimed fragment is used

kept_all : (g : Geometry) (nodes : List Node) (files : List Addresses) (before after : List Bool) (f : ℕ) → length before ≡ g.size → ArePlaced g nodes files before after
    → is_used before f ≡ true → is_used after f ≡ true
kept_all g [] [] before after f long placed used = ap (λ (u : List Bool). is_used u f) (sym placed) ∙ used
kept_all g [] (own ∷ files) before after f long placed used = absurd placed
kept_all g (first ∷ nodes) [] before after f long placed used = absurd placed
kept_all g (first ∷ nodes) (own ∷ files) before after f long placed used =
    let here = first_placed g first before (placed.0) own long (placed.1) in
    kept_all g nodes files (placed.0) after f here.long (placed.2) (here.kept f used)

used_all : (g : Geometry) (nodes : List Node) (files : List Addresses) (before after : List Bool) (f k : ℕ) → length before ≡ g.size → ArePlaced g nodes files before after → HasOne g nodes files k f
    → is_used after f ≡ true
used_all g [] files before after f k long placed one = absurd (cc (one.4))
used_all g (first ∷ nodes) [] before after f k long placed one = absurd (cc (one.5))
used_all g (first ∷ nodes) (own ∷ files) before after f zero long placed one =
    let here = first_placed g first before (placed.0) own long (placed.1) in
    kept_all g nodes files (placed.0) after f here.long (placed.2)
    (used_first g first own (one.0) (one.1) before (placed.0) (one.2) (one.3) f here (same_Some first (one.0) (one.4)) (same_Some own (one.1) (one.5)) (one.6) (one.7))
used_all g (first ∷ nodes) (own ∷ files) before after f (suc k) long placed one =
    let here = first_placed g first before (placed.0) own long (placed.1) in
    used_all g nodes files (placed.0) after f k here.long (placed.2) one

pub claimed_used : (g : Geometry) (nodes : List Node) (all : AllPlaced) (f : ℕ) (source : ClaimSource) → IsFiles g nodes all f source → is_used all.used f ≡ true
claimed_used g nodes all f source is =
    let file = is.file in
    let volume = file.volume in
    used_all g nodes all.files (replicate g.size false) all.used f is.k (length-replicate g.size false) volume.placed (one_of g nodes all f source is)

pub file_claim : (g : Geometry) (nodes : List Node) (all : AllPlaced) (f : ℕ) (source : ClaimSource) → IsFiles g nodes all f source → IsOfFile g nodes all.files f source
file_claim g nodes all f source is =
    let file = is.file in
    let has = subst (λ (l : ℕ). HasFragment g (length is.node.bytes) is.addresses l is.index f) (sym is.of_level) is.has in
    record {
      k = is.k;
      node = is.node;
      addresses = is.addresses;
      index = is.index;
      node_is = file.node_is;
      addresses_are = file.addresses_are;
      in_block = record { some = has.some; low = has.low; high = has.high };
    }
