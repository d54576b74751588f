-- A fragment that belongs to an inode is one of a block of its file, and these are few.
use Rattle.std.proofs.Common.{◌≡◌, ◌≢◌, ◌∙◌, ℕ, zero, suc, ◌+◌, ◌-◌, ◌*◌, ◌<◌, ◌≤◌, ◌||◌, ◌==◌, Bool, true, false, List, [], ◌∷◌, ◌++◌, length, get_or, refl, sym, ap, subst, arith, inl, inr, Some, length-append}
use Rattle.std.specs.Prelude.{Contains, if◌then◌else◌, nat_le, replicate, slice_get}
use Rattle.std.specs.Int.{div_ceil}
use Rattle.std.proofs.Math.Nat.{add-mul, mul-le-mul_right}
use Rattle.std.proofs.lemmas.Bool.{cases_lt, ne_eqb}
use Rattle.std.proofs.lemmas.Bool.Decides.{nat_tests}
use Rattle.std.proofs.lemmas.Grind.{div_ceil_times}
use Rattle.std.proofs.lemmas.List.{get_or_past, length-replicate}
use Rattle.std.proofs.lemmas.List.Elements.{Contains-append_left, Contains-append_right}
use Rattle.std.proofs.lemmas.Option.{same_Some, slice_get-get_or, slice_get_within}
use Rattle.ufs_model.specs.Claims.{IsClaim, fragments_from, source_fragments}
use Rattle.ufs_model.specs.Claims.IsClaim.{by_pointer, by_slot}
use Rattle.ufs_model.specs.Owners.{IsOwner}
use Rattle.ufs_model.specs.Owners.IsOwner.{by_own_slot, by_upper}
use Rattle.ufs_model.specs.declared.claims.ClaimSource.{ClaimSource}
use Rattle.ufs_model.specs.declared.claims.ClaimSource.TheVariants.{Pointer, Slot}
use Rattle.ufs_model.specs.declared.geometries.Geometry.{Geometry}
use Rattle.ufs_build.specs.Images.{volume_bytes}
use Rattle.ufs_build.specs.Nodes.{Node}
use Rattle.ufs_build.specs.Placements.{Addresses, AllPlaced, address_at, addresses_at, blocks_of, fragments_of, indirect_count}
use Rattle.ufs_image_laws.specs.Built.{blocks_in}
use Rattle.ufs_image_laws.specs.Owners.{AreAtMost, IsOwned, all_blocks}
use Rattle.ufs_image_laws.proofs.AddressReads.{FileOf, full_of, tests_of}
use Rattle.ufs_image_laws.proofs.ClaimBack.{from_contains}
use Rattle.ufs_image_laws.proofs.ClaimReads.{AreFiles, IsFiles, Via, claim_of_file, no_addresses, one_of, pointer_files, same_file}
use Rattle.ufs_image_laws.proofs.PlacingLaws.{HasFragment, count_of}
use Rattle.ufs_image_laws.proofs.ZoneLaws.{Sizes, sizes}

-- ---- whose a fragment is

-- what each source claims
abbrev claimed : Geometry → List Node → AllPlaced → ClaimSource → List ℕ
claimed g nodes all = source_fragments g (blocks_in g.fsize g.size (volume_bytes g nodes all))

-- a fragment of a block of the file whose inode this is
record IsOfInode (g : Geometry) (nodes : List Node) (all : AllPlaced) (f i : ℕ) : Type 0 where
  source : ClaimSource
  is : IsFiles g nodes all f source
  inode : i ≡ 2 + is.k

slot_inode : (g : Geometry) (k : ℕ) (addresses : Addresses) (level index i slot : ℕ) → Via g k addresses level index (Slot i slot) → i ≡ 2 + k
slot_inode g k addresses level index i slot (inl own) = let same = own.1 in cc same
slot_inode g k addresses level index i slot (inr pointer) = let other = pointer.is in absurd (cc other)

-- the file of a pointer's fragment is that of the pointer
record IsBelow (g : Geometry) (nodes : List Node) (all : AllPlaced) (f upper : ℕ) : Type 0 where
  source : ClaimSource
  is : IsFiles g nodes all f source
  above : ClaimSource
  upper_is : IsFiles g nodes all upper above
  same : is.k ≡ upper_is.k

below_upper : (g : Geometry) (nodes : List Node) (all : AllPlaced) (f upper level at : ℕ) (source : ClaimSource) → AreFiles g nodes all → IsClaim (claimed g nodes all) f source
    → source ≡ Pointer upper level at → IsBelow g nodes all f upper
below_upper g nodes all f upper level at source is (by_slot {inode = i} {slot = slot} h) e = absurd (cc e)
below_upper g nodes all f upper level at source is (by_pointer {upper = one} {level = height} {at = place} {source = above} claim same some h) e =
    let file = claim_of_file g nodes all one above is claim in
    let found = pointer_files g nodes all f one height place above is file same some h in
    let upper_same : one ≡ upper = cc e in
    subst (λ (u : ℕ). IsBelow g nodes all f u) upper_same
    (record { source = Pointer one height place; is = found.0; above = above; upper_is = file; same = found.1 })

owner_is : (g : Geometry) (nodes : List Node) (all : AllPlaced) (f i level : ℕ) → AreFiles g nodes all → IsOwner (IsClaim (claimed g nodes all)) f i level → IsOfInode g nodes all f i
owner_is g nodes all f i level is (by_own_slot {slot = slot} only same) =
    let one = claim_of_file g nodes all f (Slot i slot) is only.claim in
    record { source = Slot i slot; is = one; inode = slot_inode g one.k one.addresses one.level one.index i slot one.via }
owner_is g nodes all f i level is (by_upper {upper = upper} {at = at} {above = above} only same owner) =
    let below = below_upper g nodes all f upper above at (Pointer upper above at) is only.claim refl in
    let rest = owner_is g nodes all upper i above is owner in
    let volume = is.volume in
    let file : rest.is.k ≡ below.upper_is.k = same_file g nodes all.files (replicate g.size false) all.used upper rest.is.k below.upper_is.k (length-replicate g.size false) volume.placed
    (one_of g nodes all upper rest.source rest.is) (one_of g nodes all upper below.above below.upper_is) in
    record { source = below.source; is = below.is; inode = rest.inode ∙ ap (λ (k : ℕ). 2 + k) (file ∙ sym below.same) }

pub owned_is : (g : Geometry) (nodes : List Node) (all : AllPlaced) (i f : ℕ) → AreFiles g nodes all → IsOwned g (blocks_in g.fsize g.size (volume_bytes g nodes all)) i f
    → (k : ℕ) × (i ≡ 2 + k) × (k < length nodes)
owned_is g nodes all i f is owned =
    let own = owner_is g nodes all f i owned.0 is owned.1 in
    let file = own.is.file in
    (own.is.k, own.inode, slice_get_within nodes own.is.k own.is.node file.node_is)

-- ---- the fragments of a file's blocks

-- those of the blocks of a level, from a number on
row : Geometry → ℕ → ℕ → ℕ → List ℕ → List ℕ
row g size level index [] = []
row g size level index (a ∷ addresses) = fragments_from a (count_of g size level index) ++ row g size level (suc index) addresses

row_has : (g : Geometry) (size level index i f : ℕ) (addresses : List ℕ) → i < length addresses → get_or addresses i 0 ≤ f → f < get_or addresses i 0 + count_of g size level (index + i)
    → Contains (row g size level index addresses) f
unfolding row
row_has g size level index i f [] inside low high = absurd (omega arith)
row_has g size level index zero f (a ∷ addresses) inside low high =
    let number : index + 0 ≡ index = omega arith in
    Contains-append_left (fragments_from a (count_of g size level index)) (row g size level (suc index) addresses) f
    (from_contains a (count_of g size level index) f low (subst (λ (n : ℕ). f < a + count_of g size level n) number high))
row_has g size level index (suc i) f (a ∷ addresses) inside low high =
    let number : index + suc i ≡ suc index + i = omega arith in
    Contains-append_right (fragments_from a (count_of g size level index)) (row g size level (suc index) addresses) f
    (row_has g size level (suc index) i f addresses (omega arith) low (subst (λ (n : ℕ). f < get_or addresses i 0 + count_of g size level n) number high))

length_from : (a k : ℕ) → length (fragments_from a k) ≡ k
length_from a zero = refl
length_from a (suc k) = let rest = length_from (suc a) k in omega (arith, rest)

few_by : (first second : Bool) (frag rest fsize : ℕ) → 0 < fsize → (second ≡ false → rest < frag * fsize) → (if first || second then frag else div_ceil rest fsize) ≤ frag
few_by true second frag rest fsize some less = omega arith
few_by false true frag rest fsize some less = omega arith
few_by false false frag rest fsize some less =
    let round = div_ceil_times rest fsize some in
    let most : div_ceil rest fsize * fsize < rest + fsize = round.1 in
    elim (cases_lt frag (div_ceil rest fsize)) as (λ _. div_ceil rest fsize ≤ frag) [
      | inl lt ↦
          let up : (frag + 1) * fsize ≤ div_ceil rest fsize * fsize = mul-le-mul_right fsize (let h : frag + 1 ≤ div_ceil rest fsize = omega arith in h) in
          let sum : (frag + 1) * fsize ≡ frag * fsize + 1 * fsize = add-mul frag 1 fsize in
          let low = less refl in
          absurd (omega (arith, up, sum, most, low))
      | inr le ↦ le
    ]

fragments_few : (g : Geometry) (size n : ℕ) → Sizes g → fragments_of g size n ≤ g.frag
unfolding fragments_of
fragments_few g size n is =
    let rest : nat_le ((n + 1) * g.bsize) size ≡ false → size - n * g.bsize < g.frag * g.fsize = λ none.
    let over : size < (n + 1) * g.bsize = grind (arith, nat_tests) in
    let split : (n + 1) * g.bsize ≡ n * g.bsize + 1 * g.bsize = add-mul n 1 g.bsize in
    let bytes = is.bytes in
    let least = is.least in
    omega (arith, over, split, bytes, least) in
    few_by (nat_le 12 n) (nat_le ((n + 1) * g.bsize) size) g.frag (size - n * g.bsize) g.fsize is.some rest

count_few : (g : Geometry) (size level index : ℕ) → Sizes g → count_of g size level index ≤ g.frag
count_few g size zero index is = fragments_few g size index is
count_few g size (suc level) index is = let upper : (suc level == 0) ≡ false = ne_eqb (suc level) 0 (λ none. omega arith) in rw upper (omega arith)

row_length : (g : Geometry) (size level index : ℕ) (addresses : List ℕ) → Sizes g → length (row g size level index addresses) ≤ g.frag * length addresses
unfolding row
row_length g size level index [] is = omega arith
row_length g size level index (a ∷ addresses) is =
    let own = length_from a (count_of g size level index) in
    let few = count_few g size level index is in
    let rest = row_length g size level (suc index) addresses is in
    let both = length-append (fragments_from a (count_of g size level index)) (row g size level (suc index) addresses) in
    let product : g.frag * suc (length addresses) ≡ g.frag + g.frag * length addresses = grind arith in
    omega (arith, own, few, rest, both, product)

rows : Geometry → ℕ → Addresses → List ℕ
rows g size addresses = row g size 0 0 addresses.data_blocks ++ (row g size 1 0 addresses.ones ++ (row g size 2 0 addresses.twos ++ row g size 3 0 addresses.threes))

there_within : (xs : List ℕ) (i : ℕ) → get_or xs i 0 ≢ 0 → i < length xs
there_within xs i some = elim (cases_lt i (length xs)) as (λ _. i < length xs) [
  | inl low ↦ low
  | inr past ↦ absurd (some (get_or_past xs i 0 past))
]

row_of : (g : Geometry) (size : ℕ) (addresses : Addresses) (level index f : ℕ) → HasFragment g size addresses level index f → Contains (row g size level 0 (addresses_at addresses level)) f
row_of g size addresses level index f has =
    let number : 0 + index ≡ index = omega arith in
    row_has g size level 0 index f (addresses_at addresses level) (there_within (addresses_at addresses level) index has.some) has.low
    (subst (λ (n : ℕ). f < address_at addresses level index + count_of g size level n) (sym number) has.high)

rows_have : (g : Geometry) (size : ℕ) (addresses : Addresses) (level index f : ℕ) → level < 4 → HasFragment g size addresses level index f → Contains (rows g size addresses) f
unfolding rows
rows_have g size addresses zero index f low has = Contains-append_left (row g size 0 0 addresses.data_blocks) _ f (row_of g size addresses 0 index f has)
rows_have g size addresses (suc zero) index f low has =
    Contains-append_right (row g size 0 0 addresses.data_blocks) _ f (Contains-append_left (row g size 1 0 addresses.ones) _ f (row_of g size addresses 1 index f has))
rows_have g size addresses (suc (suc zero)) index f low has =
    Contains-append_right (row g size 0 0 addresses.data_blocks) _ f (Contains-append_right (row g size 1 0 addresses.ones) _ f
    (Contains-append_left (row g size 2 0 addresses.twos) _ f (row_of g size addresses 2 index f has)))
rows_have g size addresses (suc (suc (suc zero))) index f low has =
    Contains-append_right (row g size 0 0 addresses.data_blocks) _ f (Contains-append_right (row g size 1 0 addresses.ones) _ f
    (Contains-append_right (row g size 2 0 addresses.twos) _ f (row_of g size addresses 3 index f has)))
rows_have g size addresses (suc (suc (suc (suc level)))) index f low has = absurd (omega arith)

rows_few : (g : Geometry) (nodes : List Node) (all : AllPlaced) (k : ℕ) (node : Node) (addresses : Addresses) → FileOf g nodes all k node addresses
    → length (rows g (length node.bytes) addresses) ≤ g.frag * all_blocks g (blocks_of g node)
unfolding rows
rows_few g nodes all k node addresses file =
    let size = length node.bytes in
    let is = sizes g (tests_of g nodes all k node addresses file) in
    let found = full_of g nodes all k node addresses file in
    let full = found.2 in
    let blocks = blocks_of g node in
    let zeros = row g size 0 0 addresses.data_blocks in
    let ones = row g size 1 0 addresses.ones in
    let twos = row g size 2 0 addresses.twos in
    let threes = row g size 3 0 addresses.threes in
    let l0 : length addresses.data_blocks ≡ blocks = full.room 0 (omega arith) in
    let l1 : length addresses.ones ≡ indirect_count g 1 blocks = full.room 1 (omega arith) in
    let l2 : length addresses.twos ≡ indirect_count g 2 blocks = full.room 2 (omega arith) in
    let l3 : length addresses.threes ≡ indirect_count g 3 blocks = full.room 3 (omega arith) in
    let r0 = row_length g size 0 0 addresses.data_blocks is in
    let r1 = row_length g size 1 0 addresses.ones is in
    let r2 = row_length g size 2 0 addresses.twos is in
    let r3 = row_length g size 3 0 addresses.threes is in
    let a0 = length-append zeros (ones ++ (twos ++ threes)) in
    let a1 = length-append ones (twos ++ threes) in
    let a2 = length-append twos threes in
    sum_most g.frag (length zeros) (length ones) (length twos) (length threes) blocks (indirect_count g 1 blocks) (indirect_count g 2 blocks) (indirect_count g 3 blocks)
    (length (rows g (length node.bytes) addresses)) (omega (arith, a0, a1, a2))
    (subst (λ (n : ℕ). length zeros ≤ g.frag * n) l0 r0) (subst (λ (n : ℕ). length ones ≤ g.frag * n) l1 r1)
    (subst (λ (n : ℕ). length twos ≤ g.frag * n) l2 r2) (subst (λ (n : ℕ). length threes ≤ g.frag * n) l3 r3)
  where
    sum_most : (frag x0 x1 x2 x3 n0 n1 n2 n3 all_of : ℕ) → all_of ≡ x0 + x1 + x2 + x3 → x0 ≤ frag * n0 → x1 ≤ frag * n1 → x2 ≤ frag * n2 → x3 ≤ frag * n3 → all_of ≤ frag * (n0 + n1 + n2 + n3)
    sum_most frag x0 x1 x2 x3 n0 n1 n2 n3 all_of e h0 h1 h2 h3 =
        let product : frag * (n0 + n1 + n2 + n3) ≡ frag * n0 + frag * n1 + frag * n2 + frag * n3 = grind arith in
        omega (arith, e, h0, h1, h2, h3, product)

same_place : (k other : ℕ) → 2 + k ≡ 2 + other → other ≡ k
same_place k other e = omega arith

-- no more fragments belong to the inode of a file than its blocks have
pub few_owned : (g : Geometry) (nodes : List Node) (all : AllPlaced) (k : ℕ) (node : Node) (IsSuch : ℕ → Type 0) → AreFiles g nodes all → slice_get nodes k ≡ Some node
    → ((f : ℕ) → IsSuch f → IsOwned g (blocks_in g.fsize g.size (volume_bytes g nodes all)) (2 + k) f)
    → AreAtMost IsSuch (g.frag * all_blocks g (blocks_of g node))
few_owned g nodes all k node IsSuch is e owned =
    let count = is.count in
    let low = slice_get_within nodes k node e in
    let addresses = get_or all.files k no_addresses in
    let addresses_are : slice_get all.files k ≡ Some (get_or all.files k no_addresses) = slice_get-get_or all.files k no_addresses (omega (arith, count, low)) in
    let file : FileOf g nodes all k node (get_or all.files k no_addresses) = record { volume = is.volume; numbers = is.numbers; node_is = e; addresses_are = addresses_are } in
    record {
      numbers = rows g (length node.bytes) (get_or all.files k no_addresses);
      each = λ f such.
          let here = owned f such in
          let own = owner_is g nodes all f (2 + k) here.0 is here.1 in
          let one = own.is in
          let its = one.file in
          let place : one.k ≡ k = same_place k one.k own.inode in
          let node_same : one.node ≡ node = same_Some one.node node (sym its.node_is ∙ ap (slice_get nodes) place ∙ e) in
          let addresses_same : one.addresses ≡ addresses = same_Some one.addresses addresses (sym its.addresses_are ∙ ap (slice_get all.files) place ∙ addresses_are) in
          let has = subst (λ (n : Node). HasFragment g (length n.bytes) addresses one.level one.index f) node_same
          (subst (λ (a : Addresses). HasFragment g (length one.node.bytes) a one.level one.index f) addresses_same one.has) in
          rows_have g (length node.bytes) addresses one.level one.index f one.below_four has;
      few = rows_few g nodes all k node addresses file;
    }
