-- The contents of the files of a built volume are read.
use Rattle.std.proofs.Common.{◌≡◌, ◌∙◌, ℕ, zero, suc, ◌+◌, ◌-◌, ◌*◌, ◌^◌, ◌<◌, ◌≤◌, ◌==◌, min, Bool, true, false, List, [], ◌∷◌, ◌++◌, length, take, drop, refl, sym, ap, arith, inl, inr, Some, None, length-drop}
use Rattle.std.specs.Prelude.{Ok, Option, Result, if◌then◌else◌, nat_le, replicate}
use Rattle.std.specs.Int.{div_ceil}
use Rattle.std.specs.List.{flat_map, list_all, range_with_len}
use Rattle.std.proofs.Math.Seq.{take-add}
use Rattle.std.proofs.lemmas.Bool.{and_parts, cases_Bool, eqb-true}
use Rattle.std.proofs.lemmas.Bool.Decides.{nat_tests}
use Rattle.std.proofs.lemmas.Grind.{div_ceil_times}
use Rattle.std.proofs.lemmas.List.{length-take, take-take, take_all}
use Rattle.ufs_model.specs.Blocks.{Reading, Volume, bind}
use Rattle.ufs_model.specs.Inodes.{block_count, kind_of}
use Rattle.ufs_model.specs.Paths.{block_of, bytes_at, bytes_in_block, contents_of, file_refusal, front_in, front_of, is_regular, part_of, unless_refused}
use Rattle.ufs_model.specs.Readings.{and_then, on_ok}
use Rattle.ufs_model.specs.declared.geometries.Geometry.{Geometry}
use Rattle.ufs_model.specs.declared.inodes.Inode.{Inode}
use Rattle.ufs_model.specs.declared.pointers.Address.{Address}
use Rattle.ufs_model.specs.declared.pointers.Address.TheVariants.{At, Hole}
use Rattle.ufs_build.specs.Images.{block_parts, data_parts, level_parts, volume_bytes}
use Rattle.ufs_build.specs.Nodes.{Node}
use Rattle.ufs_build.specs.Parts.{Part}
use Rattle.ufs_build.specs.Placements.{Addresses, AllPlaced, address_at, block_bytes, blocks_of, fragments_of, is_hole}
use Rattle.ufs_image_laws.specs.Built.{blocks_in}
use Rattle.ufs_image_laws.proofs.AddressReads.{FileOf, SlotsLead, block_found, block_stands, full_of, placed_of, some_of, tests_of}
use Rattle.ufs_image_laws.proofs.AreaLaws.{area_is}
use Rattle.ufs_image_laws.proofs.ListLaws.{Has, has_flat, has_left}
use Rattle.ufs_image_laws.proofs.PartLaws.{block_room}
use Rattle.ufs_image_laws.proofs.ZoneLaws.{sizes}

-- ---- which blocks are holes

-- a file block has no address exactly where it is a hole
pub hole_is : (g : Geometry) (nodes : List Node) (all : AllPlaced) (k : ℕ) (node : Node) (addresses : Addresses) (n : ℕ) → FileOf g nodes all k node addresses
    → n < blocks_of g node → address_at addresses 0 n ≡ 0 → is_hole g node n ≡ true
hole_is g nodes all k node addresses n is low none =
    let found = full_of g nodes all k node addresses is in
    let full = found.2 in
    elim (cases_Bool (is_hole g node n)) as (λ _. is_hole g node n ≡ true) [
      | inl hole ↦ hole
      | inr whole ↦ let chain = full.some n low whole in absurd (let own = chain.own in own none)
    ]

pub hole_none : (g : Geometry) (nodes : List Node) (all : AllPlaced) (k : ℕ) (node : Node) (addresses : Addresses) (n : ℕ) → FileOf g nodes all k node addresses
    → is_hole g node n ≡ true → address_at addresses 0 n ≡ 0
hole_none g nodes all k node addresses n is hole = let found = full_of g nodes all k node addresses is in let full = found.2 in full.hole n hole

zeros_are : (xs : List ℕ) → list_all (λ byte. byte == 0) xs ≡ true → xs ≡ replicate (length xs) 0
zeros_are [] e = refl
zeros_are (x ∷ xs) e =
    let parts = and_parts (x == 0) (list_all (λ byte. byte == 0) xs) e in
    ap (λ (y : ℕ). y ∷ xs) (eqb-true x 0 (parts.0)) ∙ ap (λ (ys : List ℕ). 0 ∷ ys) (zeros_are xs (parts.1))

pub hole_bytes : (g : Geometry) (node : Node) (n : ℕ) → is_hole g node n ≡ true → block_bytes g node.bytes n ≡ replicate (length (block_bytes g node.bytes n)) 0
unfolding is_hole
hole_bytes g node n e =
    let one = and_parts node.sparse _ e in
    let two = and_parts (nat_le ((n + 1) * g.bsize) (length node.bytes)) _ (one.1) in
    zeros_are (block_bytes g node.bytes n) (two.1)

-- ---- the bytes of a block

in_data : (g : Geometry) (node : Node) (addresses : Addresses) (n : ℕ) → n < blocks_of g node → (address_at addresses 0 n == 0) ≡ false
    → Has (record { at = address_at addresses 0 n * g.fsize; bytes = block_bytes g node.bytes n }) (block_parts g node addresses)
unfolding block_parts
in_data g node addresses n low some =
    let part : Part = record { at = address_at addresses 0 n * g.fsize; bytes = block_bytes g node.bytes n } in
    let own = flat_map (data_parts g node addresses) (range_with_len 0 (blocks_of g node)) in
    let here : Has part (data_parts g node addresses n) = rw some (inl refl) in
    has_left part ((own ++ level_parts g addresses 1) ++ level_parts g addresses 2) (level_parts g addresses 3)
    (has_left part (own ++ level_parts g addresses 1) (level_parts g addresses 2)
    (has_left part own (level_parts g addresses 1) (has_flat part (data_parts g node addresses) 0 (blocks_of g node) n (omega arith) (omega arith) here)))

-- what stands in a block, none in a hole
abbrev pub block_in_image : Geometry → ℕ → Addresses → ℕ → List ℕ → Option (List ℕ)
block_in_image g size addresses n image =
    if address_at addresses 0 n == 0 then None else Some (take (fragments_of g size n * g.fsize) (drop (address_at addresses 0 n * g.fsize) image))

bytes_by : (g : Geometry) (image : List ℕ) (a k : ℕ) (none : Bool) → (none ≡ false → a + k ≤ g.size)
    → (bytes_at g (if none then Hole else At a k) (blocks_in g.fsize g.size image)).value ≡ Ok (if none then None else Some (take (k * g.fsize) (drop (a * g.fsize) image)))
unfolding bytes_at bind
bytes_by g image a k true inside = refl
bytes_by g image a k false inside = ap (λ (xs : List ℕ). Ok (Some xs)) (area_is g.fsize g.size a k image (inside refl))

pub block_read : (g : Geometry) (nodes : List Node) (all : AllPlaced) (k : ℕ) (node : Node) (addresses : Addresses) (inode : Inode) (n : ℕ) → FileOf g nodes all k node addresses
    → SlotsLead g node addresses inode → n < blocks_of g node → length node.bytes < 2 ^ 32
    → (block_of g inode n (blocks_in g.fsize g.size (volume_bytes g nodes all))).value ≡ Ok (block_in_image g (length node.bytes) addresses n (volume_bytes g nodes all))
unfolding block_of bind
block_read g nodes all k node addresses inode n is slots low small =
    let placed = placed_of g nodes all k node addresses is in
    let file = placed.is in
    ap (λ (a : Address). (bytes_at g a (blocks_in g.fsize g.size (volume_bytes g nodes all))).value) (block_found g nodes all k node addresses inode n is slots low small)
    ∙ bytes_by g (volume_bytes g nodes all) (address_at addresses 0 n) (fragments_of g (length node.bytes) n) (address_at addresses 0 n == 0)
    (λ e. let run = file.runs 0 n (omega arith) (some_of (address_at addresses 0 n) e) in run.inside)

-- ---- the bytes of the file in it

pub ok_then : {A B R : Type 0} (d : Reading (Result A R)) (f : A → Reading (Result B R)) (v : Volume) (a : A) → (d v).value ≡ Ok a → (and_then d f v).value ≡ (f a v).value
unfolding and_then bind
ok_then d f v a e = ap (λ answer. (on_ok answer f v).value) e

pub part_by : (g : Geometry) (nodes : List Node) (all : AllPlaced) (k : ℕ) (node : Node) (addresses : Addresses) (n count : ℕ) (none : Bool) → FileOf g nodes all k node addresses
    → n < blocks_of g node → (address_at addresses 0 n == 0) ≡ none → count ≡ length (block_bytes g node.bytes n)
    → front_in count (if none then None else Some (take (fragments_of g (length node.bytes) n * g.fsize) (drop (address_at addresses 0 n * g.fsize) (volume_bytes g nodes all))))
    ≡ block_bytes g node.bytes n
part_by g nodes all k node addresses n count true is low e same =
    let none : address_at addresses 0 n ≡ 0 = eqb-true (address_at addresses 0 n) 0 e in
    ap (λ (c : ℕ). replicate c 0) same ∙ sym (hole_bytes g node n (hole_is g nodes all k node addresses n is low none))
part_by g nodes all k node addresses n count false is low e same =
    let size = sizes g (tests_of g nodes all k node addresses is) in
    let room = block_room g node.bytes n size in
    let stands = block_stands g nodes all k node addresses (record { at = address_at addresses 0 n * g.fsize; bytes = block_bytes g node.bytes n }) is (in_data g node addresses n low e) in
    take-take count (fragments_of g (length node.bytes) n * g.fsize) (drop (address_at addresses 0 n * g.fsize) (volume_bytes g nodes all)) (omega (arith, same, room))
    ∙ ap (λ (c : ℕ). take c (drop (address_at addresses 0 n * g.fsize) (volume_bytes g nodes all))) same
    ∙ stands.are

pub part_read : (g : Geometry) (nodes : List Node) (all : AllPlaced) (k : ℕ) (node : Node) (addresses : Addresses) (inode : Inode) (n : ℕ) → FileOf g nodes all k node addresses
    → SlotsLead g node addresses inode → n < blocks_of g node → length node.bytes < 2 ^ 32
    → (part_of g inode n (blocks_in g.fsize g.size (volume_bytes g nodes all))).value ≡ Ok (block_bytes g node.bytes n)
unfolding part_of
part_read g nodes all k node addresses inode n is slots low small =
    let v = blocks_in g.fsize g.size (volume_bytes g nodes all) in
    let block = block_in_image g (length node.bytes) addresses n (volume_bytes g nodes all) in
    let long : min g.bsize (length node.bytes - n * g.bsize) ≡ length (block_bytes g node.bytes n) =
    sym (length-take g.bsize (drop (n * g.bsize) node.bytes) ∙ ap (λ (r : ℕ). min g.bsize r) (length-drop (n * g.bsize) node.bytes)) in
    let count : bytes_in_block g inode n ≡ length (block_bytes g node.bytes n) = ap (λ (s : ℕ). min g.bsize (s - n * g.bsize)) slots.size ∙ long in
    ok_then (block_of g inode n) _ v block (block_read g nodes all k node addresses inode n is slots low small)
    ∙ ap Ok (part_by g nodes all k node addresses n (bytes_in_block g inode n) (address_at addresses 0 n == 0) is low refl count)

-- ---- the contents

pub front_read : (g : Geometry) (nodes : List Node) (all : AllPlaced) (k : ℕ) (node : Node) (addresses : Addresses) (inode : Inode) (n : ℕ) → FileOf g nodes all k node addresses
    → SlotsLead g node addresses inode → n ≤ blocks_of g node → length node.bytes < 2 ^ 32
    → (front_of g inode n (blocks_in g.fsize g.size (volume_bytes g nodes all))).value ≡ Ok (take (n * g.bsize) node.bytes)
unfolding front_of
front_read g nodes all k node addresses inode zero is slots low small =
    ap (λ (m : ℕ). Ok (take m node.bytes)) (let z : 0 ≡ 0 * g.bsize = omega arith in z)
front_read g nodes all k node addresses inode (suc n) is slots low small =
    let v = blocks_in g.fsize g.size (volume_bytes g nodes all) in
    let next : n * g.bsize + g.bsize ≡ suc n * g.bsize = omega arith in
    ok_then (front_of g inode n) _ v (take (n * g.bsize) node.bytes) (front_read g nodes all k node addresses inode n is slots (omega arith) small)
    ∙ ok_then (part_of g inode n) _ v (block_bytes g node.bytes n) (part_read g nodes all k node addresses inode n is slots (omega arith) small)
    ∙ ap Ok (sym (take-add (n * g.bsize) g.bsize node.bytes) ∙ ap (λ (m : ℕ). take m node.bytes) next)

pub blocks_outside : (g : Geometry) (node : Node) → node.inside ≡ false → blocks_of g node ≡ div_ceil (length node.bytes) g.bsize
unfolding blocks_of
blocks_outside g node outside = rw outside refl

refusal_none : (inode : Inode) → is_regular (kind_of inode.mode) ≡ true → inode.size < 2 ^ 32 → file_refusal inode ≡ None
unfolding file_refusal
refusal_none inode regular small =
    let few : nat_le (2 ^ 32) inode.size ≡ false = grind (arith, nat_tests) in
    rw (regular, few) refl

pub contents_read : (g : Geometry) (nodes : List Node) (all : AllPlaced) (k : ℕ) (node : Node) (addresses : Addresses) (inode : Inode) → FileOf g nodes all k node addresses
    → SlotsLead g node addresses inode → node.inside ≡ false → is_regular (kind_of inode.mode) ≡ true → length node.bytes < 2 ^ 32
    → (contents_of g inode (blocks_in g.fsize g.size (volume_bytes g nodes all))).value ≡ Ok node.bytes
unfolding contents_of
contents_read g nodes all k node addresses inode is slots outside regular small =
    let v = blocks_in g.fsize g.size (volume_bytes g nodes all) in
    let size = sizes g (tests_of g nodes all k node addresses is) in
    let least = size.least in
    let same = slots.size in
    let blocks : block_count g inode ≡ blocks_of g node = ap (λ (s : ℕ). div_ceil s g.bsize) same ∙ sym (blocks_outside g node outside) in
    let round = div_ceil_times (length node.bytes) g.bsize (omega arith) in
    let most : length node.bytes ≤ blocks_of g node * g.bsize = rw (blocks_outside g node outside) (round.0) in
    ap (λ refusal. (unless_refused refusal (front_of g inode (block_count g inode)) v).value) (refusal_none inode regular (rw same small))
    ∙ ap (λ (n : ℕ). (front_of g inode n v).value) blocks
    ∙ front_read g nodes all k node addresses inode (blocks_of g node) is slots (let r : blocks_of g node ≤ blocks_of g node = omega arith in r) small
    ∙ ap Ok (take_all (blocks_of g node * g.bsize) node.bytes most)
