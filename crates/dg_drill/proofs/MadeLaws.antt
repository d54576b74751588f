-- The numbers of a volume that was made, and how many bytes it has.
use Rattle.std.proofs.Common.{◌≡◌, ◌↔◌, ◌∙◌, ◌≤◌, ◌+◌, ◌*◌, ℕ, Bool, true, false, List, [], ◌∷◌, ◌++◌, length, take, drop, refl, sym, ap, arith, length-append, length-drop}
use Rattle.std.specs.Prelude.{Option, Some, None, Result, Ok, Err, if◌then◌else◌, nat_le, replicate}
use Rattle.std.proofs.lemmas.Bool.Decides.{nat_tests}
use Rattle.std.proofs.lemmas.List.{length-replicate, length-take-le}
use Rattle.ufs_build.specs.Builds.{built, with_geometry, with_parents, with_placed}
use Rattle.ufs_build.specs.Images.{volume_bytes, volume_parts}
use Rattle.ufs_build.specs.Items.{parents_of}
use Rattle.ufs_build.specs.Nodes.{Node}
use Rattle.ufs_build.specs.Parts.{Part, put_at, put_parts}
use Rattle.ufs_build.specs.Placements.{AllPlaced}
use Rattle.ufs_build.specs.Volumes.{geometry_of_spec, has_numbers, if_fits, maps_fit, read_geometry, superblock_bytes, volume_of_spec}
use Rattle.ufs_build.specs.declared.items.Item.{Item}
use Rattle.ufs_build.specs.declared.refusals.BuildRefused.{BuildRefused}
use Rattle.ufs_build.specs.declared.volumes.Spec.{Spec}
use Rattle.ufs_model.specs.Geometries.{IsGeometryOn}
use Rattle.ufs_model.specs.Superblocks.{IsSuperblock, geometry_in}
use Rattle.ufs_model.specs.declared.geometries.BadSuper.{BadSuper}
use Rattle.ufs_model.specs.declared.geometries.Geometry.{Geometry}

-- ---- its numbers

if_some : (b : Bool) (x : Option Geometry) (g : Geometry) → (if b then x else None) ≡ Some g → x ≡ Some g
if_some true x g e = e
if_some false x g e = absurd (cc e)

if_ok : (fits : Bool) (r : Result Geometry BadSuper) (g : Geometry) → if_fits fits r ≡ Some g → r ≡ Ok g
if_ok true (Ok h) g e = let same : h ≡ g = cc e in ap Ok same
if_ok false (Ok h) g e = absurd (cc e)
if_ok fits (Err bad) g e = absurd (cc e)

abbrev pub AcceptsSuperblocks : Type 0
AcceptsSuperblocks = (bytes : List ℕ) (l n : ℕ) (g : Geometry) → (geometry_in bytes l n ≡ Ok g) ↔ IsSuperblock bytes l n g

read_of : (spec : Spec) (g : Geometry) → volume_of_spec spec ≡ Some g → read_geometry (geometry_of_spec spec) ≡ Ok g
unfolding volume_of_spec
read_of spec g e = if_ok (maps_fit spec) (read_geometry (geometry_of_spec spec)) g (if_some (has_numbers spec) (if_fits (maps_fit spec) (read_geometry (geometry_of_spec spec))) g e)

numbers_of : AcceptsSuperblocks → (g0 g : Geometry) → read_geometry g0 ≡ Ok g → IsGeometryOn g0.fsize g0.size g
unfolding read_geometry
numbers_of accepts g0 g e = ((accepts (superblock_bytes g0) g0.fsize g0.size g).0 e).geometry

pub spec_numbers : AcceptsSuperblocks → (spec : Spec) (g : Geometry) → volume_of_spec spec ≡ Some g → IsGeometryOn spec.l (spec.ncg * spec.fpg) g
unfolding geometry_of_spec
spec_numbers accepts spec g e = numbers_of accepts (geometry_of_spec spec) g (read_of spec g e)

-- ---- its bytes

put_length : (at : ℕ) (piece bytes : List ℕ) → length (put_at at piece bytes) ≡ length bytes
unfolding put_at
put_length at piece bytes = by_room (nat_le (at + length piece) (length bytes)) refl
  where
    by_room : (room : Bool) → nat_le (at + length piece) (length bytes) ≡ room
        → length (if room then take at bytes ++ piece ++ drop (at + length piece) bytes else bytes) ≡ length bytes
    by_room true e =
        let within : at + length piece ≤ length bytes = grind (arith, nat_tests) in
        let front : length (take at bytes) ≡ at = length-take-le at bytes (omega (arith, within)) in
        let end = length-drop (at + length piece) bytes in
        let one = length-append (take at bytes ++ piece) (drop (at + length piece) bytes) in
        let two = length-append (take at bytes) piece in
        omega (arith, within, front, end, one, two)
    by_room false e = refl

parts_length : (parts : List Part) (bytes : List ℕ) → length (put_parts parts bytes) ≡ length bytes
parts_length [] bytes = refl
parts_length (part ∷ parts) bytes = parts_length parts (put_at part.at part.bytes bytes) ∙ put_length part.at part.bytes bytes

volume_length : (g : Geometry) (nodes : List Node) (all : AllPlaced) → length (volume_bytes g nodes all) ≡ g.size * g.fsize
unfolding volume_bytes
volume_length g nodes all = parts_length (volume_parts g nodes all) (replicate (g.size * g.fsize) 0) ∙ length-replicate (g.size * g.fsize) 0

placed_length : (g : Geometry) (nodes : List Node) (all : Option AllPlaced) (image : List ℕ) → with_placed g nodes all ≡ Ok image → length image ≡ g.size * g.fsize
placed_length g nodes None image e = absurd (cc e)
placed_length g nodes (Some all) image e =
    let same : volume_bytes g nodes all ≡ image = cc e in
    ap (λ (l : List ℕ). length l) (sym same) ∙ volume_length g nodes all

parents_length : (g : Geometry) (items : List Item) (parents : Result (List ℕ) ℕ) (image : List ℕ) → with_parents g items parents ≡ Ok image → length image ≡ g.size * g.fsize
parents_length g items (Err k) image e = absurd (cc e)
parents_length g items (Ok parents) image e = placed_length g _ _ image e

if_parents : (b : Bool) (x : Result (List ℕ) BuildRefused) (refusal : BuildRefused) (image : List ℕ) → (if b then x else Err refusal) ≡ Ok image → x ≡ Ok image
if_parents true x refusal image e = e
if_parents false x refusal image e = absurd (cc e)

geometry_length : (items : List Item) (found : Option Geometry) (g : Geometry) (image : List ℕ) → found ≡ Some g → with_geometry items found ≡ Ok image → length image ≡ g.size * g.fsize
geometry_length items None g image is e = absurd (cc is)
geometry_length items (Some h) g image is e =
    let same : h ≡ g = cc is in
    parents_length h items (parents_of items) image (if_parents (nat_le (length items + 3) (h.ncg * h.ipg)) (with_parents h items (parents_of items)) _ image e)
    ∙ ap (λ (k : Geometry). k.size * k.fsize) same

pub built_length : (spec : Spec) (items : List Item) (g : Geometry) (image : List ℕ) → volume_of_spec spec ≡ Some g → built spec items ≡ Ok image
    → length image ≡ g.size * g.fsize
unfolding built
built_length spec items g image is e = geometry_length items (volume_of_spec spec) g image is e
