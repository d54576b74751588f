-- There is a volume for each drill.
use Rattle.std.proofs.Common.{◌≡◌, ◌∙◌, ℕ, ◌+◌, ◌*◌, ◌<◌, ◌≤◌, Bool, true, List, length, map, refl, sym, ap, subst, arith, Some, length-append}
use Rattle.std.specs.Prelude.{All, Err, IsOk, IsSome, None, Option, Result, if◌then◌else◌, nat_le}
use Rattle.std.specs.List.{range_with_len}
use Rattle.std.proofs.lemmas.Bool.{false≢true}
use Rattle.std.proofs.lemmas.Bool.Decides.{nat_tests}
use Rattle.std.proofs.lemmas.List.{length-map}
use Rattle.std.proofs.lemmas.List.FromFn.{length-range_with_len}
use Rattle.ufs_model.specs.declared.geometries.Geometry.{Geometry}
use Rattle.ufs_build.specs.Builds.{built, volume_nodes, with_geometry, with_parents, with_placed}
use Rattle.ufs_build.specs.Items.{parents_of}
use Rattle.ufs_build.specs.Nodes.{Node}
use Rattle.ufs_build.specs.Placements.{AllPlaced, blocks_of, placed_files}
use Rattle.ufs_build.specs.Volumes.{geometry_of_spec}
use Rattle.ufs_build.specs.declared.refusals.BuildRefused.{BuildRefused}
use Rattle.ufs_build.specs.declared.refusals.BuildRefused.TheVariants.{TooMany}
use Rattle.ufs_build.specs.declared.refusals.What.TheVariants.{Inodes}
use Rattle.ufs_drill.proofs.CountRows.{whole_count}
use Rattle.ufs_drill.proofs.LoadLaws.{HasSizes, HaveChunks, drill_takes, few_loads}
use Rattle.ufs_drill.proofs.PathLaws.{parent_list, parents_are}
use Rattle.ufs_drill.proofs.SpecRows.{drill_geometry}
use Rattle.ufs_drill.specs.Items.{directory_item, drill_items, file_item}
use Rattle.ufs_image_laws.specs.Rooms.{HasEight, all_halves, whole_below}
use Rattle.ufs_drill.specs.Volumes.{drill_spec}

eight_is : HasEight (geometry_of_spec drill_spec)
unfolding geometry_of_spec
eight_is = record { frag = refl; bsize = refl; some = omega arith }

sizes_are : HasSizes (geometry_of_spec drill_spec)
unfolding geometry_of_spec
sizes_are = record { bsize = refl; fsize = refl; nindir = refl }

-- the fragments, and the inodes
blocks_inside : 8 * 4096 ≤ (geometry_of_spec drill_spec).size
unfolding geometry_of_spec
blocks_inside = omega arith

inodes_are : (geometry_of_spec drill_spec).ncg * (geometry_of_spec drill_spec).ipg ≡ 4096
unfolding geometry_of_spec
inodes_are = refl

pub item_count : (seed files : ℕ) → length (drill_items seed files) ≡ 10 + files
item_count seed files =
    length-append (map directory_item (range_with_len 0 10)) (map (file_item seed) (range_with_len 0 files))
    ∙ ap (λ (n : ℕ). 10 + n) (length-map (range_with_len 0 files) (file_item seed) ∙ length-range_with_len 0 files)

room_left : (halves load whole : ℕ) → halves ≤ 32 + load → load ≤ 7860 → whole ≡ 3997 → halves + 1 < 2 * whole
room_left halves load whole most few is = omega arith

abbrev pub ArePlaced : Type 0
ArePlaced = (g : Geometry) (nodes : List Node) (blocks : ℕ) → HasEight g → All (λ node. blocks_of g node ≤ 12 + g.nindir) nodes → 8 * blocks ≤ g.size
    → all_halves g nodes + 1 < 2 * whole_below g blocks → IsSome (placed_files g nodes)

files_placed : HaveChunks → ArePlaced → (seed files : ℕ) → files ≤ 2000
    → IsSome (placed_files (geometry_of_spec drill_spec) (volume_nodes (geometry_of_spec drill_spec) (drill_items seed files) (parent_list files)))
files_placed chunks place seed files few =
    let takes = drill_takes chunks (geometry_of_spec drill_spec) sizes_are (geometry_of_spec drill_spec).endian seed files few in
    place (geometry_of_spec drill_spec) (volume_nodes (geometry_of_spec drill_spec) (drill_items seed files) (parent_list files)) 4096 eight_is takes.blocks blocks_inside
    (room_left _ _ _ takes.most (few_loads files few) whole_count)

placed_ok : (g : Geometry) (nodes : List Node) (placed : Option AllPlaced) → IsSome placed → IsOk (with_placed g nodes placed)
placed_ok g nodes None some = absurd (false≢true some)
placed_ok g nodes (Some all) some = refl

abbrev refused_inodes : Result (List ℕ) BuildRefused
refused_inodes = Err (TooMany Inodes)

pub drill_made : HaveChunks → ArePlaced → (seed files : ℕ) → files ≤ 2000 → IsOk (built drill_spec (drill_items seed files))
unfolding built
drill_made chunks place seed files few =
    let room : nat_le (length (drill_items seed files) + 3) ((geometry_of_spec drill_spec).ncg * (geometry_of_spec drill_spec).ipg) ≡ true =
    let count = item_count seed files in let inodes = inodes_are in
    subst (λ (n : ℕ). nat_le (length (drill_items seed files) + 3) n ≡ true) (sym inodes) (let low : length (drill_items seed files) + 3 ≤ 4096 = omega (arith, count, few) in grind (arith, nat_tests)) in
    subst (λ (r : Result (List ℕ) BuildRefused). IsOk r)
    (sym (ap (with_geometry (drill_items seed files)) drill_geometry
    ∙ ap (λ (b : Bool). if b then with_parents (geometry_of_spec drill_spec) (drill_items seed files) (parents_of (drill_items seed files)) else refused_inodes) room
    ∙ ap (with_parents (geometry_of_spec drill_spec) (drill_items seed files)) (parents_are seed files (omega arith))))
    (placed_ok (geometry_of_spec drill_spec) (volume_nodes (geometry_of_spec drill_spec) (drill_items seed files) (parent_list files))
    (placed_files (geometry_of_spec drill_spec) (volume_nodes (geometry_of_spec drill_spec) (drill_items seed files) (parent_list files)))
    (files_placed chunks place seed files few))
