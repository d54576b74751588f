-- The volume of a spec and items, or why there is none.
use Rattle.std.specs.Prelude.{◌≡◌, ℕ, ◌+◌, ◌*◌, nat_le, List, Option, Some, None, Result, Ok, Err, if◌then◌else◌, length}
use Rattle.std.specs.Global.{Vec}
use Rattle.ufs_model.specs.declared.geometries.Geometry.{Geometry}
use Rattle.ufs_build.specs.Directories.{directories_of}
use Rattle.ufs_build.specs.Images.{volume_bytes}
use Rattle.ufs_build.specs.Items.{parents_of}
use Rattle.ufs_build.specs.Nodes.{Node, nodes_of}
use Rattle.ufs_build.specs.Placements.{AllPlaced, placed_files}
use Rattle.ufs_build.specs.Volumes.{volume_of_spec}
use Rattle.ufs_build.specs.declared.items.Item.{Item}
use Rattle.ufs_build.specs.declared.refusals.BuildRefused.{BuildRefused}
use Rattle.ufs_build.specs.declared.refusals.BuildRefused.TheVariants.{BadItem, NoMemory, TooMany}
use Rattle.ufs_build.specs.declared.refusals.What.TheVariants.{Fragments, Inodes, Spec as Numbers}
use Rattle.ufs_build.specs.declared.volumes.Spec.{Spec}

-- the files of the volume
abbrev pub volume_nodes : Geometry → List Item → List ℕ → List Node
volume_nodes g items parents = nodes_of items (directories_of g.endian items parents)

abbrev pub with_placed : Geometry → List Node → Option AllPlaced → Result (List ℕ) BuildRefused
with_placed g nodes None = Err (TooMany Fragments)
with_placed g nodes (Some all) = Ok (volume_bytes g nodes all)

abbrev pub with_parents : Geometry → List Item → Result (List ℕ) ℕ → Result (List ℕ) BuildRefused
with_parents g items (Err k) = Err (BadItem k)
with_parents g items (Ok parents) = with_placed g (volume_nodes g items parents) (placed_files g (volume_nodes g items parents))

-- inodes 0 and 1 and the root's come before those of the items
abbrev pub with_geometry : List Item → Option Geometry → Result (List ℕ) BuildRefused
with_geometry items None = Err (TooMany Numbers)
with_geometry items (Some g) = if nat_le (length items + 3) (g.ncg * g.ipg) then with_parents g items (parents_of items) else Err (TooMany Inodes)

-- the bytes of the volume, or the first refusal
unfoldable pub built : Spec → List Item → Result (List ℕ) BuildRefused
built spec items = with_geometry items (volume_of_spec spec)

-- the answer is this, unless memory was wanting
abbrev pub Answers : Result (Vec ℕ) BuildRefused → Result (List ℕ) BuildRefused → Type 0
Answers (Ok image) answer = answer ≡ Ok image.items
Answers (Err (TooMany what)) answer = answer ≡ Err (TooMany what)
Answers (Err (BadItem k)) answer = answer ≡ Err (BadItem k)
Answers (Err NoMemory) answer = Unit {0}

-- Memory is taken for an image, and to tell that it would take too many fragments. Want of memory hides no other refusal.
abbrev pub TakesMemory : Result (List ℕ) BuildRefused → Type 0
TakesMemory (Ok image) = Unit {0}
TakesMemory (Err (TooMany Fragments)) = Unit {0}
TakesMemory (Err refusal) = ⊥
