-- What placing blocks tells.
use Rattle.std.specs.Prelude.{◌≡◌, Bool, true, false, List, map, Option, Some, None}
use Rattle.ufs_build.specs.Nodes.{Node as File}
use Rattle.ufs_build.specs.Placements.{Addresses, AllPlaced, Placed}
use Rattle.ufs_build.specs.declared.files.Node.{Node}
use Rattle.ufs_build.specs.declared.spaces.Space.{Space}

-- what is placed, by the marks of a space and the addresses of a file
abbrev pub placed_in : Space → Addresses → Placed
placed_in space addresses = record { used = space.used.items; addresses = addresses }

-- true where this is now placed, and false where there is no room
abbrev pub Tells : Bool → Option Placed → Placed → Type 0
Tells true answer now = answer ≡ Some now
Tells false answer now = answer ≡ None

-- addresses where they are placed, and none where there is no room
abbrev pub TellsFile : Option Addresses → Option Placed → Space → Type 0
TellsFile (Some addresses) answer space = answer ≡ Some (placed_in space addresses)
TellsFile None answer space = answer ≡ None

-- what a file in the code is
abbrev pub file_of : Node → File
file_of node = record { mode = node.mode; bytes = node.bytes.now; sparse = node.sparse; inside = node.inside }

abbrev pub files_of : List Node → List File
files_of nodes = map file_of nodes

abbrev pub all_in : Space → List Addresses → AllPlaced
all_in space files = record { used = space.used.items; files = files }
