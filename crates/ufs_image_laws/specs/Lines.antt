-- What a listing says of the entries of a directory that was built.
use Rattle.std.specs.Prelude.{◌-◌, ℕ, List, [], false, length, map, slice_index_or}
use Rattle.ufs_model.specs.Chunks.{DirEntry}
use Rattle.ufs_model.specs.Inodes.{kind_of}
use Rattle.ufs_model.specs.Listings.{Listed}
use Rattle.ufs_build.specs.Nodes.{Node}

-- the file that an inode is: the root's is 2
abbrev pub node_at : List Node → ℕ → Node
node_at nodes i = slice_index_or nodes (i - 2) (record { mode = 0; bytes = []; sparse = false; inside = false })

-- an entry, with the kind and the size of the file that it names
abbrev pub line_of : List Node → DirEntry → Listed
line_of nodes entry = record {
  depth = 1;
  inode = entry.inode;
  kind = kind_of (node_at nodes entry.inode).mode;
  size = length (node_at nodes entry.inode).bytes;
  name = entry.name;
}

abbrev pub lines_of : List Node → List DirEntry → List Listed
lines_of nodes entries = map (line_of nodes) entries
