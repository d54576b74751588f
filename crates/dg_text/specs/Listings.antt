-- The lines of a listing of a directory, or of the whole volume.
use Rattle.std.specs.Prelude.{ℕ, List, ◌++◌, codes}
use Rattle.std.specs.Fmt.{decimal}
use Rattle.std.specs.List.{flat_map}
use Rattle.dg_text.specs.Replies.{entry_line, node_line, entries_text, nodes_text}
use Rattle.dg_text.specs.declared.listings.Form.{Form}
use Rattle.dg_text.specs.declared.listings.Form.TheVariants.{Directory, Volume}
use Rattle.ufs_model.specs.Listings.{Listed}
use Rattle.ufs_model.specs.declared.inodes.Kind.{Kind}

-- the line of an entry
abbrev pub line_in : Form → Listed → List ℕ
line_in Directory entry = entry_line entry
line_in Volume entry = node_line entry

-- the same, by what is told of it
abbrev pub line_in_of : Form → ℕ → ℕ → Kind → ℕ → List ℕ → List ℕ
line_in_of form depth inode kind size name = line_in form (record { depth = depth; inode = inode; kind = kind; size = size; name = name })

-- its first word, and its depth where that is told
abbrev pub front_in : Form → ℕ → List ℕ
front_in Directory depth = codes "entry "
front_in Volume depth = codes "node " ++ (decimal depth ++ codes " ")

-- the lines of the entries
abbrev pub listing_text : Form → List Listed → List ℕ
listing_text form entries = flat_map (line_in form) entries

-- these lines, by the form
abbrev pub lines_in : Form → List Listed → List ℕ
lines_in Directory entries = entries_text entries
lines_in Volume entries = nodes_text entries
