-- What the private functions say, which list the whole volume.
use Rattle.std.specs.Prelude.{◌≡◌, ◌⊎◌, ◌+◌, ◌-◌, ◌*◌, ◌++◌, ℕ, List, [], ◌∷◌, drop, filter, if◌then◌else◌, length, map, nat_lt, reverse, take, Option, Some, Result, Ok, Err, ◌&&◌}
use Rattle.std.specs.Global.{Vec}
use Rattle.std.specs.Option.{option_map}
use Rattle.dg_model.specs.Causes.{Rose}
use Rattle.ufs_model.specs.Blocks.{Reading, Volume, known}
use Rattle.ufs_model.specs.Chunks.{DirEntry}
use Rattle.ufs_model.specs.Inodes.{kind_of}
use Rattle.ufs_model.specs.Listings.{Listed}
use Rattle.ufs_model.specs.Paths.{entries_of, is_directory, named_inode}
use Rattle.ufs_model.specs.Readings.{and_then}
use Rattle.ufs_model.specs.Trees.{if_directory, is_plain, tree_below}
use Rattle.ufs_model.specs.declared.geometries.Geometry.{Geometry}
use Rattle.ufs_model.specs.declared.inodes.Inode.{Inode}
use Rattle.ufs_model.specs.declared.reads.PathRefusal.{PathRefusal}
use Rattle.ufs_model.specs.declared.reads.PathRefusal.TheVariants.{NotDirectory}
use Rattle.ufs_path.specs.Answers.{refusal_of}
use Rattle.ufs_path.specs.Consults.{IsUnanswered, IsUnread, IsUnreadWalk}
use Rattle.ufs_path.specs.declared.branches.Pending.{Pending}
use Rattle.ufs_path.specs.declared.faults.CatAnswer.{CatAnswer}
use Rattle.ufs_path.specs.declared.faults.LookFault.{LookFault}
use Rattle.ufs_path.specs.declared.walks.Walked.{Walked}
use Rattle.ufs_path.specs.declared.walks.Walked.TheVariants.{All, Unread, Failed}

-- ---- entries that are still to be listed

-- how deep an entry is below the root, whose own entries have depth 1; the inode that it names; and its name
pub record Branch : Type 0 where
  pub depth : ℕ
  pub inode : ℕ
  pub name : List ℕ

abbrev pub branch_at : ℕ → DirEntry → Branch
branch_at depth entry = record { depth = depth; inode = entry.inode; name = entry.name }

-- those of a directory whose entries have this depth
abbrev pub branches_at : ℕ → List DirEntry → List Branch
branches_at depth entries = map (branch_at depth) (filter is_plain entries)

-- what the code keeps of one
abbrev pub branch_of : Pending → Branch
branch_of pending = record { depth = pending.depth; inode = pending.inode; name = take pending.length pending.name }

-- those that are kept: the last is listed first
abbrev pub left_on : List Pending → List Branch
left_on stack = map branch_of (reverse stack)

-- those of a directory were put after others
abbrev pub AddsBranches : ℕ → List DirEntry → List Pending → List Pending → Type 0
AddsBranches depth entries old new = map branch_of new ≡ map branch_of old ++ branches_at depth entries

-- the entries that were kept of a directory are those that are read, without `.` and `..`
abbrev pub AreBranches : (Option (Result (List DirEntry) PathRefusal) → Type 0) → ℕ → Result (Vec Pending) LookFault → Type 0
AreBranches reads depth (Ok kept) = (entries : List DirEntry) × (map branch_of kept.items ≡ branches_at depth entries) × reads (Some (Ok entries))
AreBranches reads depth (Err fault) = reads (option_map Err (refusal_of fault))

-- ---- what is read

-- what is said of an entry that names this inode
abbrev pub line_of : Branch → Inode → Listed
line_of branch inode = record { depth = branch.depth; inode = branch.inode; kind = kind_of inode.mode; size = inode.size; name = branch.name }

-- the entries of a directory
unfoldable pub branches_in : Geometry → ℕ → Inode → Reading (Result (List Branch) PathRefusal)
branches_in g depth inode = and_then (entries_of g inode) (λ entries. known (Ok (branches_at depth entries)))

-- the entries below an inode at a depth: none below one that is no directory, nor below as many directories as there are inodes
unfoldable pub branches_below : Geometry → ℕ → Inode → Reading (Result (List Branch) PathRefusal)
branches_below g depth inode =
    if is_directory (kind_of inode.mode) && nat_lt depth (g.ncg * g.ipg) then branches_in g (depth + 1) inode else known (Ok [])

-- the inode of an entry, and the entries below it
unfoldable pub opened : Geometry → Branch → Reading (Result (Inode × List Branch) PathRefusal)
opened g branch =
    and_then (named_inode g branch.inode) (λ inode.
    and_then (branches_below g branch.depth inode) (λ branches.
    known (Ok (inode, branches))))

-- the lines below an inode at a depth
abbrev pub lines_below : Geometry → ℕ → Inode → Reading (Result (List Listed) PathRefusal)
lines_below g depth inode = if_directory inode (tree_below g (g.ncg * g.ipg - depth) (depth + 1) inode)

-- the line of an entry, and those below its inode
unfoldable pub branch_lines : Geometry → Branch → Reading (Result (List Listed) PathRefusal)
branch_lines g branch =
    and_then (named_inode g branch.inode) (λ inode.
    and_then (lines_below g branch.depth inode) (λ under.
    known (Ok (line_of branch inode ∷ under))))

-- the same of entries one after another
unfoldable pub all_lines : Geometry → List Branch → Reading (Result (List Listed) PathRefusal)
all_lines g [] = known (Ok [])
all_lines g (branch ∷ branches) =
    and_then (branch_lines g branch) (λ front.
    and_then (all_lines g branches) (λ last.
    known (Ok (front ++ last))))

-- the lines below the root of a volume with this geometry
unfoldable pub root_lines : Geometry → Inode → Reading (Result (List Listed) PathRefusal)
root_lines g root = if is_directory (kind_of root.mode) then tree_below g (g.ncg * g.ipg) 1 root else known (Err NotDirectory)

unfoldable pub lines_in : Geometry → Reading (Result (List Listed) PathRefusal)
lines_in g = and_then (named_inode g 2) (λ root. root_lines g root)

-- ---- what the code answers

-- the entries below an inode were put before those that were left
abbrev pub Opens : (Option (Result (List Branch) PathRefusal) → Type 0) → List Branch → List Branch → Result (Unit {0}) LookFault → Type 0
Opens reads old new (Ok done) = (branches : List Branch) × (new ≡ branches ++ old) × reads (Some (Ok branches))
Opens reads old new (Err fault) = reads (option_map Err (refusal_of fault))

-- so of the entries of a directory
abbrev pub OpensBlocks : (Option (Result (List DirEntry) PathRefusal) → Type 0) → ℕ → List Branch → List Branch → Result (Unit {0}) LookFault → Type 0
OpensBlocks reads depth old new (Ok done) = (entries : List DirEntry) × (new ≡ branches_at depth entries ++ old) × reads (Some (Ok entries))
OpensBlocks reads depth old new (Err fault) = reads (option_map Err (refusal_of fault))

-- so of the inode of an entry
abbrev pub OpensEntry : (Option (Result (Inode × List Branch) PathRefusal) → Type 0) → List Branch → List Branch → Result Inode LookFault → Type 0
OpensEntry reads old new (Ok inode) = (branches : List Branch) × (new ≡ branches ++ old) × reads (Some (Ok (inode, branches)))
OpensEntry reads old new (Err fault) = reads (option_map Err (refusal_of fault))

-- these are the first of the lines, wherever there are lines
abbrev pub Begins : (Volume → Type 0) → Type 0 → Reading (Result (List Listed) PathRefusal) → List Listed → Type 0
Begins stands tells whole front = tells → (v : Volume) → stands v → (lines : List Listed) → Ok lines ≡ (whole v).value → lines ≡ front ++ drop (length front) lines

-- what was handed on of lines
abbrev pub IsGrown : {S : Type 0} → (S → List Listed → S → Type 0) → (S → List Listed → S → Type 0) → (S → ℕ) → S → S
    → (Option (Result (List Listed) PathRefusal) → Type 0) → (List Listed → Type 0) → Walked → Type 0
IsGrown took took_part faults old new reads begins (All n) = (lines : List Listed) × (length lines ≡ n) × took old lines new × reads (Some (Ok lines))
IsGrown took took_part faults old new reads begins (Unread n fault) =
    (front : List Listed) × (length front ≡ n) × took old front new × begins front × reads (option_map Err (refusal_of fault))
IsGrown took took_part faults old new reads begins Failed = (front : List Listed) × took_part old front new × begins front × Rose (faults old) (faults new)

-- the first of the lines were handed on
abbrev pub HandsFront : {S : Type 0} → (S → List Listed → S → Type 0) → S → S → (List Listed → Type 0) → Type 0
HandsFront took old new begins = (front : List Listed) × took old front new × begins front

-- nothing was handed on, or the first of the lines that are read
abbrev pub HandsSome : {S : Type 0} → (S → List Listed → S → Type 0) → S → S → (Option (Result (List Listed) PathRefusal) → Type 0) → Type 0
HandsSome took old new reads = (new ≡ old) ⊎ ((front : List Listed) × (rest : List Listed) × took old front new × reads (Some (Ok (front ++ rest))))

-- ---- want of a block, where there is memory

abbrev pub IsUnreadIn : {T E : Type 0} → Result (Result T LookFault) E → Type 0
IsUnreadIn (Ok answer) = IsUnread answer
IsUnreadIn (Err e) = ⊥

abbrev pub IsUnreadWalkIn : {E : Type 0} → Result Walked E → Type 0
IsUnreadWalkIn (Ok walked) = IsUnreadWalk walked
IsUnreadWalkIn (Err e) = ⊥

abbrev pub IsUnansweredIn : {E : Type 0} → Result CatAnswer E → Type 0
IsUnansweredIn (Ok answer) = IsUnanswered answer
IsUnansweredIn (Err e) = ⊥
