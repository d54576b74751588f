-- How many calls of a sink write a reply: one for each line, where the line holds no more bytes of a block, a name or a path than an array answers.
use Rattle.std.specs.Prelude.{◌≤◌, ◌+◌, ◌-◌, ◌/◌, ℕ, List, length, All}
use Rattle.std.specs.List.{sum_by}
use Rattle.dg_model.specs.Paths.{PathOf}
use Rattle.dg_model.specs.declared.replies.Reply.{Reply}
use Rattle.dg_model.specs.declared.replies.Reply.TheVariants.{Blocks, Data, Given, Cut, Listed as ListedReply, ListedCut, Nodes, NodesCut, LostFiles, LostFilesCut, Audited}
use Rattle.ufs_model.specs.Listings.{Listed}

-- in how many pieces a line is written that holds n bytes, so many of them at most in a piece. There is one piece at least
abbrev pub pieces : ℕ → ℕ → ℕ
pieces most n = (n - 1) / most + 1

-- of a line of bytes, at most a block of the largest kind in a piece
abbrev pub bytes_calls : List ℕ → ℕ
bytes_calls bytes = pieces 4096 (length bytes)

-- of the line of an entry, at most the longest name of a directory in a piece
abbrev pub entry_calls : Listed → ℕ
entry_calls entry = pieces 255 (length entry.name)

-- of the line of a file that lost blocks, at most the longest path of an event in a piece
abbrev pub path_calls : PathOf → ℕ
path_calls lost = pieces 1023 (length lost.path)

-- how many calls write a reply
abbrev pub calls_of : Reply → ℕ
calls_of (Blocks blocks) = length blocks + 1
calls_of (Data bytes) = bytes_calls bytes
calls_of (Given lines) = sum_by bytes_calls lines + 1
calls_of (Cut lines) = sum_by bytes_calls lines + 1
calls_of (ListedReply entries) = sum_by entry_calls entries + 1
calls_of (ListedCut entries) = sum_by entry_calls entries + 1
calls_of (Nodes entries) = sum_by entry_calls entries + 1
calls_of (NodesCut entries) = sum_by entry_calls entries + 1
calls_of (LostFiles files) = sum_by path_calls files + 1
calls_of (LostFilesCut files) = sum_by path_calls files + 1
calls_of (Audited findings) = length findings + 1
calls_of reply = 1

-- how many lines it has
abbrev pub lines_of : Reply → ℕ
lines_of (Blocks blocks) = length blocks + 1
lines_of (Given lines) = length lines + 1
lines_of (Cut lines) = length lines + 1
lines_of (ListedReply entries) = length entries + 1
lines_of (ListedCut entries) = length entries + 1
lines_of (Nodes entries) = length entries + 1
lines_of (NodesCut entries) = length entries + 1
lines_of (LostFiles files) = length files + 1
lines_of (LostFilesCut files) = length files + 1
lines_of (Audited findings) = length findings + 1
lines_of reply = 1

-- the bytes, names and paths in its lines are no longer than a block of the largest kind, a name of a directory and a path of an event
abbrev pub HasShortLines : Reply → Type 0
HasShortLines (Data bytes) = length bytes ≤ 4096
HasShortLines (Given lines) = All (λ line. length line ≤ 4096) lines
HasShortLines (Cut lines) = All (λ line. length line ≤ 4096) lines
HasShortLines (ListedReply entries) = All (λ (entry : Listed). length entry.name ≤ 255) entries
HasShortLines (ListedCut entries) = All (λ (entry : Listed). length entry.name ≤ 255) entries
HasShortLines (Nodes entries) = All (λ (entry : Listed). length entry.name ≤ 255) entries
HasShortLines (NodesCut entries) = All (λ (entry : Listed). length entry.name ≤ 255) entries
HasShortLines (LostFiles files) = All (λ (lost : PathOf). length lost.path ≤ 1023) files
HasShortLines (LostFilesCut files) = All (λ (lost : PathOf). length lost.path ≤ 1023) files
HasShortLines reply = Unit {0}
