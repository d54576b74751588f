-- The text of the replies. The words are this project's own.
use Rattle.std.specs.Prelude.{ℕ, List, [], ◌++◌, length, codes, Option, Some, None}
use Rattle.std.specs.Fmt.{decimal}
use Rattle.std.specs.List.{flat_map, concat}
use Rattle.hex.specs.Hex.{encode_lower}
use Rattle.dg_model.specs.Paths.{PathOf}
use Rattle.dg_model.specs.declared.findings.Finding.{Finding}
use Rattle.dg_model.specs.declared.findings.Finding.TheVariants.{Bad as BadFinding, Unnamed, Unclaimed}
use Rattle.dg_model.specs.declared.replies.Reply.{Reply}
use Rattle.dg_model.specs.declared.replies.Reply.TheVariants.{Done, Range, Degraded, Unavailable, Already, Lost, NotOut, Failed, NotFilling, Copied, Settled, Malformed, NoSpace, Tended, Diffused, NotSettled, Verdict, Blocks, Data, Given, Cut, Listed as ListedReply, ListedCut, Nodes, NodesCut, Refused, HomeAt, NoHome, Saved, NotSaved, Whole, TooFew, Regrouped, LostFiles, LostFilesCut, Audited, NotParity, Mended}
use Rattle.dg_model.specs.declared.verdicts.Who.{Who}
use Rattle.dg_model.specs.declared.verdicts.Who.TheVariants.{System, Outside, Inode as OfInode, Shared, Pending, Dead, Idle}
use Rattle.dg_model.specs.declared.wants.NoRoom.{NoRoom}
use Rattle.dg_model.specs.declared.wants.NoRoom.TheVariants.{System as NoSystem, Inode as NoInode, Strays}
use Rattle.ufs_model.specs.Listings.{Listed}
use Rattle.ufs_model.specs.declared.geometries.BadSuper.{BadSuper}
use Rattle.ufs_model.specs.declared.geometries.BadSuper.TheVariants.{Magic, Format, Bsize, Fsize, Frag, Nindir, Inopb, Size, Groups, Inodes as BadInodes, Layout, Summary as BadSummary}
use Rattle.ufs_model.specs.declared.malformations.BadKind.{BadKind}
use Rattle.ufs_model.specs.declared.malformations.BadKind.TheVariants.{Super as BadSuperblock, GroupMagic, GroupMap, WrongType, Filesize as BadFilesize, Past, Wild as BadWild, WildIn, Align, AlignIn, Run, Twice, PastIn, Free, Unused, Hole as BadHole, Chunk as BadChunk, Entry as BadEntry, EntryType, Dots, Names, DirTwice, RootNamed}
use Rattle.ufs_model.specs.declared.roles.SystemKind.{SystemKind}
use Rattle.ufs_model.specs.declared.roles.SystemKind.TheVariants.{Super as SuperBlock, Boot, Copy, Group, Inodes, Summary}
use Rattle.ufs_model.specs.declared.inodes.Kind.{Kind}
use Rattle.ufs_model.specs.declared.inodes.Kind.TheVariants.{Regular, Directory, Link, Pipe, Character, Block, Socket, Unknown}
use Rattle.ufs_model.specs.declared.reads.BadRead.{BadRead}
use Rattle.ufs_model.specs.declared.reads.BadRead.TheVariants.{Super, Wild, Filesize, Hole, Chunk, Entry}
use Rattle.ufs_model.specs.declared.reads.PathRefusal.{PathRefusal}
use Rattle.ufs_model.specs.declared.reads.PathRefusal.TheVariants.{NotFound, NotDirectory, NotRegular, Bad}
use Rattle.dg_text.specs.Lines.{hex_word, path_word}
use Rattle.dg_text.specs.declared.lines.BadLine.{BadLine}
use Rattle.dg_text.specs.declared.lines.BadLine.TheVariants.{Long as BadLong, Size as BadSize, Cut as BadCut, Word as BadWord, Order as BadOrder, Form as BadForm, Number as BadNumber, Limits as BadLimits, Hex as BadHex, Path as BadPath}

-- the text of lines, and the line that ends them by a word and a number
abbrev pub ended_text : List ℕ → List ℕ → ℕ → List ℕ
ended_text text word n = (text ++ (word ++ decimal n)) ++ codes "\n"

-- the line of some bytes of a file
abbrev pub bytes_line : List ℕ → List ℕ
bytes_line bytes = codes "bytes " ++ (encode_lower bytes ++ codes "\n")

-- the lines of a file
abbrev pub file_text : List (List ℕ) → List ℕ
file_text lines = flat_map bytes_line lines

-- the letter of a kind of file
abbrev pub kind_letter : Kind → List ℕ
kind_letter Regular = codes "r"
kind_letter Directory = codes "d"
kind_letter Link = codes "l"
kind_letter Pipe = codes "p"
kind_letter Character = codes "c"
kind_letter Block = codes "b"
kind_letter Socket = codes "s"
kind_letter Unknown = codes "u"

-- what a line says of an entry: its inode, with its kind and its size in bytes, and its name
abbrev pub entry_words : Listed → List ℕ
entry_words entry =
    decimal entry.inode ++ (codes " " ++ (kind_letter entry.kind ++ (codes " " ++ (decimal entry.size ++ (codes " " ++ path_word entry.name)))))

-- the line of an entry of a directory
abbrev pub entry_line : Listed → List ℕ
entry_line entry = codes "entry " ++ (entry_words entry ++ codes "\n")

-- the line of an entry of the whole volume, with its depth below the root
abbrev pub node_line : Listed → List ℕ
node_line entry = codes "node " ++ (decimal entry.depth ++ (codes " " ++ (entry_words entry ++ codes "\n")))

-- the lines of some entries of a directory
abbrev pub entries_text : List Listed → List ℕ
entries_text entries = flat_map entry_line entries

-- the lines of some entries of the whole volume
abbrev pub nodes_text : List Listed → List ℕ
nodes_text entries = flat_map node_line entries

-- the line of a block
abbrev pub block_line : ℕ → List ℕ
block_line b = codes "block " ++ (decimal b ++ codes "\n")

-- the lines of some blocks
abbrev pub blocks_text : List ℕ → List ℕ
blocks_text blocks = flat_map block_line blocks

-- the first test of a superblock that fails
abbrev pub super_word : BadSuper → List ℕ
super_word Magic = codes "magic"
super_word Format = codes "format"
super_word Bsize = codes "bsize"
super_word Fsize = codes "fsize"
super_word Frag = codes "frag"
super_word Nindir = codes "nindir"
super_word Inopb = codes "inopb"
super_word Size = codes "size"
super_word Groups = codes "groups"
super_word BadInodes = codes "inodes"
super_word Layout = codes "layout"
super_word BadSummary = codes "summary"

-- what is wrong with a volume
abbrev pub bad_word : BadRead → List ℕ
bad_word (Super kind) = super_word kind
bad_word Wild = codes "wild"
bad_word Filesize = codes "filesize"
bad_word Hole = codes "hole"
bad_word Chunk = codes "chunk"
bad_word Entry = codes "entry"

-- why a path gives nothing to read
abbrev pub refusal_words : PathRefusal → List ℕ
refusal_words NotFound = codes "notfound"
refusal_words NotDirectory = codes "notdir"
refusal_words NotRegular = codes "notregular"
refusal_words (Bad bad) = codes "bad " ++ bad_word bad

-- a malformation of a volume
abbrev pub malformation_word : BadKind → List ℕ
malformation_word (BadSuperblock kind) = super_word kind
malformation_word GroupMagic = codes "groupmagic"
malformation_word GroupMap = codes "groupmap"
malformation_word WrongType = codes "type"
malformation_word BadFilesize = codes "filesize"
malformation_word Past = codes "past"
malformation_word BadWild = codes "wild"
malformation_word WildIn = codes "wildin"
malformation_word Align = codes "align"
malformation_word AlignIn = codes "alignin"
malformation_word Run = codes "run"
malformation_word Twice = codes "twice"
malformation_word PastIn = codes "pastin"
malformation_word Free = codes "free"
malformation_word Unused = codes "unused"
malformation_word BadHole = codes "hole"
malformation_word BadChunk = codes "chunk"
malformation_word BadEntry = codes "entry"
malformation_word EntryType = codes "entrytype"
malformation_word Dots = codes "dots"
malformation_word Names = codes "names"
malformation_word DirTwice = codes "dirtwice"
malformation_word RootNamed = codes "rootnamed"

-- what found no room
abbrev pub room_words : NoRoom → List ℕ
room_words NoSystem = codes "system"
room_words (NoInode i) = codes "inode " ++ decimal i
room_words Strays = codes "strays"

-- a kind of block of the file system itself
abbrev pub system_word : SystemKind → List ℕ
system_word SuperBlock = codes "super"
system_word Boot = codes "boot"
system_word Copy = codes "copy"
system_word Group = codes "group"
system_word Inodes = codes "inodes"
system_word Summary = codes "summary"

-- what a block belongs to
abbrev pub who_words : Who → List ℕ
who_words (System kind) = codes "system " ++ system_word kind
who_words Outside = codes "outside"
who_words (OfInode i level) = codes "inode " ++ (decimal i ++ (codes " level " ++ decimal level))
who_words (Shared count) = codes "shared " ++ decimal count
who_words Pending = codes "pending"
who_words Dead = codes "dead"
who_words Idle = codes "idle"

-- the boundary with a copy, if there is one
abbrev pub copy_words : Option ℕ → List ℕ
copy_words None = []
copy_words (Some s) = codes " copy " ++ decimal s

-- the line of a file that lost blocks
abbrev pub lost_line : PathOf → List ℕ
lost_line lost = codes "lost " ++ (decimal lost.inode ++ (codes " " ++ (path_word lost.path ++ codes "\n")))

-- the same, by its inode and its path
abbrev pub lost_line_of : ℕ → List ℕ → List ℕ
lost_line_of inode path = lost_line (record { inode = inode; path = path })

-- the lines of some such files
abbrev pub lost_text : List PathOf → List ℕ
lost_text files = flat_map lost_line files

-- a line of an audit
abbrev pub finding_line : Finding → List ℕ
finding_line (BadFinding kind n) = codes "bad " ++ (malformation_word kind ++ (codes " " ++ (decimal n ++ codes "\n")))
finding_line (Unnamed i) = codes "note unnamed " ++ (decimal i ++ codes "\n")
finding_line (Unclaimed f) = codes "note unclaimed " ++ (decimal f ++ codes "\n")

-- the lines of an audit
abbrev pub findings_text : List Finding → List ℕ
findings_text findings = flat_map finding_line findings

-- the words of a reply; the lines of a file, a listing, some blocks, lost files or an audit stand in front of the last of them
abbrev pub words_of : Reply → List ℕ
words_of Done = codes "ok"
words_of Range = codes "range"
words_of Degraded = codes "degraded"
words_of Unavailable = codes "unavailable"
words_of Already = codes "already"
words_of (Lost s) = codes "lost " ++ decimal s
words_of NotOut = codes "not out"
words_of Failed = codes "failed"
words_of NotFilling = codes "not filling"
words_of (Copied done left) = codes "copied " ++ (decimal done ++ (codes " " ++ decimal left))
words_of Settled = codes "settled"
words_of (Malformed kind n) = codes "malformed " ++ (malformation_word kind ++ (codes " " ++ decimal n))
words_of (NoSpace room) = codes "nospace " ++ room_words room
words_of (Tended met left) = codes "tended " ++ (decimal met ++ (codes " " ++ decimal left))
words_of (Diffused gained) = codes "diffused " ++ decimal gained
words_of NotSettled = codes "not settled"
words_of (Verdict who) = who_words who
words_of (Blocks blocks) = blocks_text blocks ++ (codes "end " ++ decimal (length blocks))
words_of (Data bytes) = codes "data " ++ hex_word bytes
words_of (Given lines) = file_text lines ++ (codes "end " ++ decimal (length (concat lines)))
words_of (Cut lines) = file_text lines ++ (codes "cut " ++ decimal (length (concat lines)))
words_of (ListedReply entries) = entries_text entries ++ (codes "end " ++ decimal (length entries))
words_of (ListedCut entries) = entries_text entries ++ (codes "cut " ++ decimal (length entries))
words_of (Nodes entries) = nodes_text entries ++ (codes "end " ++ decimal (length entries))
words_of (NodesCut entries) = nodes_text entries ++ (codes "cut " ++ decimal (length entries))
words_of (Refused refusal) = refusal_words refusal
words_of (HomeAt s copy) = codes "home " ++ (decimal s ++ copy_words copy)
words_of NoHome = codes "home none"
words_of (Saved sequence) = codes "saved " ++ decimal sequence
words_of NotSaved = codes "not saved"
words_of Whole = codes "whole"
words_of TooFew = codes "too few"
words_of (Regrouped boundaries blocks) = codes "regrouped " ++ (decimal boundaries ++ (codes " " ++ decimal blocks))
words_of (LostFiles files) = lost_text files ++ (codes "end " ++ decimal (length files))
words_of (LostFilesCut files) = lost_text files ++ (codes "cut " ++ decimal (length files))
words_of (Audited findings) = findings_text findings ++ (codes "end " ++ decimal (length findings))
words_of NotParity = codes "not parity"
words_of (Mended stripes) = codes "mended " ++ decimal stripes

-- the line of a reply
abbrev pub reply_line : Reply → List ℕ
reply_line reply = words_of reply ++ codes "\n"

-- the lines of some replies
abbrev pub output_of : List Reply → List ℕ
output_of replies = flat_map reply_line replies

-- why a line is refused
abbrev pub kind_of : BadLine → List ℕ
kind_of BadLong = codes "long"
kind_of BadSize = codes "size"
kind_of BadCut = codes "cut"
kind_of BadWord = codes "word"
kind_of BadOrder = codes "order"
kind_of BadForm = codes "form"
kind_of BadNumber = codes "number"
kind_of BadLimits = codes "limits"
kind_of BadHex = codes "hex"
kind_of BadPath = codes "path"

-- the answer to a refused line. The first line has the number 1
abbrev pub refusal : ℕ → BadLine → List ℕ
refusal number kind = codes "line " ++ (decimal number ++ (codes " " ++ (kind_of kind ++ codes "\n")))

-- the answer to words that are no command
abbrev pub usage : List ℕ
usage = codes "usage: dgraid replay | resume | cat PATH | ls PATH | status | trace ORDER B K M | drill SEED FILES | audit\n"
