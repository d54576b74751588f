-- What the commands on a saved array print. The words are this project's own.
use Rattle.std.specs.Prelude.{◌+◌, ◌*◌, ◌++◌, ℕ, Bool, true, false, List, codes}
use Rattle.std.specs.Fmt.{decimal}
use Rattle.std.specs.List.{concat, flat_map, range_with_len}
use Rattle.dg_model.specs.Lives.{boundary_at}
use Rattle.dg_model.specs.States.{State}
use Rattle.dg_model.specs.Tables.{Table, used_in}
use Rattle.dg_model.specs.declared.events.Event.TheVariants.{Array}
use Rattle.dg_model.specs.declared.members.MemberState.{MemberState}
use Rattle.dg_model.specs.declared.members.MemberState.TheVariants.{Filling, Good, Out}
use Rattle.dg_model.specs.declared.phases.Phase.{Phase}
use Rattle.dg_model.specs.declared.phases.Phase.TheVariants.{Loose, Settled, Worn}
use Rattle.dg_model.specs.declared.replies.Reply.{Reply}
use Rattle.dg_model.specs.declared.replies.Reply.TheVariants.{Cut, Given, Listed as ListedReply, ListedCut}
use Rattle.dg_text.specs.Lines.{line_of}
use Rattle.dg_text.specs.Replies.{entries_text, reply_line}

-- ---- what is found

-- there is no saved array
abbrev pub nostate_text : List ℕ
nostate_text = codes "nostate\n"

-- it was written after its last save
abbrev pub unclean_text : List ℕ
unclean_text = codes "unclean\n"

-- ---- the state

abbrev pub phase_word : Phase → List ℕ
phase_word Loose = codes "loose"
phase_word Settled = codes "settled"
phase_word Worn = codes "worn"

-- What the two members of a boundary do, side 0 and then side 1: both are good; one is, and the other is out, or is refilled up to a slot;
-- or none is.
abbrev pub pair_words : MemberState → MemberState → List ℕ
pair_words Good Good = codes "both"
pair_words Good (Filling have) = codes "filling 0 " ++ decimal have
pair_words Good Out = codes "half 0"
pair_words (Filling have) Good = codes "filling 1 " ++ decimal have
pair_words (Filling have) (Filling other) = codes "lost 0"
pair_words (Filling have) Out = codes "lost 0"
pair_words Out Good = codes "half 1"
pair_words Out (Filling have) = codes "lost 0"
pair_words Out Out = codes "lost 0"

-- the line of the boundary at place x of those in use: its number in the array's first line, what its members do, and how many of its slots are used
abbrev pub boundary_line : Table → List ℕ → (ℕ → MemberState) → ℕ → List ℕ
boundary_line table live members x =
    codes "boundary " ++ (decimal (boundary_at live x)
    ++ (codes " " ++ (pair_words (members (2 * x)) (members (2 * x + 1)) ++ (codes " " ++ (decimal (used_in table x) ++ codes "\n")))))

-- The lines of an array with these sites, of which these boundaries are in use, whose members do this, in this phase: its numbers, with that of the
-- boundaries in use; the phase; and the boundaries in use, in ascending order.
abbrev pub array_text : Table → List ℕ → (ℕ → MemberState) → Phase → List ℕ
array_text table live members phase =
    line_of (Array table.shape)
    ++ (codes "phase " ++ (phase_word phase ++ (codes "\n" ++ flat_map (boundary_line table live members) (range_with_len 0 table.shape.b))))

-- what `status` prints of a state
abbrev pub status_text : State → List ℕ
status_text state = array_text state.table state.live state.members state.phase

-- ---- files and directories

-- what `cat` prints: the bytes of the file as they are, also of one that was read in part, and else the reply's line
abbrev pub cat_text : Reply → List ℕ
cat_text (Given lines) = concat lines
cat_text (Cut lines) = concat lines
cat_text reply = reply_line reply

-- whether the reply gives the whole file
abbrev pub gives_file : Reply → Bool
gives_file (Given lines) = true
gives_file reply = false

-- what `ls` prints: the reply's line or lines; of a listing that was read in part its entries alone
abbrev pub ls_text : Reply → List ℕ
ls_text (ListedCut entries) = entries_text entries
ls_text reply = reply_line reply

-- whether the reply gives the whole listing
abbrev pub gives_listing : Reply → Bool
gives_listing (ListedReply entries) = true
gives_listing reply = false
