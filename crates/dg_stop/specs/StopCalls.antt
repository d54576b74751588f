-- How many calls of the rack behind a call makes at most, on a rack that is plain or keeps two places for each page.
use Rattle.std.specs.Prelude.{◌+◌, ℕ}
use Rattle.dg_io.specs.Commits.{fell_in, is_marked}
use Rattle.dg_io.specs.declared.checkpoints.CommitAnswer.{CommitAnswer}
use Rattle.dg_stop.specs.Behind.{calls_of_commit, members_of, pages_on, parts_on}
use Rattle.dg_stop.specs.Doubles.{Double, last_in, now_in}
use Rattle.dg_stop.specs.declared.stop_racks.StopRack.{StopRack}
use Rattle.dg_stop.specs.declared.stop_racks.StopRack.TheVariants.{Plain, Doubled}

-- the rack behind
abbrev pub behind : {R : Type 0} → StopRack R → R
behind (Plain it) = it
behind (Doubled it) = it.rack

-- Bytes of a member that are written: one call a page, and one more for each that is written in part and stands where the last commit has it.
abbrev pub double_writes : {R : Type 0} → Double R → ℕ → ℕ → ℕ → ℕ
double_writes it member place count = pages_on place count + parts_on (now_in it.memory member) (last_in it.memory member) place count

-- a commit of the marked members, with its answer
abbrev pub double_commits : ℕ → CommitAnswer → ℕ
double_commits keep answer = calls_of_commit (members_of (is_marked keep)) (members_of (is_marked (fell_in keep answer)))

-- a plain rack passes each call on, but a commit
abbrev pub calls_to_look : {R : Type 0} → StopRack R → ℕ
calls_to_look (Plain it) = 1
calls_to_look (Doubled it) = 0

abbrev pub calls_to_read : {R : Type 0} → StopRack R → ℕ → ℕ → ℕ
calls_to_read (Plain it) place count = 1
calls_to_read (Doubled it) place count = pages_on place count

abbrev pub calls_to_write : {R : Type 0} → StopRack R → ℕ → ℕ → ℕ → ℕ
calls_to_write (Plain it) member place count = 1
calls_to_write (Doubled it) member place count = double_writes it member place count

abbrev pub calls_to_commit : {R : Type 0} → StopRack R → ℕ → CommitAnswer → ℕ
calls_to_commit (Plain it) keep answer = 0
calls_to_commit (Doubled it) keep answer = double_commits keep answer
