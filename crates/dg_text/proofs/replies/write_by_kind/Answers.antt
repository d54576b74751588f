use Rattle.std.proofs.Common.{rules}
use Rattle.std.specs.Prelude.{codes}
use Rattle.dg_text.proofs.ReplyLines.{two_numbers}
use Rattle.dg_text.proofs.replies.write_by_kind.Goals as goal

-- a reply's lines are those of the slice that it shows
pub returns-in-Given : goal.returns-in-Given
returns-in-Given g c = rw (c.in-Given.is, ← c.as_slice-in-Given.ensures) (search rules)

pub returns-in-Cut : goal.returns-in-Cut
returns-in-Cut g c = rw (c.in-Cut.is, ← c.as_slice-in-Cut.ensures) (search rules)

pub returns-in-Listed : goal.returns-in-Listed
returns-in-Listed g c = rw (c.in-Listed.is, ← c.as_slice-in-Listed.ensures) (search rules)

pub returns-in-ListedCut : goal.returns-in-ListedCut
returns-in-ListedCut g c = rw (c.in-ListedCut.is, ← c.as_slice-in-ListedCut.ensures) (search rules)

pub returns-in-Nodes : goal.returns-in-Nodes
returns-in-Nodes g c = rw (c.in-Nodes.is, ← c.as_slice-in-Nodes.ensures) (search rules)

pub returns-in-NodesCut : goal.returns-in-NodesCut
returns-in-NodesCut g c = rw (c.in-NodesCut.is, ← c.as_slice-in-NodesCut.ensures) (search rules)

pub returns-in-LostFiles : goal.returns-in-LostFiles
returns-in-LostFiles g c = rw (c.in-LostFiles.is, ← c.as_slice-in-LostFiles.ensures) (search rules)

pub returns-in-LostFilesCut : goal.returns-in-LostFilesCut
returns-in-LostFilesCut g c = rw (c.in-LostFilesCut.is, ← c.as_slice-in-LostFilesCut.ensures) (search rules)

pub returns-in-Copied : goal.returns-in-Copied
returns-in-Copied g c = rw (c.in-Copied.is, ← two_numbers c.in-Copied.done c.in-Copied.left (codes " ")) (search rules)

pub returns-in-Tended : goal.returns-in-Tended
returns-in-Tended g c = rw (c.in-Tended.is, ← two_numbers c.in-Tended.met c.in-Tended.left (codes " ")) (search rules)

pub returns-in-Regrouped : goal.returns-in-Regrouped
returns-in-Regrouped g c = rw (c.in-Regrouped.is, ← two_numbers c.in-Regrouped.gone c.in-Regrouped.cut (codes " ")) (search rules)

pub returns-in-NotSettled : goal.returns-in-NotSettled
returns-in-NotSettled g c = rw c.in-NotSettled.is (search rules)
