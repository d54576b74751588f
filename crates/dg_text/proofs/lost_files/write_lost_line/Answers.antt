use Rattle.std.proofs.Common.{◌≡◌, ◌++◌, ℕ, List, ap, ◌∙◌, append_assoc}
use Rattle.std.specs.Prelude.{codes}
use Rattle.std.specs.Fmt.{decimal}
use Rattle.dg_text.specs.Lines.{path_word}
use Rattle.dg_text.specs.Replies.{lost_line}
use Rattle.dg_text.proofs.CallSums.{calls_as}
use Rattle.dg_text.proofs.ReplyLines.{took_as, took_part_as}
use Rattle.dg_text.proofs.lost_files.write_lost_line.Goals as goal

-- what stands before the path, the path, and the end of the line
lost_whole : (inode : ℕ) (path head : List ℕ) → head ≡ codes "lost " ++ (decimal inode ++ codes " ")
    → head ++ (path_word path ++ codes "\n") ≡ lost_line (record { inode = inode; path = path })
lost_whole inode path head is =
    ap (λ (l : List ℕ). l ++ (path_word path ++ codes "\n")) is
    ∙ ap (λ (l : List ℕ). codes "lost " ++ l) (append_assoc (decimal inode) (codes " ") (path_word path ++ codes "\n"))

pub returns-clause-ok : goal.returns-clause-ok
returns-clause-ok g c = took_as c.write_name.result _ _ _ _ (lost_whole c.args.inode c.args.path.now _ c.spell_lost-head.ensures.text) c.write_name.ensures.ok

pub returns-clause-err : goal.returns-clause-err
returns-clause-err g c = took_part_as c.write_name.result _ _ _ _ (lost_whole c.args.inode c.args.path.now _ c.spell_lost-head.ensures.text) c.write_name.ensures.err

pub returns-clause-calls : goal.returns-clause-calls
returns-clause-calls g c =
    calls_as g.K.Sink.whole g.K.Sink.calls _ _ _ _ _ (lost_whole c.args.inode c.args.path.now _ c.spell_lost-head.ensures.text) c.write_name.ensures.calls
