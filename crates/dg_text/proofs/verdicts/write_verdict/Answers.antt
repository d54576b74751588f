use Rattle.std.proofs.Common.{List, ℕ, ◌++◌, ◌≡◌, ◌∙◌, ap, append_assoc, subst, sym}
use Rattle.std.specs.Fmt.{decimal}
use Rattle.std.specs.Prelude.{codes}
use Rattle.std.proofs.lemmas.Result.{on_ok_weaker, on_err_weaker}
use Rattle.dg_io.specs.Told.{Told, Took, TookPart}
use Rattle.dg_model.specs.declared.replies.Reply.TheVariants.{Verdict}
use Rattle.dg_model.specs.declared.verdicts.Who.{Who}
use Rattle.dg_model.specs.declared.verdicts.Who.TheVariants.{Inode}
use Rattle.dg_text.specs.Replies.{reply_line}
use Rattle.dg_text.proofs.verdicts.write_verdict.Goals as goal

inode_line : (who : Who) (i level : ℕ) → who ≡ Inode i level
    → codes "inode " ++ (decimal i ++ (codes " level " ++ (decimal level ++ codes "\n"))) ≡ reply_line (Verdict who)
inode_line who i level is =
    ap (λ (l : List ℕ). codes "inode " ++ l) (sym (append_assoc (decimal i) (codes " level " ++ decimal level) (codes "\n")))
    ∙ ap (λ (w : Who). reply_line (Verdict w)) (sym is)

pub returns-in-Inode-clause-ok : goal.returns-in-Inode-clause-ok
returns-in-Inode-clause-ok g c =
    let P : List ℕ → Type 0 = λ l. Told (Took l) (g.K.Sink.taken c.args.sink.now) (g.K.Sink.taken c.write_numbers.new.sink) in
    on_ok_weaker c.write_numbers.result (λ told. subst P (inode_line c.args.who c.in-Inode.i c.in-Inode.level c.in-Inode.is) told) c.write_numbers.ensures.ok

pub returns-in-Inode-clause-err : goal.returns-in-Inode-clause-err
returns-in-Inode-clause-err g c =
    let P : List ℕ → Type 0 = λ l. Told (TookPart l) (g.K.Sink.taken c.args.sink.now) (g.K.Sink.taken c.write_numbers.new.sink) in
    on_err_weaker c.write_numbers.result (λ told. subst P (inode_line c.args.who c.in-Inode.i c.in-Inode.level c.in-Inode.is) told) c.write_numbers.ensures.err
