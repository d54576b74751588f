use Rattle.std.proofs.Common.{◌≡◌, ◌++◌, ℕ, List, ap, sym, append_assoc}
use Rattle.std.specs.Prelude.{codes}
use Rattle.std.specs.Fmt.{decimal}
use Rattle.dg_model.specs.declared.replies.Reply.TheVariants.{Malformed}
use Rattle.dg_text.specs.Replies.{malformation_word, reply_line}
use Rattle.dg_text.proofs.ReplyLines.{took_as, took_part_as}
use Rattle.dg_text.proofs.verdicts.write_malformation.Goals as goal
use Rattle.ufs_model.specs.declared.malformations.BadKind.{BadKind}

malformed_line : (kind : BadKind) (n : ℕ) → codes "malformed " ++ (malformation_word kind ++ (codes " " ++ (decimal n ++ codes "\n"))) ≡ reply_line (Malformed kind n)
malformed_line kind n = ap (λ (l : List ℕ). codes "malformed " ++ l) (sym (append_assoc (malformation_word kind) (codes " " ++ decimal n) (codes "\n")))

pub returns-clause-ok : goal.returns-clause-ok
returns-clause-ok g c = took_as c.write_kind.result _ _ _ _ (malformed_line c.args.kind c.args.n) c.write_kind.ensures.ok

pub returns-clause-err : goal.returns-clause-err
returns-clause-err g c = took_part_as c.write_kind.result _ _ _ _ (malformed_line c.args.kind c.args.n) c.write_kind.ensures.err
