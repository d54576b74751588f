use Rattle.std.proofs.Common.{◌∙◌, ap}
use Rattle.std.specs.Prelude.{not}
use Rattle.ufs_check.proofs.UnnamedLaws.{unnamed_absent, unnamed_decides}
use Rattle.ufs_check.proofs.unnamed.is_unnamed.Goals as goal

pub returns-then-is_none : goal.returns-then-is_none
returns-then-is_none c = λ g v links is. unnamed_absent g v c.args.i c.args.named.now is (c.is_none.ensures ∙ ap not c.if-is_none.true)

pub returns : goal.returns
returns c = λ g v links is.
    unnamed_decides g v c.args.i c.args.named.now c.is_entered.result c.requires is (c.is_none.ensures ∙ ap not c.if-is_none.false) (c.is_entered.ensures g v links)
