use Rattle.std.proofs.Common.{◌≡◌, [], rules, sym, subst}
use Rattle.std.specs.Bool.{Decides}
use Rattle.ufs_model.specs.Malformations.{IsBad}
use Rattle.ufs_model.specs.declared.malformations.BadKind.TheVariants.{Dots, DirTwice}
use Rattle.ufs_check.proofs.LinkLaws.{bad_dots_decide, dots_none, links_all, twice_decides, twice_none}
use Rattle.ufs_check.proofs.NoteLaws.{all_noted}
use Rattle.ufs_check.proofs.links.judge_links.Goals as goal

pub loop-i-init : goal.loop-i-init
loop-i-init c = record {
  dots = λ v links. dots_none c.args.g.now v _ (search rules);
  dir_twice = λ v links. twice_none c.args.g.now v _ (search rules);
}

pub loop-i-preserved : goal.loop-i-preserved
loop-i-preserved c = record {
  dots = λ v links. all_noted (IsBad c.args.g.now v Dots) c.loop-i.i _ _ c.has_bad_dots.result c.in_ok-note.ensures
      (subst (λ b. Decides b (IsBad c.args.g.now v Dots c.loop-i.i)) (sym c.has_bad_dots.ensures) (bad_dots_decide c.args.g.now v c.loop-i.i c.args.table.now links))
      (c.loop-i.invariant.dots v links);
  dir_twice = λ v links. all_noted (IsBad c.args.g.now v DirTwice) c.loop-i.i _ _ c.is_named_twice.result c.in_ok-note-2.ensures
      (subst (λ b. Decides b (IsBad c.args.g.now v DirTwice c.loop-i.i)) (sym c.is_named_twice.ensures) (twice_decides c.args.g.now v c.loop-i.i c.args.table.now links))
      (c.loop-i.invariant.dir_twice v links);
}

pub returns : goal.returns
returns c = λ v links.
    links_all c.args.g.now v c.loop-i.i c.loop-i.faults c.loop-i-test.false (c.loop-i.invariant.dots v links) (c.loop-i.invariant.dir_twice v links)
