use Rattle.ufs_model.specs.Blocks.{Volume}
use Rattle.ufs_model.specs.Malformations.{IsBad}
use Rattle.ufs_model.specs.declared.malformations.BadKind.TheVariants.{Dots, DirTwice}
use Rattle.ufs_check.specs.Links.{AreLinks}
use Rattle.ufs_check.specs.Notes.{AreAllBelow}
use Rattle.ufs_check.proofs.links.judge_links.Given as goal

abbrev pub invariant-loop-i : goal.invariant-loop-i
invariant-loop-i l = record {
  dots : (v : Volume) → AreLinks l.g v l.table → AreAllBelow (IsBad l.g v Dots) l.i l.faults.dots.items;
  dir_twice : (v : Volume) → AreLinks l.g v l.table → AreAllBelow (IsBad l.g v DirTwice) l.i l.faults.dir_twice.items;
}
