use Rattle.std.proofs.Common.{rules}
use Rattle.ufs_model.specs.Malformations.{IsBad}
use Rattle.ufs_model.specs.declared.malformations.BadKind.TheVariants.{GroupMagic, GroupMap}
use Rattle.ufs_check.proofs.NoteLaws.{all_noted}
use Rattle.ufs_check.proofs.groups.note_group.Goals as goal

pub returns : goal.returns
returns c = λ v is so_far. record {
  magic = all_noted (IsBad c.args.g.now v GroupMagic) c.args.c _ _ c.eq.result c.in_ok-note.ensures (search rules) so_far.magic;
  map = all_noted (IsBad c.args.g.now v GroupMap) c.args.c _ _ c.eq-2.result c.in_ok-note-2.ensures (search rules) so_far.map;
}
