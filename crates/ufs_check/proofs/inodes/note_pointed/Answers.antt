use Rattle.std.proofs.Common.{◌≤◌, ◌^◌}
use Rattle.ufs_model.specs.Malformations.{HasCrossing, HasMisaligned, HasPast, HasWild, IsBad}
use Rattle.ufs_model.specs.declared.malformations.BadKind.TheVariants.{Filesize, Past, Wild, Align, Run}
use Rattle.ufs_check.proofs.InodeLaws.{long_decides, pointed_decides}
use Rattle.ufs_check.proofs.NoteLaws.{all_noted}
use Rattle.ufs_check.proofs.inodes.note_pointed.Goals as goal

pub returns-clause-pointed : goal.returns-clause-pointed
returns-clause-pointed c = λ v is so_far.
    let g = c.args.g.now in
    let i = c.args.i in
    let inode = c.args.inode.now in record {
      filesize = all_noted (IsBad g v Filesize) i _ _ _ c.in_ok-note.ensures (pointed_decides g v i (λ inode. 2 ^ 32 ≤ inode.size) inode _ is c.requires.pointers (long_decides (2 ^ 32) inode.size)) so_far.filesize;
      past = all_noted (IsBad g v Past) i _ _ _ c.in_ok-note-2.ensures (pointed_decides g v i (HasPast g v) inode _ is c.requires.pointers (c.has_past.ensures v)) so_far.past;
      wild = all_noted (IsBad g v Wild) i _ _ _ c.in_ok-note-3.ensures (pointed_decides g v i (HasWild g v) inode _ is c.requires.pointers (c.has_wild.ensures v)) so_far.wild;
      align = all_noted (IsBad g v Align) i _ _ _ c.in_ok-note-4.ensures (pointed_decides g v i (HasMisaligned g v) inode _ is c.requires.pointers (c.has_misaligned.ensures v)) so_far.align;
      run = all_noted (IsBad g v Run) i _ _ _ c.in_ok-note-5.ensures (pointed_decides g v i (HasCrossing g v) inode _ is c.requires.pointers (c.has_crossing.ensures v)) so_far.run;
    }
