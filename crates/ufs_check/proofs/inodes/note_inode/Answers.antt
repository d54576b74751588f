use Rattle.std.proofs.Common.{◌≡◌, ◌∙◌, true, sym, rules}
use Rattle.ufs_model.specs.GroupMaps.{is_marked_unused}
use Rattle.ufs_model.specs.Inodes.{kind_of}
use Rattle.ufs_model.specs.Malformations.{IsBad}
use Rattle.ufs_model.specs.declared.inodes.Kind.TheVariants.{Unknown}
use Rattle.ufs_model.specs.declared.malformations.BadKind.TheVariants.{WrongType, Unused}
use Rattle.ufs_check.proofs.InodeLaws.{inode_decides, inode_passed, pointed_passed, unused_decides}
use Rattle.ufs_check.proofs.NoteLaws.{all_noted}
use Rattle.ufs_check.proofs.inodes.note_inode.Goals as goal

pub returns : goal.returns
returns c = λ v is marked so_far.
    let g = c.args.g.now in
    let i = c.args.i in
    let inode = c.in-Some.inode in
    let there = is ∙ c.in-Some.is in
    let pointed = so_far.pointed in record {
      wrong_type = rw c.note_pointed.ensures.wrong_type
          (all_noted (IsBad g v WrongType) i _ _ _ c.in_ok-note.ensures (inode_decides g v i (λ inode. kind_of inode.mode ≡ Unknown) inode _ there (search rules)) so_far.wrong_type);
      unused = rw c.note_pointed.ensures.unused
          (all_noted (IsBad g v Unused) i _ _ _ c.in_ok-note-2.ensures (inode_decides g v i (λ inode. (is_marked_unused g i v).value ≡ true) inode _ there (unused_decides _ _ marked)) so_far.unused);
      pointed = c.in_ok-note_pointed.ensures.pointed v there
          (record { filesize = pointed.filesize; past = pointed.past; wild = pointed.wild; align = pointed.align; run = pointed.run });
    }

pub returns-in_default : goal.returns-in_default
returns-in_default c = λ v is marked so_far. inode_passed c.args.g.now v c.args.i c.args.faults.now (is ∙ c.in_default.is) so_far

pub returns-then-not-has_pointers : goal.returns-then-not-has_pointers
returns-then-not-has_pointers c = λ v is marked so_far.
    let g = c.args.g.now in
    let i = c.args.i in
    let inode = c.in-Some.inode in
    let there = is ∙ c.in-Some.is in
    let pointed = so_far.pointed in
    let passed = pointed_passed g v i inode _ _ _ _ _ there (sym c.has_pointers.ensures ∙ c.if-not-has_pointers.true) in record {
      wrong_type = all_noted (IsBad g v WrongType) i _ _ _ c.in_ok-note.ensures (inode_decides g v i (λ inode. kind_of inode.mode ≡ Unknown) inode _ there (search rules)) so_far.wrong_type;
      unused = all_noted (IsBad g v Unused) i _ _ _ c.in_ok-note-2.ensures (inode_decides g v i (λ inode. (is_marked_unused g i v).value ≡ true) inode _ there (unused_decides _ _ marked)) so_far.unused;
      pointed = record { filesize = passed.0 pointed.filesize; past = passed.1 pointed.past; wild = passed.2 pointed.wild; align = passed.3 pointed.align; run = passed.4 pointed.run };
    }
