use Rattle.ufs_drill.proofs.PathLaws.{file_path_is}
use Rattle.ufs_drill.proofs.items.file_path.Goals as goal

pub returns-clause-path : goal.returns-clause-path
returns-clause-path c = rw (c.digit_of.ensures, c.digit_of-2.ensures, c.digit_of-3.ensures, c.digit_of-4.ensures, c.digit_of-5.ensures) (file_path_is c.args.k)
