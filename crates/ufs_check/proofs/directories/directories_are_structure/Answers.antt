use Rattle.ufs_check.proofs.StructureLaws.{read_is_structure}
use Rattle.ufs_check.proofs.directories.directories_are_structure.Goals as goal

pub returns : goal.returns
returns c = λ l n g v block has uppers read.
    let whole = c.indirects_by_geometry.ensures l n v g has uppers in
    read_is_structure l n g v block has (λ i k b inode there directory small low h.
    c.directories_need_structure.ensures l n v g i k b inode whole has there directory small low h) read
