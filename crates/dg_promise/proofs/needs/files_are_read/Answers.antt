use Rattle.dg_promise.proofs.PathLaws.{file_is_read, refused_too}
use Rattle.dg_promise.proofs.needs.files_are_read.Goals as goal

pub returns-clause-read : goal.returns-clause-read
returns-clause-read c = file_is_read c.files_are_tame.ensures

pub returns-clause-refused : goal.returns-clause-refused
returns-clause-refused c = refused_too
