use Rattle.dg_promise.proofs.PathLaws.{own_needed}
use Rattle.dg_promise.proofs.needs.files_need_their_blocks.Goals as goal

pub returns : goal.returns
returns c = λ l n v path i b whole sound file owner. own_needed l n v whole sound path c.files_are_tame.ensures i file b owner
