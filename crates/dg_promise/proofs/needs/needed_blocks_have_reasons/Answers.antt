use Rattle.dg_promise.proofs.PathLaws.{needed}
use Rattle.dg_promise.proofs.needs.needed_blocks_have_reasons.Goals as goal

pub returns : goal.returns
returns c = λ l n v path b whole sound h. needed l n v whole sound path b h
