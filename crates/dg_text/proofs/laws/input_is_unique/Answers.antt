use Rattle.dg_text.proofs.Spellings.{input_same}
use Rattle.dg_text.proofs.laws.input_is_unique.Goals as goal

pub returns : goal.returns
returns c = λ events others h g e. input_same events others h g e
