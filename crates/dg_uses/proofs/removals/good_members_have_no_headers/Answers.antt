use Rattle.dg_uses.proofs.Headers.{saved_headers}
use Rattle.dg_uses.proofs.removals.good_members_have_no_headers.Goals as goal

pub returns : goal.returns
returns c = λ old number last held save left good behind. saved_headers old last number held save left good behind
