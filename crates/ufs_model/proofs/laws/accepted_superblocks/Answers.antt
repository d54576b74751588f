use Rattle.ufs_model.proofs.GeometryLaws.{accepted_is, is_accepted}
use Rattle.ufs_model.proofs.laws.accepted_superblocks.Goals as goal

pub returns : goal.returns
returns c = λ bytes l n g. (accepted_is bytes l n g, is_accepted bytes l n g)
