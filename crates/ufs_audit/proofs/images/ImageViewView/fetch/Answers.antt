use Rattle.std.proofs.Common.{refl}
use Rattle.ufs_audit.proofs.images.ImageViewView.fetch.Goals as goal

pub returns-clause-keeps : goal.returns-clause-keeps
returns-clause-keeps c = record {
  stands = λ v h. h;
  told = λ h. h;
  stays = λ b h. h;
  blocks = refl;
  bytes = refl;
  sound = tt;
  goes = refl;
}
