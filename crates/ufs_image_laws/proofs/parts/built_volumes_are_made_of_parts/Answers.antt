use Rattle.ufs_image_laws.proofs.BuiltLaws.{is_built}
use Rattle.ufs_image_laws.proofs.parts.built_volumes_are_made_of_parts.Goals as goal

pub returns : goal.returns
returns c = is_built
