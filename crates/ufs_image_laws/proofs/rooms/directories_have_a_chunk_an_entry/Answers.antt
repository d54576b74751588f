use Rattle.ufs_image_laws.proofs.DirectorySizes.{directory_size}
use Rattle.ufs_image_laws.proofs.rooms.directories_have_a_chunk_an_entry.Goals as goal

pub returns : goal.returns
returns c = λ endian items parents directory up short. directory_size endian items parents directory up short
