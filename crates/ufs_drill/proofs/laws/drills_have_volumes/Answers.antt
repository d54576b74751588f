use Rattle.ufs_drill.proofs.MadeLaws.{drill_made}
use Rattle.ufs_drill.proofs.SpecRows.{drill_geometry}
use Rattle.ufs_drill.proofs.laws.drills_have_volumes.Goals as goal

pub returns-clause-numbers : goal.returns-clause-numbers
returns-clause-numbers c = drill_geometry

pub returns-clause-built : goal.returns-clause-built
returns-clause-built c = λ seed files few. drill_made c.directories_have_a_chunk_an_entry.ensures c.files_with_room_are_placed.ensures seed files few
