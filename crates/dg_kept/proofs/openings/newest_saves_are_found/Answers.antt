use Rattle.dg_kept.proofs.FoundLaws.{has_state, not_unclean, source_is}
use Rattle.dg_kept.proofs.OpenedLaws.{saved_held}
use Rattle.dg_kept.proofs.openings.newest_saves_are_found.Goals as goal

pub returns : goal.returns
returns c = record {
  clean = λ save images taken is found read. not_unclean c.labels_are_unique.ensures c.bodies_are_unique.ensures save is images found taken read;
  some = λ save images taken is found read. has_state c.labels_are_unique.ensures c.bodies_are_unique.ensures save is images found taken read;
  source = λ save images taken q label saved is found read. source_is c.labels_are_unique.ensures c.bodies_are_unique.ensures save is images found taken read q label saved;
  held = λ save images taken q label saved members is found read of are.
      saved_held c.labels_are_unique.ensures c.bodies_are_unique.ensures save images taken is found read q label saved of members are;
}
