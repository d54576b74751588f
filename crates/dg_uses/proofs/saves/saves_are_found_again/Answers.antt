use Rattle.dg_saved.specs.OpeningLaws.{found_none}
use Rattle.dg_uses.proofs.SavedAgain.{looked_taken}
use Rattle.dg_uses.proofs.saves.saves_are_found_again.Goals as goal

pub returns : goal.returns
returns c = record {
  some = λ old number last held save facts nothing again none no_state.
      let found = found_none facts nothing.extra nothing.room no_state in
      let left = c.saves_are_found_on_what_is_left.ensures old number last held facts.images save again.left again.away in
      c.newest_saves_are_found.ensures.some save facts.images found.looked.taken again.left.is left (looked_taken facts found.looked again.tells none) found.none;
  clean = λ old number last held save facts again none found.
      let left = c.saves_are_found_on_what_is_left.ensures old number last held facts.images save again.left again.away in
      c.newest_saves_are_found.ensures.clean save facts.images found.looked.taken again.left.is left (looked_taken facts found.looked again.tells none) found.unclean;
}
