use Rattle.std.proofs.Common.{refl}
use Rattle.dg_run.specs.Calls.{met_by}
use Rattle.dg_uses.proofs.SavedAgain.{goes_on, is_answered, opened_again, source_taken}
use Rattle.dg_uses.proofs.saves.saved_arrays_go_on.Goals as goal

pub returns : goal.returns
returns g c = record {
  resumed = λ end old number last held save facts events replies ran told again none.
      let met = met_by facts in
      let source = ran.source in
      let taken = source_taken met ran.opened source again.tells none in
      let left = c.saves_are_found_on_what_is_left.ensures old number last held facts.images save again.left again.away in
      let blocks = c.newest_saves_are_found.ensures.held save facts.images source.taken source.source source.label source.saved source.first again.left.is left taken
      source.is_source source.first_are in
      let on = ran.runs save.blocks blocks.size in
      goes_on (g.R.Rack.tells end) facts ran.opened source old save events replies on (told, blocks)
      (opened_again (g.R.Rack.tells end) met ran.opened source (record { extra = refl; room = refl }) old save on.resumed.state on.resumed.is (told, blocks) again.left.blocks taken none
      (λ s opens quiet. c.saved_states_are_resumed.ensures.opened old number last held facts.images save source.taken facts.before s again.left again.away taken opens quiet));
  asked = λ end old number last held save facts event reply nothing ran told again none.
      let source = ran.source in
      let taken = source_taken facts ran.opened source again.tells none in
      let left = c.saves_are_found_on_what_is_left.ensures old number last held facts.images save again.left again.away in
      let blocks = c.newest_saves_are_found.ensures.held save facts.images source.taken source.source source.label source.saved source.first again.left.is left taken
      source.is_source source.first_are in
      let on = ran.runs save.blocks in
      is_answered (g.R.Rack.tells end) facts ran.opened source old save event reply on (told, blocks)
      (opened_again (g.R.Rack.tells end) facts ran.opened source nothing old save on.state on.is (told, blocks) again.left.blocks taken none
      (λ s opens quiet. c.saved_states_are_resumed.ensures.opened old number last held facts.images save source.taken facts.before s again.left again.away taken opens quiet));
}
