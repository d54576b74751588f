use Rattle.std.specs.Prelude.{None}
use Rattle.dg_kept.proofs.Readings.{resumed}
use Rattle.dg_kept.proofs.runs.saved_states_are_resumed.Goals as goal

pub returns : goal.returns
returns c = record {
  some = λ old number last bytes images save taken left away read.
      let found = c.saves_are_found_on_what_is_left.ensures old number last bytes images save left away in
      (c.newest_saves_are_found.ensures.clean save images taken left.is found read, c.newest_saves_are_found.ensures.some save images taken left.is found read);
  opened = λ old number last bytes images save taken before state left away read opens quiet.
      let found = c.saves_are_found_on_what_is_left.ensures old number last bytes images save left away in
      let all = c.saved_arrays_are_opened.ensures save images taken None before state left.is found read opens quiet in
      resumed old number last bytes images save state left all.0 all.1 all.2;
}
