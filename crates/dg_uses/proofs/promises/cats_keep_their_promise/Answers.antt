use Rattle.std.proofs.Common.{◌++◌, ◌∷◌}
use Rattle.std.specs.Prelude.{Some}
use Rattle.dg_model.specs.Moments.Kind.{double}
use Rattle.dg_model.specs.declared.events.Event.TheVariants.{Cat}
use Rattle.dg_text.specs.Lines.{IsInPlace}
use Rattle.dg_uses.proofs.BlankPromises.{blank_reads}
use Rattle.dg_uses.proofs.Promised.{all_fit, all_front}
use Rattle.dg_uses.proofs.QuietRuns.{told_run, told_trace}
use Rattle.dg_uses.proofs.promises.cats_keep_their_promise.Goals as goal

pub returns : goal.returns
returns g c = record {
  array = λ start end before now images bytes shape front rest path replies ran told.
      c.reads_keep_their_promise.ensures ran.history.1.first shape front path rest replies ran.final.state ran.in_place.0
      (all_fit shape front (all_front (IsInPlace (Some shape)) front (Cat path ∷ rest) ran.in_place.1))
      (told_trace told before shape (front ++ Cat path ∷ rest) replies ran.final ran.history);
  safe = λ start end before now images bytes shape front rest path replies ran told.
      blank_reads c.blank_arrays_are_steady.ensures c.steady_runs_keep_their_promise.ensures shape ran.history.1.first ran.history.0.state front rest path replies
      ran.final.state ran.in_place.0 ran.history.1.is_blank ran.in_place.1
      (told_run told double ran.history.0 (front ++ Cat path ∷ rest) replies ran.final ran.history.2);
}
