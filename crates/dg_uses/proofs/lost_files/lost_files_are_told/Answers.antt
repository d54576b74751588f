use Rattle.std.proofs.Common.{◌++◌, ◌∷◌, []}
use Rattle.dg_model.specs.Moments.Kind.{double, plain}
use Rattle.dg_model.specs.declared.events.Event.TheVariants.{LostFiles}
use Rattle.dg_model.specs.declared.replies.Reply.TheVariants.{LostFiles as LostFilesReply}
use Rattle.dg_uses.proofs.QuietRuns.{told_run}
use Rattle.dg_uses.proofs.ToldLostFiles.{tells_lost}
use Rattle.dg_uses.proofs.lost_files.lost_files_are_told.Goals as goal

pub returns : goal.returns
returns g c =
    let tells = tells_lost c.blank_arrays_are_steady.ensures c.steps_keep_steady.ensures c.few_losses_leave_files_whole.ensures in
    record {
      array = λ start end before now images bytes shape events replies lost ran told.
          tells shape ran.history.1.first ran.history.0.state events replies lost ran.final.state ran.in_place.0 ran.history.1.is_blank ran.in_place.1
          (told_run told plain ran.history.0 (events ++ LostFiles ∷ []) (replies ++ LostFilesReply lost ∷ []) ran.final ran.history.2);
      safe = λ start end before now images bytes shape events replies lost ran told.
          tells shape ran.history.1.first ran.history.0.state events replies lost ran.final.state ran.in_place.0 ran.history.1.is_blank ran.in_place.1
          (told_run told double ran.history.0 (events ++ LostFiles ∷ []) (replies ++ LostFilesReply lost ∷ []) ran.final ran.history.2);
    }
