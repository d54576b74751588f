use Rattle.std.proofs.Common.{◌≡◌, ◌≤◌, ◌∷◌, [], refl, sym, arith, length}
use Rattle.std.proofs.lemmas.List.{append-nil}
use Rattle.std.proofs.lemmas.Result.{on_ok_weaker, on_err_weaker}
use Rattle.std.specs.List.{sum_by}
use Rattle.dg_io.specs.SinkCalls.{LeavesSink}
use Rattle.dg_io.specs.SinkLines.{lines_of_text}
use Rattle.dg_io.specs.Told.{Told, Took, TookPart}
use Rattle.dg_io.specs.declared.outside.Sink.{Ghosts}
use Rattle.dg_model.specs.Paths.{PathOf}
use Rattle.dg_text.specs.LineCalls.{path_calls}
use Rattle.dg_text.specs.LostLines.{TookLost, TookLostPart}
use Rattle.dg_text.specs.Replies.{lost_line, lost_text}
use Rattle.dg_text.specs.WrittenTexts.{wrote_as, wrote_part_of_more}
use Rattle.dg_text.specs.declared.lost_lines.LostLines.{LostLines}
use Rattle.dg_text.proofs.ReplyWeights.{lost_weight}
use Rattle.dg_text.proofs.lost_lines.LostLinesPathList.line.Goals as goal

one_line : (file : PathOf) → lost_line file ≡ lost_text (file ∷ [])
one_line file = sym (append-nil (lost_line file))

one_call : (file : PathOf) → path_calls file ≤ sum_by path_calls (file ∷ [])
one_call file = omega arith

took_one : {K : Type 0} (sink : Ghosts K) (old new : LostLines K) (file : PathOf) → new.sink.ghost_name ≡ old.sink.ghost_name
    → LeavesSink sink.whole sink.calls (path_calls file) (length (lost_line file)) old.sink.now new.sink.now
    → Told (Took (lost_line file)) (sink.taken old.sink.now) (sink.taken new.sink.now) → TookLost sink old (file ∷ []) new
took_one sink old new file same calls told =
    let all =
    wrote_as sink (lost_line file) (lost_text (file ∷ [])) (path_calls file) (sum_by path_calls (file ∷ [])) old.sink.now new.sink.now (one_line file) (one_call file) (told, calls) in
    record {
      same = same;
      told = all.0;
      calls = all.1;
      few_lines = lines_of_text 255 sink.whole sink.calls sink.taken (path_calls file) (length (lost_line file)) (lost_line file) old.sink.now new.sink.now (lost_weight file) calls told;
    }

took_part_of_one : {K : Type 0} (sink : Ghosts K) (old new : LostLines K) (file : PathOf) → new.sink.ghost_name ≡ old.sink.ghost_name
    → LeavesSink sink.whole sink.calls (path_calls file) (length (lost_line file)) old.sink.now new.sink.now
    → Told (TookPart (lost_line file)) (sink.taken old.sink.now) (sink.taken new.sink.now) → TookLostPart sink old (file ∷ []) new
took_part_of_one sink old new file same calls told =
    let all =
    wrote_part_of_more sink (lost_line file) [] (lost_text (file ∷ [])) (path_calls file) (sum_by path_calls (file ∷ [])) old.sink.now new.sink.now refl (one_call file) (told, calls) in
    record { same = same; told = all.0; calls = all.1 }

pub returns-clause-ok : goal.returns-clause-ok
returns-clause-ok g c =
    on_ok_weaker c.write_lost_line.result (λ told. took_one g.K.Sink c.args.self.now _ (record { inode = c.args.inode; path = c.args.path.now }) refl c.write_lost_line.ensures.calls told)
    c.write_lost_line.ensures.ok

pub returns-clause-err : goal.returns-clause-err
returns-clause-err g c =
    on_err_weaker c.write_lost_line.result (λ told. took_part_of_one g.K.Sink c.args.self.now _ (record { inode = c.args.inode; path = c.args.path.now }) refl c.write_lost_line.ensures.calls told)
    c.write_lost_line.ensures.err
