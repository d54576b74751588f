-- How what a receiver takes goes on from some files that lost blocks to the next.
use Rattle.std.proofs.Common.{◌≡◌, ◌≤◌, ◌+◌, List, [], ◌++◌, refl, sym, ◌∙◌, arith}
use Rattle.std.specs.List.{sum_by}
use Rattle.std.proofs.lemmas.Grind.{flat_map-append}
use Rattle.std.proofs.lemmas.List.Sums.{sum_by-append}
use Rattle.dg_io.specs.SinkLines.{lines_both, lines_none}
use Rattle.dg_io.specs.declared.outside.Sink.{Ghosts}
use Rattle.dg_model.specs.Paths.{PathOf}
use Rattle.dg_text.specs.LineCalls.{path_calls}
use Rattle.dg_text.specs.LostLines.{TookLost, TookLostPart}
use Rattle.dg_text.specs.Replies.{lost_line, lost_text}
use Rattle.dg_text.specs.WrittenTexts.{wrote_none, wrote_both, wrote_part_after, wrote_part_of_more}
use Rattle.dg_text.specs.declared.lost_lines.LostLines.{LostLines}

-- the lines of some files, and then of others
text_both : (x y : List PathOf) → lost_text x ++ lost_text y ≡ lost_text (x ++ y)
text_both x y = sym (flat_map-append lost_line x y)

-- their calls
calls_both : (x y : List PathOf) → sum_by path_calls x + sum_by path_calls y ≡ sum_by path_calls (x ++ y)
calls_both x y = sym (sum_by-append path_calls x y)

pub took_no_file : {K : Type 0} (sink : Ghosts K) (s : LostLines K) → TookLost sink s [] s
took_no_file sink s =
    let none = wrote_none sink (lost_text []) (sum_by path_calls []) s.sink.now refl in
    record { same = refl; told = none.0; calls = none.1; few_lines = lines_none 255 sink.whole sink.calls sink.taken s.sink.now }

pub took_files : {K : Type 0} (sink : Ghosts K) (a b c : LostLines K) (x y : List PathOf) → TookLost sink a x b → TookLost sink b y c → TookLost sink a (x ++ y) c
took_files sink a b c x y first second =
    let all =
    wrote_both sink (lost_text x) (lost_text y) (lost_text (x ++ y)) (sum_by path_calls x) (sum_by path_calls y) (sum_by path_calls (x ++ y)) a.sink.now b.sink.now c.sink.now
    (text_both x y) (calls_both x y) (first.told, first.calls) (second.told, second.calls) in
    record {
      same = second.same ∙ first.same;
      told = all.0;
      calls = all.1;
      few_lines = lines_both 255 sink.whole sink.calls sink.taken a.sink.now b.sink.now c.sink.now first.few_lines second.few_lines;
    }

pub took_files_part : {K : Type 0} (sink : Ghosts K) (a b c : LostLines K) (x y : List PathOf) → TookLost sink a x b → TookLostPart sink b y c → TookLostPart sink a (x ++ y) c
took_files_part sink a b c x y first second =
    let all =
    wrote_part_after sink (lost_text x) (lost_text y) (lost_text (x ++ y)) (sum_by path_calls x) (sum_by path_calls y) (sum_by path_calls (x ++ y)) a.sink.now b.sink.now c.sink.now
    (text_both x y) (calls_both x y) (first.told, first.calls) (second.told, second.calls) in
    record { same = second.same ∙ first.same; told = all.0; calls = all.1 }

pub took_part_of_files : {K : Type 0} (sink : Ghosts K) (a b : LostLines K) (x y : List PathOf) → TookLostPart sink a x b → TookLostPart sink a (x ++ y) b
took_part_of_files sink a b x y part =
    let fewer : sum_by path_calls x ≤ sum_by path_calls (x ++ y) = omega (arith, calls_both x y) in
    let all =
    wrote_part_of_more sink (lost_text x) (lost_text y) (lost_text (x ++ y)) (sum_by path_calls x) (sum_by path_calls (x ++ y)) a.sink.now b.sink.now (text_both x y) fewer (part.told, part.calls) in
    record { same = part.same; told = all.0; calls = all.1 }
