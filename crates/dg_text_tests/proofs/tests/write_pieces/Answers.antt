use Rattle.std.proofs.Common.{rules, ◌≡◌, ◌++◌, sym, subst, ℕ, List, []}
use Rattle.std.specs.Prelude.{codes}
use Rattle.std.specs.List.{concat}
use Rattle.std.proofs.lemmas.Result.{on_ok_weaker}
use Rattle.dg_io.specs.Told.{Told, Took}
use Rattle.dg_io.specs.declared.outside.Sink.{Ghosts}
use Rattle.dg_model.specs.Lists.{AreLines}
use Rattle.dg_text.specs.Replies.{file_text}
use Rattle.dg_text.specs.HexLines.{waiting, last_line, TookBytes, Ends}
use Rattle.dg_text.specs.HexLineLaws.{took_then}
use Rattle.dg_text.specs.declared.hex_lines.HexLines.{HexLines}
use Rattle.dg_text_tests.proofs.tests.write_pieces.Goals as goal

-- what stands behind the sink in the end is what the receiver left there
written : {K : Type 0} (sink : Ghosts K) (start old new : HexLines K) (bytes last : List ℕ) (before after : K)
    → waiting start ≡ [] → start.l ≡ 4 → start.sink.now ≡ before → after ≡ new.sink.now → TookBytes sink start bytes old → Ends sink last old new
    → (lines : List (List ℕ)) × AreLines 4 lines × (concat lines ≡ bytes) × Told (Took (file_text lines ++ last)) (sink.taken before) (sink.taken after)
written {K} sink start old new bytes last before after nothing l from to took ends =
    let file = ends start bytes nothing took in
    let P : ℕ → Type 0 = λ n. AreLines n file.lines in
    let Q : K → Type 0 = λ s. Told (Took (file_text file.lines ++ last)) (sink.taken s) (sink.taken new.sink.now) in
    let R : K → Type 0 = λ s. Told (Took (file_text file.lines ++ last)) (sink.taken before) (sink.taken s) in
    (file.lines, subst P l file.are, file.whole, subst R (sym to) (subst Q from file.told))

pub returns : goal.returns
returns g c =
    let took = took_then g.K.Sink c.new-lines.result c.piece.new.self c.piece-2.new.self c.args.first.now c.args.second.now c.in_ok-piece.ensures.ok c.in_ok-piece-2.ensures.ok in
    on_ok_weaker c.end.result
    (λ done. written g.K.Sink c.new-lines.result c.piece-2.new.self c.end.new.self (c.args.first.now ++ c.args.second.now) (last_line (codes "end ") c.args.n)
    c.args.sink.now _ c.new-lines.ensures.nothing c.new-lines.ensures.l c.new-lines.ensures.sink (search rules) took done)
    c.end.ensures.ok
