use Rattle.std.proofs.Common.{◌≡◌, ◌∙◌, ◌+◌, ◌-◌, ◌++◌, ℕ, List, ap, append_assoc, arith, drop, length, take}
use Rattle.std.specs.Prelude.{codes, slice_range}
use Rattle.std.proofs.lemmas.List.{length-drop, length-take}
use Rattle.std.proofs.lemmas.List.Folds.{drop_split}
use Rattle.std.proofs.lemmas.Result.{on_err_weaker, on_ok_weaker}
use Rattle.dg_text.specs.Lines.{path_word}
use Rattle.dg_text.proofs.PathWords.{path_both}
use Rattle.dg_text.specs.ToldSteps.{on_err}
use Rattle.dg_text.proofs.Pieces.{goes_last, goes_last_calls, goes_last_part, goes_on, goes_part, goes_part_calls, to_end}
use Rattle.dg_text.proofs.listings.write_name.Goals as goal

pub returns-in_err-write_all-clause-err : goal.returns-in_err-write_all-clause-err
returns-in_err-write_all-clause-err g c =
    let bytes = c.args.name.now in
    let at = c.loop-at.at in
    on_err c.from_residual.result
    (goes_part g.K.Sink path_word path_both c.args.most _ _ c.args.sink.now (take c.loop-at.end c.loop-at.line) (drop at bytes) (slice_range bytes at (at + c.args.most)) (drop (at + c.args.most) bytes)
    _ _ _ (drop_split bytes at (at + c.args.most) (omega arith)) c.put_name-full.ensures.text c.loop-at.invariant.goes c.in_err-write_all.ensures.err)

pub returns-in_err-write_all-clause-calls : goal.returns-in_err-write_all-clause-calls
returns-in_err-write_all-clause-calls g c =
    let bytes = c.args.name.now in
    let at = c.loop-at.at in
    goes_part_calls g.K.Sink path_word path_both c.args.most _ _ c.args.sink.now (take c.loop-at.end c.loop-at.line) (drop at bytes) (slice_range bytes at (at + c.args.most)) (drop (at + c.args.most) bytes)
    _ _ _ (drop_split bytes at (at + c.args.most) (omega arith)) c.put_name-full.ensures.text c.loop-at.invariant.goes c.in_err-write_all.ensures.calls

pub loop-at-preserved : goal.loop-at-preserved
loop-at-preserved g c =
    let bytes = c.args.name.now in
    let at = c.loop-at.at in
    let rest = length-drop at bytes in
    let back = length-drop (at + c.args.most) bytes in
    let full : length (slice_range bytes at (at + c.args.most)) ≡ c.args.most = length-take (at + c.args.most - at) (drop at bytes) ∙ omega (arith, rest, c.loop-at-test.true) in
    record {
      within = omega (arith, c.loop-at-test.true);
      room = omega (arith, c.loop-at.invariant.room, c.put_name-full.auto.line);
      goes = goes_on g.K.Sink path_word path_both c.args.most _ _ c.args.sink.now (take c.loop-at.end c.loop-at.line) (drop at bytes) (slice_range bytes at (at + c.args.most)) (drop (at + c.args.most) bytes)
          _ _ _ c.requires.some (drop_split bytes at (at + c.args.most) (omega arith)) full (omega (arith, back, c.loop-at-test.true)) c.put_name-full.ensures.text
          c.loop-at.invariant.goes c.in_ok-write_all.ensures.ok c.in_ok-write_all.ensures.calls;
      kept = c.in_ok-write_all.ensures.cause.kept ∙ c.loop-at.invariant.kept;
    }

pub returns-clause-ok : goal.returns-clause-ok
returns-clause-ok g c =
    let front = take c.loop-at.end c.loop-at.line in
    let rest = drop c.loop-at.at c.args.name.now in
    let is = c.put-all.ensures.text ∙ ap (λ (l : List ℕ). l ++ codes "\n") (c.put_name-named.ensures.text ∙ ap (λ (l : List ℕ). front ++ path_word l) (to_end c.loop-at.at c.args.name.now)) ∙ append_assoc front (path_word rest) (codes "\n") in
    on_ok_weaker c.write_all-2.result (λ told. goes_last g.K.Sink path_word path_both c.args.most _ _ c.args.sink.now front rest _ _ _ is c.loop-at.invariant.goes told) c.write_all-2.ensures.ok

pub returns-clause-err : goal.returns-clause-err
returns-clause-err g c =
    let front = take c.loop-at.end c.loop-at.line in
    let rest = drop c.loop-at.at c.args.name.now in
    let is = c.put-all.ensures.text ∙ ap (λ (l : List ℕ). l ++ codes "\n") (c.put_name-named.ensures.text ∙ ap (λ (l : List ℕ). front ++ path_word l) (to_end c.loop-at.at c.args.name.now)) ∙ append_assoc front (path_word rest) (codes "\n") in
    on_err_weaker c.write_all-2.result (λ told. goes_last_part g.K.Sink path_word path_both c.args.most _ _ c.args.sink.now front rest _ _ _ is c.loop-at.invariant.goes told) c.write_all-2.ensures.err

pub returns-clause-calls : goal.returns-clause-calls
returns-clause-calls g c =
    let front = take c.loop-at.end c.loop-at.line in
    let rest = drop c.loop-at.at c.args.name.now in
    let is = c.put-all.ensures.text ∙ ap (λ (l : List ℕ). l ++ codes "\n") (c.put_name-named.ensures.text ∙ ap (λ (l : List ℕ). front ++ path_word l) (to_end c.loop-at.at c.args.name.now)) ∙ append_assoc front (path_word rest) (codes "\n") in
    goes_last_calls g.K.Sink path_word path_both c.args.most _ _ c.args.sink.now front rest _ _ _ is c.loop-at.invariant.goes c.write_all-2.ensures.calls
