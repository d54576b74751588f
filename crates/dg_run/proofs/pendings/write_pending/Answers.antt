use Rattle.std.proofs.Common.{◌≡◌, ◌∙◌, ◌<◌, ◌+◌, ◌∷◌, [], ℕ, List, ap, arith, length, subst, sym}
use Rattle.std.proofs.lemmas.List.{length-append}
use Rattle.dg_io.specs.SinkLines.{lines_both}
use Rattle.dg_io.specs.Told.{Told, Took}
use Rattle.dg_run.proofs.PendingLists.{marked_below, marked_end, marked_next, marked_within, wrote_next, wrote_next_part}
use Rattle.dg_text.specs.Replies.{blocks_text}
use Rattle.dg_text.specs.ToldSteps.{on_err}
use Rattle.dg_volume.specs.Volumes.{any_phase, marks_of}
use Rattle.dg_run.proofs.pendings.write_pending.Goals as goal

pub returns-in_err-write_block_line-clause-err : goal.returns-in_err-write_block_line-clause-err
returns-in_err-write_block_line-clause-err g c =
    let marks = marks_of any_phase c.args.volume.now in
    let inv = c.loop-block.invariant in
    let some = c.in-Some.ensures.some in
    let next = marked_next marks c.loop-block.from c.in-Some.block some.0 c.in-Some.ensures.first some.1 in
    on_err c.from_residual.result
    (wrote_next_part marks c.loop-block.from c.in-Some.block _ _ _ (marked_within marks c.in-Some.block some.1) next inv.told c.in_err-write_block_line.ensures.err)

pub loop-block-preserved : goal.loop-block-preserved
loop-block-preserved g c =
    let marks = marks_of any_phase c.args.volume.now in
    let inv = c.loop-block.invariant in
    let some = c.in-Some.ensures.some in
    let next = marked_next marks c.loop-block.from c.in-Some.block some.0 c.in-Some.ensures.first some.1 in
    let within : c.in-Some.block < length marks = marked_within marks c.in-Some.block some.1 in
    let size : length (marked_below marks (c.in-Some.block + 1)) ≡ length (marked_below marks c.loop-block.from) + 1 =
    ap length next ∙ length-append (marked_below marks c.loop-block.from) (c.in-Some.block ∷ []) in
    record {
      within = omega (arith, within);
      count = ap (λ (n : ℕ). n + 1) inv.count ∙ sym size;
      few = omega (arith, inv.few, some.0);
      told = wrote_next marks c.loop-block.from c.in-Some.block _ _ _ next inv.told c.in_ok-write_block_line.ensures.ok;
      lines = lines_both 255 g.K.Sink.whole g.K.Sink.calls g.K.Sink.taken c.args.sink.now c.loop-block.sink c.write_block_line.new.sink inv.lines c.in_ok-write_block_line.ensures.lines;
      kept = c.in_ok-write_block_line.ensures.cause.kept ∙ inv.kept;
    }

pub returns-clause-count : goal.returns-clause-count
returns-clause-count g c =
    let marks = marks_of any_phase c.args.volume.now in
    let inv = c.loop-block.invariant in
    inv.count ∙ ap length (sym (marked_end marks c.loop-block.from inv.within c.in_default.ensures.none))

pub returns-clause-ok : goal.returns-clause-ok
returns-clause-ok g c =
    let marks = marks_of any_phase c.args.volume.now in
    let inv = c.loop-block.invariant in
    subst (λ (l : List ℕ). Told (Took (blocks_text l)) (g.K.Sink.taken c.args.sink.now) (g.K.Sink.taken c.loop-block.sink))
    (sym (marked_end marks c.loop-block.from inv.within c.in_default.ensures.none)) inv.told
