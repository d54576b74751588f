use Rattle.std.proofs.Common.{◌≡◌, ◌<◌, length, get_or, rules, sym, ◌∙◌}
use Rattle.std.proofs.lemmas.Grind.{get_or_default_zero}
use Rattle.dg_regroup.proofs.DropLemmas.{keep_step, skip_step}
use Rattle.dg_regroup.proofs.lives.drop_marked.Goals as goal
use Rattle.dg_regroup.proofs.lives.drop_marked.Goals.{then-not-is_lost, else-not-is_lost}

pub loop-x-preserved : goal.loop-x-preserved
loop-x-preserved c =
    let h = c.loop-x.invariant in
    let within : c.loop-x.x < length c.loop-x.live.items = search rules in
    elim c.if-not-is_lost.branch [
      | then-not-is_lost w ↦
          let value : w.index.result.now ≡ get_or c.loop-x.live.items c.loop-x.x 0 = w.index.ensures ∙ get_or_default_zero c.loop-x.live.items c.loop-x.x w.index.result.now within in
          let step = keep_step c.args.lost c.loop-x.x c.loop-x.kept c.args.live.now.items c.loop-x.live.items h within (sym w.if-not-is_lost.ensures) in
          rw (w.kept-is, w.live-is, value) step
      | else-not-is_lost w ↦
          let step = skip_step c.args.lost c.loop-x.x c.loop-x.kept c.args.live.now.items c.loop-x.live.items h (sym w.if-not-is_lost.ensures) in
          rw (w.kept-is, w.live-is) step
    ]
