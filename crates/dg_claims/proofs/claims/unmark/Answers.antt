use Rattle.std.proofs.Common.{ap, refl, ◌+◌}
use Rattle.dg_claims.proofs.KeptLaws.{unmarks_more}
use Rattle.dg_claims.proofs.claims.unmark.Goals as goal

pub loop-i-preserved : goal.loop-i-preserved
loop-i-preserved c = record {
  sound = c.remove.ensures.sound;
  unmarked = unmarks_more c.args.marks.now c.loop-i.marks c.remove.new.self c.args.place c.args.run.first c.loop-i.i _ _ c.loop-i.invariant.unmarked c.remove.ensures.dropped
      (ap (λ n. c.args.run.first + n) c.from.ensures) refl;
}
