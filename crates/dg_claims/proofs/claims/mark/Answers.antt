use Rattle.std.proofs.Common.{ap, arith, refl, ◌+◌}
use Rattle.dg_claims.proofs.KeptLaws.{added_back, adds_more, adds_same, next_fresh}
use Rattle.dg_claims.proofs.claims.mark.Goals as goal

pub add-requires-clause-within : goal.add-requires-clause-within
add-requires-clause-within c = let same = c.loop-done.invariant.marked.room in omega (arith, c.from.ensures, c.loop-done-test.true, c.requires.inside, same)

pub add-requires-clause-fresh : goal.add-requires-clause-fresh
add-requires-clause-fresh c =
    next_fresh c.args.marks.now c.loop-done.marks c.args.place c.args.run.first c.loop-done.done _ c.loop-done.invariant.marked c.requires.fresh (ap (λ n. c.args.run.first + n) c.from.ensures)

pub loop-done-preserved : goal.loop-done-preserved
loop-done-preserved c = record {
  sound = c.in-Ok.ensures.sound;
  marked = adds_more c.args.marks.now c.loop-done.marks c.add.new.self c.args.place c.args.run.first c.loop-done.done _ _ c.loop-done.invariant.marked c.in-Ok.ensures.added
      (ap (λ n. c.args.run.first + n) c.from.ensures) refl;
}

pub returns-in_default-clause-marked : goal.returns-in_default-clause-marked
returns-in_default-clause-marked c =
    added_back c.args.marks.now c.add.new.self _ c.args.place _ _ c.requires.fresh (adds_same c.args.marks.now c.loop-done.marks c.add.new.self c.args.place _ _ c.loop-done.invariant.marked c.in_default.ensures.added)
    c.unmark.ensures.unmarked
