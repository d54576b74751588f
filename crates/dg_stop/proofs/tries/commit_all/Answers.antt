use Rattle.std.proofs.Common.{◌≤◌, ◌+◌, refl, sym, ◌∙◌, arith}
use Rattle.std.proofs.lemmas.Bool.{false≢true}
use Rattle.dg_stop.proofs.TriesLemmas.{count_fewer, count_serving, keep_lost, keep_none, keep_some, next_near, none_of, serving_of, so_far_next, so_far_none, tries_both, try_within}
use Rattle.dg_stop.proofs.CommitCounts.{tries_end, try_done}
use Rattle.dg_stop.specs.Tries.{count_in}
use Rattle.dg_stop.proofs.tries.commit_all.Goals as goal

pub loop-sequence-init : goal.loop-sequence-init
loop-sequence-init g c = so_far_none g.R.Rack c.args.members.now c.args.room c.args.last c.args.top.now c.args.serving.now c.args.rack.now c.told-serving c.requires.sized

pub commit_once-requires-clause-can : goal.commit_once-requires-clause-can
commit_once-requires-clause-can g c =
    let within : c.next_after-sequence.result ≤ c.args.top.now + 64 = try_within c.args.top.now c.loop-sequence.top (count_in c.loop-sequence.serving) c.next_after-sequence.result c.loop-sequence.invariant.budget
    (count_serving c.loop-sequence.serving (c.serves_any.ensures.0 c.loop-sequence-test.true)) (next_near c.loop-sequence.top c.args.last c.next_after-sequence.result c.next_after-sequence.ensures.least) in
    record {
      first = omega (arith, c.next_after-sequence.ensures.above);
      last = omega (arith, within, c.requires.low);
      fits = c.requires.fits;
    }

pub returns-then-serves_any-clause-top : goal.returns-then-serves_any-clause-top
returns-then-serves_any-clause-top g c =
    let within : c.next_after-sequence.result ≤ c.args.top.now + 64 = try_within c.args.top.now c.loop-sequence.top (count_in c.loop-sequence.serving) c.next_after-sequence.result c.loop-sequence.invariant.budget
    (count_serving c.loop-sequence.serving (c.serves_any.ensures.0 c.loop-sequence-test.true)) (next_near c.loop-sequence.top c.args.last c.next_after-sequence.result c.next_after-sequence.ensures.least) in
    (omega (arith, c.loop-sequence.invariant.low, c.next_after-sequence.ensures.above), within)

pub returns-then-serves_any-clause-leaves : goal.returns-then-serves_any-clause-leaves
returns-then-serves_any-clause-leaves g c = tries_both g.R.Rack c.args.members.now c.args.room c.args.serving.now c.loop-sequence.serving c.commit_once.new.serving
    c.args.rack.now c.loop-sequence.rack c.commit_once.new.rack c.loop-sequence.invariant.leaves c.if-commit_once.ensures.leaves.tries

pub returns-then-serves_any-clause-kept : goal.returns-then-serves_any-clause-kept
returns-then-serves_any-clause-kept g c = keep_some g.R.Rack c.args.members.now c.args.room c.args.extra.now c.args.last c.args.top.now c.loop-sequence.top c.next_after-sequence.result c.args.serving.now c.loop-sequence.serving c.commit_once.new.serving
    c.args.rack.now c.loop-sequence.rack c.commit_once.new.rack
    c.loop-sequence.invariant.low c.next_after-sequence.ensures.above c.next_after-sequence.ensures.apart c.loop-sequence.invariant.leaves c.loop-sequence.invariant.spare
    (serving_of c.commit_once.new.serving (c.serves_any-then-commit_once.ensures.0 c.if-serves_any.true))
    c.if-commit_once.ensures.leaves c.if-commit_once.ensures.kept

pub returns-else-serves_any-clause-top : goal.returns-else-serves_any-clause-top
returns-else-serves_any-clause-top g c =
    let within : c.next_after-sequence.result ≤ c.args.top.now + 64 = try_within c.args.top.now c.loop-sequence.top (count_in c.loop-sequence.serving) c.next_after-sequence.result c.loop-sequence.invariant.budget
    (count_serving c.loop-sequence.serving (c.serves_any.ensures.0 c.loop-sequence-test.true)) (next_near c.loop-sequence.top c.args.last c.next_after-sequence.result c.next_after-sequence.ensures.least) in
    (omega (arith, c.loop-sequence.invariant.low, c.next_after-sequence.ensures.above), within)

pub returns-else-serves_any-clause-leaves : goal.returns-else-serves_any-clause-leaves
returns-else-serves_any-clause-leaves g c = tries_both g.R.Rack c.args.members.now c.args.room c.args.serving.now c.loop-sequence.serving c.commit_once.new.serving
    c.args.rack.now c.loop-sequence.rack c.commit_once.new.rack c.loop-sequence.invariant.leaves c.if-commit_once.ensures.leaves.tries

pub returns-else-serves_any-clause-kept : goal.returns-else-serves_any-clause-kept
returns-else-serves_any-clause-kept g c = keep_lost g.R.Rack c.args.members.now c.args.room c.args.extra.now c.args.last c.args.top.now c.loop-sequence.top c.next_after-sequence.result c.args.serving.now c.loop-sequence.serving c.commit_once.new.serving
    c.args.rack.now c.loop-sequence.rack c.commit_once.new.rack
    c.loop-sequence.invariant.low c.next_after-sequence.ensures.above c.next_after-sequence.ensures.apart c.loop-sequence.invariant.leaves c.loop-sequence.invariant.spare
    (none_of c.commit_once.new.serving (λ has. false≢true (sym c.if-serves_any.false ∙ c.serves_any-then-commit_once.ensures.1 has)))
    c.if-commit_once.ensures.leaves c.if-commit_once.ensures.kept

pub loop-sequence-smaller : goal.loop-sequence-smaller
loop-sequence-smaller g c = omega (
  arith,
  count_fewer c.loop-sequence.serving c.commit_once.new.serving (c.loop-sequence.invariant.count ∙ sym c.commit_once.array_long)
      c.if-commit_once.ensures.leaves.tries.only (c.if-commit_once.ensures.leaves.fewer refl),
)

pub loop-sequence-preserved : goal.loop-sequence-preserved
loop-sequence-preserved g c = so_far_next g.R.Rack c.args.members.now c.args.room c.args.extra.now c.args.last c.args.top.now c.loop-sequence.top c.next_after-sequence.result c.args.serving.now c.loop-sequence.serving c.loop-sequence.tried c.commit_once.new.serving
    c.args.rack.now c.loop-sequence.rack c.commit_once.new.rack
    c.loop-sequence.invariant c.next_after-sequence.ensures.above c.next_after-sequence.ensures.apart
    (next_near c.loop-sequence.top c.args.last c.next_after-sequence.result c.next_after-sequence.ensures.least) c.commit_once.array_long
    c.if-commit_once.ensures.leaves c.if-commit_once.ensures.kept c.if-commit_once.ensures.calls

pub returns-clause-kept : goal.returns-clause-kept
returns-clause-kept g c = keep_none g.R.Rack c.args.members.now c.args.room c.args.extra.now c.args.last c.args.top.now c.loop-sequence.top c.loop-sequence.tried c.args.serving.now
    c.loop-sequence.serving c.args.rack.now c.loop-sequence.rack c.loop-sequence.invariant.spare

pub returns-then-serves_any-clause-tried : goal.returns-then-serves_any-clause-tried
returns-then-serves_any-clause-tried g c = record { only = c.loop-sequence.invariant.leaves.only; wider = c.if-commit_once.ensures.leaves.tries.only }

pub returns-else-serves_any-clause-tried : goal.returns-else-serves_any-clause-tried
returns-else-serves_any-clause-tried g c = record { only = c.loop-sequence.invariant.leaves.only; wider = c.if-commit_once.ensures.leaves.tries.only }

pub returns-then-serves_any-clause-calls : goal.returns-then-serves_any-clause-calls
returns-then-serves_any-clause-calls g c = try_done g.R.Rack c.args.serving.now c.loop-sequence.serving c.commit_once.new.serving c.args.rack.now c.loop-sequence.rack c.commit_once.new.rack
    c.loop-sequence.invariant.leaves.only c.if-commit_once.ensures.leaves.tries.only c.loop-sequence.invariant.calls c.if-commit_once.ensures.calls

pub returns-else-serves_any-clause-calls : goal.returns-else-serves_any-clause-calls
returns-else-serves_any-clause-calls g c = try_done g.R.Rack c.args.serving.now c.loop-sequence.serving c.commit_once.new.serving c.args.rack.now c.loop-sequence.rack c.commit_once.new.rack
    c.loop-sequence.invariant.leaves.only c.if-commit_once.ensures.leaves.tries.only c.loop-sequence.invariant.calls c.if-commit_once.ensures.calls

pub returns-clause-calls : goal.returns-clause-calls
returns-clause-calls g c = tries_end g.R.Rack c.args.serving.now c.loop-sequence.serving c.args.rack.now c.loop-sequence.rack c.loop-sequence.invariant.leaves.only c.loop-sequence.invariant.calls
