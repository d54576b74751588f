use Rattle.std.proofs.Common.{arith, refl, sym, ap, subst, length, length-set, false, true}
use Rattle.std.specs.Prelude.{IsErr, IsOk}
use Rattle.dg_stop.proofs.FindLemmas.{found_none, turn_found, turn_labeled, turn_lost}
use Rattle.dg_stop.specs.FoundHeaders.{IsSeenOn}
use Rattle.dg_stop.proofs.found_headers.find_all.Goals as goal
use Rattle.dg_stop.proofs.found_headers.find_all.Goals.{in-Ok-Some, in-Ok-None, in-Err}

pub loop-member-init : goal.loop-member-init
loop-member-init g c = found_none g.R.Rack c.args.found.now c.args.known.now c.args.failed.now c.args.rack.now c.requires.none c.requires.known c.requires.failed

pub loop-member-preserved : goal.loop-member-preserved
loop-member-preserved g c = elim c.match-find_at.branch [
  | in-Ok-Some w ↦
      rw (w.found-is, w.known-is, w.failed-is) (turn_found g.R.Rack c.loop-member.member c.loop-member.found c.loop-member.known c.loop-member.failed w.in-Ok-Some.headers c.args.rack.now c.loop-member.rack
      c.find_at.new.rack c.find_at.result (subst (λ r. IsOk r) (sym w.in-Ok-Some.is) refl)
      (omega (arith, length-set c.loop-member.found c.loop-member.member w.in-Ok-Some.headers, ap (λ l. length l) w.found-is, c.match-find_at.array_long))
      c.loop-member-test.true c.loop-member.invariant c.find_at.ensures.looks
      (subst (IsSeenOn g.R.Rack c.loop-member.member c.find_at.new.rack) w.in-Ok-Some.field-0-is w.in-Ok-Some.ensures.found))
  | in-Ok-None w ↦
      rw (w.found-is, w.known-is, w.failed-is) (turn_labeled g.R.Rack c.loop-member.member c.loop-member.found c.loop-member.known c.loop-member.failed c.args.rack.now c.loop-member.rack
      c.find_at.new.rack c.find_at.result (subst (λ r. IsOk r) (sym w.in-Ok-None.is) refl)
      (omega (arith, length-set c.loop-member.known c.loop-member.member false, ap (λ l. length l) w.known-is, c.match-find_at.array_long2))
      c.loop-member-test.true c.loop-member.invariant c.find_at.ensures.looks
      (subst (IsSeenOn g.R.Rack c.loop-member.member c.find_at.new.rack) w.in-Ok-None.field-0-is w.in-Ok-None.ensures.found))
  | in-Err w ↦
      rw (w.found-is, w.known-is, w.failed-is) (turn_lost g.R.Rack c.loop-member.member c.loop-member.found c.loop-member.known c.loop-member.failed c.args.rack.now c.loop-member.rack
      c.find_at.new.rack c.find_at.result (subst (λ r. IsErr r) (sym w.in-Err.is) refl)
      (omega (arith, length-set c.loop-member.known c.loop-member.member false, ap (λ l. length l) w.known-is, c.match-find_at.array_long2))
      (omega (arith, length-set c.loop-member.failed c.loop-member.member true, ap (λ l. length l) w.failed-is, c.match-find_at.array_long3))
      c.loop-member-test.true c.loop-member.invariant c.find_at.ensures.looks)
]
