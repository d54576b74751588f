use Rattle.std.proofs.Common.{◌≡◌, ℕ, sym, subst, arith}
use Rattle.dg_regroup.proofs.PlaceLemmas.{IsTold, told_all, told_more, told_none, told_on}
use Rattle.dg_regroup.proofs.places.Places.new.Goals as goal
use Rattle.dg_regroup.proofs.places.Places.new.Goals.{then-not-is_lost, else-not-is_lost}

pub loop-s-init : goal.loop-s-init
loop-s-init c = told_none c.args.lost

pub loop-s-preserved : goal.loop-s-preserved
loop-s-preserved c =
    let h = c.loop-s.invariant in
    elim c.if-not-is_lost.branch [
      | then-not-is_lost w ↦ rw (w.count-is, w.places-is) (told_more c.args.lost c.loop-s.s c.loop-s.count c.loop-s.places h (omega arith) (sym w.if-not-is_lost.ensures))
      | else-not-is_lost w ↦ rw (w.count-is, w.places-is) (told_on c.args.lost c.loop-s.s c.loop-s.count c.loop-s.places h (sym w.if-not-is_lost.ensures))
    ]

pub invariant_of-result : goal.invariant_of-result
invariant_of-result c =
    let end : c.loop-s.s ≡ c.args.boundaries = omega (arith, c.loop-s-test.false, c.loop-s.auto.s-end) in
    let h : IsTold c.args.lost c.args.boundaries c.loop-s.count c.loop-s.places =
    subst (λ (n : ℕ). IsTold c.args.lost n c.loop-s.count c.loop-s.places) end c.loop-s.invariant in
    record { places = told_all c.args.lost c.args.boundaries c.loop-s.count c.loop-s.places h; count = h.count_is }
