use Rattle.std.proofs.Common.{◌<◌, ℕ, List, All, refl, subst, arith}
use Rattle.std.proofs.lemmas.List.{take_all}
use Rattle.std.proofs.lemmas.List.Elements.{All-more}
use Rattle.dg_regroup.proofs.lives.are_below.Goals as goal

pub loop-s-preserved : goal.loop-s-preserved
loop-s-preserved c =
    All-more (λ (s : ℕ). s < c.args.boundaries) c.args.live.now c.loop-s.s-index 0 (omega arith) c.loop-s.invariant (omega (arith, c.if-s-boundaries.false))

pub returns : goal.returns
returns c = (
  λ e. subst (λ (xs : List ℕ). All (λ (s : ℕ). s < c.args.boundaries) xs) (take_all c.loop-s.s-index c.args.live.now (omega arith)) c.loop-s.invariant,
  λ all. refl,
)
