use Rattle.std.proofs.Common.{◌<◌, ℕ, All, take}
use Rattle.dg_regroup.proofs.lives.are_below.Given as goal

abbrev pub invariant-loop-s : goal.invariant-loop-s
invariant-loop-s l = All (λ (s : ℕ). s < l.boundaries) (take l.s-index l.live)
