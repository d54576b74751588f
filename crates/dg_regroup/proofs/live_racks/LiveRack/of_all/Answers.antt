use Rattle.std.proofs.Common.{◌<◌, ℕ, List, All, sym, subst}
use Rattle.std.specs.List.Sorted.{IsStrictlyIncreasing}
use Rattle.dg_regroup.proofs.LeftLemmas.{range_ascends, range_low}
use Rattle.dg_regroup.proofs.live_racks.LiveRack.of_all.Goals as goal

pub new-requires-clause-ascend : goal.new-requires-clause-ascend
new-requires-clause-ascend g c = subst (λ (xs : List ℕ). IsStrictlyIncreasing xs) (sym c.in_ok-live.ensures) (range_ascends 16)

pub new-requires-clause-few : goal.new-requires-clause-few
new-requires-clause-few g c = subst (λ (xs : List ℕ). All (λ s. s < 16) xs) (sym c.in_ok-live.ensures) (range_low 16)
