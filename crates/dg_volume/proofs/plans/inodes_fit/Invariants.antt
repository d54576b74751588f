use Rattle.std.proofs.Common.{◌<◌, ◌^◌, ℕ, slice_index_or}
use Rattle.dg_model.specs.declared.homes.Home.{Home}
use Rattle.dg_volume.proofs.plans.inodes_fit.Given as goal

abbrev pub invariant-loop-home : goal.invariant-loop-home
invariant-loop-home l = (k : ℕ) (d : Home) → k < l.home-index → (slice_index_or l.homes k d).inode < 2 ^ 32
