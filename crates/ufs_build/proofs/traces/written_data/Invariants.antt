use Rattle.std.proofs.Common.{◌≡◌, ◌&&◌}
use Rattle.ufs_build.specs.Traces.{is_data, is_written, numbers_where}
use Rattle.ufs_model.specs.Roles.{role}
use Rattle.ufs_build.proofs.traces.written_data.Given as goal

abbrev pub invariant-loop-b : goal.invariant-loop-b
invariant-loop-b l = l.blocks.items ≡ numbers_where (λ b. is_data (role l.g b) && is_written l.g.fsize l.image b) l.b
