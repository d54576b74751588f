use Rattle.std.proofs.Common.{◌≡◌, ℕ, ◌+◌, ◌/◌, false, sym, arith}
use Rattle.ufs_model.specs.Pointers.{is_data_run}
use Rattle.ufs_model.specs.Roles.{is_data_of, role}
use Rattle.ufs_super.proofs.BelowLaws.{all_below_fails}
use Rattle.ufs_super.proofs.runs.is_data_run.Goals as goal

pub returns-then-not-is_data_at : goal.returns-then-not-is_data_at
unfolding is_data_run
returns-then-not-is_data_at c =
    sym (all_below_fails (λ (i : ℕ). is_data_of (c.args.a / c.args.g.now.fpg) (role c.args.g.now (c.args.a + i))) c.args.k c.loop-i.i (let f : is_data_of (c.args.a / c.args.g.now.fpg) (role c.args.g.now (c.args.a + c.loop-i.i)) ≡ false = cc in f) (omega arith))
