use Rattle.std.proofs.Common.{◌≡◌, ◌<◌, ℕ, false}
use Rattle.dg_model.specs.Members.{is_lost}
use Rattle.dg_store.specs.Rows.{members_in}
use Rattle.dg_store.proofs.boundaries.least_lost_of.Given as goal

abbrev pub invariant-loop-number : goal.invariant-loop-number
invariant-loop-number l = (t : ℕ) → t < l.number → is_lost (members_in l.row.items) t ≡ false
