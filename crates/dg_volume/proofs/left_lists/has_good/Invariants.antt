use Rattle.std.proofs.Common.{◌≡◌, ◌<◌, ℕ, false}
use Rattle.dg_model.specs.Members.{is_good}
use Rattle.dg_store.specs.Stores.{members_of}
use Rattle.dg_volume.proofs.left_lists.has_good.Given as goal

abbrev pub invariant-loop-member : goal.invariant-loop-member
invariant-loop-member g l = (q : ℕ) → q < l.member → is_good (members_of l.store q) ≡ false
