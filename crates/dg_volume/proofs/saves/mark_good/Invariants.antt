use Rattle.std.proofs.Common.{◌≡◌, map}
use Rattle.std.specs.List.{range_with_len}
use Rattle.dg_model.specs.Members.{is_good}
use Rattle.dg_store.specs.Stores.{members_of}
use Rattle.dg_volume.proofs.saves.mark_good.Given as goal

abbrev pub invariant-loop-member : goal.invariant-loop-member
invariant-loop-member g l = l.marks.items ≡ map (λ q. is_good (members_of l.store q)) (range_with_len 0 l.member)
