use Rattle.std.proofs.Common.{◌≡◌, filter, not}
use Rattle.std.specs.List.{range_with_len}
use Rattle.dg_model.specs.Members.{is_lost}
use Rattle.dg_store.specs.Stores.{members_of}
use Rattle.dg_volume.proofs.left_lists.places_left.Given as goal

abbrev pub invariant-loop-place : goal.invariant-loop-place
invariant-loop-place g l = l.left.items ≡ filter (λ x. not (is_lost (members_of l.store) x)) (range_with_len 0 l.place)
