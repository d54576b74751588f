use Rattle.dg_map.proofs.MapLemmas.{empty_map}
use Rattle.dg_map.proofs.maps.Map.new.Goals as goal

pub invariant_of-result : goal.invariant_of-result
invariant_of-result c = (empty_map c.args.shape c.in_ok-new.field-0 c.in_ok-free_boundaries.field-0 c.requires c.in_ok-new.ensures c.in_ok-free_boundaries.ensures.count c.in_ok-free_boundaries.ensures.unused).0

pub returns-clause-empty : goal.returns-clause-empty
returns-clause-empty c = (empty_map c.args.shape c.in_ok-new.field-0 c.in_ok-free_boundaries.field-0 c.requires c.in_ok-new.ensures c.in_ok-free_boundaries.ensures.count c.in_ok-free_boundaries.ensures.unused).1

pub returns-clause-table : goal.returns-clause-table
returns-clause-table c = (empty_map c.args.shape c.in_ok-new.field-0 c.in_ok-free_boundaries.field-0 c.requires c.in_ok-new.ensures c.in_ok-free_boundaries.ensures.count c.in_ok-free_boundaries.ensures.unused).0.table
