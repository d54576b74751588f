use Rattle.std.proofs.Common.{Bool, List, ◌∙◌, ◌++◌, ap, false, get_or, refl, replicate}
use Rattle.dg_regroup.proofs.FrontLists.{marked_first, zeros_at}
use Rattle.dg_regroup.proofs.front_racks.FrontRack.hiding.Goals as goal

pub returns-clause-fronts : goal.returns-clause-fronts
returns-clause-fronts g c = λ q.
    ap (λ (marks : List Bool). get_or (marks ++ replicate 224 false) q false) c.copy_from_slice.ensures.after ∙ marked_first c.args.hidden.now 224 q

pub returns-clause-none : goal.returns-clause-none
returns-clause-none g c = record { faults = λ q. zeros_at 256 q; writes = refl }
