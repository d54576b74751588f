use Rattle.dg_plan.proofs.PlanLaws.{all_cramped, all_kept, all_planned, files_found, homes_low, no_inode, no_system, none_found}
use Rattle.dg_plan.proofs.plans.plan.Goals as goal

pub returns-then-not-place_kept-clause-cramped : goal.returns-then-not-place_kept-clause-cramped
returns-then-not-place_kept-clause-cramped c =
    rw (← c.as_slice-wants.ensures) (no_system _ _ _ _ _ c.in_ok-rooms.ensures (c.place_kept.ensures.none c.if-not-place_kept.true))

-- of the slices as they stand: which lists they are isn't asked
pub place_rest-requires-clause-homes : goal.place_rest-requires-clause-homes
place_rest-requires-clause-homes c =
    homes_low _ _ _ _ _ _ _ c.requires.shape c.in_ok-rooms.ensures (c.place_kept.ensures.placed c.if-not-place_kept.false) (files_found c.in-Ok.is c.in_ok-placing.ensures)

pub returns-in-Ok : goal.returns-in-Ok
returns-in-Ok c =
    let kept = c.place_kept.ensures.placed c.if-not-place_kept.false in
    let files = files_found c.in-Ok.is c.in_ok-placing.ensures in
    rw (← c.as_slice-wants.ensures, ← c.as_slice.ensures, ← c.as_slice-2.ensures) (record {
      planned = all_planned _ _ _ _ _ c.in_ok-rooms.ensures _ kept _ files _ c.place_rest.ensures;
      cramped = all_cramped _ _ _ _ _ c.in_ok-rooms.ensures _ kept _ files _ c.place_rest.ensures;
      rules = all_kept _ _ _ _ _ c.in_ok-rooms.ensures _ kept _ files c.requires.shape (rw c.as_slice-wants.ensures c.requires.size) _ c.place_rest.ensures;
    })

pub returns-in-Err-clause-cramped : goal.returns-in-Err-clause-cramped
returns-in-Err-clause-cramped c =
    rw (← c.as_slice-wants.ensures, ← c.as_slice.ensures, ← c.as_slice-2.ensures)
    (no_inode _ _ _ _ _ c.in_ok-rooms.ensures _ (c.place_kept.ensures.placed c.if-not-place_kept.false) _ (none_found _ _ _ _ c.in-Err.is c.in_ok-placing.ensures))
