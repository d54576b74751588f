-- None is missing where each boundary is full.
use Rattle.std.proofs.Common.{◌≡◌, ℕ, Bool, List, arith}
use Rattle.dg_model.specs.Moves.{AreTargets, IsTidy, missing_in}
use Rattle.dg_model.specs.Tables.{IsTable, Table}
use Rattle.dg_model.proofs.RoomLaws.{none_missing}
use Rattle.dg_move.specs.Cursors.{AllFull, AreCursors}

-- where each boundary with a missing placement has no free slot, none is missing
pub full_none : (targets : ℕ → ℕ → Bool) (table : Table) (ok : IsTable table) (next : List ℕ) → AreTargets targets table → IsTidy targets table
    → AreCursors targets table next → AllFull table next → missing_in targets table ≡ 0
full_none targets table ok next are tidy cursors full =
    none_missing targets table ok are tidy
    (λ t low room b below. let at = cursors t low in let past = full t low room in at.none b (omega arith) (omega (arith, past, below)))
