use Rattle.std.proofs.Common.{◌≢◌, ◌≤◌, ◌<◌, ◌^◌, ◌∙◌, List, ℕ, ap, length, subst}
use Rattle.std.specs.Prelude.{All}
use Rattle.std.specs.List.{AllPairs}
use Rattle.dg_model.specs.Saves.{HasForm, SavedState}
use Rattle.dg_model.specs.Tables.{Table}
use Rattle.dg_volume.proofs.SaveLaws.{can_save, saved_parts}
use Rattle.dg_volume.proofs.volumes.Volume.saved_state.Goals as goal

pub returns-clause-form : goal.returns-clause-form
returns-clause-form g c =
    let recent = c.args.hot.now in
    let inodes = c.in_ok-recent_inodes.ensures in
    let few : length recent ≤ 16 = subst (λ (xs : List ℕ). length xs ≤ 16) inodes.is inodes.few in
    let fit : All (λ i. i < 2 ^ 32) recent = subst (λ (xs : List ℕ). All (λ i. i < 2 ^ 32) xs) inodes.is inodes.fit in
    let once : AllPairs (λ i j. i ≢ j) recent = subst (λ (xs : List ℕ). AllPairs (λ i j. i ≢ j) xs) inodes.is inodes.once in
    subst (λ (s : SavedState). HasForm 2 s)
    (saved_parts g.S.InPhase c.args.self.now c.shape.result.now c.phase.result c.in_ok-mark_good.field-0 c.in_ok-copy_rows.field-0 c.in_ok-mark_pending.field-0
    c.in_ok-copy_homes.field-0 c.in_ok-copy_homes-2.field-0 c.in_ok-recent_inodes.field-0 recent c.shape.ensures c.phase.ensures c.in_ok-mark_good.ensures
    (c.in_ok-copy_rows.ensures ∙ ap (λ (t : Table). t.rows) c.map.ensures) c.in_ok-mark_pending.ensures c.in_ok-copy_homes.ensures c.in_ok-copy_homes-2.ensures inodes.is)
    (can_save g.S.InPhase g.R.Rack c.args.self.now recent c.requires.well few fit once)
