use Rattle.std.proofs.Common.{refl, sym, subst}
use Rattle.std.specs.Prelude.{slice_set}
use Rattle.ufs_model.specs.Blocks.{Volume}
use Rattle.ufs_model.specs.Claims.{source_fragments}
use Rattle.ufs_pointer.specs.KindLaws.{loses_along}
use Rattle.dg_claims.specs.Kept.{claimed_by}
use Rattle.dg_infer.proofs.FetchedLaws.{begun_along, ok_map, places_none}
use Rattle.dg_infer.proofs.TargetLaws.{ready_after, this_block}
use Rattle.dg_infer.proofs.WatchLaws.{touched_grows}
use Rattle.dg_infer.specs.Changes.{IsReadyOn}
use Rattle.dg_infer.specs.AtHand.{StandsWith}
use Rattle.dg_infer.specs.Places.{IsClaimedAfter, IsClaimedReady}
use Rattle.dg_infer.proofs.writes.move_claims.Goals as goal

pub returns-in_err-move_inodes-clause-fetched : goal.returns-in_err-move_inodes-clause-fetched
returns-in_err-move_inodes-clause-fetched g c = places_none g.V.View.fetched _ c.args.view.now (g.met.V.View.fetched_none c.args.view.now)

pub returns-clause-claims : goal.returns-clause-claims
returns-clause-claims g c =
    ok_map c.move_levels.result _ _ (λ got right is_got is v inside holds are.
    let w = slice_set v c.args.block c.args.bytes.now in
    let first = c.in_ok-move_inodes.ensures in
    right is_got is w holds (this_block (g.V.View.size c.args.view.now) v c.args.block c.args.bytes.now inside) (source_fragments c.args.g.now v) (claimed_by c.args.claims.now.runs)
    (ready_after c.args.g.now v c.args.block c.args.bytes.now (claimed_by c.args.claims.now.runs) (claimed_by c.move_inodes.new.claims.runs) c.move_inodes.new.watch are
    (first.slots w (this_block c.args.g.now.fsize v c.args.block c.args.bytes.now inside)) c.move_inodes.ensures.others
    (λ level low high. touched_grows c.args.watch.now c.move_inodes.new.watch level c.args.block c.move_inodes.ensures.grows (c.requires.touched level low high))
    (first.watched (claimed_by c.args.claims.now.runs) c.requires.watched))) c.move_levels.ensures.right

pub returns-clause-lost : goal.returns-clause-lost
returns-clause-lost g c =
    ok_map c.move_levels.result _ _ (λ got lost missed.
    let first = c.in_ok-move_inodes.ensures in
    loses_along refl (λ b h. h) (λ h. h) (λ is w h.
    let made = h.1 in
    let v = made.before in
    let u = slice_set v c.args.block c.args.bytes.now in
    let ready : IsReadyOn c.args.g.now u (claimed_by c.move_inodes.new.claims.runs) c.args.block c.move_inodes.new.watch = (
      source_fragments c.args.g.now v,
      claimed_by c.args.claims.now.runs,
      ready_after c.args.g.now v c.args.block c.args.bytes.now (claimed_by c.args.claims.now.runs) (claimed_by c.move_inodes.new.claims.runs) c.move_inodes.new.watch made.was
          (first.slots u (this_block c.args.g.now.fsize v c.args.block c.args.bytes.now made.inside)) c.move_inodes.ensures.others
          (λ level low high. touched_grows c.args.watch.now c.move_inodes.new.watch level c.args.block c.move_inodes.ensures.grows (c.requires.touched level low high))
          (first.watched (claimed_by c.args.claims.now.runs) c.requires.watched),
    ) in (
      subst (λ (x : Volume). StandsWith g.V.View c.args.view.now c.args.block c.args.bytes.now x × IsReadyOn c.args.g.now x (claimed_by c.move_inodes.new.claims.runs) c.args.block c.move_inodes.new.watch)
          (sym made.written)
          ((subst (λ (x : Volume). g.V.View.stands_for c.args.view.now x) made.written (h.0), this_block (g.V.View.size c.args.view.now) v c.args.block c.args.bytes.now made.inside), ready),
      λ b at. at,
    )) (lost missed)) c.move_levels.ensures.lost

pub returns-clause-fetched : goal.returns-clause-fetched
returns-clause-fetched g c =
    let first = c.in_ok-move_inodes.ensures in
    let before = claimed_by c.args.claims.now.runs in
    let now = claimed_by c.move_inodes.new.claims.runs in
    begun_along g.V.View.fetched before (IsClaimedReady g.V.View c.args.view.now c.move_levels.new.view c.args.g.now c.args.block c.args.bytes.now now c.move_inodes.new.watch)
    (IsClaimedAfter g.V.View c.args.view.now c.move_levels.new.view c.args.g.now c.args.block c.args.bytes.now before) 0 c.args.block c.args.view.now c.move_levels.new.view
    (λ place claimed is v inside holds are.
    let w = slice_set v c.args.block c.args.bytes.now in
    claimed is w holds (this_block (g.V.View.size c.args.view.now) v c.args.block c.args.bytes.now inside) (
      source_fragments c.args.g.now v,
      before,
      ready_after c.args.g.now v c.args.block c.args.bytes.now before now c.move_inodes.new.watch are
          (first.slots w (this_block c.args.g.now.fsize v c.args.block c.args.bytes.now inside)) c.move_inodes.ensures.others
          (λ level low high. touched_grows c.args.watch.now c.move_inodes.new.watch level c.args.block c.move_inodes.ensures.grows (c.requires.touched level low high))
          (first.watched before c.requires.watched),
    ))
    (c.move_levels.ensures.fetched before (first.watched before c.requires.watched))
