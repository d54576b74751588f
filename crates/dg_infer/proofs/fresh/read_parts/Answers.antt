use Rattle.std.proofs.Common.{◌∙◌, ◌<◌, ◌*◌, ℕ, sym, ap}
use Rattle.dg_io.specs.ViewLaws.{keeps_both}
use Rattle.ufs_model.specs.Blocks.{block_at}
use Rattle.ufs_model.specs.Inodes.{inode_block}
use Rattle.ufs_model.specs.Metadata.{of_indirect}
use Rattle.ufs_pointer.specs.KindLaws.{loses_along}
use Rattle.dg_claims.specs.Kept.{claimed_by}
use Rattle.dg_infer.proofs.BoundLaws.{swept_fetched}
use Rattle.dg_infer.proofs.FetchedLaws.{fetches_none, places_none}
use Rattle.dg_infer.proofs.SweepLaws.{free_swept, kinds_swept}
use Rattle.dg_infer.proofs.TargetLaws.{ready_when_fresh}
use Rattle.dg_infer.proofs.WatchLaws.{touched_grows}
use Rattle.dg_infer.specs.Changes.{IsReadyOn}
use Rattle.dg_infer.proofs.fresh.read_parts.Goals as goal

pub returns-in_err-move_levels-clause-keeps : goal.returns-in_err-move_levels-clause-keeps
returns-in_err-move_levels-clause-keeps g c = keeps_both g.met.V.View.further c.args.view.now c.read_places.new.view c.move_levels.new.view c.read_places.ensures.keeps c.move_levels.ensures.keeps

pub returns-then-not-branch-2-clause-keeps : goal.returns-then-not-branch-2-clause-keeps
returns-then-not-branch-2-clause-keeps g c = keeps_both g.met.V.View.further c.args.view.now c.read_places.new.view c.move_levels.new.view c.read_places.ensures.keeps c.move_levels.ensures.keeps

pub returns-clause-keeps : goal.returns-clause-keeps
returns-clause-keeps g c = keeps_both g.met.V.View.further c.args.view.now c.read_places.new.view c.move_levels.new.view c.read_places.ensures.keeps c.move_levels.ensures.keeps

pub returns-then-not-branch-2-clause-lost : goal.returns-then-not-branch-2-clause-lost
returns-then-not-branch-2-clause-lost g c =
    let first = c.in_ok-read_places.ensures in
    let empty = claimed_by c.in_ok-sweep.sweep.claims.runs in
    loses_along first.keeps.blocks (λ b h. h) (λ h. h) (λ is v h.
    let has = h.1 ∙ ap (λ (l : ℕ). block_at l v c.args.block) (sym first.keeps.bytes) in
    let ready : IsReadyOn c.args.g.now v (claimed_by c.read_places.new.sweep.claims.runs) c.args.block c.read_places.new.sweep.watch = (
      empty,
      empty,
      ready_when_fresh c.args.g.now v c.args.block empty (claimed_by c.read_places.new.sweep.claims.runs) c.read_places.new.sweep.watch c.requires.geometry.tests
          c.in_ok-sweep.ensures.none (first.slots c.if-not-branch.false (c.move_levels.ensures.keeps.told is) v (h.0) (h.1) (c.in_ok-sweep.ensures.slots v))
          (λ inode high. c.inodes_inside.ensures c.args.g.now inode c.requires.geometry.tests high)
          (λ level low high. touched_grows c.in_ok-sweep.sweep.watch c.read_places.new.sweep.watch level c.args.block first.grows (c.in_ok-sweep.ensures.touched level low high))
          (first.watched empty c.in_ok-sweep.ensures.watched),
    ) in
    (((first.keeps.stands v (h.0), has), ready), λ b at. of_indirect (at.0) (at.1) (at.2))) (c.in_ok-move_levels.ensures.lost c.if-not-branch-2.true)

pub returns-clause-parts : goal.returns-clause-parts
returns-clause-parts g c = λ is v holds has.
    let first = c.in_ok-read_places.ensures in
    let empty = claimed_by c.in_ok-sweep.sweep.claims.runs in
    let told = c.move_levels.ensures.keeps.told is in
    let inside : (inode : ℕ) → inode < c.args.g.now.ncg * c.args.g.now.ipg → inode_block c.args.g.now inode < c.args.g.now.size = λ inode high. c.inodes_inside.ensures c.args.g.now inode c.requires.geometry.tests high in
    let here = has ∙ ap (λ (l : ℕ). block_at l v c.args.block) (sym first.keeps.bytes) in
    let are = c.in_ok-move_levels.ensures.right c.if-not-branch-2.false is v (first.keeps.stands v holds) here empty empty
    (ready_when_fresh c.args.g.now v c.args.block empty (claimed_by c.read_places.new.sweep.claims.runs) c.read_places.new.sweep.watch c.requires.geometry.tests
    c.in_ok-sweep.ensures.none (first.slots c.if-not-branch.false told v holds has (c.in_ok-sweep.ensures.slots v)) inside
    (λ level low high. touched_grows c.in_ok-sweep.sweep.watch c.read_places.new.sweep.watch level c.args.block first.grows (c.in_ok-sweep.ensures.touched level low high))
    (first.watched empty c.in_ok-sweep.ensures.watched)) in
    record {
      claims = are.each;
      kinds = kinds_swept c.args.g.now v c.read_places.new.sweep.kinds.entries inside (first.kinds c.if-not-branch.false told v holds has (c.in_ok-sweep.ensures.kinds v));
      free = free_swept c.args.g.now v c.read_places.new.sweep.free.items c.read_places.new.sweep.group.items c.requires.geometry.tests
          (first.marks c.if-not-branch.false told v holds has (c.in_ok-sweep.ensures.marks v));
    }

pub returns-in_err-sweep-clause-fetched : goal.returns-in_err-sweep-clause-fetched
returns-in_err-sweep-clause-fetched g c =
    let none = g.met.V.View.fetched_none c.args.view.now in
    record { middle = c.args.view.now; areas = fetches_none g.V.View.fetched _ c.args.view.now none; levels = places_none g.V.View.fetched _ c.args.view.now none }

pub returns-in_err-read_places-clause-fetched : goal.returns-in_err-read_places-clause-fetched
returns-in_err-read_places-clause-fetched g c = record {
  middle = c.read_places.new.view;
  areas = c.read_places.ensures.fetched;
  levels = places_none g.V.View.fetched _ c.read_places.new.view (g.met.V.View.fetched_none c.read_places.new.view);
}

pub returns-then-not-branch-clause-fetched : goal.returns-then-not-branch-clause-fetched
returns-then-not-branch-clause-fetched g c = record {
  middle = c.read_places.new.view;
  areas = c.read_places.ensures.fetched;
  levels = places_none g.V.View.fetched _ c.read_places.new.view (g.met.V.View.fetched_none c.read_places.new.view);
}

pub returns-in_err-move_levels-clause-fetched : goal.returns-in_err-move_levels-clause-fetched
returns-in_err-move_levels-clause-fetched g c =
    let first = c.in_ok-read_places.ensures in
    let sweep = c.in_ok-sweep.ensures in
    swept_fetched g.V.View c.args.g.now c.args.block c.args.bytes.now (claimed_by c.in_ok-sweep.sweep.claims.runs) (claimed_by c.read_places.new.sweep.claims.runs) c.in_ok-sweep.sweep.watch
    c.read_places.new.sweep.watch c.args.view.now c.read_places.new.view c.move_levels.new.view c.requires.geometry.tests
    (λ inode high. c.inodes_inside.ensures c.args.g.now inode c.requires.geometry.tests high) sweep.none sweep.slots sweep.touched sweep.watched first.grows first.watched
    (first.slots c.if-not-branch.false) first.keeps c.move_levels.ensures.keeps.told c.read_places.ensures.fetched c.move_levels.ensures.fetched

pub returns-then-not-branch-2-clause-fetched : goal.returns-then-not-branch-2-clause-fetched
returns-then-not-branch-2-clause-fetched g c =
    let first = c.in_ok-read_places.ensures in
    let sweep = c.in_ok-sweep.ensures in
    swept_fetched g.V.View c.args.g.now c.args.block c.args.bytes.now (claimed_by c.in_ok-sweep.sweep.claims.runs) (claimed_by c.read_places.new.sweep.claims.runs) c.in_ok-sweep.sweep.watch
    c.read_places.new.sweep.watch c.args.view.now c.read_places.new.view c.move_levels.new.view c.requires.geometry.tests
    (λ inode high. c.inodes_inside.ensures c.args.g.now inode c.requires.geometry.tests high) sweep.none sweep.slots sweep.touched sweep.watched first.grows first.watched
    (first.slots c.if-not-branch.false) first.keeps c.move_levels.ensures.keeps.told c.read_places.ensures.fetched c.move_levels.ensures.fetched

pub returns-clause-fetched : goal.returns-clause-fetched
returns-clause-fetched g c =
    let first = c.in_ok-read_places.ensures in
    let sweep = c.in_ok-sweep.ensures in
    swept_fetched g.V.View c.args.g.now c.args.block c.args.bytes.now (claimed_by c.in_ok-sweep.sweep.claims.runs) (claimed_by c.read_places.new.sweep.claims.runs) c.in_ok-sweep.sweep.watch
    c.read_places.new.sweep.watch c.args.view.now c.read_places.new.view c.move_levels.new.view c.requires.geometry.tests
    (λ inode high. c.inodes_inside.ensures c.args.g.now inode c.requires.geometry.tests high) sweep.none sweep.slots sweep.touched sweep.watched first.grows first.watched
    (first.slots c.if-not-branch.false) first.keeps c.move_levels.ensures.keeps.told c.read_places.ensures.fetched c.move_levels.ensures.fetched
