use Rattle.std.proofs.Common.{◌<◌, length, arith, refl, inl, inr, get_or}
use Rattle.dg_plan.specs.Targets.{wants_of}
use Rattle.dg_store.specs.Stores.{table_of}
use Rattle.dg_move.proofs.MissingLaws.{full_none}
use Rattle.dg_move.proofs.CursorLaws.{cursors_more, next_of}
use Rattle.dg_move.proofs.tends.turn.Goals as goal

pub unreachable-requires : goal.unreachable-requires
unreachable-requires g c =
    let none = full_none (wants_of c.args.targets.now) (table_of c.args.store.now) c.requires.sound.table c.args.next.now c.requires.targets c.requires.tidy c.requires.cursors c.in_default.ensures in
    absurd (omega (arith, none, c.requires.some))

pub returns-in_err-move_block-clause-next : goal.returns-in_err-move_block-clause-next
returns-in_err-move_block-clause-next g c =
    (get_or c.args.next.now c.in-Some.boundary 0, c.in-Some.boundary, next_of (wants_of c.args.targets.now) (table_of c.args.store.now) c.args.next.now c.requires.cursors c.in-Some.boundary c.in-Some.ensures)

pub returns-then-not-branch-clause-next : goal.returns-then-not-branch-clause-next
returns-then-not-branch-clause-next g c =
    (get_or c.args.next.now c.in-Some.boundary 0, c.in-Some.boundary, next_of (wants_of c.args.targets.now) (table_of c.args.store.now) c.args.next.now c.requires.cursors c.in-Some.boundary c.in-Some.ensures)

pub returns-then-not-branch-clause-turned : goal.returns-then-not-branch-clause-turned
returns-then-not-branch-clause-turned g c = record {
  block = get_or c.args.next.now c.in-Some.boundary 0;
  boundary = c.in-Some.boundary;
  first = next_of (wants_of c.args.targets.now) (table_of c.args.store.now) c.args.next.now c.requires.cursors c.in-Some.boundary c.in-Some.ensures;
  end = inr (c.in_ok-move_block.ensures.stopped c.if-not-branch.true);
}

pub returns-clause-turned : goal.returns-clause-turned
returns-clause-turned g c =
    let targets = wants_of c.args.targets.now in
    let old = table_of c.args.store.now in
    let t = c.in-Some.boundary in
    let b = get_or c.args.next.now t 0 in
    let e = c.in_ok-move_block.ensures in
    let m = e.meets c.if-not-branch.false in
    let most = c.requires.sound.table.shape.most_boundaries in
    let at = c.in-Some.ensures.within in
    let inside : t < length c.args.next.now = omega (arith, c.told-next, most, at) in
    record {
      block = b;
      boundary = t;
      first = next_of targets old c.args.next.now c.requires.cursors t c.in-Some.ensures;
      end = inl (record {
        meets = m;
        stands = e.stands c.if-not-branch.false;
        cursors = cursors_more targets old (table_of c.move_block.new.store) c.args.next.now b t c.first_missing.result c.requires.cursors e.on.leaves.keeps.shape refl inside m c.first_missing.ensures;
      });
    }

pub returns-clause-next : goal.returns-clause-next
returns-clause-next g c =
    (get_or c.args.next.now c.in-Some.boundary 0, c.in-Some.boundary, next_of (wants_of c.args.targets.now) (table_of c.args.store.now) c.args.next.now c.requires.cursors c.in-Some.boundary c.in-Some.ensures)
