use Rattle.std.proofs.Common.{◌≡◌, ◌+◌, ◌++◌, [], ◌∷◌, List, length, sym, ap, subst, arith, length-append}
use Rattle.std.proofs.lemmas.Grind.{common_steps}
use Rattle.dg_open.proofs.RowLemmas.{CountedBelow, counted_end, push_counted, push_stands}
use Rattle.dg_open.proofs.rows.row_of.Goals as goal
use Rattle.dg_pair.specs.declared.boundaries.Boundary.{Boundary}
use Rattle.dg_store.specs.Rows.{RowStands, members_in}

pub loop-number-preserved : goal.loop-number-preserved
loop-number-preserved c =
    let inv = c.loop-number.invariant in
    let shape = c.args.source.now.shape in
    let row = c.loop-number.row.items in
    let y = c.opened-boundary.result in
    let made = c.opened-boundary.ensures in
    let pushed : c.push.new.self.items ≡ row ++ y ∷ [] = grind (arith, common_steps) in
    let stands = push_stands shape.l (shape.k + 1) c.loop-number.number row y inv.count inv.stands made.pair in
    let members = push_counted c.args.labels.now c.args.failed.now c.args.source.now c.args.marks.now c.loop-number.number row y c.is_counted-first.result c.is_counted-second.result
    inv.count inv.members made.first made.second c.is_counted-first.ensures c.is_counted-second.ensures in
    record {
      count = omega (arith, ap length pushed, length-append row (y ∷ []), inv.count);
      stands = subst (λ (r : List Boundary). RowStands shape.l (shape.k + 1) r) (sym pushed) stands;
      members = subst (λ (r : List Boundary). CountedBelow c.args.labels.now c.args.failed.now c.args.source.now c.args.marks.now (c.loop-number.number + 1) (members_in r)) (sym pushed) members;
    }

pub returns-clause-members : goal.returns-clause-members
returns-clause-members c =
    let inv = c.loop-number.invariant in
    let end = c.loop-number.auto.number-end in
    let past = c.loop-number-test.false in
    counted_end c.args.labels.now c.args.failed.now c.args.source.now c.args.marks.now c.loop-number.number c.loop-number.row.items
    inv.count (omega (arith, c.requires.marks)) inv.members
