use Rattle.std.proofs.Common.{◌≡◌, ◌+◌, ℕ, List, sym, subst, arith}
use Rattle.dg_model.specs.Lives.{left_of}
use Rattle.dg_model.specs.Regroups.{members_left}
use Rattle.dg_pair.specs.declared.boundaries.Boundary.{Boundary}
use Rattle.dg_store.specs.Reduced.{IsKept}
use Rattle.dg_store.specs.Rows.{RowStands, members_in}
use Rattle.dg_store.proofs.LeftRows.{kept_stands, row_members, row_stands}
use Rattle.dg_store.proofs.reductions.keep_live.Goals as goal

pub keep_next-kept-requires-clause-stands : goal.keep_next-kept-requires-clause-stands
keep_next-kept-requires-clause-stands c =
    kept_stands c.args.shape.now.l (c.args.shape.now.k + 1) c.args.row.now.items c.requires.stands c.loop-number.row.items c.loop-number.number c.loop-number.kept c.loop-number.invariant

pub returns-clause-stands : goal.returns-clause-stands
returns-clause-stands c =
    let shape = c.args.shape.now in
    let was = c.args.row.now.items in
    let now = c.loop-number.row.items in
    let end : c.loop-number.number ≡ c.args.shape.now.b = (let most = c.loop-number.auto.number-end in let past = c.loop-number-test.false in omega arith) in
    let kept = subst (λ (n : ℕ). IsKept c.args.shape.now.l (c.args.shape.now.k + 1) c.args.row.now.items c.loop-number.row.items n c.loop-number.kept) end c.loop-number.invariant in
    subst (λ (row : List Boundary). RowStands c.args.shape.now.l (c.args.shape.now.k + 1) row) (sym c.truncate.ensures.items)
    (row_stands shape.l (shape.k + 1) was c.requires.stands now shape.b c.loop-number.kept c.requires.count kept)

pub returns-clause-members : goal.returns-clause-members
returns-clause-members c q =
    let shape = c.args.shape.now in
    let was = c.args.row.now.items in
    let now = c.loop-number.row.items in
    let end : c.loop-number.number ≡ c.args.shape.now.b = (let most = c.loop-number.auto.number-end in let past = c.loop-number-test.false in omega arith) in
    let kept = subst (λ (n : ℕ). IsKept c.args.shape.now.l (c.args.shape.now.k + 1) c.args.row.now.items c.loop-number.row.items n c.loop-number.kept) end c.loop-number.invariant in
    subst (λ (row : List Boundary). members_in row q ≡ members_left (left_of c.args.shape.now (members_in c.args.row.now.items)) (members_in c.args.row.now.items) q) (sym c.truncate.ensures.items)
    (row_members shape.l (shape.k + 1) was c.requires.stands now shape.b c.loop-number.kept c.requires.count kept q)
