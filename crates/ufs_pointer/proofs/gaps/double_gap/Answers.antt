use Rattle.std.proofs.Common.{◌≡◌, ◌∙◌, true, false, sym, arith}
use Rattle.std.specs.Prelude.{◌==◌}
use Rattle.std.proofs.lemmas.Bool.Decides.{nat_tests}
use Rattle.ufs_model.proofs.ReadingLaws.{reads_known, reads_map, reads_none}
use Rattle.ufs_pointer.specs.FetchLaws.{fetches_known, fetches_map, fetches_none}
use Rattle.ufs_pointer.specs.Gaps.{gap_through}
use Rattle.ufs_pointer.specs.KindLaws.{loses_front}
use Rattle.ufs_pointer.proofs.GapLaws.{lone_gap, long_gap, short_gap}
use Rattle.ufs_pointer.proofs.gaps.double_gap.Goals as goal

pub returns-then-is_long-clause-rule : goal.returns-then-is_long-clause-rule
returns-then-is_long-clause-rule g c =
    rw (long_gap c.args.g.now c.args.inode.now c.args.i c.args.j (sym c.is_long.ensures ∙ c.if-is_long.true), c.double_count.ensures.value) (reads_known _)

pub returns-then-is_long-clause-fetched : goal.returns-then-is_long-clause-fetched
returns-then-is_long-clause-fetched g c =
    rw (long_gap c.args.g.now c.args.inode.now c.args.i c.args.j (sym c.is_long.ensures ∙ c.if-is_long.true), c.double_count.ensures.value)
    (fetches_known _ (g.met.V.View.fetched_none c.args.view.now))

pub returns-then-j-ne0-clause-rule : goal.returns-then-j-ne0-clause-rule
returns-then-j-ne0-clause-rule g c =
    let later : (c.args.j == 0) ≡ false = grind (arith, nat_tests) in
    rw (lone_gap c.args.g.now c.args.inode.now c.args.i c.args.j (sym c.is_long.ensures ∙ c.if-is_long.false) later) (reads_known _)

pub returns-then-j-ne0-clause-fetched : goal.returns-then-j-ne0-clause-fetched
returns-then-j-ne0-clause-fetched g c =
    let later : (c.args.j == 0) ≡ false = grind (arith, nat_tests) in
    rw (lone_gap c.args.g.now c.args.inode.now c.args.i c.args.j (sym c.is_long.ensures ∙ c.if-is_long.false) later)
    (fetches_known _ (g.met.V.View.fetched_none c.args.view.now))

pub returns-in_err-single-clause-rule : goal.returns-in_err-single-clause-rule
returns-in_err-single-clause-rule g c =
    let first : (c.args.j == 0) ≡ true = grind (arith, nat_tests) in
    rw (short_gap c.args.g.now c.args.inode.now c.args.i c.args.j (sym c.is_long.ensures ∙ c.if-is_long.false) first, c.from_residual.ensures)
    (reads_none _ c.in_err-single.ensures.rule)

pub returns-in_err-single-clause-fetched : goal.returns-in_err-single-clause-fetched
returns-in_err-single-clause-fetched g c =
    let first : (c.args.j == 0) ≡ true = grind (arith, nat_tests) in
    rw (short_gap c.args.g.now c.args.inode.now c.args.i c.args.j (sym c.is_long.ensures ∙ c.if-is_long.false) first, c.from_residual.ensures)
    (fetches_none _ c.in_err-single.ensures.fetched)

pub returns-in_err-single-clause-lost : goal.returns-in_err-single-clause-lost
returns-in_err-single-clause-lost g c =
    let first : (c.args.j == 0) ≡ true = grind (arith, nat_tests) in
    rw (short_gap c.args.g.now c.args.inode.now c.args.i c.args.j (sym c.is_long.ensures ∙ c.if-is_long.false) first, c.from_residual.ensures)
    (loses_front _ _ c.in_err-single.ensures.lost)

pub returns-clause-rule : goal.returns-clause-rule
returns-clause-rule g c =
    let first : (c.args.j == 0) ≡ true = grind (arith, nat_tests) in
    rw (short_gap c.args.g.now c.args.inode.now c.args.i c.args.j (sym c.is_long.ensures ∙ c.if-is_long.false) first, c.gap_through.ensures.value)
    (reads_map (gap_through c.args.g.now.nindir) c.through_double.ensures.keeps.stays c.in_ok-single.ensures.rule)

pub returns-clause-fetched : goal.returns-clause-fetched
returns-clause-fetched g c =
    let first : (c.args.j == 0) ≡ true = grind (arith, nat_tests) in
    rw (short_gap c.args.g.now c.args.inode.now c.args.i c.args.j (sym c.is_long.ensures ∙ c.if-is_long.false) first, c.gap_through.ensures.value)
    (fetches_map (gap_through c.args.g.now.nindir) g.met.V.View.fetched_both (g.met.V.View.fetched_none c.through_double.new.view)
    c.in_ok-single.ensures.rule c.in_ok-single.ensures.fetched)
