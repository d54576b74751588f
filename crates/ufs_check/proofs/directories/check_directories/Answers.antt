use Rattle.std.proofs.Common.{◌≡◌, ◌∙◌, [], inl, inr, subst, rules, arith}
use Rattle.std.proofs.lemmas.Bool.{cases_eq}
use Rattle.dg_io.specs.ViewLaws.{keeps_both, keeps_same}
use Rattle.ufs_check.specs.Directories.{IsDirectoryRead}
use Rattle.dg_claims.specs.ThereLaws.{not_before}
use Rattle.ufs_check.specs.Needs.{IsBlockIn, IsOfSmall}
use Rattle.ufs_check.proofs.FaultLaws.{directories_all, directories_none, directory_within}
use Rattle.ufs_check.proofs.ParentLaws.{table_empty}
use Rattle.ufs_pointer.specs.KindLaws.{only_none}
use Rattle.ufs_check.proofs.PassLaws.{lost_later, only_both}
use Rattle.ufs_check.proofs.directories.check_directories.Goals as goal

pub loop-i-init : goal.loop-i-init
loop-i-init g c = record {
  keeps = keeps_same c.args.view.now c.requires.sound (g.met.V.View.unchanged c.args.view.now);
  levels = c.requires.levels;
  found = λ told v stands. record {
    kept = table_empty c.args.g.now v c.empty_table-table.result c.empty_table-table.ensures;
    noted = directories_none c.args.g.now v _ (search rules) (search rules) (search rules) (search rules) (search rules) (search rules);
  };
  there = λ told v stands m b low of. absurd (let within = (directory_within c.args.g.now v m (IsOfSmall c.args.g.now v b) of).0 in omega (arith, low, within));
  fetched = only_none (IsDirectoryRead c.args.g.now) c.args.view.now (g.met.V.View.fetched_none c.args.view.now);
}

pub loop-i-preserved : goal.loop-i-preserved
loop-i-preserved g c =
    let invariant = c.loop-i.invariant in
    let so_far = invariant.keeps in
    record {
      keeps = keeps_both g.met.V.View.further c.args.view.now c.loop-i.view c.scan_inode.new.view so_far c.scan_inode.ensures.keeps;
      levels = c.scan_inode.ensures.levels ∙ invariant.levels;
      found = λ told v stands.
          c.in_ok-scan_inode.ensures.found c.if-not-branch.false told v (so_far.stands v stands) (invariant.found (c.scan_inode.ensures.keeps.told told) v stands);
      there = λ told v stands m b low of. elim (cases_eq m c.loop-i.i) [
        | inl same ↦ not_before (g.V.View.is_gone c.args.view.now) (g.V.View.is_gone c.loop-i.view) b so_far.stays
            ((c.in_ok-scan_inode.ensures.there c.if-not-branch.false).each told v (so_far.stands v stands) b (subst (λ k. IsBlockIn c.args.g.now k v b) same of))
        | inr apart ↦ invariant.there (c.scan_inode.ensures.keeps.told told) v stands m b (omega (arith, low, apart)) of
      ];
      fetched = only_both g.met.V.View.fetched_both so_far.stands c.scan_inode.ensures.keeps.told invariant.fetched c.scan_inode.ensures.fetched;
    }

pub returns-clause-found : goal.returns-clause-found
returns-clause-found g c = λ told v stands.
    let all = c.loop-i.invariant.found told v stands in
    (directories_all c.args.g.now v c.loop-i.i c.loop-i.faults c.loop-i-test.false all.noted, record { bound = c.loop-i.i; last = c.loop-i-test.false; kept = all.kept })

pub returns-in_err-scan_inode-clause-fetched : goal.returns-in_err-scan_inode-clause-fetched
returns-in_err-scan_inode-clause-fetched g c =
    let so_far = c.loop-i.invariant.keeps in
    only_both g.met.V.View.fetched_both so_far.stands c.scan_inode.ensures.keeps.told c.loop-i.invariant.fetched c.scan_inode.ensures.fetched

pub returns-then-not-branch-clause-fetched : goal.returns-then-not-branch-clause-fetched
returns-then-not-branch-clause-fetched g c =
    let so_far = c.loop-i.invariant.keeps in
    only_both g.met.V.View.fetched_both so_far.stands c.scan_inode.ensures.keeps.told c.loop-i.invariant.fetched c.scan_inode.ensures.fetched

pub returns-then-not-branch-clause-gone : goal.returns-then-not-branch-clause-gone
returns-then-not-branch-clause-gone g c =
    let so_far = c.loop-i.invariant.keeps in
    lost_later so_far.blocks so_far.stands (c.in_ok-scan_inode.ensures.gone c.if-not-branch.true)

pub returns-clause-there : goal.returns-clause-there
returns-clause-there g c = record {
  each = λ told v stands b of.
      let within = (directory_within c.args.g.now v (of.0) (IsOfSmall c.args.g.now v b) (of.1)).1 in
      c.loop-i.invariant.there told v stands (of.0) b (omega (arith, within, c.loop-i-test.false)) (of.1);
}
