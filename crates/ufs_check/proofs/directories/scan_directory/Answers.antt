use Rattle.std.proofs.Common.{◌≡◌, ◌∙◌, [], inl, inr, refl, subst, sym, rules, arith}
use Rattle.dg_io.specs.ViewLaws.{keeps_both, keeps_same}
use Rattle.ufs_check.specs.Directories.{IsFileRead, ScannedBelow}
use Rattle.ufs_check.proofs.DirectoryLaws.{scanned_none}
use Rattle.ufs_pointer.specs.KindLaws.{only_none}
use Rattle.dg_claims.specs.ThereLaws.{not_before}
use Rattle.ufs_check.proofs.NeedLaws.{bytes_cases}
use Rattle.ufs_check.specs.Needs.{IsBytesBlock}
use Rattle.ufs_check.proofs.PassLaws.{lost_later, only_both}
use Rattle.ufs_check.proofs.directories.scan_directory.Goals as goal

pub loop-n-init : goal.loop-n-init
loop-n-init g c = record {
  keeps = keeps_same c.args.view.now c.requires.sound (g.met.V.View.unchanged c.args.view.now);
  within = omega arith;
  levels = c.requires.levels;
  found = λ told v stands.
      let none : c.new.result.items ≡ [] = search rules in
      scanned_none c.args.g.now c.args.inode.now v _ refl refl refl none;
  there = λ told v stands b of. absurd (let high = of.high in omega arith);
  fetched = only_none (IsFileRead c.args.g.now c.args.inode.now) c.args.view.now (g.met.V.View.fetched_none c.args.view.now);
}

pub returns-in_err-next-clause-fetched : goal.returns-in_err-next-clause-fetched
returns-in_err-next-clause-fetched g c =
    let so_far = c.loop-n.invariant.keeps in
    only_both g.met.V.View.fetched_both so_far.stands c.scan_block.ensures.keeps.told c.loop-n.invariant.fetched c.scan_block.ensures.fetched

pub returns-in_default-clause-fetched : goal.returns-in_default-clause-fetched
returns-in_default-clause-fetched g c =
    let so_far = c.loop-n.invariant.keeps in
    only_both g.met.V.View.fetched_both so_far.stands c.scan_block.ensures.keeps.told c.loop-n.invariant.fetched c.scan_block.ensures.fetched

pub loop-n-preserved : goal.loop-n-preserved
loop-n-preserved g c =
    let invariant = c.loop-n.invariant in
    let so_far = invariant.keeps in
    let order = rw c.in-Some.is at c.in_ok-next.ensures.order in
    let most = order.1 in
    let found = rw c.in-Some.is at c.in_ok-next.ensures.found in
    let there = rw c.in-Some.is at c.in_ok-next.ensures.there in
    record {
      keeps = keeps_both g.met.V.View.further c.args.view.now c.loop-n.view c.scan_block.new.view so_far c.scan_block.ensures.keeps;
      within = omega arith;
      levels = c.scan_block.ensures.levels ∙ invariant.levels;
      found = λ told v stands. found told v (so_far.stands v stands) (invariant.found (c.scan_block.ensures.keeps.told told) v stands);
      there = λ told v stands b of. elim (bytes_cases c.args.g.now c.args.inode.now c.loop-n.n _ v b of) [
        | inl front ↦ invariant.there (c.scan_block.ensures.keeps.told told) v stands b front
        | inr rest ↦ not_before (g.V.View.is_gone c.args.view.now) (g.V.View.is_gone c.loop-n.view) b so_far.stays (there.each told v (so_far.stands v stands) b rest)
      ];
      fetched = only_both g.met.V.View.fetched_both so_far.stands c.scan_block.ensures.keeps.told invariant.fetched c.scan_block.ensures.fetched;
    }

pub returns-in_default-clause-gone : goal.returns-in_default-clause-gone
returns-in_default-clause-gone g c =
    let so_far = c.loop-n.invariant.keeps in
    lost_later so_far.blocks so_far.stands (rw c.in_default.is at c.in_ok-next.ensures.gone)

pub returns-clause-found : goal.returns-clause-found
returns-clause-found g c = λ told v stands.
    let last = c.loop-n-test.false in
    let most = c.loop-n.invariant.within in
    let at : c.loop-n.n ≡ c.block_count-count.result = omega arith in
    subst (λ n. ScannedBelow c.args.g.now c.args.inode.now v n c.loop-n.scan) (at ∙ c.block_count-count.ensures.value) (c.loop-n.invariant.found told v stands)

pub returns-clause-there : goal.returns-clause-there
returns-clause-there g c =
    let last = c.loop-n-test.false in
    let most = c.loop-n.invariant.within in
    let at : c.loop-n.n ≡ c.block_count-count.result = omega arith in
    record {
      each = λ told v stands b of.
          c.loop-n.invariant.there told v stands b (subst (λ n. IsBytesBlock c.args.g.now c.args.inode.now 0 n v b) (sym (at ∙ c.block_count-count.ensures.value)) of);
    }
