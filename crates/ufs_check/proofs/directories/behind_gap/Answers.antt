use Rattle.std.proofs.Common.{◌≡◌, ◌+◌, ◌<◌, subst, arith}
use Rattle.ufs_pointer.specs.Fetches.{IsNeeded}
use Rattle.ufs_pointer.specs.Gaps.{gap_length}
use Rattle.ufs_check.specs.Directories.{IsFileRead}
use Rattle.ufs_check.specs.Directories.IsFileRead.{of_file}
use Rattle.ufs_check.proofs.PassLaws.{if_none, lost_wider, only_needs}
use Rattle.ufs_check.proofs.directories.behind_gap.Goals as goal

pub returns-in_err-length-clause-gone : goal.returns-in_err-length-clause-gone
returns-in_err-length-clause-gone g c =
    let gg = c.args.g.now in
    let inode = c.args.inode.now in
    let n = c.args.n in
    if_none _ _ (lost_wider (IsNeeded (gap_length gg inode n)) (IsFileRead gg inode)
    (λ told v stands block needs. of_file n c.requires.block (c.gaps_read_the_same.ensures.needs gg inode v n block needs)) c.in_err-length.ensures.lost)

pub returns-in_err-length-clause-fetched : goal.returns-in_err-length-clause-fetched
returns-in_err-length-clause-fetched g c =
    let gg = c.args.g.now in
    let inode = c.args.inode.now in
    let n = c.args.n in
    only_needs (IsFileRead gg inode) (λ v block needs. of_file n c.requires.block (c.gaps_read_the_same.ensures.needs gg inode v n block needs)) c.gap_length.ensures.fetched

pub returns-clause-fetched : goal.returns-clause-fetched
returns-clause-fetched g c =
    let gg = c.args.g.now in
    let inode = c.args.inode.now in
    let n = c.args.n in
    only_needs (IsFileRead gg inode) (λ v block needs. of_file n c.requires.block (c.gaps_read_the_same.ensures.needs gg inode v n block needs)) c.gap_length.ensures.fetched

pub returns-clause-same : goal.returns-clause-same
returns-clause-same g c = λ told v stands m low high.
    let is = (c.in_ok-length.ensures.rule.rule told v stands).answer in
    let most : m < c.args.n + c.in_ok-length.length = omega arith in
    c.gaps_read_the_same.ensures.same c.args.g.now c.args.inode.now v c.args.n m c.requires.geometry.tests low (subst (λ k. m < c.args.n + k) is most)
