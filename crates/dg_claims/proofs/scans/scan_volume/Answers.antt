use Rattle.dg_io.specs.ViewLaws.{keeps_both}
use Rattle.std.proofs.Common.{refl}
use Rattle.ufs_model.specs.Claims.{source_fragments}
use Rattle.ufs_pointer.specs.KindLaws.{loses_along, only_along, only_both}
use Rattle.dg_claims.proofs.MetadataLaws.{indirect_metadata, inode_metadata, right_above_all}
use Rattle.dg_claims.proofs.ScanLaws.{right_in_the_end}
use Rattle.dg_claims.proofs.ThereScan.{read_cases}
use Rattle.dg_claims.specs.Scans.{HasInode, IsIndirect}
use Rattle.dg_claims.specs.ThereLaws.{there_along, there_both}
use Rattle.dg_claims.specs.Kept.{claimed_by}
use Rattle.dg_claims.proofs.scans.scan_volume.Goals as goal

pub returns-in_err-scan_inodes-clause-fetched : goal.returns-in_err-scan_inodes-clause-fetched
returns-in_err-scan_inodes-clause-fetched g c = only_along (λ is v holds. (holds, inode_metadata c.args.g.now v)) c.scan_inodes.ensures.fetched

pub returns-then-not-branch-clause-fetched : goal.returns-then-not-branch-clause-fetched
returns-then-not-branch-clause-fetched g c = only_along (λ is v holds. (holds, inode_metadata c.args.g.now v)) c.scan_inodes.ensures.fetched

pub returns-in_err-scan_levels-clause-keeps : goal.returns-in_err-scan_levels-clause-keeps
returns-in_err-scan_levels-clause-keeps g c =
    keeps_both g.met.V.View.further c.args.view.now c.scan_inodes.new.view c.scan_levels.new.view c.scan_inodes.ensures.keeps c.scan_levels.ensures.keeps

pub returns-in_err-scan_levels-clause-fetched : goal.returns-in_err-scan_levels-clause-fetched
returns-in_err-scan_levels-clause-fetched g c =
    let first = c.in_ok-scan_inodes.ensures in
    let told = c.scan_levels.ensures.keeps.told in
    only_both g.met.V.View.fetched_both told
    (λ is v holds. (
      (
        first.keeps.stands v holds,
        right_above_all c.args.g.now v (claimed_by c.scan_inodes.new.claims.runs) (first.slots c.if-not-branch.false (told is) v holds) (first.pointers c.if-not-branch.false),
      ),
      indirect_metadata c.args.g.now v,
    ))
    (only_along (λ is v holds. (holds, inode_metadata c.args.g.now v)) first.fetched) c.scan_levels.ensures.fetched

pub returns-then-not-branch-2-clause-keeps : goal.returns-then-not-branch-2-clause-keeps
returns-then-not-branch-2-clause-keeps g c =
    keeps_both g.met.V.View.further c.args.view.now c.scan_inodes.new.view c.scan_levels.new.view c.scan_inodes.ensures.keeps c.scan_levels.ensures.keeps

pub returns-then-not-branch-2-clause-lost : goal.returns-then-not-branch-2-clause-lost
returns-then-not-branch-2-clause-lost g c =
    let first = c.in_ok-scan_inodes.ensures in
    let told = c.scan_levels.ensures.keeps.told in
    loses_along first.keeps.blocks (λ b h. h) (λ h. h)
    (λ is v holds. (
      (
        first.keeps.stands v holds,
        right_above_all c.args.g.now v (claimed_by c.scan_inodes.new.claims.runs) (first.slots c.if-not-branch.false (told is) v holds) (first.pointers c.if-not-branch.false),
      ),
      indirect_metadata c.args.g.now v,
    ))
    (c.in_ok-scan_levels.ensures.lost c.if-not-branch-2.true)

pub returns-then-not-branch-2-clause-fetched : goal.returns-then-not-branch-2-clause-fetched
returns-then-not-branch-2-clause-fetched g c =
    let first = c.in_ok-scan_inodes.ensures in
    let told = c.scan_levels.ensures.keeps.told in
    only_both g.met.V.View.fetched_both told
    (λ is v holds. (
      (
        first.keeps.stands v holds,
        right_above_all c.args.g.now v (claimed_by c.scan_inodes.new.claims.runs) (first.slots c.if-not-branch.false (told is) v holds) (first.pointers c.if-not-branch.false),
      ),
      indirect_metadata c.args.g.now v,
    ))
    (only_along (λ is v holds. (holds, inode_metadata c.args.g.now v)) first.fetched) c.scan_levels.ensures.fetched

pub returns-clause-keeps : goal.returns-clause-keeps
returns-clause-keeps g c =
    keeps_both g.met.V.View.further c.args.view.now c.scan_inodes.new.view c.scan_levels.new.view c.scan_inodes.ensures.keeps c.scan_levels.ensures.keeps

pub returns-clause-claims : goal.returns-clause-claims
returns-clause-claims g c = λ is v holds.
    let first = c.in_ok-scan_inodes.ensures in
    let second = c.in_ok-scan_levels.ensures in
    let told = c.scan_levels.ensures.keeps.told in
    right_in_the_end (source_fragments c.args.g.now v) (claimed_by c.scan_levels.new.claims.runs) (second.none c.if-not-branch-2.false)
    (second.right c.if-not-branch-2.false is v (first.keeps.stands v holds)
    (right_above_all c.args.g.now v (claimed_by c.scan_inodes.new.claims.runs) (first.slots c.if-not-branch.false (told is) v holds) (first.pointers c.if-not-branch.false)))

pub returns-clause-fetched : goal.returns-clause-fetched
returns-clause-fetched g c =
    let first = c.in_ok-scan_inodes.ensures in
    let told = c.scan_levels.ensures.keeps.told in
    only_both g.met.V.View.fetched_both told
    (λ is v holds. (
      (
        first.keeps.stands v holds,
        right_above_all c.args.g.now v (claimed_by c.scan_inodes.new.claims.runs) (first.slots c.if-not-branch.false (told is) v holds) (first.pointers c.if-not-branch.false),
      ),
      indirect_metadata c.args.g.now v,
    ))
    (only_along (λ is v holds. (holds, inode_metadata c.args.g.now v)) first.fetched) c.scan_levels.ensures.fetched

pub returns-then-not-branch-clause-lost : goal.returns-then-not-branch-clause-lost
returns-then-not-branch-clause-lost g c =
    loses_along refl (λ b h. h) (λ h. h) (λ is v holds. (holds, inode_metadata c.args.g.now v)) (c.in_ok-scan_inodes.ensures.lost c.if-not-branch.true)

pub returns-clause-there : goal.returns-clause-there
returns-clause-there g c =
    let first = c.in_ok-scan_inodes.ensures in
    let second = c.in_ok-scan_levels.ensures in
    let told = c.scan_levels.ensures.keeps.told in
    there_both (λ is v holds b by. read_cases c.args.g.now v b by)
    (there_along {other = HasInode c.args.g.now} (λ b h. h) told (λ is v holds. (holds, λ b h. h)) (first.there c.if-not-branch.false))
    (there_along {other = IsIndirect c.args.g.now} first.keeps.stays (λ h. h)
    (λ is v holds. (
      (
        first.keeps.stands v holds,
        right_above_all c.args.g.now v (claimed_by c.scan_inodes.new.claims.runs) (first.slots c.if-not-branch.false (told is) v holds) (first.pointers c.if-not-branch.false),
      ),
      λ b h. h,
    ))
    (second.there c.if-not-branch-2.false))
