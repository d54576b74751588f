use Rattle.std.proofs.Common.{◌/◌, refl, subst}
use Rattle.ufs_model.specs.Metadata.{IsMetadataBy}
use Rattle.ufs_model.specs.Paths.{block_of}
use Rattle.ufs_pointer.specs.Fetches.{IsNeeded}
use Rattle.dg_claims.specs.ThereLaws.{there_along, there_read}
use Rattle.ufs_check.proofs.NeedLaws.{bytes_none, bytes_one}
use Rattle.ufs_model.specs.Paths.{bytes_in_block}
use Rattle.ufs_check.specs.Directories.{IsFileRead, ScansBlock}
use Rattle.ufs_check.specs.Directories.IsFileRead.{of_file, of_metadata}
use Rattle.ufs_check.proofs.DirectoryLaws.{scanned_hole, scanned_next, scanned_wild}
use Rattle.ufs_check.proofs.PassLaws.{if_some_both, lost_told, lost_wider, none_later, only_both, only_needs, only_wider}
use Rattle.ufs_check.proofs.directories.scan_block.Goals as goal

pub returns-in-None-clause-gone : goal.returns-in-None-clause-gone
returns-in-None-clause-gone g c = lost_wider _ (IsFileRead c.args.g.now c.args.inode.now) (λ told v stands block needs. of_file c.args.n c.requires.block needs) c.in-None.ensures.lost

pub returns-in-None-clause-fetched : goal.returns-in-None-clause-fetched
returns-in-None-clause-fetched g c = only_needs (IsFileRead c.args.g.now c.args.inode.now) (λ v block needs. of_file c.args.n c.requires.block needs) c.read_file_block.ensures.fetched

pub returns-in-Some-Hole-clause-gone : goal.returns-in-Some-Hole-clause-gone
returns-in-Some-Hole-clause-gone g c =
    let first = c.read_file_block.ensures.keeps in
    none_later (g.V.View.tells c.behind_gap.new.view) (g.V.View.is_gone c.behind_gap.new.view) (IsFileRead c.args.g.now c.args.inode.now) c.behind_gap.result first.blocks first.stands c.behind_gap.ensures.gone

pub returns-in-Some-Hole-clause-fetched : goal.returns-in-Some-Hole-clause-fetched
returns-in-Some-Hole-clause-fetched g c =
    only_both g.met.V.View.fetched_both c.read_file_block.ensures.keeps.stands c.behind_gap.ensures.keeps.told
    (only_needs (IsFileRead c.args.g.now c.args.inode.now) (λ v block needs. of_file c.args.n c.requires.block needs) c.read_file_block.ensures.fetched)
    c.behind_gap.ensures.fetched

pub returns-in-Some-Hole-clause-found : goal.returns-in-Some-Hole-clause-found
returns-in-Some-Hole-clause-found g c =
    let first = c.read_file_block.ensures.keeps in
    let second = c.behind_gap.ensures.keeps in
    let read = rw c.in-Some-Hole.field-0-is at c.in-Some-Hole.ensures in
    if_some_both c.behind_gap.result _ _ _ (λ next order same told v stands so_far.
    scanned_hole c.args.g.now c.args.inode.now v c.args.n next c.args.scan.now _ order.0 ((read.rule.rule (second.told told) v stands).answer)
    (same told v (first.stands v stands)) refl refl refl so_far) c.behind_gap.ensures.order c.behind_gap.ensures.same

pub returns-in-Some-Wild-clause-gone : goal.returns-in-Some-Wild-clause-gone
returns-in-Some-Wild-clause-gone g c =
    let first = c.read_file_block.ensures.keeps in
    none_later (g.V.View.tells c.behind_gap-in-Some-Wild.new.view) (g.V.View.is_gone c.behind_gap-in-Some-Wild.new.view) (IsFileRead c.args.g.now c.args.inode.now) c.behind_gap-in-Some-Wild.result first.blocks first.stands c.behind_gap-in-Some-Wild.ensures.gone

pub returns-in-Some-Wild-clause-fetched : goal.returns-in-Some-Wild-clause-fetched
returns-in-Some-Wild-clause-fetched g c =
    only_both g.met.V.View.fetched_both c.read_file_block.ensures.keeps.stands c.behind_gap-in-Some-Wild.ensures.keeps.told
    (only_needs (IsFileRead c.args.g.now c.args.inode.now) (λ v block needs. of_file c.args.n c.requires.block needs) c.read_file_block.ensures.fetched)
    c.behind_gap-in-Some-Wild.ensures.fetched

pub returns-in-Some-Wild-clause-found : goal.returns-in-Some-Wild-clause-found
returns-in-Some-Wild-clause-found g c =
    let first = c.read_file_block.ensures.keeps in
    let second = c.behind_gap-in-Some-Wild.ensures.keeps in
    let read = rw c.in-Some-Wild.field-0-is at c.in-Some-Wild.ensures in
    if_some_both c.behind_gap-in-Some-Wild.result _ _ _ (λ next order same told v stands so_far.
    scanned_wild c.args.g.now c.args.inode.now v c.args.n next _ c.args.scan.now _ order.0 ((read.rule.rule (second.told told) v stands).answer)
    (same told v (first.stands v stands)) refl refl refl so_far) c.behind_gap-in-Some-Wild.ensures.order c.behind_gap-in-Some-Wild.ensures.same

pub returns-in_err-scan_data-in-Some-Data-clause-fetched : goal.returns-in_err-scan_data-in-Some-Data-clause-fetched
returns-in_err-scan_data-in-Some-Data-clause-fetched g c =
    only_both g.met.V.View.fetched_both c.read_file_block.ensures.keeps.stands c.scan_data.ensures.keeps.told
    (only_needs (IsFileRead c.args.g.now c.args.inode.now) (λ v block needs. of_file c.args.n c.requires.block needs) c.read_file_block.ensures.fetched)
    (only_wider (IsMetadataBy c.args.g.now) (IsFileRead c.args.g.now c.args.inode.now) (λ told v stands block is. of_metadata is) c.scan_data.ensures.fetched)

pub returns-then-not-branch-clause-gone : goal.returns-then-not-branch-clause-gone
returns-then-not-branch-clause-gone g c =
    let first = c.read_file_block.ensures.keeps in
    lost_told (IsMetadataBy c.args.g.now) (IsFileRead c.args.g.now c.args.inode.now) first.blocks (λ told v stands. (first.stands v stands, λ block is. of_metadata is))
    (c.in_ok-scan_data-in-Some-Data.ensures.gone c.if-not-branch.true)

pub returns-then-not-branch-clause-fetched : goal.returns-then-not-branch-clause-fetched
returns-then-not-branch-clause-fetched g c =
    only_both g.met.V.View.fetched_both c.read_file_block.ensures.keeps.stands c.scan_data.ensures.keeps.told
    (only_needs (IsFileRead c.args.g.now c.args.inode.now) (λ v block needs. of_file c.args.n c.requires.block needs) c.read_file_block.ensures.fetched)
    (only_wider (IsMetadataBy c.args.g.now) (IsFileRead c.args.g.now c.args.inode.now) (λ told v stands block is. of_metadata is) c.scan_data.ensures.fetched)

pub returns-else-not-branch-clause-fetched : goal.returns-else-not-branch-clause-fetched
returns-else-not-branch-clause-fetched g c =
    only_both g.met.V.View.fetched_both c.read_file_block.ensures.keeps.stands c.scan_data.ensures.keeps.told
    (only_needs (IsFileRead c.args.g.now c.args.inode.now) (λ v block needs. of_file c.args.n c.requires.block needs) c.read_file_block.ensures.fetched)
    (only_wider (IsMetadataBy c.args.g.now) (IsFileRead c.args.g.now c.args.inode.now) (λ told v stands block is. of_metadata is) c.scan_data.ensures.fetched)

pub returns-else-not-branch-clause-found : goal.returns-else-not-branch-clause-found
returns-else-not-branch-clause-found g c = λ told v stands so_far.
    let gg = c.args.g.now in
    let inode = c.args.inode.now in
    let first = c.read_file_block.ensures.keeps in
    let second = c.scan_data.ensures.keeps in
    let read = rw c.in-Some-Data.field-0-is at c.in-Some-Data.ensures in
    let found = rw c.bytes_in_block-count.ensures.value at c.in_ok-scan_data-in-Some-Data.ensures.found in
    scanned_next gg inode v c.args.n c.args.scan.now c.scan_data.new.scan so_far
    (subst (λ block. ScansBlock gg v (bytes_in_block gg inode c.args.n / 512) block c.args.scan.now c.scan_data.new.scan)
    ((read.rule.rule (second.told told) v stands).answer) (found c.if-not-branch.false told v (first.stands v stands)))

pub returns-in-Some-Hole-clause-there : goal.returns-in-Some-Hole-clause-there
returns-in-Some-Hole-clause-there g c =
    let second = c.behind_gap.ensures.keeps in
    let read = rw c.in-Some-Hole.field-0-is at c.in-Some-Hole.ensures in
    if_some_both c.behind_gap.result _ _ _ (λ next order same. record {
      each = λ told v stands b of. absurd (bytes_none c.args.g.now c.args.inode.now c.args.n next v b _ ((read.rule.rule (second.told told) v stands).answer) (λ h. h)
          (same told v (c.read_file_block.ensures.keeps.stands v stands)) of);
    }) c.behind_gap.ensures.order c.behind_gap.ensures.same

pub returns-in-Some-Wild-clause-there : goal.returns-in-Some-Wild-clause-there
returns-in-Some-Wild-clause-there g c =
    let second = c.behind_gap-in-Some-Wild.ensures.keeps in
    let read = rw c.in-Some-Wild.field-0-is at c.in-Some-Wild.ensures in
    if_some_both c.behind_gap-in-Some-Wild.result _ _ _ (λ next order same. record {
      each = λ told v stands b of. absurd (bytes_none c.args.g.now c.args.inode.now c.args.n next v b _ ((read.rule.rule (second.told told) v stands).answer) (λ h. h)
          (same told v (c.read_file_block.ensures.keeps.stands v stands)) of);
    }) c.behind_gap-in-Some-Wild.ensures.order c.behind_gap-in-Some-Wild.ensures.same

pub returns-else-not-branch-clause-there : goal.returns-else-not-branch-clause-there
returns-else-not-branch-clause-there g c =
    let gg = c.args.g.now in
    let inode = c.args.inode.now in
    let read = rw c.in-Some-Data.field-0-is at c.in-Some-Data.ensures in
    there_along {other = IsNeeded (block_of gg inode c.args.n)} (λ b h. h) c.scan_data.ensures.keeps.told (λ told v stands. (stands, λ b of. bytes_one gg inode c.args.n v b of))
    (there_read _ read.rule)
