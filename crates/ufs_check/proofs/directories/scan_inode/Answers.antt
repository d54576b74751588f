use Rattle.std.proofs.Common.{◌≡◌, ◌∙◌, ◌^◌, ◌<◌, ◌≤◌, Ok, true, false, sym, arith}
use Rattle.dg_io.specs.ViewLaws.{keeps_both}
use Rattle.ufs_model.specs.Metadata.{IsMetadataBy}
use Rattle.ufs_model.specs.Malformations.{IsDirectory}
use Rattle.ufs_model.specs.Inodes.{block_count}
use Rattle.ufs_model.specs.Paths.{entries_of}
use Rattle.ufs_model.specs.declared.inodes.Inode.{Inode}
use Rattle.ufs_check.specs.Directories.{IsDirectoryRead, IsFileRead, IsSmallRead}
use Rattle.ufs_check.specs.Directories.IsDirectoryRead.{by_directory, by_metadata}
use Rattle.dg_claims.specs.ThereLaws.{there_along}
use Rattle.ufs_check.specs.Needs.{IsBytesBlock, IsOfSmall}
use Rattle.ufs_check.proofs.FaultLaws.{directory_is, directory_none, directory_there, entries_passed, long_passed, long_unread}
use Rattle.ufs_check.proofs.LinkLaws.{links_passed}
use Rattle.ufs_check.proofs.ParentLaws.{table_passed}
use Rattle.ufs_check.proofs.PassLaws.{lost_told, lost_wider, only_after, only_wider}
use Rattle.ufs_check.proofs.directories.scan_inode.Goals as goal

pub returns-in_default-clause-gone : goal.returns-in_default-clause-gone
returns-in_default-clause-gone g c = λ missed.
    lost_wider (IsMetadataBy c.args.g.now) (IsDirectoryRead c.args.g.now) (λ told v stands block is. by_metadata is) c.in_default.ensures.gone

pub returns-in_default-clause-fetched : goal.returns-in_default-clause-fetched
returns-in_default-clause-fetched g c = only_wider (IsMetadataBy c.args.g.now) (IsDirectoryRead c.args.g.now) (λ told v stands block is. by_metadata is) c.read_named.ensures.fetched

pub returns-in_default-named-clause-found : goal.returns-in_default-named-clause-found
returns-in_default-named-clause-found g c = λ could told v stands so_far.
    let gg = c.args.g.now in
    let none : (holds : Inode → Type 0) → IsDirectory c.args.g.now v c.args.i holds → ⊥ =
    λ holds. directory_none c.args.g.now v c.args.i holds (sym (c.in-Some.ensures.found told v stands) ∙ c.in_default-named.is) in
    links_passed gg v c.args.i _ _ none (λ entries. none (λ inode. (entries_of gg inode v).value ≡ Ok entries)) so_far

pub returns-in_default-named-clause-fetched : goal.returns-in_default-named-clause-fetched
returns-in_default-named-clause-fetched g c = only_wider (IsMetadataBy c.args.g.now) (IsDirectoryRead c.args.g.now) (λ told v stands block is. by_metadata is) c.read_named.ensures.fetched

pub returns-then-not-is_directory-clause-found : goal.returns-then-not-is_directory-clause-found
returns-then-not-is_directory-clause-found g c = λ could told v stands so_far.
    let gg = c.args.g.now in
    let there = sym (c.in-Some.ensures.found told v stands) ∙ c.in-Some-named.is in
    let none : (holds : Inode → Type 0) → IsDirectory c.args.g.now v c.args.i holds → ⊥ =
    λ holds h. (let kind = (directory_is gg v c.args.i holds c.in-Some-named.inode there h).0 in
    let no : true ≡ false = sym (c.is_directory.ensures.1 kind) ∙ c.if-not-is_directory.true in cc) in
    links_passed gg v c.args.i _ _ none (λ entries. none (λ inode. (entries_of gg inode v).value ≡ Ok entries)) so_far

pub returns-then-not-is_directory-clause-fetched : goal.returns-then-not-is_directory-clause-fetched
returns-then-not-is_directory-clause-fetched g c = only_wider (IsMetadataBy c.args.g.now) (IsDirectoryRead c.args.g.now) (λ told v stands block is. by_metadata is) c.read_named.ensures.fetched

pub returns-then-inode-ge-TOO_LONG-clause-found : goal.returns-then-inode-ge-TOO_LONG-clause-found
returns-then-inode-ge-TOO_LONG-clause-found g c = λ could told v stands so_far.
    let gg = c.args.g.now in
    let there = sym (c.in-Some.ensures.found told v stands) ∙ c.in-Some-named.is in
    let long : 2 ^ 32 ≤ c.in-Some-named.inode.size = omega arith in
    let unread = long_unread gg v c.args.i c.in-Some-named.inode there (c.is_directory.ensures.0 c.if-not-is_directory.false) long in record {
      kept = table_passed gg v c.args.i c.args.table.now unread so_far.kept;
      noted = record {
        blocks = long_passed gg v c.args.i c.in-Some-named.inode _ there long so_far.noted.blocks;
        entries = entries_passed gg v c.args.i _ unread so_far.noted.entries;
      };
    }

pub returns-then-inode-ge-TOO_LONG-clause-fetched : goal.returns-then-inode-ge-TOO_LONG-clause-fetched
returns-then-inode-ge-TOO_LONG-clause-fetched g c = only_wider (IsMetadataBy c.args.g.now) (IsDirectoryRead c.args.g.now) (λ told v stands block is. by_metadata is) c.read_named.ensures.fetched

pub returns-in_default-2-clause-gone : goal.returns-in_default-2-clause-gone
returns-in_default-2-clause-gone g c = λ missed.
    let first = c.read_named.ensures.keeps in
    let second = c.scan_directory.ensures.keeps in
    let kind = c.is_directory.ensures.0 c.if-not-is_directory.false in
    let small : c.in-Some-named.inode.size < 2 ^ 32 = omega arith in
    let gone = rw c.in_default-2.is at c.in_ok-scan.ensures.gone in
    lost_told (IsFileRead c.args.g.now c.in-Some-named.inode) (IsDirectoryRead c.args.g.now) first.blocks
    (λ told v stands. (
      first.stands v stands,
      λ block is. by_directory c.args.i (directory_there c.args.g.now v c.args.i (IsSmallRead c.args.g.now v block) c.in-Some-named.inode
          (sym (c.in-Some.ensures.found (second.told told) v stands) ∙ c.in-Some-named.is) kind (record { small = small; read = is })),
    )) gone

pub returns-in_err-scan-clause-fetched : goal.returns-in_err-scan-clause-fetched
returns-in_err-scan-clause-fetched g c =
    let first = c.read_named.ensures.keeps in
    let second = c.scan_directory.ensures.keeps in
    let kind = c.is_directory.ensures.0 c.if-not-is_directory.false in
    let small : c.in-Some-named.inode.size < 2 ^ 32 = omega arith in
    only_after g.met.V.View.fetched_both first.stands second.told
    (only_wider (IsMetadataBy c.args.g.now) (IsDirectoryRead c.args.g.now) (λ told v stands block is. by_metadata is) c.read_named.ensures.fetched)
    c.scan_directory.ensures.fetched
    (λ told v stands block is. by_directory c.args.i (directory_there c.args.g.now v c.args.i (IsSmallRead c.args.g.now v block) c.in-Some-named.inode
    (sym (c.in-Some.ensures.found (second.told told) v stands) ∙ c.in-Some-named.is) kind (record { small = small; read = is })))

pub returns-in_default-2-clause-fetched : goal.returns-in_default-2-clause-fetched
returns-in_default-2-clause-fetched g c =
    let first = c.read_named.ensures.keeps in
    let second = c.scan_directory.ensures.keeps in
    let kind = c.is_directory.ensures.0 c.if-not-is_directory.false in
    let small : c.in-Some-named.inode.size < 2 ^ 32 = omega arith in
    only_after g.met.V.View.fetched_both first.stands second.told
    (only_wider (IsMetadataBy c.args.g.now) (IsDirectoryRead c.args.g.now) (λ told v stands block is. by_metadata is) c.read_named.ensures.fetched)
    c.scan_directory.ensures.fetched
    (λ told v stands block is. by_directory c.args.i (directory_there c.args.g.now v c.args.i (IsSmallRead c.args.g.now v block) c.in-Some-named.inode
    (sym (c.in-Some.ensures.found (second.told told) v stands) ∙ c.in-Some-named.is) kind (record { small = small; read = is })))

pub returns-in_err-note_directory-clause-fetched : goal.returns-in_err-note_directory-clause-fetched
returns-in_err-note_directory-clause-fetched g c =
    let first = c.read_named.ensures.keeps in
    let second = c.scan_directory.ensures.keeps in
    let kind = c.is_directory.ensures.0 c.if-not-is_directory.false in
    let small : c.in-Some-named.inode.size < 2 ^ 32 = omega arith in
    only_after g.met.V.View.fetched_both first.stands second.told
    (only_wider (IsMetadataBy c.args.g.now) (IsDirectoryRead c.args.g.now) (λ told v stands block is. by_metadata is) c.read_named.ensures.fetched)
    c.scan_directory.ensures.fetched
    (λ told v stands block is. by_directory c.args.i (directory_there c.args.g.now v c.args.i (IsSmallRead c.args.g.now v block) c.in-Some-named.inode
    (sym (c.in-Some.ensures.found (second.told told) v stands) ∙ c.in-Some-named.is) kind (record { small = small; read = is })))

pub returns-clause-fetched : goal.returns-clause-fetched
returns-clause-fetched g c =
    let first = c.read_named.ensures.keeps in
    let second = c.scan_directory.ensures.keeps in
    let kind = c.is_directory.ensures.0 c.if-not-is_directory.false in
    let small : c.in-Some-named.inode.size < 2 ^ 32 = omega arith in
    only_after g.met.V.View.fetched_both first.stands second.told
    (only_wider (IsMetadataBy c.args.g.now) (IsDirectoryRead c.args.g.now) (λ told v stands block is. by_metadata is) c.read_named.ensures.fetched)
    c.scan_directory.ensures.fetched
    (λ told v stands block is. by_directory c.args.i (directory_there c.args.g.now v c.args.i (IsSmallRead c.args.g.now v block) c.in-Some-named.inode
    (sym (c.in-Some.ensures.found (second.told told) v stands) ∙ c.in-Some-named.is) kind (record { small = small; read = is })))

pub returns-clause-found : goal.returns-clause-found
returns-clause-found g c = λ could told v stands so_far.
    let first = c.read_named.ensures.keeps in
    let second = c.scan_directory.ensures.keeps in
    let there = sym (c.in-Some.ensures.found (second.told told) v stands) ∙ c.in-Some-named.is in
    let found = rw c.in-Some-2.is at c.in_ok-scan.ensures.found in
    c.in_ok-note_directory.ensures c.args.g.now v there (c.is_directory.ensures.0 c.if-not-is_directory.false) (found told v (first.stands v stands)) so_far

pub returns-in_err-scan-clause-keeps : goal.returns-in_err-scan-clause-keeps
returns-in_err-scan-clause-keeps g c =
    keeps_both g.met.V.View.further c.args.view.now c.read_named.new.view c.scan_directory.new.view c.read_named.ensures.keeps c.scan_directory.ensures.keeps

pub returns-in_default-2-clause-keeps : goal.returns-in_default-2-clause-keeps
returns-in_default-2-clause-keeps g c =
    keeps_both g.met.V.View.further c.args.view.now c.read_named.new.view c.scan_directory.new.view c.read_named.ensures.keeps c.scan_directory.ensures.keeps

pub returns-in_err-note_directory-clause-keeps : goal.returns-in_err-note_directory-clause-keeps
returns-in_err-note_directory-clause-keeps g c =
    keeps_both g.met.V.View.further c.args.view.now c.read_named.new.view c.scan_directory.new.view c.read_named.ensures.keeps c.scan_directory.ensures.keeps

pub returns-clause-keeps : goal.returns-clause-keeps
returns-clause-keeps g c =
    keeps_both g.met.V.View.further c.args.view.now c.read_named.new.view c.scan_directory.new.view c.read_named.ensures.keeps c.scan_directory.ensures.keeps

pub returns-in_default-named-clause-there : goal.returns-in_default-named-clause-there
returns-in_default-named-clause-there g c = λ could. record {
  each = λ told v stands b of. absurd (directory_none c.args.g.now v c.args.i (IsOfSmall c.args.g.now v b) (sym (c.in-Some.ensures.found told v stands) ∙ c.in_default-named.is) of);
}

pub returns-then-not-is_directory-clause-there : goal.returns-then-not-is_directory-clause-there
returns-then-not-is_directory-clause-there g c = λ could. record {
  each = λ told v stands b of.
      let there = sym (c.in-Some.ensures.found told v stands) ∙ c.in-Some-named.is in
      let kind = (directory_is c.args.g.now v c.args.i (IsOfSmall c.args.g.now v b) c.in-Some-named.inode there of).0 in
      absurd (let no : true ≡ false = sym (c.is_directory.ensures.1 kind) ∙ c.if-not-is_directory.true in cc);
}

pub returns-then-inode-ge-TOO_LONG-clause-there : goal.returns-then-inode-ge-TOO_LONG-clause-there
returns-then-inode-ge-TOO_LONG-clause-there g c = λ could. record {
  each = λ told v stands b of.
      let there = sym (c.in-Some.ensures.found told v stands) ∙ c.in-Some-named.is in
      let long : 2 ^ 32 ≤ c.in-Some-named.inode.size = omega arith in
      let small = (directory_is c.args.g.now v c.args.i (IsOfSmall c.args.g.now v b) c.in-Some-named.inode there of).1.small in
      absurd (omega (arith, long, small));
}

pub returns-clause-there : goal.returns-clause-there
returns-clause-there g c = λ could.
    let gg = c.args.g.now in
    let inode = c.in-Some-named.inode in
    let first = c.read_named.ensures.keeps in
    let second = c.scan_directory.ensures.keeps in
    let scanned = rw c.in-Some-2.is at c.in_ok-scan.ensures.there in
    there_along {other = IsBytesBlock gg inode 0 (block_count gg inode)} first.stays (λ h. h)
    (λ told v stands. (
      first.stands v stands,
      λ b of.
          let there = sym (c.in-Some.ensures.found (second.told told) v stands) ∙ c.in-Some-named.is in
          (directory_is gg v c.args.i (IsOfSmall gg v b) inode there of).1.read,
    )) scanned
