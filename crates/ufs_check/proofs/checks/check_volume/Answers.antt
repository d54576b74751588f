use Rattle.std.proofs.Common.{◌≡◌, ◌∙◌, false, true, refl, sym}
use Rattle.dg_io.specs.ViewLaws.{keeps_both}
use Rattle.ufs_model.specs.Metadata.{IsMetadataBy, IsStructure}
use Rattle.dg_claims.specs.Kept.{table_of}
use Rattle.dg_claims.specs.ThereLaws.{there_along}
use Rattle.ufs_check.proofs.NeedLaws.{needed_there}
use Rattle.ufs_check.specs.Needs.{IsDirectoryBlock}
use Rattle.ufs_check.specs.Directories.{IsDirectoryRead}
use Rattle.ufs_check.proofs.CheckLaws.{directories_only, metadata_only, metadata_structure}
use Rattle.ufs_check.proofs.PassLaws.{lost_told, only_both}
use Rattle.ufs_check.proofs.checks.check_volume.Goals as goal

pub returns-in_default-clause-gone : goal.returns-in_default-clause-gone
returns-in_default-clause-gone g c =
    let gg = c.args.g.now in
    let l = g.V.View.size c.args.view.now in
    let n = g.V.View.count c.args.view.now in
    let gone = rw c.in_default.is at c.in_ok-metadata.ensures.gone in
    lost_told (IsMetadataBy gg) (IsStructure l n) refl (λ told v on. ((on.0, on.1), λ block is. metadata_structure l n gg v block (on.2) is)) gone

pub returns-in_default-2-clause-gone : goal.returns-in_default-2-clause-gone
returns-in_default-2-clause-gone g c =
    let gg = c.args.g.now in
    let l = g.V.View.size c.args.view.now in
    let n = g.V.View.count c.args.view.now in
    let first = c.check_metadata.ensures.keeps in
    let second = c.check_tree.ensures.keeps in
    let metadata = rw c.in-Some.is at c.in_ok-metadata.ensures.found in
    let gone = rw c.in_default-2.is at c.in_ok-found.ensures.gone in
    lost_told (IsDirectoryRead gg) (IsStructure l n) first.blocks (λ told v on. (
      first.stands v (on.0),
      λ block read. c.directories_are_structure.ensures l n gg v block (on.2) ((metadata (second.told told) v (on.0, on.1)).whole) read,
    )) gone

pub returns-in_err-metadata-clause-fetched : goal.returns-in_err-metadata-clause-fetched
returns-in_err-metadata-clause-fetched g c =
    let gg = c.args.g.now in
    let l = g.V.View.size c.args.view.now in
    let n = g.V.View.count c.args.view.now in
    metadata_only l n gg (table_of c.args.claims.now) c.check_metadata.ensures.fetched

pub returns-in_default-clause-fetched : goal.returns-in_default-clause-fetched
returns-in_default-clause-fetched g c =
    let gg = c.args.g.now in
    let l = g.V.View.size c.args.view.now in
    let n = g.V.View.count c.args.view.now in
    metadata_only l n gg (table_of c.args.claims.now) c.check_metadata.ensures.fetched

pub returns-then-not-is_none-clause-fetched : goal.returns-then-not-is_none-clause-fetched
returns-then-not-is_none-clause-fetched g c =
    let gg = c.args.g.now in
    let l = g.V.View.size c.args.view.now in
    let n = g.V.View.count c.args.view.now in
    metadata_only l n gg (table_of c.args.claims.now) c.check_metadata.ensures.fetched

pub returns-in_err-found-clause-fetched : goal.returns-in_err-found-clause-fetched
returns-in_err-found-clause-fetched g c =
    let gg = c.args.g.now in
    let l = g.V.View.size c.args.view.now in
    let n = g.V.View.count c.args.view.now in
    let first = c.check_metadata.ensures.keeps in
    let second = c.check_tree.ensures.keeps in
    let metadata = rw c.in-Some.is at c.in_ok-metadata.ensures.found in
    only_both g.met.V.View.fetched_both (λ v on. on) second.told
    (metadata_only l n gg (table_of c.args.claims.now) c.check_metadata.ensures.fetched)
    (directories_only l n gg (table_of c.args.claims.now) c.directories_are_structure.ensures first.stands (λ told v on. (metadata (second.told told) v (on.0, on.1)).whole) c.check_tree.ensures.fetched)

pub returns-in_default-2-clause-fetched : goal.returns-in_default-2-clause-fetched
returns-in_default-2-clause-fetched g c =
    let gg = c.args.g.now in
    let l = g.V.View.size c.args.view.now in
    let n = g.V.View.count c.args.view.now in
    let first = c.check_metadata.ensures.keeps in
    let second = c.check_tree.ensures.keeps in
    let metadata = rw c.in-Some.is at c.in_ok-metadata.ensures.found in
    only_both g.met.V.View.fetched_both (λ v on. on) second.told
    (metadata_only l n gg (table_of c.args.claims.now) c.check_metadata.ensures.fetched)
    (directories_only l n gg (table_of c.args.claims.now) c.directories_are_structure.ensures first.stands (λ told v on. (metadata (second.told told) v (on.0, on.1)).whole) c.check_tree.ensures.fetched)

pub returns-clause-fetched : goal.returns-clause-fetched
returns-clause-fetched g c =
    let gg = c.args.g.now in
    let l = g.V.View.size c.args.view.now in
    let n = g.V.View.count c.args.view.now in
    let first = c.check_metadata.ensures.keeps in
    let second = c.check_tree.ensures.keeps in
    let metadata = rw c.in-Some.is at c.in_ok-metadata.ensures.found in
    only_both g.met.V.View.fetched_both (λ v on. on) second.told
    (metadata_only l n gg (table_of c.args.claims.now) c.check_metadata.ensures.fetched)
    (directories_only l n gg (table_of c.args.claims.now) c.directories_are_structure.ensures first.stands (λ told v on. (metadata (second.told told) v (on.0, on.1)).whole) c.check_tree.ensures.fetched)

pub returns-clause-found : goal.returns-clause-found
returns-clause-found g c =
    let first = c.check_metadata.ensures.keeps in
    let second = c.check_tree.ensures.keeps in
    let metadata = rw c.in-Some.is at c.in_ok-metadata.ensures.found in
    let tree = rw c.in-Some-2.is at c.in_ok-found.ensures.found in
    λ told v claimed. record {
      metadata = metadata (second.told told) v claimed;
      tree = λ nothing. (tree told v (first.stands v (claimed.0))).0;
    }

pub returns-then-not-is_none-clause-found : goal.returns-then-not-is_none-clause-found
returns-then-not-is_none-clause-found g c =
    let metadata = rw c.in-Some.is at c.in_ok-metadata.ensures.found in
    λ told v claimed. record {
      metadata = metadata told v claimed;
      tree = λ nothing. absurd (let no : false ≡ true = sym c.if-not-is_none.true ∙ c.is_none.ensures ∙ nothing in cc);
    }

pub returns-clause-keeps : goal.returns-clause-keeps
returns-clause-keeps g c =
    keeps_both g.met.V.View.further c.args.view.now c.check_metadata.new.view c.check_tree.new.view c.check_metadata.ensures.keeps c.check_tree.ensures.keeps

pub returns-then-not-is_none-clause-metadata : goal.returns-then-not-is_none-clause-metadata
returns-then-not-is_none-clause-metadata g c = let there = rw c.in-Some.is at c.in_ok-metadata.ensures.there in there

pub returns-then-not-is_none-clause-there : goal.returns-then-not-is_none-clause-there
returns-then-not-is_none-clause-there g c = λ nothing. absurd (let no : false ≡ true = sym c.if-not-is_none.true ∙ c.is_none.ensures ∙ nothing in cc)

pub returns-clause-metadata : goal.returns-clause-metadata
returns-clause-metadata g c =
    let there = rw c.in-Some.is at c.in_ok-metadata.ensures.there in
    there_along {other = IsMetadataBy c.args.g.now} (λ b h. h) c.check_tree.ensures.keeps.told (λ told v claimed. (claimed, λ b h. h)) there

pub returns-clause-there : goal.returns-clause-there
returns-clause-there g c = λ nothing.
    let gg = c.args.g.now in
    let first = c.check_metadata.ensures.keeps in
    let metadata = rw c.in-Some.is at c.in_ok-metadata.ensures.there in
    let tree = rw c.in-Some-2.is at c.in_ok-found.ensures.there in
    needed_there gg
    (there_along {other = IsMetadataBy gg} (λ b h. h) c.check_tree.ensures.keeps.told (λ told v claimed. (claimed, λ b h. h)) metadata)
    (there_along {other = IsDirectoryBlock gg} first.stays (λ h. h) (λ told v claimed. (first.stands v (claimed.0), λ b h. h)) tree)
