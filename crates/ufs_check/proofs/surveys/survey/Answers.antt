use Rattle.std.proofs.Common.{◌∙◌, refl}
use Rattle.dg_io.specs.ViewLaws.{keeps_both}
use Rattle.ufs_model.specs.Metadata.{IsMetadataBy, IsStructure}
use Rattle.dg_claims.specs.Kept.{table_of}
use Rattle.dg_claims.specs.ThereLaws.{there_along}
use Rattle.ufs_check.proofs.NeedLaws.{needed_there}
use Rattle.ufs_check.specs.Needs.{IsDirectoryBlock}
use Rattle.ufs_check.specs.Directories.{IsDirectoryRead}
use Rattle.ufs_check.proofs.CheckLaws.{directories_only, metadata_only, metadata_structure}
use Rattle.ufs_check.proofs.SurveyLaws.{notes_only}
use Rattle.ufs_check.proofs.PassLaws.{lost_told, only_both}
use Rattle.ufs_check.proofs.surveys.survey.Goals as goal

pub returns-in_default-clause-gone : goal.returns-in_default-clause-gone
returns-in_default-clause-gone g c =
    let gg = c.args.g.now in
    let l = g.V.View.size c.args.view.now in
    let n = g.V.View.count c.args.view.now in
    let gone = rw c.in_default.is at c.in_ok-metadata.ensures.gone in
    lost_told (IsMetadataBy gg) (IsStructure l n) refl (λ told v on. ((on.0, on.1), λ block is. metadata_structure l n gg v block (on.2) is)) gone

pub returns-in_default-2-clause-gone : goal.returns-in_default-2-clause-gone
returns-in_default-2-clause-gone g c =
    let gg = c.args.g.now in
    let l = g.V.View.size c.args.view.now in
    let n = g.V.View.count c.args.view.now in
    let first = c.check_metadata.ensures.keeps in
    let second = c.check_tree.ensures.keeps in
    let metadata = rw c.in-Some.is at c.in_ok-metadata.ensures.found in
    let gone = rw c.in_default-2.is at c.in_ok-found.ensures.gone in
    lost_told (IsDirectoryRead gg) (IsStructure l n) first.blocks (λ told v on. (
      first.stands v (on.0),
      λ block read. c.directories_are_structure.ensures l n gg v block (on.2) ((metadata (second.told told) v (on.0, on.1)).whole) read,
    )) gone

pub returns-in_default-3-clause-gone : goal.returns-in_default-3-clause-gone
returns-in_default-3-clause-gone g c =
    let gg = c.args.g.now in
    let l = g.V.View.size c.args.view.now in
    let n = g.V.View.count c.args.view.now in
    let first = c.check_metadata.ensures.keeps in
    let second = c.check_tree.ensures.keeps in
    let gone = rw c.in_default-3.is at c.in_ok-notes.ensures.gone in
    lost_told (IsMetadataBy gg) (IsStructure l n) (second.blocks ∙ first.blocks)
    (λ told v on. (second.stands v (first.stands v (on.0)), λ block is. metadata_structure l n gg v block (on.2) is)) gone

pub returns-in_err-metadata-clause-fetched : goal.returns-in_err-metadata-clause-fetched
returns-in_err-metadata-clause-fetched g c =
    let gg = c.args.g.now in
    let l = g.V.View.size c.args.view.now in
    let n = g.V.View.count c.args.view.now in
    metadata_only l n gg (table_of c.args.claims.now) c.check_metadata.ensures.fetched

pub returns-in_default-clause-fetched : goal.returns-in_default-clause-fetched
returns-in_default-clause-fetched g c =
    let gg = c.args.g.now in
    let l = g.V.View.size c.args.view.now in
    let n = g.V.View.count c.args.view.now in
    metadata_only l n gg (table_of c.args.claims.now) c.check_metadata.ensures.fetched

pub returns-in_err-found-clause-fetched : goal.returns-in_err-found-clause-fetched
returns-in_err-found-clause-fetched g c =
    let gg = c.args.g.now in
    let l = g.V.View.size c.args.view.now in
    let n = g.V.View.count c.args.view.now in
    let first = c.check_metadata.ensures.keeps in
    let second = c.check_tree.ensures.keeps in
    let metadata = rw c.in-Some.is at c.in_ok-metadata.ensures.found in
    only_both g.met.V.View.fetched_both (λ v on. on) second.told
    (metadata_only l n gg (table_of c.args.claims.now) c.check_metadata.ensures.fetched)
    (directories_only l n gg (table_of c.args.claims.now) c.directories_are_structure.ensures first.stands (λ told v on. (metadata (second.told told) v (on.0, on.1)).whole) c.check_tree.ensures.fetched)

pub returns-in_default-2-clause-fetched : goal.returns-in_default-2-clause-fetched
returns-in_default-2-clause-fetched g c =
    let gg = c.args.g.now in
    let l = g.V.View.size c.args.view.now in
    let n = g.V.View.count c.args.view.now in
    let first = c.check_metadata.ensures.keeps in
    let second = c.check_tree.ensures.keeps in
    let metadata = rw c.in-Some.is at c.in_ok-metadata.ensures.found in
    only_both g.met.V.View.fetched_both (λ v on. on) second.told
    (metadata_only l n gg (table_of c.args.claims.now) c.check_metadata.ensures.fetched)
    (directories_only l n gg (table_of c.args.claims.now) c.directories_are_structure.ensures first.stands (λ told v on. (metadata (second.told told) v (on.0, on.1)).whole) c.check_tree.ensures.fetched)

pub returns-in_err-notes-clause-fetched : goal.returns-in_err-notes-clause-fetched
returns-in_err-notes-clause-fetched g c =
    let gg = c.args.g.now in
    let l = g.V.View.size c.args.view.now in
    let n = g.V.View.count c.args.view.now in
    let first = c.check_metadata.ensures.keeps in
    let second = c.check_tree.ensures.keeps in
    let third = c.find_notes.ensures.keeps in
    let metadata = rw c.in-Some.is at c.in_ok-metadata.ensures.found in
    only_both g.met.V.View.fetched_both (λ v on. on) third.told
    (only_both g.met.V.View.fetched_both (λ v on. on) second.told
    (metadata_only l n gg (table_of c.args.claims.now) c.check_metadata.ensures.fetched)
    (directories_only l n gg (table_of c.args.claims.now) c.directories_are_structure.ensures first.stands (λ told v on. (metadata (second.told told) v (on.0, on.1)).whole) c.check_tree.ensures.fetched))
    (notes_only l n gg (table_of c.args.claims.now) (λ v stands. second.stands v (first.stands v stands)) c.find_notes.ensures.fetched)

pub returns-in_default-3-clause-fetched : goal.returns-in_default-3-clause-fetched
returns-in_default-3-clause-fetched g c =
    let gg = c.args.g.now in
    let l = g.V.View.size c.args.view.now in
    let n = g.V.View.count c.args.view.now in
    let first = c.check_metadata.ensures.keeps in
    let second = c.check_tree.ensures.keeps in
    let third = c.find_notes.ensures.keeps in
    let metadata = rw c.in-Some.is at c.in_ok-metadata.ensures.found in
    only_both g.met.V.View.fetched_both (λ v on. on) third.told
    (only_both g.met.V.View.fetched_both (λ v on. on) second.told
    (metadata_only l n gg (table_of c.args.claims.now) c.check_metadata.ensures.fetched)
    (directories_only l n gg (table_of c.args.claims.now) c.directories_are_structure.ensures first.stands (λ told v on. (metadata (second.told told) v (on.0, on.1)).whole) c.check_tree.ensures.fetched))
    (notes_only l n gg (table_of c.args.claims.now) (λ v stands. second.stands v (first.stands v stands)) c.find_notes.ensures.fetched)

pub returns-clause-fetched : goal.returns-clause-fetched
returns-clause-fetched g c =
    let gg = c.args.g.now in
    let l = g.V.View.size c.args.view.now in
    let n = g.V.View.count c.args.view.now in
    let first = c.check_metadata.ensures.keeps in
    let second = c.check_tree.ensures.keeps in
    let third = c.find_notes.ensures.keeps in
    let metadata = rw c.in-Some.is at c.in_ok-metadata.ensures.found in
    only_both g.met.V.View.fetched_both (λ v on. on) third.told
    (only_both g.met.V.View.fetched_both (λ v on. on) second.told
    (metadata_only l n gg (table_of c.args.claims.now) c.check_metadata.ensures.fetched)
    (directories_only l n gg (table_of c.args.claims.now) c.directories_are_structure.ensures first.stands (λ told v on. (metadata (second.told told) v (on.0, on.1)).whole) c.check_tree.ensures.fetched))
    (notes_only l n gg (table_of c.args.claims.now) (λ v stands. second.stands v (first.stands v stands)) c.find_notes.ensures.fetched)

pub returns-clause-found : goal.returns-clause-found
returns-clause-found g c =
    let first = c.check_metadata.ensures.keeps in
    let second = c.check_tree.ensures.keeps in
    let third = c.find_notes.ensures.keeps in
    let metadata = rw c.in-Some.is at c.in_ok-metadata.ensures.found in
    let tree = rw c.in-Some-2.is at c.in_ok-found.ensures.found in
    let notes = rw c.in-Some-3.is at c.in_ok-notes.ensures.found in
    λ told v claimed.
    let found = tree (third.told told) v (first.stands v (claimed.0)) in record {
      faults = record { metadata = metadata (second.told (third.told told)) v claimed; tree = found.0 };
      notes = notes told v (second.stands v (first.stands v (claimed.0)), claimed.1) (found.1);
    }

pub returns-in_err-found-clause-keeps : goal.returns-in_err-found-clause-keeps
returns-in_err-found-clause-keeps g c =
    keeps_both g.met.V.View.further c.args.view.now c.check_metadata.new.view c.check_tree.new.view c.check_metadata.ensures.keeps c.check_tree.ensures.keeps

pub returns-in_default-2-clause-keeps : goal.returns-in_default-2-clause-keeps
returns-in_default-2-clause-keeps g c =
    keeps_both g.met.V.View.further c.args.view.now c.check_metadata.new.view c.check_tree.new.view c.check_metadata.ensures.keeps c.check_tree.ensures.keeps

pub returns-in_err-notes-clause-keeps : goal.returns-in_err-notes-clause-keeps
returns-in_err-notes-clause-keeps g c =
    keeps_both g.met.V.View.further c.args.view.now c.check_tree.new.view c.find_notes.new.view
    (keeps_both g.met.V.View.further c.args.view.now c.check_metadata.new.view c.check_tree.new.view c.check_metadata.ensures.keeps c.check_tree.ensures.keeps) c.find_notes.ensures.keeps

pub returns-in_default-3-clause-keeps : goal.returns-in_default-3-clause-keeps
returns-in_default-3-clause-keeps g c =
    keeps_both g.met.V.View.further c.args.view.now c.check_tree.new.view c.find_notes.new.view
    (keeps_both g.met.V.View.further c.args.view.now c.check_metadata.new.view c.check_tree.new.view c.check_metadata.ensures.keeps c.check_tree.ensures.keeps) c.find_notes.ensures.keeps

pub returns-clause-keeps : goal.returns-clause-keeps
returns-clause-keeps g c =
    keeps_both g.met.V.View.further c.args.view.now c.check_tree.new.view c.find_notes.new.view
    (keeps_both g.met.V.View.further c.args.view.now c.check_metadata.new.view c.check_tree.new.view c.check_metadata.ensures.keeps c.check_tree.ensures.keeps) c.find_notes.ensures.keeps

pub returns-clause-there : goal.returns-clause-there
returns-clause-there g c =
    let gg = c.args.g.now in
    let first = c.check_metadata.ensures.keeps in
    let second = c.check_tree.ensures.keeps in
    let third = c.find_notes.ensures.keeps in
    let metadata = rw c.in-Some.is at c.in_ok-metadata.ensures.there in
    let tree = rw c.in-Some-2.is at c.in_ok-found.ensures.there in
    needed_there gg
    (there_along {other = IsMetadataBy gg} (λ b h. h) (λ told. second.told (third.told told)) (λ told v claimed. (claimed, λ b h. h)) metadata)
    (there_along {other = IsDirectoryBlock gg} first.stays third.told (λ told v claimed. (first.stands v (claimed.0), λ b h. h)) tree)
