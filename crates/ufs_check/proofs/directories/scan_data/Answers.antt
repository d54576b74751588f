use Rattle.std.proofs.Common.{◌≡◌, ◌∙◌, false, refl, sym, ap}
use Rattle.std.specs.List.{list_any}
use Rattle.ufs_model.specs.Paths.{chunks_in}
use Rattle.ufs_check.specs.Entries.{is_refused}
use Rattle.ufs_check.proofs.DirectoryLaws.{data_passed, data_refused, data_whole}
use Rattle.ufs_check.proofs.OwnedLaws.{if_ok}
use Rattle.ufs_check.proofs.directories.scan_data.Goals as goal

pub returns-then-has_refused-clause-found : goal.returns-then-has_refused-clause-found
returns-then-has_refused-clause-found g c = λ could told v stands.
    data_refused c.args.g.now v c.args.count c.args.levels.now.block c.args.scan.now _
    (ap (λ bytes. list_any (is_refused c.args.g.now.endian) (chunks_in c.args.count bytes)) (sym c.block.ensures) ∙ sym c.has_refused.ensures ∙ c.if-has_refused.true) refl refl refl

pub returns-then-not-scan-clause-found : goal.returns-then-not-scan-clause-found
returns-then-not-scan-clause-found g c = λ could told v stands.
    data_passed c.args.g.now v c.args.count c.args.levels.now.block c.args.scan.now
    (ap (λ bytes. list_any (is_refused c.args.g.now.endian) (chunks_in c.args.count bytes)) (sym c.block.ensures) ∙ sym c.has_refused.ensures ∙ c.if-has_refused.false) c.if-not-scan.true

pub returns-clause-found : goal.returns-clause-found
returns-clause-found g c =
    if_ok c.gather_chunks.result _ _ (λ could found is told v stands.
    data_whole c.args.g.now v c.args.count c.args.levels.now.block c.args.scan.now _
    (ap (λ bytes. list_any (is_refused c.args.g.now.endian) (chunks_in c.args.count bytes)) (sym c.block.ensures) ∙ sym c.has_refused.ensures ∙ c.if-has_refused.false)
    refl refl refl (found is told v stands)) c.gather_chunks.ensures.found
