use Rattle.std.proofs.Common.{◌∙◌, ap, arith, length, [], refl, sym}
use Rattle.dg_save.specs.Decodes.{HasParts}
use Rattle.dg_save.specs.States.{state_of}
use Rattle.std.specs.Prelude.{Err}
use Rattle.std.proofs.lemmas.Result.{err_from_is_err_and}
use Rattle.dg_save.proofs.BodyLemmas.{blocks_of, body_parts, good_of, parts_join, rest_of, rest_once, was_malformed}
use Rattle.dg_save.proofs.PartLemmas.{behind, block_lists_once, home_lists_once, lists_once, marks_once, phases_once}
use Rattle.dg_save.proofs.decodes.read_state.Goals as goal

pub returns-in_err-phase-clause-malformed : goal.returns-in_err-phase-clause-malformed
returns-in_err-phase-clause-malformed c = λ m saved has says.
    let p = err_from_is_err_and c.from_residual.result c.from_residual.ensures.1 in
    let bad = was_malformed _ _ _ p.1 p.2 m in
    let e0 = c.new-reader.ensures ∙ says ∙ body_parts _ _ saved c.requires has in
    c.in_err-phase.ensures.malformed (ap Err bad) saved.phase _ tt e0

pub returns-in_err-good-clause-malformed : goal.returns-in_err-good-clause-malformed
returns-in_err-good-clause-malformed c = λ m saved has says.
    let p = err_from_is_err_and c.from_residual-in_err-good.result c.from_residual-in_err-good.ensures.1 in
    let bad = was_malformed _ _ _ p.1 p.2 m in
    let e0 = c.new-reader.ensures ∙ says ∙ body_parts _ _ saved c.requires has in
    let e1 = behind phases_once _ saved.phase _ _ _ tt tt c.in_ok-phase.ensures.read e0 in
    c.in_err-good.ensures.malformed (ap Err bad) saved.good _ (good_of _ _ saved has) e1

pub returns-in_err-sites-clause-malformed : goal.returns-in_err-sites-clause-malformed
returns-in_err-sites-clause-malformed c = λ m saved has says.
    let p = err_from_is_err_and c.from_residual-in_err-sites.result c.from_residual-in_err-sites.ensures.1 in
    let bad = was_malformed _ _ _ p.1 p.2 m in
    let e0 = c.new-reader.ensures ∙ says ∙ body_parts _ _ saved c.requires has in
    let e1 = behind phases_once _ saved.phase _ _ _ tt tt c.in_ok-phase.ensures.read e0 in
    let e2 = behind (lists_once marks_once _) _ saved.good _ _ _ c.in_ok-good.ensures.fits (good_of _ _ saved has) c.in_ok-good.ensures.read e1 in
    c.in_err-sites.ensures.malformed (ap Err bad) (saved.table.rows, saved.pending) _ (blocks_of _ _ saved has) e2

pub returns-in_err-homes-clause-malformed : goal.returns-in_err-homes-clause-malformed
returns-in_err-homes-clause-malformed c = λ m saved has says.
    let p = err_from_is_err_and c.from_residual-in_err-homes.result c.from_residual-in_err-homes.ensures.1 in
    let bad = was_malformed _ _ _ p.1 p.2 m in
    let e0 = c.new-reader.ensures ∙ says ∙ body_parts _ _ saved c.requires has in
    let e1 = behind phases_once _ saved.phase _ _ _ tt tt c.in_ok-phase.ensures.read e0 in
    let e2 = behind (lists_once marks_once _) _ saved.good _ _ _ c.in_ok-good.ensures.fits (good_of _ _ saved has) c.in_ok-good.ensures.read e1 in
    let e3 = behind (block_lists_once _) _ (saved.table.rows, saved.pending) _ _ _ c.in_ok-sites.ensures.fits (blocks_of _ _ saved has) c.in_ok-sites.ensures.read e2 in
    c.in_err-homes.ensures.malformed (ap Err bad) saved.homes _ has.spelled.homes e3

pub returns-in_err-copies-clause-malformed : goal.returns-in_err-copies-clause-malformed
returns-in_err-copies-clause-malformed c = λ m saved has says.
    let p = err_from_is_err_and c.from_residual-in_err-copies.result c.from_residual-in_err-copies.ensures.1 in
    let bad = was_malformed _ _ _ p.1 p.2 m in
    let e0 = c.new-reader.ensures ∙ says ∙ body_parts _ _ saved c.requires has in
    let e1 = behind phases_once _ saved.phase _ _ _ tt tt c.in_ok-phase.ensures.read e0 in
    let e2 = behind (lists_once marks_once _) _ saved.good _ _ _ c.in_ok-good.ensures.fits (good_of _ _ saved has) c.in_ok-good.ensures.read e1 in
    let e3 = behind (block_lists_once _) _ (saved.table.rows, saved.pending) _ _ _ c.in_ok-sites.ensures.fits (blocks_of _ _ saved has) c.in_ok-sites.ensures.read e2 in
    let e4 = behind home_lists_once _ saved.homes _ _ _ c.in_ok-homes.ensures.fits has.spelled.homes c.in_ok-homes.ensures.read e3 in
    c.in_err-copies.ensures.malformed (ap Err bad) (saved.copies, saved.recent) _ (rest_of _ _ saved has) e4

pub returns-then-len-gt0-clause-malformed : goal.returns-then-len-gt0-clause-malformed
returns-then-len-gt0-clause-malformed c = λ m saved has says.
    let e0 = c.new-reader.ensures ∙ says ∙ body_parts _ _ saved c.requires has in
    let e1 = behind phases_once _ saved.phase _ _ _ tt tt c.in_ok-phase.ensures.read e0 in
    let e2 = behind (lists_once marks_once _) _ saved.good _ _ _ c.in_ok-good.ensures.fits (good_of _ _ saved has) c.in_ok-good.ensures.read e1 in
    let e3 = behind (block_lists_once _) _ (saved.table.rows, saved.pending) _ _ _ c.in_ok-sites.ensures.fits (blocks_of _ _ saved has) c.in_ok-sites.ensures.read e2 in
    let e4 = behind home_lists_once _ saved.homes _ _ _ c.in_ok-homes.ensures.fits has.spelled.homes c.in_ok-homes.ensures.read e3 in
    let e5 = behind (rest_once _ c.requires) _ (saved.copies, saved.recent) _ _ [] c.in_ok-copies.ensures.fits (rest_of _ _ saved has) c.in_ok-copies.ensures.read e4 in
    absurd (omega (arith, ap length e5, c.len.ensures))

pub returns-clause-says : goal.returns-clause-says
returns-clause-says c =
    let has : HasParts c.args.format c.args.shape.now (state_of (record {
      shape = c.args.shape.now;
      phase = c.in_ok-phase.phase;
      good = c.in_ok-good.good;
      sites = c.in_ok-sites.sites;
      pending = c.in_ok-sites.pending;
      homes = c.in_ok-homes.homes;
      copies = c.in_ok-copies.copies;
      recent = c.in_ok-copies.recent;
    })) = record {
      spelled = record {
        numbers = refl;
        members = c.in_ok-good.ensures.fits.many;
        blocks = c.in_ok-sites.ensures.fits.lists;
        sites = c.in_ok-sites.ensures.fits.sites;
        marks = c.in_ok-sites.ensures.fits.marks;
        homes = c.in_ok-homes.ensures.fits;
        copies = c.in_ok-copies.ensures.fits.copies;
        recent = c.in_ok-copies.ensures.fits.recent;
      };
      no_copies = c.in_ok-copies.ensures.fits.no_copies;
      no_recent = c.in_ok-copies.ensures.fits.no_recent;
    } in
    record {
      parts = has;
      says = parts_join _ _ _ _ _ _ _ _ _ c.requires has (sym c.new-reader.ensures ∙ c.in_ok-phase.ensures.read) c.in_ok-good.ensures.read
          c.in_ok-sites.ensures.read c.in_ok-homes.ensures.read c.in_ok-copies.ensures.read (omega (arith, c.len.ensures));
    }
