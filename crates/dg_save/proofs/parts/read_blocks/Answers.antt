use Rattle.std.proofs.Common.{ap, ◌∙◌, [], ◌∷◌}
use Rattle.std.specs.Prelude.{Err}
use Rattle.std.specs.Global.{Vec}
use Rattle.std.proofs.lemmas.List.{map-append}
use Rattle.dg_model.specs.declared.sites.Site.{Site}
use Rattle.dg_save.specs.Parts.{rows_in}
use Rattle.std.proofs.lemmas.Result.{err_from_is_err_and}
use Rattle.dg_save.proofs.PartLemmas.{blocks_more, blocks_refused, failed}
use Rattle.dg_save.proofs.parts.read_blocks.Goals as goal

pub returns-in_err-sites : goal.returns-in_err-sites
returns-in_err-sites c =
    let p = err_from_is_err_and c.from_residual-in_err-sites.result c.from_residual-in_err-sites.ensures.1 in
    failed _ _ _ _ _ _ _ _ p.1 p.2
    (λ m. blocks_refused _ _ _ _ _ _ c.loop-block.invariant c.loop-block-test.true (c.in_err-sites.ensures.malformed (ap Err m)))

pub loop-block-preserved : goal.loop-block-preserved
loop-block-preserved c =
    blocks_more _ _ _ _ _ _ _ _ _ _ c.loop-block.invariant c.in_ok-sites.ensures.fits c.in_ok-sites.ensures.read
    (ap rows_in c.in_ok-push.ensures.items ∙ map-append (λ (v : Vec Site). v.items) c.loop-block.lists.items (c.in_ok-sites.sites ∷ []))
    c.in_ok-push-2.ensures.items
