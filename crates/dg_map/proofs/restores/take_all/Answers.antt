use Rattle.std.proofs.Common.{◌<◌, ◌+◌, get_or, length, refl, sym, ◌∙◌, ap, subst, arith}
use Rattle.dg_model.specs.Tables.{IsFree, Table, count_on, put_site, sites_in}
use Rattle.dg_map.proofs.RestoreLemmas.{no_site, put_next, put_none, still_free, still_none}
use Rattle.dg_map.proofs.restores.take_all.Goals as goal

pub loop-site-init : goal.loop-site-init
loop-site-init c =
    let long : c.args.block < length c.args.map.now.rows = omega (arith, c.requires.table.size, c.requires.can.within) in
    record { now = put_none c.args.map.now c.args.block c.args.sites.now c.requires.can long; table = c.requires.table }

pub retake-requires-clause-free : goal.retake-requires-clause-free
retake-requires-clause-free c =
    let old = c.args.map.now in
    let long : c.args.block < length old.rows = omega (arith, c.requires.table.size, c.requires.can.within) in
    let site = get_or c.args.sites.now c.loop-site.site-index no_site in
    subst (λ (t : Table). IsFree t site.boundary site.slot) (sym c.loop-site.invariant.now)
    (still_free old c.args.block c.args.sites.now c.requires.can long c.loop-site.site-index no_site c.loop-site-test.true)

pub retake-requires-clause-none : goal.retake-requires-clause-none
retake-requires-clause-none c =
    let old = c.args.map.now in
    let long : c.args.block < length old.rows = omega (arith, c.requires.table.size, c.requires.can.within) in
    let site = get_or c.args.sites.now c.loop-site.site-index no_site in
    ap (λ (t : Table). count_on site.boundary (sites_in t c.args.block)) c.loop-site.invariant.now
    ∙ still_none old c.args.block c.args.sites.now c.requires.can long c.loop-site.site-index no_site c.loop-site-test.true

pub loop-site-preserved : goal.loop-site-preserved
loop-site-preserved c =
    let old = c.args.map.now in
    let long : c.args.block < length old.rows = omega (arith, c.requires.table.size, c.requires.can.within) in
    let site = get_or c.args.sites.now c.loop-site.site-index no_site in
    record {
      now = c.in_ok-retake.ensures.taken
          ∙ ap (λ (t : Table). put_site t c.args.block site) c.loop-site.invariant.now
          ∙ put_next old c.args.block c.args.sites.now c.requires.can long c.loop-site.site-index (c.loop-site.site-index + 1) no_site c.loop-site-test.true refl;
      table = c.retake.ensures.table;
    }
