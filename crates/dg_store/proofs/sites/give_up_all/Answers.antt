use Rattle.std.proofs.Common.{◌<◌, List, length, refl, subst}
use Rattle.std.specs.List.{Contains}
use Rattle.dg_model.specs.declared.sites.Site.{Site}
use Rattle.dg_model.proofs.SiteLists.{count_pos}
use Rattle.dg_store.proofs.TableLemmas.{fewer_sites, shaped_within, with_less, with_same}
use Rattle.dg_store.proofs.sites.give_up_all.Goals as goal

pub loop-last-init : goal.loop-last-init
loop-last-init c = record { table = c.requires.table; now = with_same c.args.map.now c.args.block }

pub drop_site-requires-clause-boundary : goal.drop_site-requires-clause-boundary
drop_site-requires-clause-boundary c = c.loop-last.invariant.table.boundaries c.args.block _ _ (subst (λ (xs : List Site). Contains xs c.in-Some.last) c.sites.ensures.sites c.in-Some.ensures.last)

pub drop_site-requires-clause-one : goal.drop_site-requires-clause-one
drop_site-requires-clause-one c = count_pos _ _ c.in-Some.last (subst (λ (xs : List Site). Contains xs c.in-Some.last) c.sites.ensures.sites c.in-Some.ensures.last) refl

pub loop-last-preserved : goal.loop-last-preserved
loop-last-preserved c =
    let is = c.loop-last.invariant.now in
    let within : c.args.block < length c.loop-last.map.rows = shaped_within c.args.map.now c.loop-last.map c.args.block is c.loop-last.invariant.table c.requires.within in
    record { table = c.drop_site.ensures.table; now = with_less c.args.map.now c.loop-last.map c.drop_site.new.self c.args.block c.in-Some.last.boundary within is c.drop_site.ensures.dropped }

pub loop-last-smaller : goal.loop-last-smaller
loop-last-smaller c =
    let within : c.args.block < length c.loop-last.map.rows = shaped_within c.args.map.now c.loop-last.map c.args.block c.loop-last.invariant.now c.loop-last.invariant.table c.requires.within in
    fewer_sites c.loop-last.map c.drop_site.new.self c.args.block c.in-Some.last within (subst (λ (xs : List Site). Contains xs c.in-Some.last) c.sites.ensures.sites c.in-Some.ensures.last) c.drop_site.ensures.dropped
