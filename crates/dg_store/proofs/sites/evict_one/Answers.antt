use Rattle.dg_store.proofs.SitesGivenUp.{last_of, last_within, last_counts}
use Rattle.dg_store.proofs.sites.evict_one.Goals as goal

pub drop_site-requires-clause-boundary : goal.drop_site-requires-clause-boundary
drop_site-requires-clause-boundary c =
    last_within c.args.map.now c.least_spread-spread.result c.last_site-site.result c.least_spread-spread.ensures c.sites.result.now c.sites.ensures.sites c.last_site-site.ensures c.requires.table

pub drop_site-requires-clause-one : goal.drop_site-requires-clause-one
drop_site-requires-clause-one c =
    last_counts c.args.map.now c.least_spread-spread.result c.last_site-site.result c.least_spread-spread.ensures c.sites.result.now c.sites.ensures.sites c.last_site-site.ensures

pub returns-clause-evicted : goal.returns-clause-evicted
returns-clause-evicted c = record {
  given = record { block = c.least_spread-spread.result; site = c.last_site-site.result };
  least = c.least_spread-spread.ensures;
  last = last_of c.args.map.now c.least_spread-spread.result c.last_site-site.result c.least_spread-spread.ensures c.sites.result.now c.sites.ensures.sites c.last_site-site.ensures;
  left = c.drop_site.ensures.dropped;
  listed = c.in-Ok.ensures.items;
}
