use Rattle.dg_map.proofs.MapLemmas.{block_in_range, block_of, none_past}
use Rattle.dg_map.proofs.maps.Map.block_at.Goals as goal

pub returns-then-site-self-clause-block : goal.returns-then-site-self-clause-block
returns-then-site-self-clause-block c = none_past c.self.inside c.self.invariant c.args.self.now c.self.view_is c.args.site.boundary c.args.site.slot c.if-site-self.true

pub returns-clause-block : goal.returns-clause-block
returns-clause-block c = block_of c.self.inside c.self.invariant c.args.self.now c.self.view_is c.args.site.boundary c.args.site.slot c.index.result.now c.block_at.result c.if-site-self.false c.index.ensures c.block_at.ensures

pub returns-clause-within : goal.returns-clause-within
returns-clause-within c = block_in_range c.self.inside c.self.invariant c.args.self.now c.self.view_is c.args.site.boundary c.args.site.slot c.block_at.result (block_of c.self.inside c.self.invariant c.args.self.now c.self.view_is c.args.site.boundary c.args.site.slot c.index.result.now c.block_at.result c.if-site-self.false c.index.ensures c.block_at.ensures)
