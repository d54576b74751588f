use Rattle.std.proofs.Common.{◌∙◌, ◌/◌, ap}
use Rattle.std.specs.Int.{div_ceil}
use Rattle.ufs_pointer.proofs.SuperLaws.{geometry_fetched, geometry_lost, geometry_unfetched}
use Rattle.ufs_pointer.proofs.superblocks.read_geometry.Goals as goal

pub returns-then-not-read_within-clause-fetched : goal.returns-then-not-read_within-clause-fetched
returns-then-not-read_within-clause-fetched g c =
    let l = c.fragment_bytes-l.ensures.value ∙ c.requires.fragment in
    geometry_unfetched (g.V.View.size c.args.view.now) (g.V.View.count c.args.view.now) _ _ (ap (λ l. 8192 / l) l) (c.div_ceil.ensures ∙ ap (λ l. div_ceil 1376 l) l)
    c.if-not-read_within.ensures.fetched

pub returns-clause-fetched : goal.returns-clause-fetched
returns-clause-fetched g c =
    let l = c.fragment_bytes-l.ensures.value ∙ c.requires.fragment in
    let n = c.shape-n.ensures.count in
    geometry_fetched (g.V.View.size c.args.view.now) (g.V.View.count c.args.view.now) _ _ c.read_within.new.levels.block _
    g.met.V.View.fetched_both (g.met.V.View.fetched_none c.read_within.new.view) (ap (λ l. 8192 / l) l) (c.div_ceil.ensures ∙ ap (λ l. div_ceil 1376 l) l)
    (rw (← c.block.ensures, ← l, ← n) c.read_super.ensures.value) c.if-not-read_within.ensures.rule c.if-not-read_within.ensures.fetched

pub returns-then-not-read_within-clause-lost : goal.returns-then-not-read_within-clause-lost
returns-then-not-read_within-clause-lost g c =
    let l = c.fragment_bytes-l.ensures.value ∙ c.requires.fragment in
    geometry_lost (g.V.View.size c.args.view.now) (g.V.View.count c.args.view.now) _ _ (ap (λ l. 8192 / l) l) (c.div_ceil.ensures ∙ ap (λ l. div_ceil 1376 l) l)
    c.if-not-read_within.ensures.area
