use Rattle.std.proofs.Common.{◌≡◌, ◌∙◌, ◌-◌, ◌*◌, min, replicate, ap, arith}
use Rattle.ufs_pointer.proofs.SuperLaws.{padded, within, within_fetched}
use Rattle.ufs_pointer.proofs.superblocks.read_within.Goals as goal

pub returns-clause-rule : goal.returns-clause-rule
returns-clause-rule g c =
    let inside : c.min-inside.result ≡ min c.args.k (g.V.View.count c.args.view.now - c.args.a) =
    c.min-inside.ensures ∙ ap (λ x. min c.args.k x) (c.saturating_sub.ensures ∙ ap (λ n. n - c.args.a) c.shape-n.ensures.count) in
    rw c.pad.ensures.block
    (within (g.V.View.size c.args.view.now) (g.V.View.count c.args.view.now) c.args.a c.args.k c.min-inside.result c.read_any-got.result c.read_any-got.new.levels.block _ c.read_any-got.ensures.keeps.stays inside
    (ap (λ l. replicate ((c.args.k - c.min-inside.result) * l) 0) (c.read_any-got.ensures.levels ∙ c.requires.levels))
    c.read_any-got.ensures.rule)

pub returns-clause-room : goal.returns-clause-room
returns-clause-room g c =
    let least = c.min-inside.ensures in
    rw (c.pad.ensures.block, c.read_any-got.ensures.levels, c.requires.levels)
    (padded c.args.k c.min-inside.result (g.V.View.size c.args.view.now) c.read_any-got.new.levels.block (omega arith) c.read_any-got.ensures.room)

pub returns-clause-fetched : goal.returns-clause-fetched
returns-clause-fetched g c =
    let inside : c.min-inside.result ≡ min c.args.k (g.V.View.count c.args.view.now - c.args.a) =
    c.min-inside.ensures ∙ ap (λ x. min c.args.k x) (c.saturating_sub.ensures ∙ ap (λ n. n - c.args.a) c.shape-n.ensures.count) in
    rw c.pad.ensures.block
    (within_fetched (g.V.View.size c.args.view.now) (g.V.View.count c.args.view.now) c.args.a c.args.k c.min-inside.result c.read_any-got.result c.read_any-got.new.levels.block _
    g.met.V.View.fetched_both (g.met.V.View.fetched_none c.read_any-got.new.view) inside
    (ap (λ l. replicate ((c.args.k - c.min-inside.result) * l) 0) (c.read_any-got.ensures.levels ∙ c.requires.levels))
    c.read_any-got.ensures.rule c.read_any-got.ensures.fetched)
