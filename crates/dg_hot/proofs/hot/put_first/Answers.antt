use Rattle.std.proofs.Common.{◌∙◌, ℕ, ap, arith}
use Rattle.std.specs.Map.{keys_of}
use Rattle.lru.specs.LruCache.{LruCache}
use Rattle.dg_hot.proofs.RecentLaws.{touched_is}
use Rattle.dg_hot.proofs.hot.put_first.Goals as goal

pub returns-in-Ok-clause-touched : goal.returns-in-Ok-clause-touched
returns-in-Ok-clause-touched c =
    let valid = c.len-count.ensures.valid in
    ap (λ (cache : LruCache ℕ (Unit {0})). keys_of cache.entries) c.in-Ok.ensures.entries
    ∙ touched_is c.args.inode c.args.cache.now tt c.requires valid.0 (omega (arith, valid.1, c.requires))
