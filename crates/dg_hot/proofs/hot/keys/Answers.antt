use Rattle.std.proofs.Common.{◌≡◌, ◌≢◌, ◌∙◌, ◌++◌, ap, subst, sym}
use Rattle.std.proofs.lemmas.Bool.Decides.{Decides-eqb}
use Rattle.std.proofs.lemmas.List.{append-nil}
use Rattle.std.proofs.lemmas.Map.Made.{AllPairs-from_IsDistinct}
use Rattle.std.specs.List.{AllPairs}
use Rattle.std.specs.Map.{keys_of}
use Rattle.dg_hot.proofs.RecentLaws.{few_front}
use Rattle.dg_hot.proofs.hot.keys.Goals as goal

pub returns-clause-few : goal.returns-clause-few
returns-clause-few c =
    few_front c.args.cache.now.entries c.loop-inode.keys.items (keys_of c.loop-inode.inode-iterator) c.args.cache.now.cap c.loop-inode.invariant.same
    c.len.ensures.valid.1

pub returns-clause-once : goal.returns-clause-once
returns-clause-once c =
    let all : c.loop-inode.keys.items ≡ keys_of c.args.cache.now.entries =
    sym (append-nil c.loop-inode.keys.items) ∙ ap (λ es. c.loop-inode.keys.items ++ keys_of es) (sym c.in-None.ensures.steps.0) ∙ c.loop-inode.invariant.same in
    subst (AllPairs (λ i j. i ≢ j)) (sym all) (AllPairs-from_IsDistinct Decides-eqb (keys_of c.args.cache.now.entries) c.len.ensures.valid.0)
