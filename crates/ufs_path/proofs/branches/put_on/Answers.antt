use Rattle.std.proofs.Common.{◌≡◌, ◌++◌, ◌∷◌, [], List, map, subst, sym, rules}
use Rattle.ufs_path.proofs.BranchLaws.{put_next}
use Rattle.ufs_path.specs.Trees.{branch_of, left_on}
use Rattle.ufs_path.specs.declared.branches.Pending.{Pending}
use Rattle.ufs_path.proofs.branches.put_on.Goals as goal

pub loop-last-preserved : goal.loop-last-preserved
loop-last-preserved c =
    let whole = map branch_of c.args.entries.items ++ left_on c.args.stack.now.items in
    let pushed : c.push.new.self.items ≡ c.loop-last.stack.items ++ (c.in-Some.last ∷ []) = search rules in
    subst (λ (xs : List Pending). map branch_of c.pop.new.self.items ++ left_on xs ≡ whole) (sym pushed)
    (put_next c.loop-last.kept.items c.pop.new.self.items c.loop-last.stack.items c.in-Some.last whole c.in-Some.ensures.items c.loop-last.invariant)
