use Rattle.std.proofs.Common.{◌≡◌, List, [], ◌∷◌, ℕ, map, ap, refl, sym, subst, rules}
use Rattle.std.specs.List.Sorted.{IsStrictlyIncreasing, IsStrictlySortedBy}
use Rattle.std.specs.Ordering.{nat_cmp}
use Rattle.std.proofs.lemmas.Map.Keys.{IsStrictlyIncreasing-from_sorted}
use Rattle.dg_model.specs.Homes.{Ascend}
use Rattle.dg_model.specs.declared.homes.Home.{Home}
use Rattle.dg_plan.specs.Placings.{homes_in}
use Rattle.dg_plan.proofs.FileLaws.{numbers}
use Rattle.dg_plan.proofs.plans.list_of_homes.Goals as goal

inodes_in : (es : List (ℕ × ℕ)) → map (λ (home : Home). home.inode) (homes_in es) ≡ numbers es
inodes_in [] = refl
inodes_in (e ∷ es) = ap (λ is. e.0 ∷ is) (inodes_in es)

pub returns-clause-ascend : goal.returns-clause-ascend
returns-clause-ascend c =
    let entries = c.args.homes.now.entries in
    let list : c.new.result ≡ homes_in entries = search rules in
    let sorted : IsStrictlySortedBy nat_cmp (numbers entries) = c.iter-inode-items.ensures.ordered in
    let ascend : Ascend (homes_in entries) = subst IsStrictlyIncreasing (sym (inodes_in entries)) (IsStrictlyIncreasing-from_sorted (numbers entries) sorted) in
    subst Ascend (sym list) ascend
