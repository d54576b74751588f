use Rattle.std.proofs.Common.{◌≡◌, ◌∙◌, List, map, sym, subst, ap, rules}
use Rattle.std.proofs.lemmas.Map.Iter.{iter_end}
use Rattle.std.specs.Map.Iter.{deref_pair}
use Rattle.dg_model.specs.declared.parents.Parent.{Parent}
use Rattle.ufs_path.specs.Parents.{KeptAre, kept_in, parent_of}
use Rattle.ufs_path.proofs.NamingLaws.{kept_list, map_both}
use Rattle.ufs_path.proofs.naming.parents_in.Goals as goal

pub returns : goal.returns
returns c =
    let m = c.args.directories.now in
    let gives = c.into_iter-inode-iterator.ensures.into_iter_gives in
    let whole : map deref_pair c.loop-inode.yielded ≡ m.entries = search (rules, iter_end) in
    let items : c.loop-inode.parents.items ≡ map parent_of m.entries = c.loop-inode.invariant ∙ sym (map_both deref_pair parent_of c.loop-inode.yielded) ∙ ap (map parent_of) whole in
    subst (λ (xs : List Parent). KeptAre (kept_in m) xs) (sym items) (kept_list m gives.5 gives.6)
