-- Which directory names each inode is one list.
use Rattle.std.proofs.Common.{◌≡◌, ◌<◌, ℕ, List, arith}
use Rattle.std.specs.Prelude.{AllPairs, map}
use Rattle.std.proofs.lemmas.List.Kept.{AllPairs-from_increasing}
use Rattle.std.proofs.lemmas.List.{get_or-map, length-map}
use Rattle.ufs_model.specs.Blocks.{Volume}
use Rattle.dg_model.specs.Wants.{AreParents}
use Rattle.dg_model.specs.declared.parents.Parent.{Parent}
use Rattle.dg_uses.proofs.OneList.{one_list}

-- the one is of a lower inode
abbrev IsLower : Parent → Parent → Type 0
IsLower one other = one.inode < other.inode

abbrev inode_of : Parent → ℕ
inode_of parent = parent.inode

lower : (parents : List Parent) → AllPairs ◌<◌ (map inode_of parents) → AllPairs IsLower parents
lower parents h i j d less within =
    let pair = h i j 0 less (omega (arith, within, length-map parents inode_of)) in
    let one = get_or-map inode_of parents i d 0 (omega (arith, less, within)) in
    let other = get_or-map inode_of parents j d 0 within in
    omega (arith, pair, one, other)

pub parents_same : (l n : ℕ) (v : Volume) (one other : List Parent) → AreParents l n v one → AreParents l n v other → one ≡ other
parents_same l n v one other h g =
    one_list IsLower (λ a b less more. absurd (omega (arith, less, more))) one other
    (lower one (AllPairs-from_increasing (map inode_of one) h.ascend)) (lower other (AllPairs-from_increasing (map inode_of other) g.ascend))
    (λ x has. (g.each x.inode x.directory).1 ((h.each x.inode x.directory).0 has))
    (λ x has. (h.each x.inode x.directory).1 ((g.each x.inode x.directory).0 has))
