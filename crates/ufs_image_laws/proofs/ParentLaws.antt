-- The inodes of the items' directories.
use Rattle.std.proofs.Common.{◌≡◌, ℕ, ◌+◌, ◌<◌, ◌≤◌, ◌&&◌, ◌==◌, Bool, true, false, List, [], ◌∷◌, ◌++◌, length, refl, subst, arith, Some, None, length-append}
use Rattle.std.specs.Prelude.{Err, Ok, Option, Result, if◌then◌else◌, slice_get}
use Rattle.std.specs.Option.{is_none}
use Rattle.std.proofs.lemmas.Option.{same_Some, slice_get_within}
use Rattle.ufs_build.specs.Items.{directory_at, has_contents, has_place, if_placed, inode_before, inode_if_dir, inode_if_found, inode_of_item, is_dir, parent_inode, parent_of, parents_after, parents_of, place_of_path}
use Rattle.ufs_build.specs.declared.items.Item.{Item}
use Rattle.ufs_image_laws.proofs.ItemLaws.{same_inodes}
use Rattle.ufs_image_laws.proofs.ListLaws.{Each}

-- the root's, or that of an item below a number
pub record IsLow (bound inode : ℕ) : Type 0 where
  pub some : 2 ≤ inode
  pub low : inode < bound

low_dir : (k n inode : ℕ) (here : Bool) → k < n → (if here then Some (inode_of_item k) else None) ≡ Some inode → IsLow (3 + n) inode
low_dir k n inode true low e = let same = same_Some (k + 3) inode e in record { some = omega arith; low = omega arith }
low_dir k n inode false low e = absurd (cc e)

low_found : (items : List Item) (k inode : ℕ) (found : Option Item) → slice_get items k ≡ found → inode_if_dir k found ≡ Some inode → IsLow (3 + length items) inode
low_found items k inode None here e = absurd (cc e)
low_found items k inode (Some item) here e = low_dir k (length items) inode (is_dir item.kind) (slice_get_within items k item here) e

low_place : (items : List Item) (inode : ℕ) (found : Option ℕ) → inode_if_found items found ≡ Some inode → IsLow (3 + length items) inode
low_place items inode None e = absurd (cc e)
low_place items inode (Some k) e = low_found items k inode (slice_get items k) refl e

low_at : (items : List Item) (path : List ℕ) (inode : ℕ) (root : Bool) → (if root then Some 2 else inode_if_found items (place_of_path items path)) ≡ Some inode → IsLow (3 + length items) inode
low_at items path inode true e = let same = same_Some 2 inode e in record { some = omega arith; low = omega arith }
low_at items path inode false e = low_place items inode (place_of_path items path) e

low_by : (before : List Item) (path : List ℕ) (inode : ℕ) (test : Bool) → (if test then directory_at before path else None) ≡ Some inode → IsLow (3 + length before) inode
unfolding directory_at
low_by before path inode false e = absurd (cc e)
low_by before path inode true e = low_at before path inode (length path == 0) e

low_parent : (before : List Item) (item : Item) (inode : ℕ) → parent_inode before item ≡ Some inode → IsLow (3 + length before) inode
unfolding parent_inode
low_parent before item inode e = low_by before (parent_of item.path) inode (has_place item.path && (has_contents item && is_none (place_of_path before item.path))) e

wider : (one other inode : ℕ) → one ≤ other → IsLow one inode → IsLow other inode
wider one other inode le is = record { some = is.some; low = let h = is.low in omega arith }

low_later : (bound inode : ℕ) (rest : Result (List ℕ) ℕ) (parents : List ℕ) → IsLow bound inode → ((found : List ℕ) → rest ≡ Ok found → Each (IsLow bound) found)
    → inode_before inode rest ≡ Ok parents → Each (IsLow bound) parents
low_later bound inode (Err k) parents here further e = absurd (cc e)
low_later bound inode (Ok found) parents here further e = subst (Each (IsLow bound)) (same_inodes (inode ∷ found) parents e) (here, further found refl)

low_placed : (before : List Item) (item : Item) (bound : ℕ) (found : Option ℕ) (rest : Result (List ℕ) ℕ) (parents : List ℕ) → 3 + length before ≤ bound → parent_inode before item ≡ found
    → ((inodes : List ℕ) → rest ≡ Ok inodes → Each (IsLow bound) inodes) → if_placed (length before) found rest ≡ Ok parents → Each (IsLow bound) parents
low_placed before item bound None rest parents le here further e = absurd (cc e)
low_placed before item bound (Some inode) rest parents le here further e =
    low_later bound inode rest parents (wider (3 + length before) bound inode le (low_parent before item inode here)) further e

low_after : (before items : List Item) (parents : List ℕ) (bound : ℕ) → 3 + (length before + length items) ≤ bound → parents_after before items ≡ Ok parents → Each (IsLow bound) parents
low_after before [] parents bound le e = subst (Each (IsLow bound)) (same_inodes [] parents e) tt
low_after before (item ∷ items) parents bound le e =
    let size = length-append before (item ∷ []) in
    low_placed before item bound (parent_inode before item) (parents_after (before ++ item ∷ []) items) parents (omega arith) refl
    (λ inodes is. low_after (before ++ item ∷ []) items inodes bound (omega (arith, size, le)) is) e

pub parents_low : (items : List Item) (parents : List ℕ) → parents_of items ≡ Ok parents → Each (IsLow (3 + length items)) parents
unfolding parents_of
parents_low items parents e = low_after [] items parents (3 + length items) (omega arith) e
