-- The directories of items, one after the other.
use Rattle.std.proofs.Common.{◌≡◌, ◌∙◌, ℕ, ◌+◌, ◌<◌, ◌≤◌, true, false, List, [], ◌∷◌, ◌++◌, Option, Some, None, Result, Ok, Err, length, take, drop, get_or, refl, ap, sym, append_assoc, arith}
use Rattle.std.specs.Prelude.{IsOk}
use Rattle.std.specs.Option.{is_some}
use Rattle.std.proofs.lemmas.List.{append-nil, drop_all, drop_more, get_or-drop, length-take-le, take_more}
use Rattle.ufs_build.specs.Items.{if_placed, inode_before, parent_inode, parents_after, without_memory}
use Rattle.ufs_build.specs.declared.items.Item.{Item}
use Rattle.ufs_build.specs.declared.refusals.BuildRefused.TheVariants.{BadItem, NoMemory, TooMany}
use Rattle.ufs_build.specs.declared.refusals.What.{What}

-- inodes before others, if there are any
abbrev pub all_before : List ℕ → Result (List ℕ) ℕ → Result (List ℕ) ℕ
all_before inodes (Ok others) = Ok (inodes ++ others)
all_before inodes (Err k) = Err k

one_before : (inodes : List ℕ) (inode : ℕ) (further : Result (List ℕ) ℕ)
    → all_before (inodes ++ inode ∷ []) further ≡ all_before inodes (inode_before inode further)
one_before inodes inode (Ok others) = ap Ok (append_assoc inodes (inode ∷ []) others)
one_before inodes inode (Err k) = refl

none_before : (further : Result (List ℕ) ℕ) → all_before [] further ≡ further
none_before (Ok others) = refl
none_before (Err k) = refl

-- the item at a place, and those around it
pub record IsAt (items : List Item) (k : ℕ) (before : List Item) (item : Item) : Type 0 where
  pub low : k < length items
  pub front : take k items ≡ before
  pub here : item ≡ get_or items k item

pub is_at : (items before rest : List Item) (item : Item) (k : ℕ) → k < length items → before ≡ take k items → rest ≡ drop k items
    → item ≡ get_or rest 0 item → IsAt items k before item
is_at items before rest item k low e f here = record {
  low = low;
  front = sym e;
  here = here ∙ ap (λ r. get_or r 0 item) f ∙ get_or-drop k items 0 item ∙ ap (λ i. get_or items i item) (let z : k + 0 ≡ k = omega arith in z);
}

begun : (items before : List Item) (item : Item) (k : ℕ) → IsAt items k before item
    → parents_after (take k items) (drop k items) ≡ if_placed k (parent_inode before item) (parents_after (take (k + 1) items) (drop (k + 1) items))
begun items before item k at =
    let long : length before ≡ k = ap length (sym (at.front)) ∙ length-take-le k items (omega (arith, at.low)) in
    let first : drop k items ≡ item ∷ drop (k + 1) items = drop_more items k item (at.low) ∙ ap (λ x. x ∷ drop (k + 1) items) (sym (at.here)) in
    let more : take (k + 1) items ≡ before ++ item ∷ [] =
    take_more items k item (at.low) ∙ ap (λ x. take k items ++ x ∷ []) (sym (at.here)) ∙ ap (λ b. b ++ item ∷ []) (at.front) in
    rw (more, at.front, first) (ap (λ n. if_placed n (parent_inode before item) (parents_after (before ++ item ∷ []) (drop (k + 1) items))) long)

pub starts : (items : List Item) (inodes : List ℕ) → inodes ≡ [] → all_before inodes (parents_after [] items) ≡ parents_after [] items
starts items inodes e = rw e (none_before (parents_after [] items))

pub goes_on : (items before : List Item) (item : Item) (k inode : ℕ) (old new : List ℕ) → IsAt items k before item
    → Some inode ≡ parent_inode before item → new ≡ old ++ inode ∷ []
    → all_before old (parents_after (take k items) (drop k items)) ≡ parents_after [] items
    → all_before new (parents_after (take (k + 1) items) (drop (k + 1) items)) ≡ parents_after [] items
goes_on items before item k inode old new at found e h =
    let further = parents_after (take (k + 1) items) (drop (k + 1) items) in
    ap (λ inodes. all_before inodes further) e ∙ one_before old inode further
    ∙ ap (λ o. all_before old (if_placed k o further)) found ∙ ap (all_before old) (sym (begun items before item k at)) ∙ h

pub stops : (items before : List Item) (item : Item) (k : ℕ) (old : List ℕ) → IsAt items k before item → None ≡ parent_inode before item
    → all_before old (parents_after (take k items) (drop k items)) ≡ parents_after [] items → parents_after [] items ≡ Err k
stops items before item k old at none h =
    sym h ∙ ap (all_before old) (begun items before item k at ∙ ap (λ o. if_placed k o (parents_after (take (k + 1) items) (drop (k + 1) items))) (sym none))

pub ends : (items : List Item) (k : ℕ) (old : List ℕ) → length items ≤ k
    → all_before old (parents_after (take k items) (drop k items)) ≡ parents_after [] items → parents_after [] items ≡ Ok old
ends items k old all h =
    sym h ∙ ap (λ r. all_before old (parents_after (take k items) r)) (drop_all k items all) ∙ ap Ok (append-nil old)

-- ---- what is told where memory is wanting

told_before : (k : ℕ) (parent : Option ℕ) (further : Result (List ℕ) ℕ) → is_some parent ≡ true → without_memory (if_placed k parent further) ≡ without_memory further
told_before k None further some = cc
told_before k (Some inode) (Ok others) some = refl
told_before k (Some inode) (Err j) some = refl

told_here : (k : ℕ) (parent : Option ℕ) (further : Result (List ℕ) ℕ) → is_some parent ≡ false → without_memory (if_placed k parent further) ≡ BadItem k
told_here k None further none = refl
told_here k (Some inode) further none = cc

pub told_goes_on : (items before : List Item) (item : Item) (k : ℕ) → IsAt items k before item → is_some (parent_inode before item) ≡ true
    → without_memory (parents_after (take (k + 1) items) (drop (k + 1) items)) ≡ without_memory (parents_after (take k items) (drop k items))
told_goes_on items before item k at some =
    sym (ap without_memory (begun items before item k at) ∙ told_before k (parent_inode before item) (parents_after (take (k + 1) items) (drop (k + 1) items)) some)

pub told_stops : (items before : List Item) (item : Item) (k : ℕ) → IsAt items k before item → is_some (parent_inode before item) ≡ false
    → without_memory (parents_after (take k items) (drop k items)) ≡ BadItem k
told_stops items before item k at none =
    ap without_memory (begun items before item k at) ∙ told_here k (parent_inode before item) (parents_after (take (k + 1) items) (drop (k + 1) items)) none

pub told_ends : (items : List Item) (k : ℕ) → length items ≤ k → without_memory (parents_after (take k items) (drop k items)) ≡ NoMemory
told_ends items k all = ap (λ r. without_memory (parents_after (take k items) r)) (drop_all k items all)

told_all : (inodes : List ℕ) (further : Result (List ℕ) ℕ) → without_memory further ≡ without_memory (all_before inodes further)
told_all inodes (Ok others) = refl
told_all inodes (Err k) = refl

-- what is told from the next item on is told of all
pub told_of_all : (items before : List Item) (item : Item) (k inode : ℕ) (old : List ℕ) → IsAt items k before item → Some inode ≡ parent_inode before item
    → all_before old (parents_after (take k items) (drop k items)) ≡ parents_after [] items
    → without_memory (parents_after (take (k + 1) items) (drop (k + 1) items)) ≡ without_memory (parents_after [] items)
told_of_all items before item k inode old at found h =
    told_all (old ++ inode ∷ []) (parents_after (take (k + 1) items) (drop (k + 1) items))
    ∙ ap without_memory (goes_on items before item k inode old (old ++ inode ∷ []) at found refl h)

pub told_bad : (inodes : Result (List ℕ) ℕ) (k : ℕ) → BadItem k ≡ without_memory inodes → inodes ≡ Err k
told_bad (Ok parents) k e = cc
told_bad (Err j) k e = cc

pub told_many : (inodes : Result (List ℕ) ℕ) (what : What) → TooMany what ≡ without_memory inodes → ⊥
told_many (Ok parents) what e = cc
told_many (Err j) what e = cc

pub told_wanting : (inodes : Result (List ℕ) ℕ) → NoMemory ≡ without_memory inodes → IsOk inodes
told_wanting (Ok parents) e = refl
told_wanting (Err j) e = cc
