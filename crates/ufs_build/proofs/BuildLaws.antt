-- How many files a volume has, and why there is none.
use Rattle.std.proofs.Common.{◌≡◌, ◌∙◌, ℕ, suc, ◌+◌, List, [], ◌∷◌, ◌++◌, Option, Some, None, Result, Ok, Err, length, refl, sym, ap, arith}
use Rattle.std.specs.Global.{Vec}
use Rattle.ufs_model.specs.declared.geometries.Geometry.{Geometry}
use Rattle.ufs_model.specs.declared.numbers.Endian.{Endian}
use Rattle.ufs_build.specs.Builds.{Answers, with_parents}
use Rattle.ufs_build.specs.Directories.{directories_from, directories_of}
use Rattle.ufs_build.specs.Items.{if_placed, parent_inode, parents_after, parents_of}
use Rattle.ufs_build.specs.Nodes.{item_nodes, nodes_of}
use Rattle.ufs_build.specs.declared.items.Item.{Item}
use Rattle.ufs_build.specs.declared.refusals.BuildRefused.{BuildRefused}
use Rattle.ufs_build.specs.declared.refusals.BuildRefused.TheVariants.{BadItem, NoMemory, TooMany}
use Rattle.ufs_build.specs.declared.refusals.What.{What}

-- ---- as many as items, and the root

directories_each : (endian : Endian) (all : List Item) (above : List ℕ) (inode : ℕ) (items : List Item) (parents : List ℕ) → length parents ≡ length items
    → length (directories_from endian all above inode items parents) ≡ length items
directories_each endian all above inode [] parents e = refl
directories_each endian all above inode (item ∷ items) [] e = absurd (omega arith)
directories_each endian all above inode (item ∷ items) (parent ∷ parents) e =
    ap suc (directories_each endian all above (suc inode) items parents (let h : length parents ≡ length items = omega arith in h))

pub directories_length : (endian : Endian) (items : List Item) (parents : List ℕ) → length parents ≡ length items
    → length (directories_of endian items parents) ≡ length items + 1
unfolding directories_of
directories_length endian items parents e =
    let each = directories_each endian items parents 3 items parents e in omega arith

nodes_each : (items : List Item) (directories : List (List ℕ)) → length directories ≡ length items → length (item_nodes items directories) ≡ length items
nodes_each [] directories e = refl
nodes_each (item ∷ items) [] e = absurd (omega arith)
nodes_each (item ∷ items) (directory ∷ directories) e = ap suc (nodes_each items directories (let h : length directories ≡ length items = omega arith in h))

pub nodes_length : (items : List Item) (directories : List (List ℕ)) → length directories ≡ length items + 1
    → length (nodes_of items directories) ≡ length items + 1
nodes_length items [] e = absurd (omega arith)
nodes_length items (root ∷ directories) e =
    let each = nodes_each items directories (let h : length directories ≡ length items = omega arith in h) in omega arith

placed_each : (k : ℕ) (parent : Option ℕ) (further : Result (List ℕ) ℕ) (inodes : List ℕ) (n : ℕ)
    → ((others : List ℕ) → further ≡ Ok others → length others ≡ n) → if_placed k parent further ≡ Ok inodes → length inodes ≡ suc n
placed_each k None further inodes n h e = absurd (let no : ⊥ = cc in no)
placed_each k (Some inode) (Err j) inodes n h e = absurd (let no : ⊥ = cc in no)
placed_each k (Some inode) (Ok others) inodes n h e =
    let same : inode ∷ others ≡ inodes = cc in ap length (sym same) ∙ ap suc (h others refl)

parents_each : (before items : List Item) (inodes : List ℕ) → parents_after before items ≡ Ok inodes → length inodes ≡ length items
parents_each before [] inodes e = let none : [] ≡ inodes = cc in ap length (sym none)
parents_each before (item ∷ items) inodes e =
    placed_each (length before) (parent_inode before item) (parents_after (before ++ item ∷ []) items) inodes (length items)
    (parents_each (before ++ item ∷ []) items) e

pub parents_length : (items : List Item) (inodes : List ℕ) → parents_of items ≡ Ok inodes → length inodes ≡ length items
unfolding parents_of
parents_length items inodes e = parents_each [] items inodes e

-- ---- refusals

pub refused : (g : Geometry) (items : List Item) (result : Result (Vec ℕ) BuildRefused) (e : BuildRefused) → result ≡ Err e
    → ((k : ℕ) → e ≡ BadItem k → parents_of items ≡ Err k) → ((what : What) → e ≡ TooMany what → ⊥)
    → Answers result (with_parents g items (parents_of items))
refused g items result (BadItem k) is bad many = rw is (rw (bad k refl) refl)
refused g items result (TooMany what) is bad many = absurd (many what refl)
refused g items result NoMemory is bad many = rw is tt
