-- The lines of a whole volume, by entries that are still to be listed.
use Rattle.std.proofs.Common.{◌≡◌, ◌∙◌, ℕ, zero, suc, ◌+◌, ◌-◌, ◌*◌, Bool, true, false, List, [], ◌∷◌, ◌++◌, Result, Ok, refl, sym, ap, arith}
use Rattle.std.specs.Prelude.{◌&&◌, filter, if◌then◌else◌, map, nat_lt}
use Rattle.std.proofs.lemmas.Bool.Decides.{nat_tests}
use Rattle.std.proofs.lemmas.List.{append_assoc, append-nil}
use Rattle.ufs_model.specs.Blocks.{Reading, Volume, known}
use Rattle.ufs_model.specs.Chunks.{DirEntry}
use Rattle.ufs_model.specs.Inodes.{kind_of}
use Rattle.ufs_model.specs.Listings.{Listed, listed_as}
use Rattle.ufs_model.specs.Paths.{entries_of, is_directory, named_inode}
use Rattle.ufs_model.specs.Readings.{and_then}
use Rattle.ufs_model.specs.Trees.{branches, if_directory, is_plain, tree_below}
use Rattle.ufs_model.specs.declared.geometries.Geometry.{Geometry}
use Rattle.ufs_model.specs.declared.inodes.Inode.{Inode}
use Rattle.ufs_model.specs.declared.reads.PathRefusal.{PathRefusal}
use Rattle.ufs_path.proofs.ReadsLaws.{then_back, then_front, then_known, then_same, then_then}
use Rattle.ufs_path.specs.Trees.{Branch, all_lines, branch_at, branch_lines, branches_at, branches_below, branches_in, line_of, lines_below, opened}

-- two readings, what is made of both, and what follows
pub both_then : {A B C D R : Type 0} (d : Reading (Result A R)) (e : A → Reading (Result B R)) (f : A → B → C) (h : C → Reading (Result D R)) (v : Volume)
    → and_then (and_then d (λ a. and_then (e a) (λ b. known (Ok (f a b))))) h v ≡ and_then d (λ a. and_then (e a) (λ b. h (f a b))) v
both_then d e f h v =
    then_then d (λ a. and_then (e a) (λ b. known (Ok (f a b)))) h v
    ∙ then_back d (λ a. and_then (and_then (e a) (λ b. known (Ok (f a b)))) h) (λ a. and_then (e a) (λ b. h (f a b))) v (λ a.
    then_then (e a) (λ b. known (Ok (f a b))) h v
    ∙ then_back (e a) (λ b. and_then (known (Ok (f a b))) h) (λ b. h (f a b)) v (λ b. then_known (f a b) h v))

-- the line of an entry and those below it, and then others
pub branch_then : {D : Type 0} (g : Geometry) (b : Branch) (h : List Listed → Reading (Result D PathRefusal)) (v : Volume)
    → and_then (branch_lines g b) h v ≡ and_then (named_inode g b.inode) (λ inode. and_then (lines_below g b.depth inode) (λ under. h (line_of b inode ∷ under))) v
unfolding branch_lines
branch_then g b h v = both_then (named_inode g b.inode) (λ inode. lines_below g b.depth inode) (λ inode under. line_of b inode ∷ under) h v

-- an entry that is opened, and what follows
pub opened_then : {D : Type 0} (g : Geometry) (b : Branch) (h : Inode × List Branch → Reading (Result D PathRefusal)) (v : Volume)
    → and_then (opened g b) h v ≡ and_then (named_inode g b.inode) (λ inode. and_then (branches_below g b.depth inode) (λ bs. h (inode, bs))) v
unfolding opened
opened_then g b h v = both_then (named_inode g b.inode) (λ inode. branches_below g b.depth inode) (λ inode bs. (inode, bs)) h v

-- the first of some entries, and then the others
pub first_then : {D : Type 0} (g : Geometry) (b : Branch) (bs : List Branch) (h : List Listed → Reading (Result D PathRefusal)) (v : Volume)
    → and_then (all_lines g (b ∷ bs)) h v ≡ and_then (branch_lines g b) (λ front. and_then (all_lines g bs) (λ last. h (front ++ last))) v
unfolding all_lines
first_then g b bs h v = both_then (branch_lines g b) (λ front. all_lines g bs) (λ front last. front ++ last) h v

none_then : {D : Type 0} (g : Geometry) (h : List Listed → Reading (Result D PathRefusal)) (v : Volume) → and_then (all_lines g []) h v ≡ h [] v
unfolding all_lines
none_then g h v = then_known [] h v

-- some entries, and then others
pub append_then : {D : Type 0} (g : Geometry) (xs ys : List Branch) (h : List Listed → Reading (Result D PathRefusal)) (v : Volume)
    → and_then (all_lines g (xs ++ ys)) h v ≡ and_then (all_lines g xs) (λ front. and_then (all_lines g ys) (λ last. h (front ++ last))) v
append_then g [] ys h v = sym (none_then g (λ front. and_then (all_lines g ys) (λ last. h (front ++ last))) v)
append_then g (b ∷ xs) ys h v =
    first_then g b (xs ++ ys) h v
    ∙ then_back (branch_lines g b) (λ front. and_then (all_lines g (xs ++ ys)) (λ last. h (front ++ last))) (λ front. and_then (all_lines g xs) (λ middle. and_then (all_lines g ys) (λ last. h ((front ++ middle) ++ last)))) v (λ front.
    append_then g xs ys (λ last. h (front ++ last)) v
    ∙ then_back (all_lines g xs) (λ middle. and_then (all_lines g ys) (λ last. h (front ++ (middle ++ last)))) (λ middle. and_then (all_lines g ys) (λ last. h ((front ++ middle) ++ last))) v (λ middle.
    then_back (all_lines g ys) (λ last. h (front ++ (middle ++ last))) (λ last. h ((front ++ middle) ++ last)) v (λ last.
    ap (λ lines. h lines v) (sym (append_assoc front middle last)))))
    ∙ sym (first_then g b xs (λ front. and_then (all_lines g ys) (λ last. h (front ++ last))) v)

-- the entries of a directory at a depth, by the definition
pub branches_same : (g : Geometry) (depth left : ℕ) (entries : List DirEntry) (v : Volume) → g.ncg * g.ipg - depth ≡ left
    → branches g (tree_below g left (depth + 1)) depth entries v ≡ all_lines g (map (branch_at depth) entries) v
unfolding branches all_lines
branches_same g depth left [] v is = refl
branches_same g depth left (e ∷ entries) v is =
    let b = branch_at depth e in
    let below = tree_below g left (depth + 1) in
    let others = map (branch_at depth) entries in
    then_back (named_inode g e.inode)
    (λ inode. and_then (if_directory inode (below inode)) (λ under. and_then (branches g below depth entries) (λ last. known (Ok (listed_as depth e inode ∷ (under ++ last))))))
    (λ inode. and_then (lines_below g depth inode) (λ under. and_then (all_lines g others) (λ last. known (Ok ((line_of b inode ∷ under) ++ last))))) v (λ inode.
    then_front (if_directory inode (below inode)) (lines_below g depth inode) (λ under. and_then (branches g below depth entries) (λ last. known (Ok (listed_as depth e inode ∷ (under ++ last))))) v
    (ap (λ k. if_directory inode (tree_below g k (depth + 1) inode) v) (sym is))
    ∙ then_back (lines_below g depth inode)
    (λ under. and_then (branches g below depth entries) (λ last. known (Ok (listed_as depth e inode ∷ (under ++ last)))))
    (λ under. and_then (all_lines g others) (λ last. known (Ok ((line_of b inode ∷ under) ++ last)))) v (λ under.
    then_front (branches g below depth entries) (all_lines g others) (λ last. known (Ok (listed_as depth e inode ∷ (under ++ last)))) v (branches_same g depth left entries v is)))
    ∙ sym (branch_then g b (λ front. and_then (all_lines g others) (λ last. known (Ok (front ++ last)))) v)

-- ---- the lines below an inode

below_none : (g : Geometry) (v : Volume) → known (Ok []) v ≡ and_then (known (Ok [])) (all_lines g) v
unfolding all_lines
below_none g v = sym (then_known [] (all_lines g) v)

below_some : (g : Geometry) (depth left : ℕ) (inode : Inode) (v : Volume) → g.ncg * g.ipg - depth ≡ suc left
    → tree_below g (suc left) (depth + 1) inode v ≡ and_then (branches_in g (depth + 1) inode) (all_lines g) v
unfolding tree_below branches_in
below_some g depth left inode v is =
    let next : g.ncg * g.ipg - (depth + 1) ≡ left = omega (arith, is) in
    then_back (entries_of g inode) (λ entries. branches g (tree_below g left (depth + 1 + 1)) (depth + 1) (filter is_plain entries)) (λ entries. all_lines g (branches_at (depth + 1) entries)) v
    (λ entries. branches_same g (depth + 1) left (filter is_plain entries) v next)
    ∙ sym (then_then (entries_of g inode) (λ entries. known (Ok (branches_at (depth + 1) entries))) (all_lines g) v
    ∙ then_back (entries_of g inode) (λ entries. and_then (known (Ok (branches_at (depth + 1) entries))) (all_lines g)) (λ entries. all_lines g (branches_at (depth + 1) entries)) v
    (λ entries. then_known (branches_at (depth + 1) entries) (all_lines g) v))

below_end : (g : Geometry) (depth : ℕ) (inode : Inode) (v : Volume) → tree_below g zero depth inode v ≡ known (Ok []) v
unfolding tree_below
below_end g depth inode v = refl

abbrev if_lines : Bool → Reading (Result (List Listed) PathRefusal) → Reading (Result (List Listed) PathRefusal)
if_lines test d = if test then d else known (Ok [])

abbrev if_branches : Bool → Reading (Result (List Branch) PathRefusal) → Reading (Result (List Branch) PathRefusal)
if_branches test d = if test then d else known (Ok [])

below_by : (g : Geometry) (depth left : ℕ) (inode : Inode) (test : Bool) (v : Volume) → g.ncg * g.ipg - depth ≡ left
    → if_lines test (tree_below g left (depth + 1) inode) v ≡ and_then (if_branches (test && nat_lt depth (g.ncg * g.ipg)) (branches_in g (depth + 1) inode)) (all_lines g) v
below_by g depth left inode false v is = below_none g v
below_by g depth zero inode true v is =
    let low : nat_lt depth (g.ncg * g.ipg) ≡ false = grind (arith, nat_tests) in
    below_end g (depth + 1) inode v ∙ below_none g v ∙ ap (λ t. and_then (if_branches (true && t) (branches_in g (depth + 1) inode)) (all_lines g) v) (sym low)
below_by g depth (suc left) inode true v is =
    let low : nat_lt depth (g.ncg * g.ipg) ≡ true = grind (arith, nat_tests) in
    below_some g depth left inode v is ∙ ap (λ t. and_then (if_branches (true && t) (branches_in g (depth + 1) inode)) (all_lines g) v) (sym low)

pub below_lines : (g : Geometry) (depth : ℕ) (inode : Inode) (v : Volume) → lines_below g depth inode v ≡ and_then (branches_below g depth inode) (all_lines g) v
unfolding branches_below
below_lines g depth inode v = below_by g depth (g.ncg * g.ipg - depth) inode (is_directory (kind_of inode.mode)) v refl

-- ---- one entry after another

-- the lines that were handed on, and those that are left
abbrev pub after : List Listed → Reading (Result (List Listed) PathRefusal) → Reading (Result (List Listed) PathRefusal)
after done rest = and_then rest (λ last. known (Ok (done ++ last)))

-- what follows when an entry was opened
abbrev pub after_line : Geometry → List Listed → Branch → List Branch → Inode × List Branch → Reading (Result (List Listed) PathRefusal)
after_line g done b bs found = after (done ++ (line_of b (found.0) ∷ [])) (all_lines g (found.1 ++ bs))

same_items : (done : List Listed) (line : Listed) (x y : List Listed) → done ++ ((line ∷ x) ++ y) ≡ (done ++ (line ∷ [])) ++ (x ++ y)
same_items done line x y = sym (append_assoc done (line ∷ []) (x ++ y))

pub next_line : (g : Geometry) (done : List Listed) (b : Branch) (bs : List Branch) (v : Volume)
    → after done (all_lines g (b ∷ bs)) v ≡ and_then (opened g b) (after_line g done b bs) v
next_line g done b bs v =
    let rest : List Listed → Reading (Result (List Listed) PathRefusal) = λ front. and_then (all_lines g bs) (λ last. known (Ok (done ++ (front ++ last)))) in
    first_then g b bs (λ lines. known (Ok (done ++ lines))) v
    ∙ branch_then g b rest v
    ∙ then_back (named_inode g b.inode)
    (λ inode. and_then (lines_below g b.depth inode) (λ under. rest (line_of b inode ∷ under)))
    (λ inode. and_then (branches_below g b.depth inode) (λ found. after_line g done b bs (inode, found))) v (λ inode.
    then_front (lines_below g b.depth inode) (and_then (branches_below g b.depth inode) (all_lines g)) (λ under. rest (line_of b inode ∷ under)) v (below_lines g b.depth inode v)
    ∙ then_then (branches_below g b.depth inode) (all_lines g) (λ under. rest (line_of b inode ∷ under)) v
    ∙ then_back (branches_below g b.depth inode) (λ found. and_then (all_lines g found) (λ under. rest (line_of b inode ∷ under))) (λ found. after_line g done b bs (inode, found)) v (λ found.
    then_back (all_lines g found) (λ under. rest (line_of b inode ∷ under)) (λ under. and_then (all_lines g bs) (λ last. known (Ok ((done ++ (line_of b inode ∷ [])) ++ (under ++ last))))) v (λ under.
    then_back (all_lines g bs) (λ last. known (Ok (done ++ ((line_of b inode ∷ under) ++ last)))) (λ last. known (Ok ((done ++ (line_of b inode ∷ [])) ++ (under ++ last)))) v (λ last.
    ap (λ lines. known (Ok lines) v) (same_items done (line_of b inode) under last)))
    ∙ sym (append_then g found bs (λ last. known (Ok ((done ++ (line_of b inode ∷ [])) ++ last))) v)))
    ∙ sym (opened_then g b (after_line g done b bs) v)

-- nothing was handed on yet
pub after_none : (g : Geometry) (bs : List Branch) (v : Volume) → all_lines g bs v ≡ after [] (all_lines g bs) v
after_none g bs v = sym (then_same (all_lines g bs) v)

-- nothing is left
pub after_all : (g : Geometry) (done : List Listed) (v : Volume) → after done (all_lines g []) v ≡ known (Ok done) v
after_all g done v = none_then g (λ last. known (Ok (done ++ last))) v ∙ ap (λ lines. known (Ok lines) v) (append-nil done)
