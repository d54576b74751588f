-- Entries that are still to be listed, and what is read of them.
use Rattle.std.proofs.Common.{◌≡◌, ◌∙◌, ℕ, ◌+◌, ◌-◌, ◌*◌, Bool, true, false, List, [], ◌∷◌, ◌++◌, Option, Some, None, Result, Ok, Err, refl, sym, ap, subst, arith, inl, inr}
use Rattle.std.specs.Prelude.{◌&&◌, Contains, IsErr, IfOk, OnErr, filter, if◌then◌else◌, map, nat_lt}
use Rattle.std.specs.Option.{option_map}
use Rattle.std.proofs.lemmas.Bool.{false≢true}
use Rattle.std.proofs.lemmas.List.{append_assoc, append-nil, map-append, reverse-append}
use Rattle.std.proofs.lemmas.List.Elements.{filter-append}
use Rattle.ufs_model.specs.Blocks.{Reading, Volume, known}
use Rattle.ufs_model.specs.Chunks.{DirEntry}
use Rattle.ufs_model.specs.Inodes.{block_count, kind_of}
use Rattle.ufs_model.specs.Listings.{Listed}
use Rattle.ufs_model.specs.Paths.{directory_refusal, entries_before, entries_of, is_directory, named_inode, unless_refused, volume_geometry}
use Rattle.ufs_model.specs.Readings.{Grows, ReadsAs, and_then}
use Rattle.ufs_model.specs.Trees.{is_plain, tree_below, tree_of}
use Rattle.ufs_model.proofs.ReadingLaws.{reads_known, reads_on}
use Rattle.ufs_model.specs.declared.geometries.Geometry.{Geometry}
use Rattle.ufs_model.specs.declared.inodes.Inode.{Inode}
use Rattle.ufs_model.specs.declared.reads.PathRefusal.{PathRefusal}
use Rattle.ufs_model.specs.declared.reads.PathRefusal.TheVariants.{NotDirectory}
use Rattle.ufs_pointer.specs.Fetches.{IsNeeded}
use Rattle.ufs_path.proofs.DirectoryLaws.{refusal_said, refused_then}
use Rattle.ufs_path.proofs.NeedLaws.{needs_first, needs_second}
use Rattle.ufs_path.proofs.ReadsLaws.{both_read, refused_read, same_read}
use Rattle.ufs_path.proofs.GrowLaws.{value_on}
use Rattle.ufs_path.proofs.TreeLaws.{below_lines}
use Rattle.ufs_path.proofs.AnswerLaws.{map_answer}
use Rattle.ufs_path.specs.Answers.{IsAnswer, refusal_of}
use Rattle.ufs_path.specs.Trees.{AddsBranches, Begins, Branch, HandsFront, HandsSome, IsGrown, IsUnansweredIn, IsUnreadIn, IsUnreadWalkIn, Opens, OpensBlocks, all_lines, branch_at, branch_of, branches_at, branches_below, branches_in, left_on, lines_below, lines_in, opened, root_lines}
use Rattle.ufs_path.specs.declared.branches.Pending.{Pending}
use Rattle.ufs_path.specs.declared.faults.CatAnswer.{CatAnswer}
use Rattle.ufs_path.specs.declared.faults.LookFault.{LookFault}
use Rattle.ufs_path.specs.declared.walks.Walked.{Walked}
use Rattle.ufs_path.specs.declared.walks.Walked.TheVariants.{All, Unread, Failed}

-- ---- answers where there is no memory

pub answer_map : {S E : Type 0} (took took_part : S → List Listed → S → Type 0) (faults : S → ℕ) (old new : S) (one two : Option (Result (List Listed) PathRefusal) → Type 0) (r : Result CatAnswer E)
    → ((x : Option (Result (List Listed) PathRefusal)) → one x → two x) → IfOk r (IsAnswer took took_part faults old new one) → IfOk r (IsAnswer took took_part faults old new two)
answer_map took took_part faults old new one two (Ok answer) go is = map_answer took took_part faults old new {one = one} {two = two} answer go is
answer_map took took_part faults old new one two (Err e) go is = tt

pub grown_map : {S E : Type 0} (took took_part : S → List Listed → S → Type 0) (faults : S → ℕ) (old new : S) (one two : Option (Result (List Listed) PathRefusal) → Type 0) (first second : List Listed → Type 0) (r : Result Walked E)
    → ((x : Option (Result (List Listed) PathRefusal)) → one x → two x) → ((front : List Listed) → first front → second front)
    → IfOk r (IsGrown took took_part faults old new one first) → IfOk r (IsGrown took took_part faults old new two second)
grown_map took took_part faults old new one two first second (Ok (All n)) go on is = (is.0, is.1, is.2, go _ (is.3))
grown_map took took_part faults old new one two first second (Ok (Unread n fault)) go on is = (is.0, is.1, is.2, on _ (is.3), go _ (is.4))
grown_map took took_part faults old new one two first second (Ok Failed) go on is = (is.0, is.1, on _ (is.2), is.3)
grown_map took took_part faults old new one two first second (Err e) go on is = tt

pub err_unread : {T E : Type 0} (r : Result (Result T LookFault) E) → IsErr r → IsUnreadIn r → ⊥
err_unread (Ok a) is h = absurd (false≢true is)
err_unread (Err e) is h = h

pub err_unread_walk : {E : Type 0} (r : Result Walked E) → IsErr r → IsUnreadWalkIn r → ⊥
err_unread_walk (Ok a) is h = absurd (false≢true is)
err_unread_walk (Err e) is h = h

pub err_unanswered : {E : Type 0} (r : Result CatAnswer E) → IsErr r → IsUnansweredIn r → ⊥
err_unanswered (Ok a) is h = absurd (false≢true is)
err_unanswered (Err e) is h = h

-- ---- entries that are kept

pub branches_both : (depth : ℕ) (xs ys : List DirEntry) → branches_at depth (xs ++ ys) ≡ branches_at depth xs ++ branches_at depth ys
branches_both depth xs ys = ap (map (branch_at depth)) (filter-append is_plain xs ys) ∙ map-append (branch_at depth) (filter is_plain xs) (filter is_plain ys)

pub adds_none : (depth : ℕ) (old : List Pending) → AddsBranches depth [] old old
adds_none depth old = sym (append-nil (map branch_of old))

pub adds_both : (depth : ℕ) (xs ys : List DirEntry) (a b c : List Pending) → AddsBranches depth xs a b → AddsBranches depth ys b c → AddsBranches depth (xs ++ ys) a c
adds_both depth xs ys a b c first second =
    second ∙ ap (λ bs. bs ++ branches_at depth ys) first ∙ append_assoc (map branch_of a) (branches_at depth xs) (branches_at depth ys)
    ∙ sym (ap (λ bs. map branch_of a ++ bs) (branches_both depth xs ys))

-- ---- the stack

pub left_more : (stack : List Pending) (last : Pending) → left_on (stack ++ (last ∷ [])) ≡ branch_of last ∷ left_on stack
left_more stack last = ap (map branch_of) (reverse-append stack (last ∷ []))

pub left_popped : (old stack : List Pending) (last : Pending) → old ≡ stack ++ (last ∷ []) → left_on old ≡ branch_of last ∷ left_on stack
left_popped old stack last is = ap left_on is ∙ left_more stack last

-- the last of those that are kept is put on the stack
pub put_next : (kept left stack : List Pending) (last : Pending) (whole : List Branch) → kept ≡ left ++ (last ∷ []) → map branch_of kept ++ left_on stack ≡ whole
    → map branch_of left ++ left_on (stack ++ (last ∷ [])) ≡ whole
put_next kept left stack last whole is so_far =
    ap (λ bs. map branch_of left ++ bs) (left_more stack last)
    ∙ sym (append_assoc (map branch_of left) (branch_of last ∷ []) (left_on stack))
    ∙ ap (λ bs. bs ++ left_on stack) (sym (map-append branch_of left (last ∷ [])) ∙ ap (map branch_of) (sym is)) ∙ so_far

-- what was put on an empty stack
pub all_opened : {stands : Volume → Type 0} {tells : Type 0} {before now : ℕ → Bool} {d : Reading (Result (List Branch) PathRefusal)} (bs new : List Branch) (old : List Pending) → old ≡ [] → new ≡ bs ++ left_on old
    → ReadsAs stands before tells now d (Some (Ok bs)) → ReadsAs stands before tells now d (Some (Ok new))
all_opened {stands} {tells} {before} {now} {d} bs new old none is reads =
    let same : new ≡ bs = is ∙ ap (λ xs. bs ++ left_on xs) none ∙ append-nil bs in
    subst (λ (xs : List Branch). ReadsAs stands before tells now d (Some (Ok xs))) (sym same) reads

-- ---- the entries of a directory

pub entries_are : (g : Geometry) (inode : Inode) (count : ℕ) → directory_refusal inode ≡ None → count ≡ block_count g inode → entries_before g inode count ≡ entries_of g inode
unfolding entries_of
entries_are g inode count e1 e2 = ap (λ k. entries_before g inode k) e2 ∙ sym (ap (λ r. unless_refused r (entries_before g inode (block_count g inode))) e1)

pub branches_read : {stands : Volume → Type 0} {tells : Type 0} {before now : ℕ → Bool} (g : Geometry) (depth : ℕ) (inode : Inode) (count : ℕ) (entries : List DirEntry) → directory_refusal inode ≡ None → count ≡ block_count g inode
    → ReadsAs stands before tells now (entries_before g inode count) (Some (Ok entries)) → ReadsAs stands before tells now (branches_in g depth inode) (Some (Ok (branches_at depth entries)))
unfolding branches_in
branches_read {stands} {tells} {before} {now} g depth inode count entries e1 e2 reads =
    both_read _ entries _ (subst (λ d. ReadsAs stands before tells now d (Some (Ok entries))) (entries_are g inode count e1 e2) reads) (reads_known (Ok (branches_at depth entries)))

pub branches_unread : {stands : Volume → Type 0} {tells : Type 0} {before now : ℕ → Bool} (g : Geometry) (depth : ℕ) (inode : Inode) (count : ℕ) (fault : LookFault) → directory_refusal inode ≡ None → count ≡ block_count g inode → Grows before now
    → ReadsAs stands before tells now (entries_before g inode count) (option_map Err (refusal_of fault)) → ReadsAs stands before tells now (branches_in g depth inode) (option_map Err (refusal_of fault))
unfolding branches_in
branches_unread {stands} {tells} {before} {now} g depth inode count fault e1 e2 grows reads =
    refused_read _ (refusal_of fault) grows (subst (λ d. ReadsAs stands before tells now d (option_map Err (refusal_of fault))) (entries_are g inode count e1 e2) reads)

pub branches_refused : {stands : Volume → Type 0} {tells : Type 0} {before : ℕ → Bool} (g : Geometry) (depth : ℕ) (inode : Inode) (fault : LookFault) → Some (refusal_of fault) ≡ option_map Some (directory_refusal inode)
    → ReadsAs stands before tells before (branches_in g depth inode) (option_map Err (refusal_of fault))
unfolding branches_in entries_of
branches_refused g depth inode fault e =
    refused_read _ (refusal_of fault) (λ b h. h) (refused_then _ (directory_refusal inode) (refusal_of fault) (refusal_said fault _ e) e)

-- what was put on a stack for the entries of a directory was put there for its listing
pub branches_opened : {E : Type 0} (stands : Volume → Type 0) (tells : Type 0) (before now : ℕ → Bool) (g : Geometry) (depth : ℕ) (inode : Inode) (count : ℕ) (old new : List Branch) (r : Result (Result (Unit {0}) LookFault) E)
    → directory_refusal inode ≡ None → count ≡ block_count g inode → Grows before now
    → IfOk r (OpensBlocks (ReadsAs stands before tells now (entries_before g inode count)) depth old new) → IfOk r (Opens (ReadsAs stands before tells now (branches_in g depth inode)) old new)
branches_opened stands tells before now g depth inode count old new (Ok (Ok done)) e1 e2 grows is = (branches_at depth (is.0), is.1, branches_read g depth inode count (is.0) e1 e2 (is.2))
branches_opened stands tells before now g depth inode count old new (Ok (Err fault)) e1 e2 grows is = branches_unread g depth inode count fault e1 e2 grows is
branches_opened stands tells before now g depth inode count old new (Err e) e1 e2 grows is = tt

pub branches_needed : (g : Geometry) (depth : ℕ) (inode : Inode) (count : ℕ) (v : Volume) (b : ℕ) → directory_refusal inode ≡ None → count ≡ block_count g inode
    → IsNeeded (entries_before g inode count) v b → IsNeeded (branches_in g depth inode) v b
unfolding branches_in
branches_needed g depth inode count v b e1 e2 h = needs_first (entries_of g inode) _ v b (subst (λ d. IsNeeded d v b) (entries_are g inode count e1 e2) h)

-- ---- the entries below an inode

below_by : (t : Bool) (d e : Reading (Result (List Branch) PathRefusal)) (b : Bool) → t ≡ b → (if t then d else e) ≡ (if b then d else e)
below_by t d e b is = ap (λ (x : Bool). if x then d else e) is

pub below_is : (g : Geometry) (depth : ℕ) (inode : Inode) → (is_directory (kind_of inode.mode) && nat_lt depth (g.ncg * g.ipg)) ≡ true → branches_in g (depth + 1) inode ≡ branches_below g depth inode
unfolding branches_below
below_is g depth inode is = sym (below_by _ (branches_in g (depth + 1) inode) (known (Ok [])) true is)

pub below_is_none : (g : Geometry) (depth : ℕ) (inode : Inode) → (is_directory (kind_of inode.mode) && nat_lt depth (g.ncg * g.ipg)) ≡ false → known (Ok []) ≡ branches_below g depth inode
unfolding branches_below
below_is_none g depth inode is = sym (below_by _ (branches_in g (depth + 1) inode) (known (Ok [])) false is)

pub below_opens : (stands : Volume → Type 0) (tells : Type 0) (before now : ℕ → Bool) (g : Geometry) (depth : ℕ) (inode : Inode) (old new : List Branch) (r : Result (Unit {0}) LookFault)
    → (is_directory (kind_of inode.mode) && nat_lt depth (g.ncg * g.ipg)) ≡ true
    → Opens (ReadsAs stands before tells now (branches_in g (depth + 1) inode)) old new r → Opens (ReadsAs stands before tells now (branches_below g depth inode)) old new r
below_opens stands tells before now g depth inode old new r is opens = subst (λ d. Opens (ReadsAs stands before tells now d) old new r) (below_is g depth inode is) opens

pub below_opens_in : {E : Type 0} (stands : Volume → Type 0) (tells : Type 0) (before now : ℕ → Bool) (g : Geometry) (depth : ℕ) (inode : Inode) (old new : List Branch) (r : Result (Result (Unit {0}) LookFault) E)
    → (is_directory (kind_of inode.mode) && nat_lt depth (g.ncg * g.ipg)) ≡ true
    → IfOk r (Opens (ReadsAs stands before tells now (branches_in g (depth + 1) inode)) old new) → IfOk r (Opens (ReadsAs stands before tells now (branches_below g depth inode)) old new)
below_opens_in stands tells before now g depth inode old new (Ok r) is opens = below_opens stands tells before now g depth inode old new r is opens
below_opens_in stands tells before now g depth inode old new (Err e) is opens = tt

pub below_shut : {stands : Volume → Type 0} {tells : Type 0} {before now : ℕ → Bool} (g : Geometry) (depth : ℕ) (inode : Inode) → (is_directory (kind_of inode.mode) && nat_lt depth (g.ncg * g.ipg)) ≡ false
    → ReadsAs stands before tells now (branches_below g depth inode) (Some (Ok []))
below_shut {stands} {tells} {before} {now} g depth inode is = subst (λ d. ReadsAs stands before tells now d (Some (Ok []))) (below_is_none g depth inode is) (reads_known (Ok []))

pub below_needed : (g : Geometry) (depth : ℕ) (inode : Inode) (v : Volume) (b : ℕ) → (is_directory (kind_of inode.mode) && nat_lt depth (g.ncg * g.ipg)) ≡ true
    → IsNeeded (branches_in g (depth + 1) inode) v b → IsNeeded (branches_below g depth inode) v b
below_needed g depth inode v b is h = subst (λ d. IsNeeded d v b) (below_is g depth inode is) h

-- ---- an entry that is opened

pub opened_read : {stands still : Volume → Type 0} {tells told : Type 0} {before now after : ℕ → Bool} (g : Geometry) (b : Branch) (inode : Inode) (bs : List Branch)
    → Grows before now → ((v : Volume) → stands v → still v) → (told → tells)
    → ReadsAs stands before tells now (named_inode g b.inode) (Some (Ok inode)) → ReadsAs still now told after (branches_below g b.depth inode) (Some (Ok bs))
    → ReadsAs stands before told after (opened g b) (Some (Ok (inode, bs)))
unfolding opened
opened_read g b inode bs grows keeps tell one two =
    reads_on refusal_of (λ i. and_then (branches_below g b.depth i) (λ found. known (Ok (i, found)))) inode (Some (Ok (inode, bs))) grows keeps tell one
    (both_read (λ found. known (Ok (inode, found))) bs (Some (Ok (inode, bs))) two (reads_known (Ok (inode, bs))))

pub opened_shut : {stands still : Volume → Type 0} {tells told : Type 0} {before now after : ℕ → Bool} (g : Geometry) (b : Branch) (inode : Inode) (fault : LookFault)
    → Grows before now → Grows now after → ((v : Volume) → stands v → still v) → (told → tells)
    → ReadsAs stands before tells now (named_inode g b.inode) (Some (Ok inode)) → ReadsAs still now told after (branches_below g b.depth inode) (option_map Err (refusal_of fault))
    → ReadsAs stands before told after (opened g b) (option_map Err (refusal_of fault))
unfolding opened
opened_shut g b inode fault grows further keeps tell one two =
    reads_on refusal_of (λ i. and_then (branches_below g b.depth i) (λ found. known (Ok (i, found)))) inode (option_map Err (refusal_of fault)) grows keeps tell one
    (refused_read (λ found. known (Ok (inode, found))) (refusal_of fault) further two)

pub opened_unread : {stands : Volume → Type 0} {tells : Type 0} {before now : ℕ → Bool} (g : Geometry) (b : Branch) (fault : LookFault) → Grows before now
    → ReadsAs stands before tells now (named_inode g b.inode) (option_map Err (refusal_of fault)) → ReadsAs stands before tells now (opened g b) (option_map Err (refusal_of fault))
unfolding opened
opened_unread g b fault grows one = refused_read _ (refusal_of fault) grows one

pub opened_first : (g : Geometry) (b : Branch) (v : Volume) (block : ℕ) → IsNeeded (named_inode g b.inode) v block → IsNeeded (opened g b) v block
unfolding opened
opened_first g b v block h = needs_first (named_inode g b.inode) _ v block h

pub opened_second : (g : Geometry) (b : Branch) (inode : Inode) (v : Volume) (block : ℕ) → Ok inode ≡ (named_inode g b.inode v).value → IsNeeded (branches_below g b.depth inode) v block → IsNeeded (opened g b) v block
unfolding opened
opened_second g b inode v block is h =
    needs_second (named_inode g b.inode) _ inode v block is (needs_first (branches_below g b.depth inode) (λ found. known (Ok (inode, found))) v block h)

-- ---- the lines below an inode

pub below_read : {stands still : Volume → Type 0} {tells told : Type 0} {before now after : ℕ → Bool} (g : Geometry) (depth : ℕ) (inode : Inode) (bs : List Branch) (answer : Option (Result (List Listed) PathRefusal))
    → Grows before now → ((v : Volume) → stands v → still v) → (told → tells)
    → ReadsAs stands before tells now (branches_below g depth inode) (Some (Ok bs)) → ReadsAs still now told after (all_lines g bs) answer
    → ReadsAs stands before told after (lines_below g depth inode) answer
below_read g depth inode bs answer grows keeps tell one two =
    same_read (λ v. sym (below_lines g depth inode v)) (reads_on refusal_of (all_lines g) bs answer grows keeps tell one two)

-- the first of the lines of the entries below it are the first of its lines
pub below_begins : {stands still : Volume → Type 0} {tells told : Type 0} {before now : ℕ → Bool} (g : Geometry) (depth : ℕ) (inode : Inode) (bs : List Branch) (front : List Listed)
    → ((v : Volume) → stands v → still v) → (told → tells) → ReadsAs stands before tells now (branches_below g depth inode) (Some (Ok bs))
    → Begins still told (all_lines g bs) front → Begins stands told (lines_below g depth inode) front
below_begins g depth inode bs front keeps tell one is = λ are v holds lines e.
    is are v (keeps v holds) lines
    (e ∙ ap (λ c. c.value) (below_lines g depth inode v) ∙ value_on (branches_below g depth inode) (all_lines g) bs v ((one.rule (tell are) v holds).answer))

pub below_unread : {stands : Volume → Type 0} {tells : Type 0} {before now : ℕ → Bool} (g : Geometry) (depth : ℕ) (inode : Inode) (fault : LookFault) → Grows before now
    → ReadsAs stands before tells now (branches_below g depth inode) (option_map Err (refusal_of fault)) → ReadsAs stands before tells now (lines_below g depth inode) (option_map Err (refusal_of fault))
below_unread g depth inode fault grows one = same_read (λ v. sym (below_lines g depth inode v)) (refused_read (all_lines g) (refusal_of fault) grows one)

pub below_first : (g : Geometry) (depth : ℕ) (inode : Inode) (v : Volume) (b : ℕ) → IsNeeded (branches_below g depth inode) v b → IsNeeded (lines_below g depth inode) v b
below_first g depth inode v b h = subst (λ c. Contains c.needs b) (sym (below_lines g depth inode v)) (needs_first (branches_below g depth inode) (all_lines g) v b h)

pub below_second : (g : Geometry) (depth : ℕ) (inode : Inode) (bs : List Branch) (v : Volume) (b : ℕ) → Ok bs ≡ (branches_below g depth inode v).value → IsNeeded (all_lines g bs) v b → IsNeeded (lines_below g depth inode) v b
below_second g depth inode bs v b is h = subst (λ c. Contains c.needs b) (sym (below_lines g depth inode v)) (needs_second (branches_below g depth inode) (all_lines g) bs v b is h)

-- ---- the root

root_by : (t : Bool) (d e f : Reading (Result (List Listed) PathRefusal)) → t ≡ true → (if t then d else e) ≡ (if t then d else f)
root_by true d e f is = refl
root_by false d e f is = let no : false ≡ true = is in cc

abbrev if_listed : Bool → Reading (Result (List Listed) PathRefusal) → Reading (Result (List Listed) PathRefusal)
if_listed test d = if test then d else known (Ok [])

pub root_is : (g : Geometry) (root : Inode) → is_directory (kind_of root.mode) ≡ true → lines_below g 0 root ≡ root_lines g root
unfolding root_lines
root_is g root is =
    let same : g.ncg * g.ipg - 0 ≡ g.ncg * g.ipg = omega arith in
    ap (λ (levels : ℕ). if_listed (is_directory (kind_of root.mode)) (tree_below g levels 1 root)) same
    ∙ root_by (is_directory (kind_of root.mode)) (tree_below g (g.ncg * g.ipg) 1 root) (known (Ok [])) (known (Err NotDirectory)) is

no_root_by : (t : Bool) (d e : Reading (Result (List Listed) PathRefusal)) → t ≡ false → e ≡ (if t then d else e)
no_root_by false d e is = refl
no_root_by true d e is = let no : true ≡ false = is in cc

pub root_is_none : (g : Geometry) (root : Inode) → is_directory (kind_of root.mode) ≡ false → known (Err NotDirectory) ≡ root_lines g root
unfolding root_lines
root_is_none g root is = no_root_by (is_directory (kind_of root.mode)) (tree_below g (g.ncg * g.ipg) 1 root) (known (Err NotDirectory)) is

pub root_read : {stands : Volume → Type 0} {tells : Type 0} {before now : ℕ → Bool} (g : Geometry) (root : Inode) (answer : Option (Result (List Listed) PathRefusal)) → is_directory (kind_of root.mode) ≡ true
    → ReadsAs stands before tells now (lines_below g 0 root) answer → ReadsAs stands before tells now (root_lines g root) answer
root_read {stands} {tells} {before} {now} g root answer is reads = subst (λ d. ReadsAs stands before tells now d answer) (root_is g root is) reads

pub root_refused : {stands : Volume → Type 0} {tells : Type 0} {before now : ℕ → Bool} (g : Geometry) (root : Inode) → is_directory (kind_of root.mode) ≡ false
    → ReadsAs stands before tells now (root_lines g root) (Some (Err NotDirectory))
root_refused {stands} {tells} {before} {now} g root is = subst (λ d. ReadsAs stands before tells now d (Some (Err NotDirectory))) (root_is_none g root is) (reads_known (Err NotDirectory))

pub root_needed : (g : Geometry) (root : Inode) (v : Volume) (b : ℕ) → is_directory (kind_of root.mode) ≡ true → IsNeeded (lines_below g 0 root) v b → IsNeeded (root_lines g root) v b
root_needed g root v b is h = subst (λ d. IsNeeded d v b) (root_is g root is) h

-- ---- the volume

-- what holds at an error, if it is one
pub on_err : {T E : Type 0} {P : Type 0} (r : Result T E) → P → OnErr r P
on_err (Ok answer) p = tt
on_err (Err e) p = p

-- of what was handed on
pub err_front : {T E S : Type 0} (took : S → List Listed → S → Type 0) (old new : S) (P Q : List Listed → Type 0) (r : Result T E)
    → ((front : List Listed) → P front → Q front) → OnErr r (HandsFront took old new P) → OnErr r (HandsFront took old new Q)
err_front took old new P Q (Ok answer) f h = tt
err_front took old new P Q (Err e) f h = (h.0, h.1, f h.0 h.2)

some_map : {S : Type 0} (took : S → List Listed → S → Type 0) (old new : S) (P Q : Option (Result (List Listed) PathRefusal) → Type 0)
    → ((r : Option (Result (List Listed) PathRefusal)) → P r → Q r) → HandsSome took old new P → HandsSome took old new Q
some_map took old new P Q f (inl same) = inl same
some_map took old new P Q f (inr some) = inr (some.0, some.1, some.2, f (Some (Ok (some.0 ++ some.1))) some.3)

-- the same of lines that are read
pub err_some : {T E S : Type 0} (took : S → List Listed → S → Type 0) (old new : S) (P Q : Option (Result (List Listed) PathRefusal) → Type 0) (r : Result T E)
    → ((r : Option (Result (List Listed) PathRefusal)) → P r → Q r) → OnErr r (HandsSome took old new P) → OnErr r (HandsSome took old new Q)
err_some took old new P Q (Ok answer) f h = tt
err_some took old new P Q (Err e) f h = some_map took old new P Q f h

pub volume_read : {stands still : Volume → Type 0} {tells told : Type 0} {before now after : ℕ → Bool} (g : Geometry) (root : Inode) (answer : Option (Result (List Listed) PathRefusal))
    → Grows before now → ((v : Volume) → stands v → still v) → (told → tells)
    → ReadsAs stands before tells now (named_inode g 2) (Some (Ok root)) → ReadsAs still now told after (root_lines g root) answer → ReadsAs stands before told after (lines_in g) answer
unfolding lines_in
volume_read g root answer grows keeps tell one two = reads_on refusal_of (root_lines g) root answer grows keeps tell one two

pub volume_unread : {stands : Volume → Type 0} {tells : Type 0} {before now : ℕ → Bool} (g : Geometry) (fault : LookFault) → Grows before now
    → ReadsAs stands before tells now (named_inode g 2) (option_map Err (refusal_of fault)) → ReadsAs stands before tells now (lines_in g) (option_map Err (refusal_of fault))
unfolding lines_in
volume_unread g fault grows one = refused_read (root_lines g) (refusal_of fault) grows one

pub volume_first : (g : Geometry) (v : Volume) (b : ℕ) → IsNeeded (named_inode g 2) v b → IsNeeded (lines_in g) v b
unfolding lines_in
volume_first g v b h = needs_first (named_inode g 2) (root_lines g) v b h

pub volume_second : (g : Geometry) (root : Inode) (v : Volume) (b : ℕ) → Ok root ≡ (named_inode g 2 v).value → IsNeeded (root_lines g root) v b → IsNeeded (lines_in g) v b
unfolding lines_in
volume_second g root v b is h = needs_second (named_inode g 2) (root_lines g) root v b is h

pub tree_read : {stands still : Volume → Type 0} {tells told : Type 0} {before now after : ℕ → Bool} (l n : ℕ) (g : Geometry) (answer : Option (Result (List Listed) PathRefusal))
    → Grows before now → ((v : Volume) → stands v → still v) → (told → tells)
    → ReadsAs stands before tells now (volume_geometry l n) (Some (Ok g)) → ReadsAs still now told after (lines_in g) answer → ReadsAs stands before told after (tree_of l n) answer
unfolding tree_of lines_in root_lines
tree_read l n g answer grows keeps tell one two = reads_on refusal_of _ g answer grows keeps tell one two

pub tree_unread : {stands : Volume → Type 0} {tells : Type 0} {before now : ℕ → Bool} (l n : ℕ) (fault : LookFault) → Grows before now
    → ReadsAs stands before tells now (volume_geometry l n) (option_map Err (refusal_of fault)) → ReadsAs stands before tells now (tree_of l n) (option_map Err (refusal_of fault))
unfolding tree_of
tree_unread l n fault grows one = refused_read _ (refusal_of fault) grows one

pub tree_first : (l n : ℕ) (v : Volume) (b : ℕ) → IsNeeded (volume_geometry l n) v b → IsNeeded (tree_of l n) v b
unfolding tree_of
tree_first l n v b h = needs_first (volume_geometry l n) _ v b h

pub tree_second : (l n : ℕ) (g : Geometry) (v : Volume) (b : ℕ) → Ok g ≡ (volume_geometry l n v).value → IsNeeded (lines_in g) v b → IsNeeded (tree_of l n) v b
unfolding tree_of lines_in root_lines
tree_second l n g v b is h = needs_second (volume_geometry l n) _ g v b is h
