-- Reading inodes, and looking up a name.
use Rattle.std.proofs.Common.{◌≡◌, ℕ, ◌+◌, List, [], ◌∷◌, Bool, Some, Ok, Err, None, Result, Option, length, take, drop, refl, subst, arith}
use Rattle.std.specs.Option.{ok_or, option_map}
use Rattle.ufs_model.specs.Blocks.{Reading, Volume, area_of, bind, consult, known}
use Rattle.ufs_model.specs.Inodes.{inode_block, inode_byte, inode_in, inode_of}
use Rattle.ufs_model.specs.Paths.{allocated, find_of, look_from, look_of, named_inode, names_after, names_of, volume_geometry}
use Rattle.ufs_model.specs.Readings.{Continues, Grows, MeetsRule, ReadsAs, and_then}
use Rattle.ufs_model.proofs.ReadingLaws.{reads_map, reads_none, reads_on, reads_refused}
use Rattle.ufs_model.specs.declared.geometries.Geometry.{Geometry}
use Rattle.ufs_model.specs.declared.inodes.Inode.{Inode}
use Rattle.ufs_model.specs.declared.reads.BadRead.TheVariants.{Entry}
use Rattle.ufs_model.specs.declared.reads.PathRefusal.{PathRefusal}
use Rattle.ufs_model.specs.declared.reads.PathRefusal.TheVariants.{Bad}
use Rattle.ufs_path.specs.Answers.{refusal_of}
use Rattle.ufs_path.specs.declared.faults.LookFault.{LookFault}

-- an area of one block
one_block : (l a : ℕ) (v : Volume) → area_of l a 1 v ≡ consult l a v
unfolding area_of bind
one_block l a v = let e : a + 0 ≡ a = omega arith in rw e refl

pub fragment_read : {stands : Volume → Type 0} {tells : Type 0} {before after : ℕ → Bool} (l a : ℕ) (answer : Option (List ℕ))
    → ReadsAs stands before tells after (area_of l a 1) answer → ReadsAs stands before tells after (consult l a) answer
fragment_read {before = before} {after = after} l a answer reads = record {
  rule = λ is v holds. subst (λ d. MeetsRule before after d answer) (one_block l a v) (reads.rule is v holds);
}

pub inode_read : {stands : Volume → Type 0} {tells : Type 0} {before after : ℕ → Bool} (g : Geometry) (i l block byte : ℕ) (bytes : List ℕ) (answer : Option (Result Inode PathRefusal)) → Grows before after
    → l ≡ g.fsize → block ≡ inode_block g i → byte ≡ inode_byte g i → answer ≡ Some (ok_or (inode_in g.endian (take 128 (drop byte bytes))) (Bad Entry))
    → ReadsAs stands before tells after (area_of l block 1) (Some bytes) → ReadsAs stands before tells after (allocated g i) answer
unfolding inode_of
inode_read g i l block byte bytes answer grows e1 e2 e3 e4 reads =
    rw (e4, e3) (reads_map (λ found. ok_or found (Bad Entry)) grows (reads_map (λ b. inode_in g.endian (take 128 (drop (inode_byte g i) b))) grows (rw (e1, e2) at (fragment_read l block _ reads))))

pub inode_unread : {stands : Volume → Type 0} {tells : Type 0} {before after : ℕ → Bool} (g : Geometry) (i l block : ℕ)
    → l ≡ g.fsize → block ≡ inode_block g i
    → ReadsAs stands before tells after (area_of l block 1) None → ReadsAs stands before tells after (allocated g i) None
unfolding inode_of
inode_unread g i l block e1 e2 reads = reads_none _ (reads_none _ (rw (e1, e2) at (fragment_read l block _ reads)))

-- ---- one name after the other

-- the inode that the names so far lead to, and then the next name
pub next_inode : {stands : Volume → Type 0} {tells : Type 0} {before now : ℕ → Bool} {whole : Reading (Result (ℕ × Inode) PathRefusal)} (g : Geometry) (path name rest : List ℕ) (i : ℕ) → names_after path ≡ name ∷ names_after rest
    → Continues stands before tells now whole (look_from g (names_after path) i)
    → Continues stands before tells now whole (and_then (named_inode g i) (λ inode. and_then (find_of g inode name) (λ next. look_from g (names_after rest) next)))
unfolding look_from
next_inode g path name rest i e so_far = rw e at so_far

-- the inode that all names lead to
pub last_inode : {stands : Volume → Type 0} {tells : Type 0} {before now : ℕ → Bool} {whole : Reading (Result (ℕ × Inode) PathRefusal)} (g : Geometry) (path : List ℕ) (i : ℕ) → length path ≡ 0
    → Continues stands before tells now whole (look_from g (names_after path) i)
    → Continues stands before tells now whole (and_then (named_inode g i) (λ inode. known (Ok (i, inode))))
unfolding look_from
last_inode g [] i e so_far = so_far
last_inode g (b ∷ path) i e so_far = absurd (omega arith)

-- ---- the inode at a path of a volume

pub look_read : {stands still : Volume → Type 0} {tells told : Type 0} {before now after : ℕ → Bool} (l n : ℕ) (path : List ℕ) (g : Geometry) (answer : Option (Result (ℕ × Inode) PathRefusal))
    → Grows before now → ((v : Volume) → stands v → still v) → (told → tells)
    → ReadsAs stands before tells now (volume_geometry l n) (Some (Ok g)) → ReadsAs still now told after (look_from g (names_of path) 2) answer
    → ReadsAs stands before told after (look_of l n path) answer
unfolding look_of
look_read l n path g answer grows keeps tell one two = reads_on refusal_of _ g answer grows keeps tell one two

pub look_unread : {stands : Volume → Type 0} {tells : Type 0} {before after : ℕ → Bool} (l n : ℕ) (path : List ℕ) (fault : LookFault)
    → Grows before after → ReadsAs stands before tells after (volume_geometry l n) (option_map Err (refusal_of fault))
    → ReadsAs stands before tells after (look_of l n path) (option_map Err (refusal_of fault))
unfolding look_of
look_unread l n path fault grows one = reads_refused refusal_of _ fault grows one
