-- Answers of `cat`.
use Rattle.std.proofs.Common.{ℕ, ◌≤◌, Bool, List, ◌++◌, Some, Ok, Err, Result, Option, length, drop, ap}
use Rattle.std.specs.Option.{option_map}
use Rattle.ufs_model.specs.Blocks.{Volume}
use Rattle.ufs_model.specs.Paths.{cat_of, contents_of, front_of, look_from, names_of, volume_geometry}
use Rattle.ufs_model.specs.Readings.{Grows, ReadsAs}
use Rattle.ufs_model.specs.declared.geometries.Geometry.{Geometry}
use Rattle.ufs_model.specs.declared.inodes.Inode.{Inode}
use Rattle.ufs_model.specs.declared.reads.PathRefusal.{PathRefusal}
use Rattle.ufs_model.proofs.ReadingLaws.{reads_on, reads_refused}
use Rattle.ufs_path.proofs.FileLaws.{file_fronts}
use Rattle.ufs_path.proofs.PartLaws.{rest_is}
use Rattle.ufs_path.proofs.ReadsLaws.{answer_where, none_now, wider}
use Rattle.ufs_path.specs.Answers.{IsAnswer, refusal_of}
use Rattle.ufs_path.specs.Parts.{IsHanded, cat_below}
use Rattle.ufs_path.specs.declared.faults.LookFault.{LookFault}
use Rattle.ufs_path.specs.declared.faults.CatAnswer.{CatAnswer}
use Rattle.ufs_path.specs.declared.faults.CatAnswer.TheVariants.{Given, NotFound, NotDirectory, Bad, Unavailable, NotRegular, Cut, SinkFault}

-- ---- the second time

-- a front, and what was after it the first time
front_bytes : {stands : Volume → Type 0} {tells : Type 0} {before after : ℕ → Bool} (g : Geometry) (inode : Inode) (k count : ℕ) (front bytes : List ℕ) → k ≤ count
    → ReadsAs stands before tells after (front_of g inode count) (Some (Ok bytes)) → ReadsAs stands before tells after (front_of g inode k) (Some (Ok front))
    → ReadsAs stands before tells after (front_of g inode count) (Some (Ok (front ++ drop (length front) bytes)))
front_bytes g inode k count front bytes le one two =
    answer_where (Ok bytes) (Ok (front ++ drop (length front) bytes)) (λ is v holds. ap Ok (rest_is (file_fronts g inode) k count v front bytes le (two.rule is v holds).answer (one.rule is v holds).answer)) one

pub handed_again : {S : Type 0} (took took_part : S → List ℕ → S → Type 0) (faults : S → ℕ) (old new : S) {stands still : Volume → Type 0} {tells told : Type 0} {before now : ℕ → Bool} (after : ℕ → Bool) (g : Geometry) (inode : Inode) (count : ℕ) (bytes : List ℕ) (answer : CatAnswer)
    → ((a b : S) (x y : List ℕ) → took_part a x b → took_part a (x ++ y) b)
    → Grows before now → Grows now after → ((v : Volume) → stands v → still v) → (told → tells) → ReadsAs stands before tells now (front_of g inode count) (Some (Ok bytes))
    → IsHanded took took_part faults old new count (λ k. ReadsAs still now told after (front_of g inode k)) answer
    → IsAnswer took took_part faults old new (ReadsAs stands before told after (front_of g inode count)) answer
handed_again took took_part faults old new after g inode count bytes (Given n) part grows further keeps tell one is = (is.0, is.1, is.2, wider _ grows (λ b h. h) keeps (λ h. h) is.3)
handed_again took took_part faults old new after g inode count bytes (Cut n) part grows further keeps tell one is =
    let first = wider _ (λ b h. h) further (λ v h. h) tell one in (
      is.0,
      drop (length is.0) bytes,
      is.4,
      is.5,
      front_bytes g inode is.1 count is.0 bytes is.3 first (wider _ grows (λ b h. h) keeps (λ h. h) is.6),
      none_now bytes (refusal_of is.2) first (wider _ grows (λ b h. h) keeps (λ h. h) is.7),
    )
handed_again took took_part faults old new after g inode count bytes SinkFault part grows further keeps tell one is = (
  is.0 ++ drop (length is.0) bytes,
  part old new is.0 (drop (length is.0) bytes) is.3,
  front_bytes g inode is.1 count is.0 bytes is.2 (wider _ (λ b h. h) further (λ v h. h) tell one) (wider _ grows (λ b h. h) keeps (λ h. h) is.4),
  is.5,
)
handed_again took took_part faults old new after g inode count bytes NotFound part grows further keeps tell one is = absurd is
handed_again took took_part faults old new after g inode count bytes NotDirectory part grows further keeps tell one is = absurd is
handed_again took took_part faults old new after g inode count bytes (Bad bad) part grows further keeps tell one is = absurd is
handed_again took took_part faults old new after g inode count bytes Unavailable part grows further keeps tell one is = absurd is
handed_again took took_part faults old new after g inode count bytes NotRegular part grows further keeps tell one is = absurd is

-- ---- the file at a path

pub below_read : {stands still : Volume → Type 0} {tells told : Type 0} {before now after : ℕ → Bool} (g : Geometry) (path : List ℕ) (number : ℕ) (inode : Inode) (answer : Option (Result (List ℕ) PathRefusal))
    → Grows before now → ((v : Volume) → stands v → still v) → (told → tells)
    → ReadsAs stands before tells now (look_from g (names_of path) 2) (Some (Ok (number, inode))) → ReadsAs still now told after (contents_of g inode) answer
    → ReadsAs stands before told after (cat_below path g) answer
unfolding cat_below
below_read g path number inode answer grows keeps tell one two = reads_on refusal_of _ (number, inode) answer grows keeps tell one two

pub below_unread : {stands : Volume → Type 0} {tells : Type 0} {before after : ℕ → Bool} (g : Geometry) (path : List ℕ) (fault : LookFault)
    → Grows before after → ReadsAs stands before tells after (look_from g (names_of path) 2) (option_map Err (refusal_of fault))
    → ReadsAs stands before tells after (cat_below path g) (option_map Err (refusal_of fault))
unfolding cat_below
below_unread g path fault grows one = reads_refused refusal_of _ fault grows one

pub path_read : {stands still : Volume → Type 0} {tells told : Type 0} {before now after : ℕ → Bool} (l n : ℕ) (path : List ℕ) (g : Geometry) (answer : Option (Result (List ℕ) PathRefusal))
    → Grows before now → ((v : Volume) → stands v → still v) → (told → tells)
    → ReadsAs stands before tells now (volume_geometry l n) (Some (Ok g)) → ReadsAs still now told after (cat_below path g) answer
    → ReadsAs stands before told after (cat_of l n path) answer
unfolding cat_of cat_below
path_read l n path g answer grows keeps tell one two = reads_on refusal_of _ g answer grows keeps tell one two

pub path_unread : {stands : Volume → Type 0} {tells : Type 0} {before after : ℕ → Bool} (l n : ℕ) (path : List ℕ) (fault : LookFault)
    → Grows before after → ReadsAs stands before tells after (volume_geometry l n) (option_map Err (refusal_of fault))
    → ReadsAs stands before tells after (cat_of l n path) (option_map Err (refusal_of fault))
unfolding cat_of
path_unread l n path fault grows one = reads_refused refusal_of _ fault grows one
