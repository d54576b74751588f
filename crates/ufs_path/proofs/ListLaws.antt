-- Answers of `ls`.
use Rattle.std.proofs.Common.{◌≡◌, ◌∙◌, ◌⊎◌, inl, inr, ℕ, ◌≤◌, Bool, List, [], ◌++◌, Some, None, Ok, Err, Result, Option, length, drop, sym, ap, subst}
use Rattle.std.specs.Option.{option_map}
use Rattle.std.proofs.lemmas.List.{append-nil, append_assoc}
use Rattle.ufs_model.specs.Blocks.{Volume}
use Rattle.ufs_model.specs.Chunks.{DirEntry}
use Rattle.ufs_model.specs.Inodes.{block_count}
use Rattle.ufs_model.specs.Listings.{Listed, listed_entries, listing_of, ls_of}
use Rattle.ufs_model.specs.Paths.{directory_refusal, entries_before, entries_of, look_from, names_of, unless_refused, volume_geometry}
use Rattle.ufs_model.specs.Readings.{Grows, ReadsAs, and_then}
use Rattle.ufs_model.specs.declared.geometries.Geometry.{Geometry}
use Rattle.ufs_model.specs.declared.inodes.Inode.{Inode}
use Rattle.ufs_model.specs.declared.reads.PathRefusal.{PathRefusal}
use Rattle.ufs_model.proofs.ReadingLaws.{reads_on, reads_refused}
use Rattle.ufs_path.proofs.DirectoryLaws.{none_said, refusal_said, refused_then}
use Rattle.ufs_path.proofs.EntryLaws.{entry_fronts, lines_begin, lines_fail_whole}
use Rattle.ufs_path.proofs.PartLaws.{after_front, rest_is}
use Rattle.ufs_path.proofs.ReadsLaws.{answer_where, both_read, none_now, refused_read, same_where, wider}
use Rattle.ufs_path.specs.Answers.{IsAnswer, refusal_of}
use Rattle.ufs_path.specs.Walks.{AreHanded, AreConsulted, StopsFailed, StopsUnread, Through, ThroughSome, lines_before, ls_below}
use Rattle.ufs_path.specs.declared.faults.LookFault.{LookFault}
use Rattle.ufs_path.specs.declared.faults.CatAnswer.TheVariants.{Given, Cut, SinkFault}

-- ---- the lines of the entries in some file blocks

-- all entries, and then their lines
pub lines_read : {stands : Volume → Type 0} {tells : Type 0} {before after : ℕ → Bool} (g : Geometry) (inode : Inode) (count : ℕ) (entries : List DirEntry) (answer : Option (Result (List Listed) PathRefusal))
    → ReadsAs stands before tells after (entries_before g inode count) (Some (Ok entries)) → ReadsAs stands before tells after (listed_entries g 1 entries) answer
    → ReadsAs stands before tells after (lines_before g inode count) answer
unfolding lines_before
lines_read g inode count entries answer one two = both_read _ entries answer one two

-- entries that aren't read
pub lines_refused : {stands : Volume → Type 0} {tells : Type 0} {before after : ℕ → Bool} (g : Geometry) (inode : Inode) (count : ℕ) (fault : LookFault) → Grows before after
    → ReadsAs stands before tells after (entries_before g inode count) (option_map Err (refusal_of fault)) → ReadsAs stands before tells after (lines_before g inode count) (option_map Err (refusal_of fault))
unfolding lines_before
lines_refused g inode count fault grows one = refused_read _ (refusal_of fault) grows one

-- the lines of the entries in a front of the blocks aren't read
front_unread : {stands : Volume → Type 0} {tells : Type 0} {before after : ℕ → Bool} (g : Geometry) (inode : Inode) (blocks count : ℕ) (some entries : List DirEntry) (fault : LookFault) → Grows before after → blocks ≤ count
    → ReadsAs stands before tells after (entries_before g inode count) (Some (Ok entries)) → ReadsAs stands before tells after (entries_before g inode blocks) (Some (Ok some))
    → ReadsAs stands before tells after (listed_entries g 1 some) (option_map Err (refusal_of fault)) → ReadsAs stands before tells after (lines_before g inode count) (option_map Err (refusal_of fault))
front_unread g inode blocks count some entries fault grows le all front unread =
    lines_read g inode count entries _ all
    (same_where (λ is v holds. ap (λ e. listed_entries g 1 e v) (sym (rest_is (entry_fronts g inode) blocks count v some entries le (front.rule is v holds).answer (all.rule is v holds).answer)))
    (lines_fail_whole g 1 some (drop (length some) entries) (refusal_of fault) grows unread))

-- the lines of a front of the entries are a front of the lines
front_lines : {stands : Volume → Type 0} {tells : Type 0} {before after : ℕ → Bool} (g : Geometry) (inode : Inode) (blocks count : ℕ) (some entries front rest : List DirEntry) (handed lines : List Listed) → blocks ≤ count → some ≡ front ++ rest
    → ReadsAs stands before tells after (entries_before g inode count) (Some (Ok entries)) → ReadsAs stands before tells after (listed_entries g 1 entries) (Some (Ok lines))
    → ReadsAs stands before tells after (entries_before g inode blocks) (Some (Ok some)) → ReadsAs stands before tells after (listed_entries g 1 front) (Some (Ok handed))
    → ReadsAs stands before tells after (lines_before g inode count) (Some (Ok (handed ++ drop (length handed) lines)))
front_lines g inode blocks count some entries front rest handed lines le e all are before_are front_are =
    answer_where (Ok lines) (Ok (handed ++ drop (length handed) lines)) (λ is v holds.
    let after = drop (length some) entries in
    let whole = rest_is (entry_fronts g inode) blocks count v some entries le (before_are.rule is v holds).answer (all.rule is v holds).answer
    ∙ ap (λ xs. xs ++ after) e ∙ append_assoc front rest after in
    let begin = lines_begin g 1 v front (rest ++ after) handed lines (front_are.rule is v holds).answer ((are.rule is v holds).answer ∙ ap (λ xs. (listed_entries g 1 xs v).value) whole) in
    ap Ok (after_front handed lines begin.0 begin.1))
    (lines_read g inode count entries (Some (Ok lines)) all are)

-- ---- what was handed on

-- one of these wasn't read: an inode, or a file block of the directory
pub unread_lines : {S : Type 0} {took : S → List Listed → S → Type 0} {stands still : Volume → Type 0} {tells told : Type 0} {before now after : ℕ → Bool} (g : Geometry) (inode : Inode) (count n : ℕ) (entries : List DirEntry) (fault : LookFault) (old new : S)
    → Grows before now → Grows now after → ((v : Volume) → stands v → still v) → (told → tells)
    → ReadsAs stands before tells now (entries_before g inode count) (Some (Ok entries))
    → ThroughSome count (λ k. ReadsAs still now told after (entries_before g inode k)) (λ some.
    StopsUnread took old new some (λ e. ReadsAs still now told after (listed_entries g 1 e)) n fault
    ⊎ (AreHanded took old new some (λ e. ReadsAs still now told after (listed_entries g 1 e)) n × ReadsAs still now told after (entries_before g inode count) (option_map Err (refusal_of fault))))
    → ReadsAs stands before told after (lines_before g inode count) (option_map Err (refusal_of fault))
unread_lines g inode count n entries fault old new grows further keeps tell all walked = elim (walked.through.are) [
  | inl stops ↦ front_unread g inode walked.blocks count walked.through.entries entries fault (λ b h. further b (grows b h)) walked.few
      (wider _ (λ b h. h) further (λ v h. h) tell all) (wider _ grows (λ b h. h) keeps (λ h. h) walked.through.read) (wider _ grows (λ b h. h) keeps (λ h. h) stops.unread)
  | inr lost ↦ lines_refused g inode count fault (λ b h. further b (grows b h)) (wider _ grows (λ b h. h) keeps (λ h. h) (lost.1))
]

-- a front of the entries was handed on
record HandsFront {S : Type 0} (took : S → List Listed → S → Type 0) (old new : S) (entries : List DirEntry) (reads : List DirEntry → Option (Result (List Listed) PathRefusal) → Type 0) (n : ℕ) : Type 0 where
  front : List DirEntry
  rest : List DirEntry
  whole : entries ≡ front ++ rest
  handed : AreHanded took old new front reads n

hands_front : {S : Type 0} {took : S → List Listed → S → Type 0} {old new : S} {entries : List DirEntry} {reads : List DirEntry → Option (Result (List Listed) PathRefusal) → Type 0} {n : ℕ} {fault : LookFault} {P : Type 0}
    → StopsUnread took old new entries reads n fault ⊎ (AreHanded took old new entries reads n × P) → HandsFront took old new entries reads n
hands_front (inl stops) = record { front = stops.front; rest = stops.rest; whole = stops.whole; handed = stops.handed }
hands_front {entries = entries} (inr lost) = record { front = entries; rest = []; whole = sym (append-nil entries); handed = lost.0 }

-- all lines were handed on
pub given_lines : {S : Type 0} (took took_part : S → List Listed → S → Type 0) (faults : S → ℕ) {stands still : Volume → Type 0} {told : Type 0} {before now after : ℕ → Bool} (g : Geometry) (inode : Inode) (count n : ℕ) (old new : S)
    → Grows before now → ((v : Volume) → stands v → still v)
    → Through count (λ k. ReadsAs still now told after (entries_before g inode k)) (λ entries. AreHanded took old new entries (λ e. ReadsAs still now told after (listed_entries g 1 e)) n)
    → IsAnswer took took_part faults old new (ReadsAs stands before told after (lines_before g inode count)) (Given n)
given_lines took took_part faults g inode count n old new grows keeps walked = (
  walked.are.lines,
  walked.are.count,
  walked.are.taken,
  lines_read g inode count walked.entries (Some (Ok walked.are.lines)) (wider _ grows (λ b h. h) keeps (λ h. h) walked.read) (wider _ grows (λ b h. h) keeps (λ h. h) walked.are.read),
)

-- a front of the lines, for want of a block
pub cut_lines : {S : Type 0} (took took_part : S → List Listed → S → Type 0) (faults : S → ℕ) {stands still : Volume → Type 0} {tells told : Type 0} {before now after : ℕ → Bool} (g : Geometry) (inode : Inode) (count n : ℕ) (fault : LookFault) (old new : S)
    → Grows before now → Grows now after → ((v : Volume) → stands v → still v) → (told → tells)
    → AreConsulted (ReadsAs stands before tells now (entries_before g inode count)) (λ e. ReadsAs stands before tells now (listed_entries g 1 e))
    → ThroughSome count (λ k. ReadsAs still now told after (entries_before g inode k)) (λ some.
    StopsUnread took old new some (λ e. ReadsAs still now told after (listed_entries g 1 e)) n fault
    ⊎ (AreHanded took old new some (λ e. ReadsAs still now told after (listed_entries g 1 e)) n × ReadsAs still now told after (entries_before g inode count) (option_map Err (refusal_of fault))))
    → IsAnswer took took_part faults old new (ReadsAs stands before told after (lines_before g inode count)) (Cut n)
cut_lines took took_part faults g inode count n fault old new grows further keeps tell first walked =
    let hands = hands_front walked.through.are in
    let all = wider _ (λ b h. h) further (λ v h. h) tell first.before_is in
    let are = wider _ (λ b h. h) further (λ v h. h) tell first.lines_are in (
      hands.handed.lines,
      drop (length hands.handed.lines) first.lines,
      hands.handed.count,
      hands.handed.taken,
      front_lines g inode walked.blocks count walked.through.entries first.entries hands.front hands.rest hands.handed.lines first.lines walked.few hands.whole all are
          (wider _ grows (λ b h. h) keeps (λ h. h) walked.through.read) (wider _ grows (λ b h. h) keeps (λ h. h) hands.handed.read),
      none_now first.lines (refusal_of fault) (lines_read g inode count first.entries (Some (Ok first.lines)) all are)
          (unread_lines g inode count n first.entries fault old new grows further keeps tell first.before_is walked),
    )

-- a front of the lines, since the receiver failed
pub failed_lines : {S : Type 0} (took took_part : S → List Listed → S → Type 0) (faults : S → ℕ) {stands still : Volume → Type 0} {tells told : Type 0} {before now after : ℕ → Bool} (g : Geometry) (inode : Inode) (count : ℕ) (old new : S)
    → ((a b : S) (x y : List Listed) → took_part a x b → took_part a (x ++ y) b) → Grows before now → Grows now after → ((v : Volume) → stands v → still v) → (told → tells)
    → AreConsulted (ReadsAs stands before tells now (entries_before g inode count)) (λ e. ReadsAs stands before tells now (listed_entries g 1 e))
    → ThroughSome count (λ k. ReadsAs still now told after (entries_before g inode k)) (λ some. StopsFailed took_part faults old new some (λ e. ReadsAs still now told after (listed_entries g 1 e)))
    → IsAnswer took took_part faults old new (ReadsAs stands before told after (lines_before g inode count)) SinkFault
failed_lines took took_part faults g inode count old new part grows further keeps tell first walked =
    let failed = walked.through.are in (
      failed.lines ++ drop (length failed.lines) first.lines,
      part old new failed.lines (drop (length failed.lines) first.lines) failed.taken,
      front_lines g inode walked.blocks count walked.through.entries first.entries failed.front failed.rest failed.lines first.lines walked.few failed.whole
          (wider _ (λ b h. h) further (λ v h. h) tell first.before_is) (wider _ (λ b h. h) further (λ v h. h) tell first.lines_are)
          (wider _ grows (λ b h. h) keeps (λ h. h) walked.through.read) (wider _ grows (λ b h. h) keeps (λ h. h) failed.read),
      failed.rose,
    )

-- ---- a directory, or what is none

pub listing_refused : {stands : Volume → Type 0} {tells : Type 0} {before : ℕ → Bool} (g : Geometry) (inode : Inode) (fault : LookFault) → Some (refusal_of fault) ≡ option_map Some (directory_refusal inode)
    → ReadsAs stands before tells before (listing_of g inode) (option_map Err (refusal_of fault))
unfolding listing_of entries_of
listing_refused g inode fault e =
    refused_read _ (refusal_of fault) (λ b h. h) (refused_then _ (directory_refusal inode) (refusal_of fault) (refusal_said fault _ e) e)

pub listing_is : (g : Geometry) (inode : Inode) (count : ℕ) → directory_refusal inode ≡ None → count ≡ block_count g inode → lines_before g inode count ≡ listing_of g inode
unfolding listing_of entries_of lines_before
listing_is g inode count e1 e2 =
    ap (λ k. and_then (entries_before g inode k) (λ entries. listed_entries g 1 entries)) e2
    ∙ sym (ap (λ r. and_then (unless_refused r (entries_before g inode (block_count g inode))) (λ entries. listed_entries g 1 entries)) e1)

pub listing_read : {stands : Volume → Type 0} {tells : Type 0} {before after : ℕ → Bool} (g : Geometry) (inode : Inode) (count : ℕ) (answer : Option (Result (List Listed) PathRefusal)) → None ≡ option_map Some (directory_refusal inode) → count ≡ block_count g inode
    → ReadsAs stands before tells after (lines_before g inode count) answer → ReadsAs stands before tells after (listing_of g inode) answer
listing_read {stands} {tells} {before} {after} g inode count answer e1 e2 reads =
    subst (λ d. ReadsAs stands before tells after d answer) (listing_is g inode count (none_said _ e1) e2) reads

-- ---- the directory at a path

pub below_read : {stands still : Volume → Type 0} {tells told : Type 0} {before now after : ℕ → Bool} (g : Geometry) (path : List ℕ) (number : ℕ) (inode : Inode) (answer : Option (Result (List Listed) PathRefusal))
    → Grows before now → ((v : Volume) → stands v → still v) → (told → tells)
    → ReadsAs stands before tells now (look_from g (names_of path) 2) (Some (Ok (number, inode))) → ReadsAs still now told after (listing_of g inode) answer
    → ReadsAs stands before told after (ls_below path g) answer
unfolding ls_below
below_read g path number inode answer grows keeps tell one two = reads_on refusal_of _ (number, inode) answer grows keeps tell one two

pub below_unread : {stands : Volume → Type 0} {tells : Type 0} {before after : ℕ → Bool} (g : Geometry) (path : List ℕ) (fault : LookFault)
    → Grows before after → ReadsAs stands before tells after (look_from g (names_of path) 2) (option_map Err (refusal_of fault))
    → ReadsAs stands before tells after (ls_below path g) (option_map Err (refusal_of fault))
unfolding ls_below
below_unread g path fault grows one = reads_refused refusal_of _ fault grows one

pub path_read : {stands still : Volume → Type 0} {tells told : Type 0} {before now after : ℕ → Bool} (l n : ℕ) (path : List ℕ) (g : Geometry) (answer : Option (Result (List Listed) PathRefusal))
    → Grows before now → ((v : Volume) → stands v → still v) → (told → tells)
    → ReadsAs stands before tells now (volume_geometry l n) (Some (Ok g)) → ReadsAs still now told after (ls_below path g) answer
    → ReadsAs stands before told after (ls_of l n path) answer
unfolding ls_of ls_below
path_read l n path g answer grows keeps tell one two = reads_on refusal_of _ g answer grows keeps tell one two

pub path_unread : {stands : Volume → Type 0} {tells : Type 0} {before after : ℕ → Bool} (l n : ℕ) (path : List ℕ) (fault : LookFault)
    → Grows before after → ReadsAs stands before tells after (volume_geometry l n) (option_map Err (refusal_of fault))
    → ReadsAs stands before tells after (ls_of l n path) (option_map Err (refusal_of fault))
unfolding ls_of
path_unread l n path fault grows one = reads_refused refusal_of _ fault grows one
