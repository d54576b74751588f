-- What is answered of a file that is read, and the inode that is told of it.
use Rattle.std.proofs.Common.{◌≡◌, ◌∙◌, ℕ, Bool, List, refl, sym, ap}
use Rattle.std.specs.Prelude.{Option, Some, Result, Ok, Err}
use Rattle.std.specs.Option.{option_map}
use Rattle.dg_volume.proofs.FileLaws.{file_at}
use Rattle.dg_volume.specs.Replies.{TellsInode}
use Rattle.ufs_model.specs.Blocks.{Volume}
use Rattle.ufs_model.specs.Paths.{cat_of, look_of}
use Rattle.ufs_model.specs.Readings.{ReadsAs}
use Rattle.ufs_model.specs.Trees.{file_of}
use Rattle.ufs_model.specs.declared.inodes.Inode.{Inode}
use Rattle.ufs_model.specs.declared.reads.PathRefusal.{PathRefusal}
use Rattle.ufs_path.specs.Answers.{IsAnswer, refusal_of, refused_answer}
use Rattle.ufs_path.specs.Consults.{IsUnanswered, IsUnavailable, StaysUnlessFailed}
use Rattle.ufs_path.specs.declared.faults.CatAnswer.{CatAnswer}
use Rattle.ufs_path.specs.declared.faults.CatAnswer.TheVariants.{Given, NotFound, NotDirectory, Bad, Unavailable, NotRegular, Cut, SinkFault}
use Rattle.ufs_path.specs.declared.faults.LookFault.{LookFault}
use Rattle.ufs_path.specs.declared.faults.LookFault.TheVariants.{NotFound as FaultNotFound, NotDirectory as FaultNotDirectory, Bad as FaultBad, Unavailable as FaultUnavailable}

-- ---- at a fault

pub at_fault : {S A : Type 0} (took took_part : S → List A → S → Type 0) (faults : S → ℕ) (s : S) (reads : Option (Result (List A) PathRefusal) → Type 0) (fault : LookFault)
    → reads (option_map Err (refusal_of fault)) → IsAnswer took took_part faults s s reads (refused_answer fault)
at_fault took took_part faults s reads FaultNotFound is = (refl, is)
at_fault took took_part faults s reads FaultNotDirectory is = (refl, is)
at_fault took took_part faults s reads (FaultBad bad) is = (refl, is)
at_fault took took_part faults s reads FaultUnavailable is = (refl, is)

pub fault_unanswered : (fault : LookFault) → IsUnanswered (refused_answer fault) → IsUnavailable fault
fault_unanswered FaultNotFound h = h
fault_unanswered FaultNotDirectory h = h
fault_unanswered (FaultBad bad) h = h
fault_unanswered FaultUnavailable h = h

pub fault_stays : (fault : LookFault) (n : ℕ) → StaysUnlessFailed (refused_answer fault) n n
fault_stays FaultNotFound n = refl
fault_stays FaultNotDirectory n = refl
fault_stays (FaultBad bad) n = refl
fault_stays FaultUnavailable n = refl

pub fault_tells : (is_file : ℕ → Type 0) (before : Option ℕ) (fault : LookFault) → TellsInode is_file before before (refused_answer fault)
fault_tells is_file before FaultNotFound = refl
fault_tells is_file before FaultNotDirectory = refl
fault_tells is_file before (FaultBad bad) = refl
fault_tells is_file before FaultUnavailable = refl

-- ---- at an answer

-- what it says of one reading it says of another
pub map_answer : {S A : Type 0} (took took_part : S → List A → S → Type 0) (faults : S → ℕ) (old new : S) {one two : Option (Result (List A) PathRefusal) → Type 0} (answer : CatAnswer)
    → ((r : Option (Result (List A) PathRefusal)) → one r → two r) → IsAnswer took took_part faults old new one answer → IsAnswer took took_part faults old new two answer
map_answer took took_part faults old new (Given n) go is = (is.0, is.1, is.2, go _ is.3)
map_answer took took_part faults old new NotFound go is = (is.0, go _ is.1)
map_answer took took_part faults old new NotDirectory go is = (is.0, go _ is.1)
map_answer took took_part faults old new (Bad bad) go is = (is.0, go _ is.1)
map_answer took took_part faults old new Unavailable go is = (is.0, go _ is.1)
map_answer took took_part faults old new NotRegular go is = (is.0, go _ is.1)
map_answer took took_part faults old new (Cut n) go is = (is.0, is.1, is.2, is.3, go _ is.4, go _ is.5)
map_answer took took_part faults old new SinkFault go is = (is.0, is.1, go _ is.2, is.3)

pub map_inode : {one two : ℕ → Type 0} (old new : Option ℕ) (answer : CatAnswer) → ((i : ℕ) → one i → two i) → TellsInode one old new answer → TellsInode two old new answer
map_inode old new (Given n) go is = (is.0, is.1, go is.0 is.2)
map_inode old new NotFound go is = is
map_inode old new NotDirectory go is = is
map_inode old new (Bad bad) go is = is
map_inode old new Unavailable go is = is
map_inode old new NotRegular go is = is
map_inode old new (Cut n) go is = is
map_inode old new SinkFault go is = (is.0, is.1, go is.0 is.2)

-- What a path led to is the file whose bytes were given afterwards.
module _ (stands : Volume → Type 0) (tells told : Type 0) (l n : ℕ) (path : List ℕ) (go : told → tells) where
  abbrev IsInode : ℕ → Type 0
  IsInode i = told → (v : Volume) → stands v → (file_of l n path v).value ≡ Ok i

  at_bytes : {one two three four : ℕ → Bool} (found : ℕ × Inode) (bytes : List ℕ) → ReadsAs stands one tells two (look_of l n path) (Some (Ok found))
      → ReadsAs stands three told four (cat_of l n path) (Some (Ok bytes)) → (i : ℕ) → i ≡ found.0 → IsInode i
  at_bytes found bytes look cat i is told v holds =
      let led = (look.rule (go told) v holds).answer in
      let given = (cat.rule told v holds).answer in
      file_at l n path v bytes found (sym led) (sym given) ∙ ap Ok (sym is)

  pub file_told : {S : Type 0} (took took_part : S → List ℕ → S → Type 0) (faults : S → ℕ) (old new : S) (three four : ℕ → Bool) {one two : ℕ → Bool} (found : ℕ × Inode) (before after : Option ℕ) (answer : CatAnswer)
      → ReadsAs stands one tells two (look_of l n path) (Some (Ok found)) → IsAnswer took took_part faults old new (ReadsAs stands three told four (cat_of l n path)) answer
      → TellsInode (λ i. i ≡ found.0) before after answer → TellsInode (λ i. told → (v : Volume) → stands v → (file_of l n path v).value ≡ Ok i) before after answer
  file_told took took_part faults old new three four found before after (Given n) look rule is = (is.0, is.1, at_bytes found rule.0 look rule.3 is.0 is.2)
  file_told took took_part faults old new three four found before after NotFound look rule is = is
  file_told took took_part faults old new three four found before after NotDirectory look rule is = is
  file_told took took_part faults old new three four found before after (Bad bad) look rule is = is
  file_told took took_part faults old new three four found before after Unavailable look rule is = is
  file_told took took_part faults old new three four found before after NotRegular look rule is = is
  file_told took took_part faults old new three four found before after (Cut n) look rule is = is
  file_told took took_part faults old new three four found before after SinkFault look rule is = (is.0, is.1, at_bytes found rule.0 look rule.2 is.0 is.2)
