-- The paths of some regular files of a listing, and what was handed on of them.
use Rattle.std.specs.Prelude.{◌≡◌, ◌⊎◌, ◌+◌, ◌<◌, ◌++◌, ◌&&◌, ℕ, Bool, true, false, List, [], ◌∷◌, Option, Some, None, Result, Ok, Err, length}
use Rattle.dg_model.specs.Marks.{is_marked}
use Rattle.dg_model.specs.Paths.{PathOf, names_to, path_by}
use Rattle.ufs_model.specs.Listings.{Listed}
use Rattle.ufs_model.specs.Paths.{is_regular}
use Rattle.ufs_model.specs.declared.inodes.Kind.{Kind}
use Rattle.ufs_model.specs.declared.reads.PathRefusal.{PathRefusal}
use Rattle.ufs_path.specs.declared.faults.CatAnswer.{CatAnswer}
use Rattle.ufs_path.specs.declared.faults.CatAnswer.TheVariants.{Given, NotFound, NotDirectory, Bad, Unavailable, NotRegular, Cut, SinkFault}
use Rattle.ufs_path.specs.declared.marked_paths.MarkedPaths.{MarkedPaths}
use Rattle.ufs_path.specs.declared.names.Names.{Names}

-- ---- the paths of marked files

-- an entry for a regular file whose inode is marked
abbrev pub is_marked_file : List Bool → Kind → ℕ → Bool
is_marked_file marks kind inode = is_regular kind && is_marked marks inode

-- the path of an entry of which the names are these, where it is wanted, and then others
abbrev pub put_path : Bool → ℕ → List (List ℕ) → List PathOf → List PathOf
put_path true inode names paths = record { inode = inode; path = path_by names } ∷ paths
put_path false inode names paths = paths

-- the paths of the marked files among entries, in their order, of which the one before the first has these names
abbrev pub marked_from : List Bool → List (List ℕ) → List Listed → List PathOf
marked_from marks before [] = []
marked_from marks before (entry ∷ entries) =
    put_path (is_marked_file marks entry.kind entry.inode) entry.inode (names_to before entry) (marked_from marks (names_to before entry) entries)

abbrev pub marked_among : List Bool → List Listed → List PathOf
marked_among marks entries = marked_from marks [] entries

-- the names of the last entry
abbrev pub names_after : List (List ℕ) → List Listed → List (List ℕ)
names_after before [] = before
names_after before (entry ∷ entries) = names_after (names_to before entry) entries

-- ---- what is kept

-- where the slashes of these names stand in a path, which has so many bytes before them
abbrev pub starts_from : ℕ → List (List ℕ) → List ℕ
starts_from at [] = []
starts_from at (name ∷ names) = at ∷ starts_from (at + (1 + length name)) names

-- these names are kept
pub record HasNames (kept : Names) (names : List (List ℕ)) : Type 0 where
  pub path : kept.path.items ≡ path_by names
  pub starts : kept.starts.items ≡ starts_from 0 names

-- ---- what was handed on

-- nothing was yet, and this receiver is lent
pub record IsBegun {O : Type 0} (paths : MarkedPaths O) (marks : List Bool) (out : O) : Type 0 where
  pub marks_are : paths.marks.now ≡ marks
  pub out_is : paths.out.now ≡ out
  pub names_are : HasNames paths.names.now []
  pub given : paths.given ≡ 0
  pub wants : paths.wants ≡ 0

module _ {O : Type 0} (took took_part : O → List PathOf → O → Type 0) (faults : O → ℕ) where
  -- the paths of the marked ones among entries were handed on, behind an entry with these names
  pub record HandedFrom (old new : MarkedPaths O) (names : List (List ℕ)) (entries : List Listed) : Type 0 where
    pub names_are : HasNames new.names.now (names_after names entries)
    pub took_all : took old.out.now (marked_from old.marks.now names entries) new.out.now
    pub given : new.given ≡ old.given + length (marked_from old.marks.now names entries)

  -- it was handed entries
  pub record TookMarked (old : MarkedPaths O) (entries : List Listed) (new : MarkedPaths O) : Type 0 where
    pub marks : new.marks ≡ old.marks
    pub same : new.out.ghost_name ≡ old.out.ghost_name
    pub wants : new.wants ≡ old.wants
    pub kept : faults new.out.now ≡ faults old.out.now
    pub handed : (names : List (List ℕ)) → HasNames old.names.now names → HandedFrom old new names entries

  -- memory was wanting: the paths of the marked ones among the first of the entries were handed on
  pub record WantedAt (old new : MarkedPaths O) (names : List (List ℕ)) (entries : List Listed) : Type 0 where
    pub some : 0 < new.wants
    pub kept : faults new.out.now ≡ faults old.out.now
    pub front : List Listed
    pub rest : List Listed
    pub split : entries ≡ front ++ rest
    pub took_front : took old.out.now (marked_from old.marks.now names front) new.out.now

  -- the receiver failed: it took a part of the paths
  pub record FailedAt (old new : MarkedPaths O) (names : List (List ℕ)) (entries : List Listed) : Type 0 where
    pub wants : new.wants ≡ old.wants
    pub took_some : took_part old.out.now (marked_from old.marks.now names entries) new.out.now

  -- it was handed entries, and took a part of them
  pub record TookMarkedPart (old : MarkedPaths O) (entries : List Listed) (new : MarkedPaths O) : Type 0 where
    pub marks : new.marks ≡ old.marks
    pub same : new.out.ghost_name ≡ old.out.ghost_name
    pub broke : (names : List (List ℕ)) → HasNames old.names.now names → FailedAt old new names entries ⊎ WantedAt old new names entries

-- ---- answers

-- what is read of the paths of the marked files, by what is read of the listing
abbrev pub ReadsMarked : (Option (Result (List Listed) PathRefusal) → Type 0) → List Bool → Option (Result (List PathOf) PathRefusal) → Type 0
ReadsMarked reads marks (Some (Ok paths)) = (entries : List Listed) × (paths ≡ marked_among marks entries) × reads (Some (Ok entries))
ReadsMarked reads marks (Some (Err refusal)) = reads (Some (Err refusal))
ReadsMarked reads marks None = reads None

-- nothing was handed on, or the first of the paths that are read
abbrev pub HandsPaths : {S : Type 0} → (S → List PathOf → S → Type 0) → S → S → (Option (Result (List PathOf) PathRefusal) → Type 0) → Type 0
HandsPaths took old new reads = (new ≡ old) ⊎ ((front : List PathOf) × (rest : List PathOf) × took old front new × reads (Some (Ok (front ++ rest))))

-- an answer of a listing, as it is told of so many paths
abbrev pub told_of : ℕ → CatAnswer → CatAnswer
told_of given (Given n) = Given given
told_of given NotFound = NotFound
told_of given NotDirectory = NotDirectory
told_of given (Bad bad) = Bad bad
told_of given Unavailable = Unavailable
told_of given NotRegular = NotRegular
told_of given (Cut n) = Cut given
told_of given SinkFault = SinkFault
