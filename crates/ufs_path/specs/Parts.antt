-- What the private functions say, which read parts of a file and hand them on.
use Rattle.std.specs.Prelude.{◌≡◌, ◌≤◌, ℕ, List, length, take, Option, Some, None, Result, Ok, Err}
use Rattle.std.specs.Option.{option_map}
use Rattle.dg_model.specs.Causes.{Rose}
use Rattle.ufs_model.specs.Blocks.{Reading}
use Rattle.ufs_model.specs.Paths.{contents_of, look_from, names_of}
use Rattle.ufs_model.specs.Readings.{and_then}
use Rattle.ufs_model.specs.declared.geometries.Geometry.{Geometry}
use Rattle.ufs_model.specs.declared.reads.PathRefusal.{PathRefusal}
use Rattle.ufs_path.specs.Answers.{refusal_of}
use Rattle.ufs_path.specs.declared.faults.LookFault.{LookFault}
use Rattle.ufs_path.specs.declared.faults.CatAnswer.{CatAnswer}
use Rattle.ufs_path.specs.declared.faults.CatAnswer.TheVariants.{Given, NotFound, NotDirectory, Bad, Unavailable, NotRegular, Cut, SinkFault}
use Rattle.ufs_path.specs.declared.blocks.BlockContents.{BlockContents}
use Rattle.ufs_path.specs.declared.blocks.BlockContents.TheVariants.{Data, Hole}
use Rattle.ufs_path.specs.declared.files.Handed.{Handed}
use Rattle.ufs_path.specs.declared.files.Handed.TheVariants.{All, Unread, Failed}

-- where there are bytes
abbrev pub IfData : BlockContents → Type 0 → Type 0
IfData Data holds = holds
IfData Hole holds = Unit {0}

-- what a read of a file block says, whose bytes are in the buffer
abbrev pub block_said : Result BlockContents LookFault → List ℕ → Option (Result (Option (List ℕ)) PathRefusal)
block_said (Ok Hole) block = Some (Ok None)
block_said (Ok Data) block = Some (Ok (Some block))
block_said (Err fault) block = option_map Err (refusal_of fault)

-- what a read of a part of a file says, which leaves so many bytes at the front of the buffer
abbrev pub part_said : Result ℕ LookFault → List ℕ → Option (Result (List ℕ) PathRefusal)
part_said (Ok count) buf = Some (Ok (take count buf))
part_said (Err fault) buf = option_map Err (refusal_of fault)

-- what was handed on of a part of a file
abbrev pub IsHandedPart : {S : Type 0} → (S → List ℕ → S → Type 0) → (S → List ℕ → S → Type 0) → (S → ℕ) → S → S
    → (Option (Result (List ℕ) PathRefusal) → Type 0) → Handed → Type 0
IsHandedPart took took_part faults old new reads (All n) = (bytes : List ℕ) × (length bytes ≡ n) × took old bytes new × reads (Some (Ok bytes))
IsHandedPart took took_part faults old new reads (Unread fault) = (new ≡ old) × reads (option_map Err (refusal_of fault))
IsHandedPart took took_part faults old new reads Failed = (bytes : List ℕ) × took_part old bytes new × reads (Some (Ok bytes)) × Rose (faults old) (faults new)

-- a part that was handed on whole has so many bytes
abbrev pub HasCount : ℕ → Handed → Type 0
HasCount count (All n) = n ≡ count
HasCount count (Unread fault) = Unit {0}
HasCount count Failed = Unit {0}

-- What was handed on of the first count file blocks of a file. `reads k` is the reading rule of the bytes in the first k of
-- them.
abbrev pub IsHanded : {S : Type 0} → (S → List ℕ → S → Type 0) → (S → List ℕ → S → Type 0) → (S → ℕ) → S → S → ℕ → (ℕ → Option (Result (List ℕ) PathRefusal) → Type 0)
    → CatAnswer → Type 0
IsHanded took took_part faults old new count reads (Given n) = (bytes : List ℕ) × (length bytes ≡ n) × took old bytes new × reads count (Some (Ok bytes))
IsHanded took took_part faults old new count reads (Cut n) =
    (front : List ℕ) × (k : ℕ) × (fault : LookFault) × (k ≤ count) × (length front ≡ n) × took old front new × reads k (Some (Ok front))
    × reads count (option_map Err (refusal_of fault))
IsHanded took took_part faults old new count reads SinkFault =
    (front : List ℕ) × (k : ℕ) × (k ≤ count) × took_part old front new × reads k (Some (Ok front)) × Rose (faults old) (faults new)
IsHanded took took_part faults old new count reads NotFound = ⊥
IsHanded took took_part faults old new count reads NotDirectory = ⊥
IsHanded took took_part faults old new count reads (Bad bad) = ⊥
IsHanded took took_part faults old new count reads Unavailable = ⊥
IsHanded took took_part faults old new count reads NotRegular = ⊥

-- the bytes of the file at a path of a volume with this geometry
unfoldable pub cat_below : List ℕ → Geometry → Reading (Result (List ℕ) PathRefusal)
cat_below path g = and_then (look_from g (names_of path) 2) (λ found. contents_of g found.1)
