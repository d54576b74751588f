-- Parts of a body, and what reading one from the front of some bytes gives.
use Rattle.std.specs.Prelude.{◌≡◌, ◌*◌, ◌<◌, ◌^◌, ◌++◌, ◌==◌, ℕ, Bool, List, [], ◌∷◌, Err, Result, if◌then◌else◌, length, map, flat_map, IfOk}
use Rattle.std.specs.Global.{Vec}
use Rattle.std.specs.List.{All, zip}
use Rattle.byteorder.specs.Endian.{little_bytes}
use Rattle.dg_model.specs.Saves.{SavedState, block_bytes, homes_bytes, phase_byte}
use Rattle.dg_model.specs.declared.homes.Home.{Home}
use Rattle.dg_model.specs.declared.phases.Phase.{Phase}
use Rattle.dg_model.specs.declared.shapes.Shape.{Shape}
use Rattle.dg_model.specs.declared.sites.Site.{Site}
use Rattle.dg_save.specs.declared.readers.Unread.{Unread}
use Rattle.dg_save.specs.declared.readers.Unread.TheVariants.{Malformed}

-- the lists of a vector of vectors
abbrev pub rows_in : List (Vec Site) → List (List Site)
rows_in lists = map (λ (v : Vec Site). v.items) lists

-- ---- numbers that fit their bytes

abbrev pub IsAny : {X : Type 0} → X → Type 0
IsAny x = Unit {0}

abbrev pub FitsByte : ℕ → Type 0
FitsByte x = x < 256

abbrev pub FitsNumber : ℕ → Type 0
FitsNumber x = x < 2 ^ 32

abbrev pub FitsSite : Site → Type 0
FitsSite site = (site.boundary < 256) × (site.slot < 2 ^ 32)

abbrev pub FitsHome : Home → Type 0
FitsHome home = (home.inode < 2 ^ 32) × (home.boundary < 256)

-- so few sites that a byte tells how many
abbrev pub IsShort : List Site → Type 0
IsShort sites = length sites < 256

pub record FitSites (sites : List Site) : Type 0 where
  pub short : IsShort sites
  pub each : All FitsSite sites

pub record FitHomes (homes : List Home) : Type 0 where
  pub short : length homes < 2 ^ 32
  pub each : All FitsHome homes

pub record FitNumbers (numbers : List ℕ) : Type 0 where
  pub short : length numbers < 256
  pub each : All FitsNumber numbers

-- a state whose numbers fit their bytes, with as many members and blocks as the array has
pub record IsSpelled (shape : Shape) (saved : SavedState) : Type 0 where
  pub numbers : saved.table.shape ≡ shape
  pub members : length saved.good ≡ 2 * shape.b
  pub blocks : length saved.table.rows ≡ shape.n
  pub sites : All FitSites saved.table.rows
  pub marks : length saved.pending ≡ shape.n
  pub homes : FitHomes saved.homes
  pub copies : FitHomes saved.copies
  pub recent : FitNumbers saved.recent

-- ---- the bytes of a part

abbrev pub flag_bytes : Bool → List ℕ
flag_bytes flag = (if flag then 1 else 0) ∷ []

abbrev pub good_bytes : Bool → List ℕ
good_bytes good = (if good then 0 else 1) ∷ []

abbrev pub phase_bytes : Phase → List ℕ
phase_bytes phase = phase_byte phase ∷ 0 ∷ 0 ∷ 0 ∷ []

-- the sites and the mark of a block
abbrev pub block_of : Vec Site × Bool → List Site × Bool
block_of block = (block.0.items, block.1)

abbrev pub bytes_of_block : List Site × Bool → List ℕ
bytes_of_block block = block_bytes block.0 block.1

abbrev pub blocks_bytes : List (List Site) × List Bool → List ℕ
blocks_bytes blocks = flat_map bytes_of_block (zip blocks.0 blocks.1)

abbrev pub numbers_bytes : List ℕ → List ℕ
numbers_bytes numbers = length numbers ∷ flat_map (little_bytes 4) numbers

abbrev pub rest_bytes : ℕ → List Home × List ℕ → List ℕ
rest_bytes format rest = if format == 1 then [] else homes_bytes rest.0 ++ numbers_bytes rest.1

-- ---- parts that are lists

pub record AreEach {X : Type 0} (Fits : X → Type 0) (count : ℕ) (xs : List X) : Type 0 where
  pub many : length xs ≡ count
  pub each : All Fits xs

-- the sites and the marks of so many blocks
pub record FitBlocks (count : ℕ) (blocks : List (List Site) × List Bool) : Type 0 where
  pub lists : length blocks.0 ≡ count
  pub marks : length blocks.1 ≡ count
  pub sites : All FitSites blocks.0

-- copies and inodes; in format 1 there are none
pub record FitRest (format : ℕ) (rest : List Home × List ℕ) : Type 0 where
  pub copies : FitHomes rest.0
  pub recent : FitNumbers rest.1
  pub no_copies : format ≡ 1 → rest.0 ≡ []
  pub no_recent : format ≡ 1 → rest.1 ≡ []

-- ---- reading

-- Of the values X that fit, each with its bytes, one was read from the front of some bytes; or they begin with the bytes of none.
pub record IsRead {R X : Type 0} (value : R → X) (Fits : X → Type 0) (bytes : X → List ℕ) (old new : List ℕ) (result : Result R Unread) : Type 0 where
  pub fits : IfOk result (λ x. Fits (value x))
  pub read : IfOk result (λ x. old ≡ bytes (value x) ++ new)
  pub malformed : result ≡ Err Malformed → (x : X) (rest : List ℕ) → Fits x → old ≡ bytes x ++ rest → ⊥

-- so many values were read from the front of some bytes, one after another
pub record AreRead {X : Type 0} (Fits : X → Type 0) (bytes : X → List ℕ) (old now : List ℕ) (count : ℕ) (done : List X) : Type 0 where
  pub are : AreEach Fits count done
  pub read : old ≡ flat_map bytes done ++ now

-- so are the sites and marks of so many blocks
pub record AreBlocksRead (old now : List ℕ) (count : ℕ) (rows : List (List Site)) (marks : List Bool) : Type 0 where
  pub fit : FitBlocks count (rows, marks)
  pub read : old ≡ flat_map bytes_of_block (zip rows marks) ++ now
