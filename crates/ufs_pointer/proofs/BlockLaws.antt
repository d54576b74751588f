-- Reading a file block by its address.
use Rattle.std.specs.Prelude.{IfNone, IfSome}
use Rattle.std.proofs.Common.{◌≡◌, ℕ, Bool, List, [], ◌++◌, Some, None, Ok, Err, Result, Option}
use Rattle.ufs_model.specs.Blocks.{Volume, area_of}
use Rattle.ufs_model.specs.Paths.{block_of, bytes_at}
use Rattle.ufs_model.specs.Pointers.{file_block_of}
use Rattle.ufs_model.specs.Readings.{Grows, ReadsAs}
use Rattle.ufs_model.proofs.ReadingLaws.{reads_known, reads_none, reads_then}
use Rattle.ufs_model.specs.declared.geometries.Geometry.{Geometry}
use Rattle.ufs_model.specs.declared.inodes.Inode.{Inode}
use Rattle.ufs_model.specs.declared.pointers.Address.{Address}
use Rattle.ufs_model.specs.declared.pointers.Address.TheVariants.{Hole, Wild, At}
use Rattle.ufs_model.specs.declared.reads.BadRead.TheVariants.{Wild as BadWild}
use Rattle.ufs_model.specs.declared.reads.PathRefusal.{PathRefusal}
use Rattle.ufs_model.specs.declared.reads.PathRefusal.TheVariants.{Bad}
use Rattle.ufs_pointer.specs.Fetches.{Fetches, IsNeeded, LosesOne}
use Rattle.ufs_pointer.specs.FetchLaws.{fetches_known, fetches_map, fetches_none, fetches_then}
use Rattle.ufs_pointer.specs.FileBlocks.{IfData}
use Rattle.ufs_pointer.specs.KindLaws.{loses_front, loses_then}
use Rattle.ufs_pointer.specs.declared.file_blocks.FileBlock.{FileBlock}
use Rattle.ufs_pointer.specs.declared.file_blocks.FileBlock.TheVariants.{Data, Hole as NoData, Wild as WildData}

pub if_read : (P : Type 0) (found : Option FileBlock) → P → IfSome found (λ block. IfData block P)
if_read P (Some Data) holds = holds
if_read P (Some NoData) holds = tt
if_read P (Some WildData) holds = tt
if_read P None holds = tt

-- an address, and then what is read there
pub block_there : {stands still : Volume → Type 0} {tells told : Type 0} {before now after : ℕ → Bool} (g : Geometry) (inode : Inode) (n : ℕ) (address : Address) (answer : Option (Result (Option (List ℕ)) PathRefusal))
    → Grows before now → ((v : Volume) → stands v → still v) → (told → tells)
    → ReadsAs stands before tells now (file_block_of g inode n) (Some address) → ReadsAs still now told after (bytes_at g address) answer
    → ReadsAs stands before told after (block_of g inode n) answer
unfolding block_of
block_there g inode n address answer grows keeps tell one two = reads_then (bytes_at g) grows keeps tell one two

pub fetches_there : {S : Type 0} {fetched : S → List ℕ → S → Type 0} {stands still : Volume → Type 0} {tells told : Type 0} {before now : ℕ → Bool} {old middle new : S} (g : Geometry) (inode : Inode) (n : ℕ) (address : Address) (answer : Option (Result (Option (List ℕ)) PathRefusal))
    → ((s t u : S) (x y : List ℕ) → fetched s x t → fetched t y u → fetched s (x ++ y) u) → ((v : Volume) → stands v → still v) → (told → tells)
    → ReadsAs stands before tells now (file_block_of g inode n) (Some address) → Fetches fetched stands tells (file_block_of g inode n) (Some address) old middle
    → Fetches fetched still told (bytes_at g address) answer middle new → Fetches fetched stands told (block_of g inode n) answer old new
unfolding block_of
fetches_there g inode n address answer both keeps tell read one two = fetches_then (bytes_at g) both keeps tell read one two

-- a hole
pub block_hole : {stands : Volume → Type 0} {tells : Type 0} {before after : ℕ → Bool} (g : Geometry) (inode : Inode) (n : ℕ)
    → Grows before after → ReadsAs stands before tells after (file_block_of g inode n) (Some Hole)
    → ReadsAs stands before tells after (block_of g inode n) (Some (Ok None))
unfolding bytes_at
block_hole g inode n grows one = block_there g inode n Hole _ grows (λ v h. h) (λ h. h) one (reads_known (Ok None))

pub fetches_hole : {S : Type 0} {fetched : S → List ℕ → S → Type 0} {stands : Volume → Type 0} {tells : Type 0} {before after : ℕ → Bool} {old new : S} (g : Geometry) (inode : Inode) (n : ℕ)
    → ((s t u : S) (x y : List ℕ) → fetched s x t → fetched t y u → fetched s (x ++ y) u) → fetched new [] new
    → ReadsAs stands before tells after (file_block_of g inode n) (Some Hole) → Fetches fetched stands tells (file_block_of g inode n) (Some Hole) old new
    → Fetches fetched stands tells (block_of g inode n) (Some (Ok None)) old new
unfolding bytes_at
fetches_hole g inode n both none read one = fetches_there g inode n Hole _ both (λ v h. h) (λ h. h) read one (fetches_known (Ok None) none)

-- a wild pointer
pub block_wild : {stands : Volume → Type 0} {tells : Type 0} {before after : ℕ → Bool} (g : Geometry) (inode : Inode) (n : ℕ)
    → Grows before after → ReadsAs stands before tells after (file_block_of g inode n) (Some Wild)
    → ReadsAs stands before tells after (block_of g inode n) (Some (Err (Bad BadWild)))
unfolding bytes_at
block_wild g inode n grows one = block_there g inode n Wild _ grows (λ v h. h) (λ h. h) one (reads_known (Err (Bad BadWild)))

pub fetches_wild : {S : Type 0} {fetched : S → List ℕ → S → Type 0} {stands : Volume → Type 0} {tells : Type 0} {before after : ℕ → Bool} {old new : S} (g : Geometry) (inode : Inode) (n : ℕ)
    → ((s t u : S) (x y : List ℕ) → fetched s x t → fetched t y u → fetched s (x ++ y) u) → fetched new [] new
    → ReadsAs stands before tells after (file_block_of g inode n) (Some Wild) → Fetches fetched stands tells (file_block_of g inode n) (Some Wild) old new
    → Fetches fetched stands tells (block_of g inode n) (Some (Err (Bad BadWild))) old new
unfolding bytes_at
fetches_wild g inode n both none read one = fetches_there g inode n Wild _ both (λ v h. h) (λ h. h) read one (fetches_known (Err (Bad BadWild)) none)

-- a block that is gone on the way
pub block_gone : {stands : Volume → Type 0} {tells : Type 0} {before after : ℕ → Bool} (g : Geometry) (inode : Inode) (n : ℕ)
    → ReadsAs stands before tells after (file_block_of g inode n) None → ReadsAs stands before tells after (block_of g inode n) None
unfolding block_of
block_gone g inode n one = reads_none (bytes_at g) one

pub fetches_gone : {S : Type 0} {fetched : S → List ℕ → S → Type 0} {stands : Volume → Type 0} {tells : Type 0} {old new : S} (g : Geometry) (inode : Inode) (n : ℕ)
    → Fetches fetched stands tells (file_block_of g inode n) None old new → Fetches fetched stands tells (block_of g inode n) None old new
unfolding block_of
fetches_gone g inode n one = fetches_none (bytes_at g) one

pub lost_gone : {stands : Volume → Type 0} {tells : Type 0} {count : ℕ} {gone : ℕ → Bool} (g : Geometry) (inode : Inode) (n : ℕ)
    → LosesOne stands tells count (IsNeeded (file_block_of g inode n)) gone → LosesOne stands tells count (IsNeeded (block_of g inode n)) gone
unfolding block_of
lost_gone g inode n one = loses_front (file_block_of g inode n) (bytes_at g) one

pub lost_there : {stands still : Volume → Type 0} {tells told : Type 0} {before now : ℕ → Bool} {count here : ℕ} (g : Geometry) (inode : Inode) (n : ℕ) (address : Address) {A : Type 0} (answer : Option A) (gone : ℕ → Bool)
    → here ≡ count → ((v : Volume) → stands v → still v) → (told → tells) → ReadsAs stands before tells now (file_block_of g inode n) (Some address)
    → IfNone answer (LosesOne still told here (IsNeeded (bytes_at g address)) gone) → IfNone answer (LosesOne stands told count (IsNeeded (block_of g inode n)) gone)
unfolding block_of
lost_there g inode n address None gone same keeps tell read one = loses_then (bytes_at g) same keeps tell read one
lost_there g inode n address (Some answer) gone same keeps tell read one = tt

-- ---- the bytes at an address

pub fetches_bytes : {S : Type 0} {fetched : S → List ℕ → S → Type 0} {stands : Volume → Type 0} {tells : Type 0} {before after : ℕ → Bool} {old new : S} (g : Geometry) (a k : ℕ) (bytes : List ℕ)
    → ((s t u : S) (x y : List ℕ) → fetched s x t → fetched t y u → fetched s (x ++ y) u) → fetched new [] new
    → ReadsAs stands before tells after (area_of g.fsize a k) (Some bytes) → Fetches fetched stands tells (area_of g.fsize a k) (Some bytes) old new
    → Fetches fetched stands tells (bytes_at g (At a k)) (Some (Ok (Some bytes))) old new
unfolding bytes_at
fetches_bytes g a k bytes both none read one = fetches_map (λ bytes. Ok (Some bytes)) both none read one

pub fetches_no_bytes : {S : Type 0} {fetched : S → List ℕ → S → Type 0} {stands : Volume → Type 0} {tells : Type 0} {old new : S} (g : Geometry) (a k : ℕ)
    → Fetches fetched stands tells (area_of g.fsize a k) None old new → Fetches fetched stands tells (bytes_at g (At a k)) None old new
unfolding bytes_at
fetches_no_bytes g a k one = fetches_none (λ bytes. λ v. record { value = Ok (Some bytes); needs = [] }) one
