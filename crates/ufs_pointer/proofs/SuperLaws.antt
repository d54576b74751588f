-- Reading the superblock.
use Rattle.std.proofs.Common.{◌≡◌, ℕ, ◌-◌, ◌*◌, ◌/◌, min, List, [], ◌∷◌, ◌++◌, length, ◌<◌, ◌≤◌, ◌∙◌, ap, arith, Bool, true, false, Some, None, Result, refl, replicate}
use Rattle.std.specs.Bool.{then_some}
use Rattle.std.specs.Int.{div_ceil}
use Rattle.std.proofs.lemmas.Grind.{div_ceil_times}
use Rattle.std.proofs.lemmas.List.{length-append, length-replicate}
use Rattle.std.proofs.Math.Nat.{lt_of_mul-lt-mul_right, mul-le-mul_right, mul-sub, mul_comm}
use Rattle.ufs_model.proofs.AreaLaws.{area_none}
use Rattle.ufs_model.specs.Blocks.{Volume, area_of, area_within}
use Rattle.ufs_model.specs.Readings.{Grows, ReadsAs}
use Rattle.ufs_model.specs.Superblocks.{geometry_in, geometry_of, superblock_of}
use Rattle.ufs_model.proofs.ReadingLaws.{reads_map, reads_none}
use Rattle.ufs_model.specs.declared.geometries.BadSuper.{BadSuper}
use Rattle.ufs_model.specs.declared.geometries.Geometry.{Geometry}
use Rattle.ufs_pointer.specs.FetchLaws.{fetches_map, fetches_none}
use Rattle.ufs_pointer.specs.Fetches.{Fetches, FetchesArea, IsNeeded, LosesOne}
use Rattle.ufs_pointer.specs.KindLaws.{loses_front}
use Rattle.ufs_pointer.proofs.LossLaws.{within_lost}

-- the bytes that are there, and zeros after them
pub within : {stands : Volume → Type 0} {tells : Type 0} {before after : ℕ → Bool} (l n a k m : ℕ) (r : Bool) (front rest : List ℕ) → Grows before after
    → m ≡ min k (n - a) → rest ≡ replicate ((k - m) * l) 0 → ReadsAs stands before tells after (area_of l a m) (then_some r front)
    → ReadsAs stands before tells after (area_within l n a k) (then_some r (front ++ rest))
unfolding area_within
within l n a k m true front rest grows e zeros reads =
    rw (zeros, e) (reads_map (λ bytes. bytes ++ replicate ((k - min k (n - a)) * l) 0) grows (rw e at reads))
within l n a k m false front rest grows e zeros reads = reads_none _ (rw e at reads)

-- no block
pub none_read : {stands : Volume → Type 0} {tells : Type 0} {before after : ℕ → Bool} (l a k : ℕ) (buf : List ℕ) → k ≡ 0 → length buf ≡ k * l
    → ReadsAs stands before tells after (area_of l a k) (Some buf)
none_read l a k [] none room = rw none (area_none l a)
none_read l a k (b ∷ buf) none room = absurd (let e : k * l ≡ 0 * l = ap (λ x. x * l) none in omega arith)

sub-times : (k m l : ℕ) → (k - m) * l ≡ k * l - m * l
sub-times k m l = rw (mul_comm (k - m) l, mul_comm k l, mul_comm m l) (mul-sub l k m)

-- no bytes
pub none_there : (k l f : ℕ) (block : List ℕ) → k ≡ 0 → block ≡ replicate (0 * f) 0 → length block ≡ k * l
none_there k l f block none e =
    let zeros : 0 * f ≡ 0 * l = omega arith in
    rw (e, none) (length-replicate {A = ℕ} (0 * f) 0 ∙ zeros)

-- the bytes that are there, and zeros after them, are the whole
pub padded : (k m l : ℕ) (front : List ℕ) → m ≤ k → length front ≡ m * l → length (front ++ replicate ((k - m) * l) 0) ≡ k * l
padded k m l front low e =
    let times = sub-times k m l in
    let fits = mul-le-mul_right l low in
    length-append front (replicate ((k - m) * l) 0) ∙ omega (arith, e, length-replicate {A = ℕ} ((k - m) * l) 0)

-- the geometry by the bytes of the superblock
pub geometry_read : {stands : Volume → Type 0} {tells : Type 0} {before after : ℕ → Bool} (l n a k : ℕ) (bytes : List ℕ) (answer : Result Geometry BadSuper) → Grows before after
    → a ≡ 8192 / l → k ≡ div_ceil 1376 l → answer ≡ geometry_in bytes l n
    → ReadsAs stands before tells after (area_within l n a k) (Some bytes) → ReadsAs stands before tells after (geometry_of l n) (Some answer)
unfolding geometry_of superblock_of
geometry_read l n a k bytes answer grows e1 e2 e3 reads =
    rw e3 (reads_map (λ b. geometry_in b l n) grows (rw (e1, e2) at reads))

pub geometry_unread : {stands : Volume → Type 0} {tells : Type 0} {before after : ℕ → Bool} (l n a k : ℕ)
    → a ≡ 8192 / l → k ≡ div_ceil 1376 l
    → ReadsAs stands before tells after (area_within l n a k) None → ReadsAs stands before tells after (geometry_of l n) None
unfolding geometry_of superblock_of
geometry_unread l n a k e1 e2 reads = reads_none _ (rw (e1, e2) at reads)

-- ---- what is fetched

-- no block
pub none_fetched : {S : Type 0} {fetched : S → List ℕ → S → Type 0} {stands : Volume → Type 0} {tells : Type 0} {s : S} (l a k : ℕ) (buf : List ℕ) → k ≡ 0
    → fetched s [] s → Fetches fetched stands tells (area_of l a k) (Some buf) s s
unfolding area_of
none_fetched l a k buf none start = rw none (record { blocks = []; were = start; consulted = λ is v holds. refl })

-- the blocks that are there
pub within_fetched : {S : Type 0} {fetched : S → List ℕ → S → Type 0} {stands : Volume → Type 0} {tells : Type 0} {before after : ℕ → Bool} {old new : S} (l n a k m : ℕ) (r : Bool) (front rest : List ℕ)
    → ((s t u : S) (x y : List ℕ) → fetched s x t → fetched t y u → fetched s (x ++ y) u) → fetched new [] new
    → m ≡ min k (n - a) → rest ≡ replicate ((k - m) * l) 0 → ReadsAs stands before tells after (area_of l a m) (then_some r front)
    → Fetches fetched stands tells (area_of l a m) (then_some r front) old new → Fetches fetched stands tells (area_within l n a k) (then_some r (front ++ rest)) old new
unfolding area_within
within_fetched l n a k m true front rest both none e zeros reads fetches =
    rw (zeros, e) (fetches_map (λ bytes. bytes ++ replicate ((k - min k (n - a)) * l) 0) both none (rw e at reads) (rw e at fetches))
within_fetched l n a k m false front rest both none e zeros reads fetches = fetches_none _ (rw e at fetches)

-- those with the superblock
pub geometry_fetched : {S : Type 0} {fetched : S → List ℕ → S → Type 0} {stands : Volume → Type 0} {tells : Type 0} {before after : ℕ → Bool} {old new : S} (l n a k : ℕ) (bytes : List ℕ) (answer : Result Geometry BadSuper)
    → ((s t u : S) (x y : List ℕ) → fetched s x t → fetched t y u → fetched s (x ++ y) u) → fetched new [] new
    → a ≡ 8192 / l → k ≡ div_ceil 1376 l → answer ≡ geometry_in bytes l n → ReadsAs stands before tells after (area_within l n a k) (Some bytes)
    → Fetches fetched stands tells (area_within l n a k) (Some bytes) old new → Fetches fetched stands tells (geometry_of l n) (Some answer) old new
unfolding geometry_of superblock_of
geometry_fetched l n a k bytes answer both none e1 e2 e3 reads fetches =
    rw e3 (fetches_map (λ b. geometry_in b l n) both none (rw (e1, e2) at reads) (rw (e1, e2) at fetches))

pub geometry_unfetched : {S : Type 0} {fetched : S → List ℕ → S → Type 0} {stands : Volume → Type 0} {tells : Type 0} {old new : S} (l n a k : ℕ)
    → a ≡ 8192 / l → k ≡ div_ceil 1376 l
    → Fetches fetched stands tells (area_within l n a k) None old new → Fetches fetched stands tells (geometry_of l n) None old new
unfolding geometry_of superblock_of
geometry_unfetched l n a k e1 e2 fetches = fetches_none _ (rw (e1, e2) at fetches)

-- ---- what is gone

pub geometry_lost : {S : Type 0} {fetched : S → List ℕ → S → Type 0} {stands : Volume → Type 0} {tells : Type 0} {gone : ℕ → Bool} {old new : S} (l n a k : ℕ)
    → a ≡ 8192 / l → k ≡ div_ceil 1376 l
    → FetchesArea fetched gone a (min k (n - a)) false old new → LosesOne stands tells n (IsNeeded (geometry_of l n)) gone
unfolding geometry_of superblock_of
geometry_lost l n a k e1 e2 area =
    loses_front (area_within l n (8192 / l) (div_ceil 1376 l)) _ (within_lost l n (8192 / l) (div_ceil 1376 l) (rw (e1, e2) at area))

-- ---- sizes

-- the blocks with the superblock have its bytes, and are at most eight
pub superblock_fits : (l : ℕ) → 512 ≤ l → (1376 ≤ div_ceil 1376 l * l) × (div_ceil 1376 l ≤ 8)
superblock_fits l large =
    let bound = div_ceil_times 1376 l (omega arith) in
    let less : div_ceil 1376 l * l < 9 * l = omega arith in
    let below = lt_of_mul-lt-mul_right l less in
    (bound.0, omega arith)
