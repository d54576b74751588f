-- Which blocks are gone where a reader has no answer.
use Rattle.std.proofs.Common.{ℕ, ◌+◌, ◌-◌, ◌≤◌, min, List, Bool, false, refl, arith}
use Rattle.ufs_model.specs.Blocks.{Volume, area_of, area_within}
use Rattle.ufs_model.specs.Paths.{bytes_at}
use Rattle.ufs_model.specs.Pointers.{through}
use Rattle.ufs_model.specs.declared.geometries.Geometry.{Geometry}
use Rattle.ufs_model.specs.declared.pointers.Address.TheVariants.{At}
use Rattle.ufs_pointer.proofs.AreaFetches.{needed_in}
use Rattle.ufs_pointer.specs.Fetches.{FetchesArea, IsNeeded, LosesOne}
use Rattle.ufs_pointer.specs.KindLaws.{loses_area, loses_front}

-- of blocks end to end
pub area_lost : {S : Type 0} {fetched : S → List ℕ → S → Type 0} {stands : Volume → Type 0} {tells : Type 0} {gone : ℕ → Bool} {old new : S} (l a k count : ℕ)
    → a + k ≤ count → FetchesArea fetched gone a k false old new → LosesOne stands tells count (IsNeeded (area_of l a k)) gone
area_lost l a k count inside area = loses_area (IsNeeded (area_of l a k)) false inside (λ v holds b low high. needed_in l a k v b low high) area refl

-- of an indirect block
pub through_lost : {S : Type 0} {fetched : S → List ℕ → S → Type 0} {stands : Volume → Type 0} {tells : Type 0} {gone : ℕ → Bool} {old new : S} (g : Geometry) (i a k count : ℕ)
    → a + k ≤ count → FetchesArea fetched gone a k false old new → LosesOne stands tells count (IsNeeded (through g i (At a k))) gone
unfolding through
through_lost g i a k count inside area = loses_front (area_of g.fsize a k) _ (area_lost g.fsize a k count inside area)

-- of a file block
pub bytes_lost : {S : Type 0} {fetched : S → List ℕ → S → Type 0} {stands : Volume → Type 0} {tells : Type 0} {gone : ℕ → Bool} {old new : S} (g : Geometry) (a k count : ℕ)
    → a + k ≤ count → FetchesArea fetched gone a k false old new → LosesOne stands tells count (IsNeeded (bytes_at g (At a k))) gone
unfolding bytes_at
bytes_lost g a k count inside area = loses_front (area_of g.fsize a k) _ (area_lost g.fsize a k count inside area)

-- of blocks of which those past the last are zeros
pub within_lost : {S : Type 0} {fetched : S → List ℕ → S → Type 0} {stands : Volume → Type 0} {tells : Type 0} {gone : ℕ → Bool} {old new : S} (l n a k : ℕ)
    → FetchesArea fetched gone a (min k (n - a)) false old new → LosesOne stands tells n (IsNeeded (area_within l n a k)) gone
unfolding area_within
within_lost l n a k area =
    let some = (area.cut refl).0 in
    let most = area.most in
    loses_front (area_of l a (min k (n - a))) _ (area_lost l a (min k (n - a)) n (omega arith) area)
