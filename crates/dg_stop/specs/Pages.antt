-- What a write of a part of a page does to the bytes that the places name.
use Rattle.std.specs.Prelude.{◌≡◌, ◌≤◌, ◌<◌, ◌+◌, ◌*◌, ◌==◌, ◌⊎◌, not, ℕ, Bool, List, length, if◌then◌else◌, slice_index, slice_range}
use Rattle.dg_io.specs.Told.{Torn, patch}
use Rattle.dg_stop.specs.Layouts.{page_place, seen}

-- the places, but that the page stands in this one
abbrev pub moved : ℕ → Bool → (ℕ → Bool) → ℕ → Bool
moved page second places p = if p == page then second else places p

-- One place of a page has the bytes that stood in a place of it, with a piece in them, and no other byte has changed.
pub record PutsPart (t page : ℕ) (stands second : Bool) (k : ℕ) (piece before after : List ℕ) : Type 0 where
  pub there : (i : ℕ) → i < 512 → slice_index after (page_place t page second + i)
      ≡ slice_index (patch (slice_range before (page_place t page stands) (page_place t page stands + 512)) k piece) i
  pub beside : (i : ℕ) → (i < page_place t page second) ⊎ (page_place t page second + 512 ≤ i) → slice_index after i ≡ slice_index before i

-- Where the other place got the bytes of the page with a piece in them, the member has the piece.
abbrev pub PagesArePatched : Type 0
PagesArePatched =
    (t size page k : ℕ) (second : Bool) (places : ℕ → Bool) (piece before after : List ℕ) → k + length piece ≤ 512 → 512 * page + k + length piece ≤ size
    → page_place t page (places page) + 512 ≤ length before → PutsPart t page (places page) second k piece before after
    → seen t (moved page second places) size after ≡ patch (seen t places size before) (512 * page + k) piece

-- Writes of pages, one after another, each in the place that the last commit doesn't use: whatever became of them, they changed these places alone.
pub data TornPages (t size : ℕ) (last : ℕ → Bool) : List ℕ → List ℕ → Type 0 where
  untorn : {a b : List ℕ} → b ≡ a → TornPages t size last a b
  tears : {a b c : List ℕ} → TornPages t size last a b → (page : ℕ) → 512 * page < size → Torn (page_place t page (not (last page))) 512 b c → TornPages t size last a c

-- the bytes are as they were, and the places name this piece at a place
pub record ReadsPiece (t size : ℕ) (places : ℕ → Bool) (place : ℕ) (piece before after : List ℕ) : Type 0 where
  pub same : after ≡ before
  pub there : piece ≡ slice_range (seen t places size before) place (place + length piece)

-- the bytes that the places name got this piece
abbrev pub PutsPiece : ℕ → ℕ → (ℕ → Bool) → (ℕ → Bool) → ℕ → List ℕ → List ℕ → List ℕ → Type 0
PutsPiece t size old new place piece before after = seen t new size after ≡ patch (seen t old size before) place piece

-- or any bytes in the range, the rest as it was
abbrev pub TearsPiece : ℕ → ℕ → (ℕ → Bool) → (ℕ → Bool) → ℕ → ℕ → List ℕ → List ℕ → Type 0
TearsPiece t size old new place n before after = Torn place n (seen t old size before) (seen t new size after)
