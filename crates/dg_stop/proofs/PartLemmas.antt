-- What a write of a part of a page puts into one of its places.
use Rattle.std.proofs.Common.{◌≡◌, ◌≤◌, ◌<◌, ◌+◌, ◌-◌, ◌*◌, ◌⊎◌, ℕ, Bool, List, length, drop, refl, sym, ◌∙◌, ap, arith, inl, inr, subst, length-take, length-drop, get_or-take, get_or-drop}
use Rattle.std.specs.Prelude.{Option, Some, None, IfSome, slice_index, slice_range}
use Rattle.dg_io.specs.Told.{Told, Patched, Reads, patch}
use Rattle.dg_stop.proofs.Avoiding.{low_place}
use Rattle.dg_stop.proofs.Paging.{three}
use Rattle.dg_stop.proofs.Ranges.{patch_at, patch_torn, torn_at}
use Rattle.dg_stop.specs.Layouts.{page_place}
use Rattle.dg_stop.specs.Pages.{PutsPart}

-- a page that was read
size_range : (b : List ℕ) (p : ℕ) → p + 512 ≤ length b → length (slice_range b p (p + 512)) ≡ 512
size_range b p room = omega (arith, room, length-take (p + 512 - p) (drop p b), length-drop p b)

at_range : (b : List ℕ) (p i : ℕ) → i < 512 → slice_index (slice_range b p (p + 512)) i ≡ slice_index b (p + i)
at_range b p i low = get_or-take (p + 512 - p) (drop p b) i 0 (omega (arith, low)) ∙ get_or-drop p b i 0

-- a piece in a page, or in the member at the page
part_direct : (b piece : List ℕ) (p k : ℕ) → p + 512 ≤ length b → k + length piece ≤ 512 → (i : ℕ) → i < 512
    → slice_index (patch b (p + k) piece) (p + i) ≡ slice_index (patch (slice_range b p (p + 512)) k piece) i
part_direct b piece p k room fits i low = split (three k (length piece) i)
  where
    beside : (i < k) ⊎ (k + length piece ≤ i) → (p + i < p + k) ⊎ (p + k + length piece ≤ p + i)
    beside (inl x) = inl (omega (arith, x))
    beside (inr x) = inr (omega (arith, x))

    out : (i < k) ⊎ (k + length piece ≤ i) → slice_index (patch b (p + k) piece) (p + i) ≡ slice_index (patch (slice_range b p (p + 512)) k piece) i
    out x =
        torn_at (p + k) (length piece) b (patch b (p + k) piece) (patch_torn b (p + k) piece (omega (arith, room, fits))) (p + i) (beside x)
        ∙ sym (at_range b p i low)
        ∙ sym (torn_at k (length piece) (slice_range b p (p + 512)) (patch (slice_range b p (p + 512)) k piece)
        (patch_torn (slice_range b p (p + 512)) k piece (omega (arith, fits, size_range b p room))) i x)

    split : (i < k) ⊎ ((k + length piece ≤ i) ⊎ ((k ≤ i) × (i < k + length piece)))
        → slice_index (patch b (p + k) piece) (p + i) ≡ slice_index (patch (slice_range b p (p + 512)) k piece) i
    split (inl x) = out (inl x)
    split (inr (inl x)) = out (inr x)
    split (inr (inr x)) =
        let j : p + k + (i - k) ≡ p + i = omega (arith, x.0) in
        let l : k + (i - k) ≡ i = omega (arith, x.0) in
        ap (λ (n : ℕ). slice_index (patch b (p + k) piece) n) (sym j)
        ∙ patch_at b (p + k) piece (omega (arith, room, fits)) (i - k) (omega (arith, x.0, x.1))
        ∙ sym (patch_at (slice_range b p (p + 512)) k piece (omega (arith, fits, size_range b p room)) (i - k) (omega (arith, x.0, x.1)))
        ∙ ap (λ (n : ℕ). slice_index (patch (slice_range b p (p + 512)) k piece) n) l

place_room : (t page n : ℕ) (second : Bool) → 1024 + 2 * t + 1024 * (page + 1) ≤ n → page_place t page second + 512 ≤ n
place_room t page n second long = omega (arith, long, low_place second)

-- a whole page that is put over a place
whole_at : (b whole : List ℕ) (p k i : ℕ) → k ≡ 0 → p + 512 ≤ length b → length whole ≡ 512 → i < 512 → slice_index (patch b (p + k) whole) (p + i) ≡ slice_index whole i
whole_at b whole p k i none room size low =
    let at : p + k + i ≡ p + i = omega (arith, none) in
    ap (λ (n : ℕ). slice_index (patch b (p + k) whole) n) (sym at) ∙ patch_at b (p + k) whole (omega (arith, none, room, size)) i (omega (arith, low, size))

whole_beside : (b whole : List ℕ) (p k i : ℕ) → k ≡ 0 → p + 512 ≤ length b → length whole ≡ 512 → (i < p) ⊎ (p + 512 ≤ i) → slice_index (patch b (p + k) whole) i ≡ slice_index b i
whole_beside b whole p k i none room size out =
    torn_at (p + k) (length whole) b (patch b (p + k) whole) (patch_torn b (p + k) whole (omega (arith, none, room, size))) i (wide out)
  where
    wide : (i < p) ⊎ (p + 512 ≤ i) → (i < p + k) ⊎ (p + k + length whole ≤ i)
    wide (inl x) = inl (omega (arith, x))
    wide (inr x) = inr (omega (arith, x, none, size))

-- the page stands in this place already
pub puts_direct : (t page k : ℕ) (stands second : Bool) (piece : List ℕ) (x y : Option (List ℕ)) → stands ≡ second → k + length piece ≤ 512
    → IfSome x (λ all. 1024 + 2 * t + 1024 * (page + 1) ≤ length all) → Told (Patched (page_place t page second + k) piece) x y → Told (PutsPart t page stands second k piece) x y
puts_direct t page k stands second piece x None same fits long put = tt
puts_direct t page k stands second piece None (Some a) same fits long put = absurd put
puts_direct t page k stands second piece (Some b) (Some a) same fits long put =
    subst (λ (w : Bool). PutsPart t page w second k piece b a) (sym same) (record {
      there = λ i low. ap (λ (l : List ℕ). slice_index l (page_place t page second + i)) put
          ∙ part_direct b piece (page_place t page second) k (place_room t page (length b) second long) fits i low;
      beside = λ i out. ap (λ (l : List ℕ). slice_index l i) put
          ∙ torn_at (page_place t page second + k) (length piece) b (patch b (page_place t page second + k) piece)
          (patch_torn b (page_place t page second + k) piece (omega (arith, fits, place_room t page (length b) second long))) i (wide i out);
    })
  where
    wide : (i : ℕ) → (i < page_place t page second) ⊎ (page_place t page second + 512 ≤ i) → (i < page_place t page second + k) ⊎ (page_place t page second + k + length piece ≤ i)
    wide i (inl x) = inl (omega (arith, x))
    wide i (inr x) = inr (omega (arith, x, fits))

-- all of the page is written
pub puts_whole : (t page k : ℕ) (stands second : Bool) (piece : List ℕ) (x y : Option (List ℕ)) → length piece ≡ 512 → k + length piece ≤ 512
    → IfSome x (λ all. 1024 + 2 * t + 1024 * (page + 1) ≤ length all) → Told (Patched (page_place t page second + k) piece) x y → Told (PutsPart t page stands second k piece) x y
puts_whole t page k stands second piece x None size fits long put = tt
puts_whole t page k stands second piece None (Some a) size fits long put = absurd put
puts_whole t page k stands second piece (Some b) (Some a) size fits long put =
    let none : k ≡ 0 = omega (arith, size, fits) in
    let room = place_room t page (length b) second long in
    let old = place_room t page (length b) stands long in
    record {
      there = λ i low.
          let at : k + i ≡ i = omega (arith, none) in
          ap (λ (l : List ℕ). slice_index l (page_place t page second + i)) put
          ∙ whole_at b piece (page_place t page second) k i none room size low
          ∙ sym (patch_at (slice_range b (page_place t page stands) (page_place t page stands + 512)) k piece
          (omega (arith, fits, size_range b (page_place t page stands) old)) i (omega (arith, low, size)))
          ∙ ap (λ (n : ℕ). slice_index (patch (slice_range b (page_place t page stands) (page_place t page stands + 512)) k piece) n) at;
      beside = λ i out. ap (λ (l : List ℕ). slice_index l i) put ∙ whole_beside b piece (page_place t page second) k i none room size out;
    }

-- the page was read in its other place
pub puts_read : (t page k : ℕ) (stands second : Bool) (piece buf whole : List ℕ) (x m y : Option (List ℕ)) → length buf ≡ 512 → whole ≡ patch buf k piece → k + length piece ≤ 512
    → IfSome x (λ all. 1024 + 2 * t + 1024 * (page + 1) ≤ length all) → Told (Reads (page_place t page stands) buf) x m
    → Told (Patched (page_place t page second + 0) whole) m y → Told (PutsPart t page stands second k piece) x y
puts_read t page k stands second piece buf whole x m None size is fits long read put = tt
puts_read t page k stands second piece buf whole x None (Some a) size is fits long read put = absurd put
puts_read t page k stands second piece buf whole None (Some c) (Some a) size is fits long read put = absurd read
puts_read t page k stands second piece buf whole (Some b) (Some c) (Some a) size is fits long read put =
    let room = place_room t page (length b) second long in
    let same : a ≡ patch b (page_place t page second + 0) whole = put ∙ ap (λ (l : List ℕ). patch l (page_place t page second + 0) whole) read.same in
    let long_whole : length whole ≡ 512 = ap (λ (l : List ℕ). length l) is ∙ (patch_torn buf k piece (omega (arith, size, fits))).size ∙ size in
    let was : buf ≡ slice_range b (page_place t page stands) (page_place t page stands + 512) =
    read.there ∙ ap (λ (n : ℕ). slice_range b (page_place t page stands) (page_place t page stands + n)) size in
    record {
      there = λ i low.
          ap (λ (l : List ℕ). slice_index l (page_place t page second + i)) same
          ∙ whole_at b whole (page_place t page second) 0 i refl room long_whole low
          ∙ ap (λ (l : List ℕ). slice_index l i) (is ∙ ap (λ (l : List ℕ). patch l k piece) was);
      beside = λ i out. ap (λ (l : List ℕ). slice_index l i) same ∙ whole_beside b whole (page_place t page second) 0 i refl room long_whole out;
    }
