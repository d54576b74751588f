-- A write of a part of a page is one of the member's bytes.
use Rattle.std.proofs.Common.{◌≡◌, ◌≢◌, ◌≤◌, ◌<◌, ◌+◌, ◌-◌, ◌*◌, ◌/◌, ◌%◌, ◌⊎◌, ℕ, Bool, true, false, List, length, drop, refl, sym, ◌∙◌, ap, arith, inl, inr, length-take, length-drop, get_or-take, get_or-drop}
use Rattle.std.specs.Prelude.{◌==◌, if◌then◌else◌, slice_index, slice_range}
use Rattle.std.proofs.lemmas.List.{ext_get_or}
use Rattle.std.proofs.lemmas.List.FromFn.{get_or-map-range_with_len, length-map-range_with_len}
use Rattle.std.proofs.lemmas.Bool.{false≢true}
use Rattle.std.proofs.lemmas.Bool.Decides.{Decides-eqb}
use Rattle.dg_io.specs.Told.{patch}
use Rattle.dg_stop.proofs.Avoiding.{apart_places, low_place}
use Rattle.dg_stop.proofs.Committing.{same_or_not}
use Rattle.dg_stop.proofs.Ranges.{patch_at, patch_torn, torn_at}
use Rattle.dg_stop.specs.Layouts.{page_place, seen, spot}
use Rattle.dg_stop.specs.Pages.{PagesArePatched, moved}

pub at_seen : (t size : ℕ) (places : ℕ → Bool) (all : List ℕ) (o : ℕ) → o < size → slice_index (seen t places size all) o ≡ slice_index all (spot t places o)
unfolding seen
at_seen t size places all o low = get_or-map-range_with_len (λ (x : ℕ). slice_index all (spot t places x)) 0 size o o 0 low (omega arith)

pub size_seen : (t size : ℕ) (places : ℕ → Bool) (all : List ℕ) → length (seen t places size all) ≡ size
unfolding seen
size_seen t size places all = length-map-range_with_len (λ (x : ℕ). slice_index all (spot t places x)) 0 size

choose_same : (p page : ℕ) (second : Bool) (places : ℕ → Bool) → p ≡ page → moved page second places p ≡ second
choose_same p page second places e = ap (λ (b : Bool). if b then second else places p) ((Decides-eqb p page).1 e)

pick : (b : Bool) (x y : Bool) → b ≡ false → (if b then x else y) ≡ y
pick true x y is = absurd (false≢true (sym is))
pick false x y is = refl

choose_other : (p page : ℕ) (second : Bool) (places : ℕ → Bool) → p ≢ page → (b : Bool) → (p == page) ≡ b → moved page second places p ≡ places p
choose_other p page second places apart true is = absurd (apart ((Decides-eqb p page).0 is))
choose_other p page second places apart false is = pick (p == page) second (places p) is

pub three : (k n i : ℕ) → (i < k) ⊎ ((k + n ≤ i) ⊎ ((k ≤ i) × (i < k + n)))
three k n i = grind arith

module _ (t size page k : ℕ) (second : Bool) (places : ℕ → Bool) (piece before after : List ℕ) (fits : k + length piece ≤ 512) (inside : 512 * page + k + length piece ≤ size)
    (room : page_place t page (places page) + 512 ≤ length before)
    (put : (i : ℕ) → i < 512 → slice_index after (page_place t page second + i)
    ≡ slice_index (patch (slice_range before (page_place t page (places page)) (page_place t page (places page) + 512)) k piece) i)
    (rest : (i : ℕ) → (i < page_place t page second) ⊎ (page_place t page second + 512 ≤ i) → slice_index after i ≡ slice_index before i) where
  whole : List ℕ
  whole = slice_range before (page_place t page (places page)) (page_place t page (places page) + 512)

  whole_size : length (slice_range before (page_place t page (places page)) (page_place t page (places page) + 512)) ≡ 512
  whole_size = omega (arith, room, length-take (page_place t page (places page) + 512 - page_place t page (places page)) (drop (page_place t page (places page)) before), length-drop (page_place t page (places page)) before)

  at_whole : (i : ℕ) → i < 512 → slice_index (slice_range before (page_place t page (places page)) (page_place t page (places page) + 512)) i ≡ slice_index before (page_place t page (places page) + i)
  at_whole i low =
      get_or-take (page_place t page (places page) + 512 - page_place t page (places page)) (drop (page_place t page (places page)) before) i 0 (omega (arith, low))
      ∙ get_or-drop (page_place t page (places page)) before i 0

  old_fits : 512 * page + k + length piece ≤ length (seen t places size before)
  old_fits = omega (arith, inside, size_seen t size places before)

  -- byte o of the new view, where it isn't in this page
  elsewhere : (o : ℕ) → o < size → o / 512 ≢ page → slice_index after (spot t (moved page second places) o) ≡ slice_index (patch (seen t places size before) (512 * page + k) piece) o
  elsewhere o low apart =
      ap (λ (b : Bool). slice_index after (page_place t (o / 512) b + o % 512)) (choose_other (o / 512) page second places apart (o / 512 == page) refl)
      ∙ rest (spot t places o) (beside (apart_places (1024 + 2 * t) (o / 512) page (if places (o / 512) then 512 else 0) (if second then 512 else 0) (o % 512) 0 512
      (low_place (places (o / 512))) (low_place second) (omega arith) (omega arith) (λ e. absurd (apart e))))
      ∙ sym (at_seen t size places before o low)
      ∙ sym (torn_at (512 * page + k) (length piece) (seen t places size before) (patch (seen t places size before) (512 * page + k) piece)
      (patch_torn (seen t places size before) (512 * page + k) piece old_fits) o (far (three (512 * page + k) (length piece) o)))
    where
      beside : (1024 + 2 * t + 1024 * (o / 512) + (if places (o / 512) then 512 else 0) + o % 512 < 1024 + 2 * t + 1024 * page + (if second then 512 else 0) + 0)
          ⊎ (1024 + 2 * t + 1024 * page + (if second then 512 else 0) + 0 + 512 ≤ 1024 + 2 * t + 1024 * (o / 512) + (if places (o / 512) then 512 else 0) + o % 512)
          → (spot t places o < page_place t page second) ⊎ (page_place t page second + 512 ≤ spot t places o)
      beside (inl x) = inl (omega (arith, x))
      beside (inr x) = inr (omega (arith, x))

      far : (o < 512 * page + k) ⊎ ((512 * page + k + length piece ≤ o) ⊎ ((512 * page + k ≤ o) × (o < 512 * page + k + length piece)))
          → (o < 512 * page + k) ⊎ (512 * page + k + length piece ≤ o)
      far (inl x) = inl x
      far (inr (inl x)) = inr x
      far (inr (inr x)) = absurd (apart (omega (arith, x.0, x.1, fits)))

  -- and where it is
  here : (o : ℕ) → o < size → o / 512 ≡ page → slice_index after (spot t (moved page second places) o) ≡ slice_index (patch (seen t places size before) (512 * page + k) piece) o
  here o low at =
      ap (λ (b : Bool). slice_index after (page_place t (o / 512) b + o % 512)) (choose_same (o / 512) page second places at)
      ∙ ap (λ (p : ℕ). slice_index after (page_place t p second + o % 512)) at
      ∙ put (o % 512) (omega arith)
      ∙ split (three k (length piece) (o % 512))
    where
      old : slice_index before (page_place t page (places page) + o % 512) ≡ slice_index (seen t places size before) o
      old = ap (λ (p : ℕ). slice_index before (page_place t p (places p) + o % 512)) (sym at) ∙ sym (at_seen t size places before o low)

      split : (o % 512 < k) ⊎ ((k + length piece ≤ o % 512) ⊎ ((k ≤ o % 512) × (o % 512 < k + length piece)))
          → slice_index (patch (slice_range before (page_place t page (places page)) (page_place t page (places page) + 512)) k piece) (o % 512)
          ≡ slice_index (patch (seen t places size before) (512 * page + k) piece) o
      split (inl x) =
          torn_at k (length piece) _ _ (patch_torn (slice_range before (page_place t page (places page)) (page_place t page (places page) + 512)) k piece (omega (arith, fits, whole_size))) (o % 512) (inl x)
          ∙ at_whole (o % 512) (omega arith) ∙ old
          ∙ sym (torn_at (512 * page + k) (length piece) (seen t places size before) (patch (seen t places size before) (512 * page + k) piece)
          (patch_torn (seen t places size before) (512 * page + k) piece old_fits) o (inl (omega (arith, x, at))))
      split (inr (inl x)) =
          torn_at k (length piece) _ _ (patch_torn (slice_range before (page_place t page (places page)) (page_place t page (places page) + 512)) k piece (omega (arith, fits, whole_size))) (o % 512) (inr x)
          ∙ at_whole (o % 512) (omega arith) ∙ old
          ∙ sym (torn_at (512 * page + k) (length piece) (seen t places size before) (patch (seen t places size before) (512 * page + k) piece)
          (patch_torn (seen t places size before) (512 * page + k) piece old_fits) o (inr (omega (arith, x, at))))
      split (inr (inr x)) =
          let i : k + (o % 512 - k) ≡ o % 512 = omega (arith, x.0) in
          let j : 512 * page + k + (o % 512 - k) ≡ o = omega (arith, x.0, at) in
          ap (λ (n : ℕ). slice_index (patch (slice_range before (page_place t page (places page)) (page_place t page (places page) + 512)) k piece) n) (sym i)
          ∙ patch_at (slice_range before (page_place t page (places page)) (page_place t page (places page) + 512)) k piece (omega (arith, fits, whole_size)) (o % 512 - k) (omega (arith, x.0, x.1))
          ∙ sym (patch_at (seen t places size before) (512 * page + k) piece old_fits (o % 512 - k) (omega (arith, x.0, x.1)))
          ∙ ap (λ (n : ℕ). slice_index (patch (seen t places size before) (512 * page + k) piece) n) j

  pub patched : seen t (moved page second places) size after ≡ patch (seen t places size before) (512 * page + k) piece
  patched = ext_get_or 0 (seen t (moved page second places) size after) (patch (seen t places size before) (512 * page + k) piece)
      (size_seen t size (moved page second places) after ∙ sym (size_seen t size places before) ∙ sym (patch_torn (seen t places size before) (512 * page + k) piece old_fits).size)
      (λ o low.
      let near : o < size = omega (arith, low, size_seen t size (moved page second places) after) in
      at_seen t size (moved page second places) after o near
      ∙ elim (same_or_not (o / 512) page) [ inl at ↦ here o near at | inr apart ↦ elsewhere o near apart ])

pub pages_are_patched : PagesArePatched
pages_are_patched t size page k second places piece before after fits inside room puts = patched t size page k second places piece before after fits inside room puts.there puts.beside
