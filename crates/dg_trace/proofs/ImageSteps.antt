-- How an image is read piece by piece.
use Rattle.std.proofs.Common.{◌≡◌, ◌≤◌, ◌<◌, ◌+◌, ◌-◌, ◌^◌, ℕ, List, [], ◌∷◌, ◌++◌, length, drop, refl, sym, ◌∙◌, ap, arith, append_assoc, length-append, length-drop}
use Rattle.std.specs.Prelude.{Option, Some, None, slice_range}
use Rattle.std.proofs.lemmas.List.{length-take-le}
use Rattle.dg_io.specs.Told.{Gave, IsSame, Told}
use Rattle.dg_trace.specs.Images.{GaveImage, GavePart}

-- nothing was taken yet
pub gave_none : (x : Option (List ℕ)) → Told (Gave []) x x
gave_none None = tt
gave_none (Some a) = refl

-- some bytes, and then others
pub gave_both : (front piece : List ℕ) (x y z : Option (List ℕ)) → Told (Gave front) x y → Told (Gave piece) y z → Told (Gave (front ++ piece)) x z
gave_both front piece x y None p q = tt
gave_both front piece (Some a) (Some b) (Some c) p q = p ∙ ap (λ (l : List ℕ). front ++ l) q ∙ sym (append_assoc front piece c)
gave_both front piece None (Some b) (Some c) p q = absurd p
gave_both front piece x None (Some c) p q = absurd q

-- the bytes so far are a part of an image
pub part_of : (front : List ℕ) (x y : Option (List ℕ)) → length front ≤ 2 ^ 28 + 1 → Told (Gave front) x y → Told GavePart x y
part_of front x None most p = tt
part_of front (Some a) (Some b) most p = record { front = front; split = p; most = most }
part_of front None (Some b) most p = absurd p

-- and where nothing more was taken
pub part_then : (front : List ℕ) (x y z : Option (List ℕ)) → length front ≤ 2 ^ 28 + 1 → Told (Gave front) x y → Told IsSame y z → Told GavePart x z
part_then front x y None most p q = tt
part_then front (Some a) (Some b) (Some c) most p q = record { front = front; split = p ∙ ap (λ (l : List ℕ). front ++ l) (sym q); most = most }
part_then front None (Some b) (Some c) most p q = absurd p
part_then front x None (Some c) most p q = absurd q

-- the image is longer than images are
pub image_past : (image : List ℕ) (x y : Option (List ℕ)) → 2 ^ 28 < length image → length image ≤ 2 ^ 28 + 1 → Told (Gave image) x y → Told (GaveImage image) x y
image_past image x None past most p = tt
image_past image (Some a) (Some b) past most p = record { split = p; most = most; whole = λ low. absurd (omega (arith, past, low)) }
image_past image None (Some b) past most p = absurd p

nothing_left : (piece rest : List ℕ) → piece ++ rest ≡ [] → rest ≡ []
nothing_left [] rest e = e
nothing_left (x ∷ piece) rest e = cc

-- the source is at its end
pub image_end : (image piece : List ℕ) (x y z : Option (List ℕ)) → length image ≤ 2 ^ 28 + 1 → Told (Gave image) x y → Told (Gave piece) y z
    → Told (λ before after. before ≡ []) y z → Told (GaveImage image) x z
image_end image piece x y None most p q e = tt
image_end image piece (Some a) (Some b) (Some c) most p q e =
    let none : c ≡ [] = nothing_left piece c (sym q ∙ e) in
    record { split = p ∙ ap (λ (l : List ℕ). image ++ l) (e ∙ sym none); most = most; whole = λ low. none }
image_end image piece None (Some b) (Some c) most p q e = absurd p
image_end image piece x None (Some c) most p q e = absurd q

-- a slice of so many bytes
pub slice_size : (xs : List ℕ) (at n : ℕ) → at + n ≤ length xs → length (slice_range xs at (at + n)) ≡ n
slice_size xs at n within =
    let size : length (slice_range xs at (at + n)) ≡ at + n - at = length-take-le (at + n - at) (drop at xs) (omega (arith, within, length-drop at xs)) in
    omega (arith, size)

-- bytes and a slice, as they were read
pub size_both : (image xs : List ℕ) (at n : ℕ) → at + n ≤ length xs → length (image ++ slice_range xs at (at + n)) ≡ length image + n
size_both image xs at n within = length-append image (slice_range xs at (at + n)) ∙ ap (λ (k : ℕ). length image + k) (slice_size xs at n within)
