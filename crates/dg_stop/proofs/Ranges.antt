-- What a write in a range leaves of the bytes beside it.
use Rattle.std.proofs.Common.{◌≡◌, ◌≤◌, ◌<◌, ◌+◌, ◌-◌, ◌++◌, ◌⊎◌, ℕ, Bool, List, length, get_or, take, drop, refl, sym, ◌∙◌, ap, arith, inl, inr, append_assoc, length-append, length-take, length-drop, get_or-take, get_or-drop}
use Rattle.std.specs.Prelude.{slice_index, slice_range, map}
use Rattle.std.specs.List.{range_with_len}
use Rattle.std.proofs.lemmas.List.{ext_get_or, get_or_append_left, take_at, drop_at, drop-drop}
use Rattle.std.proofs.lemmas.List.FromFn.{get_or-map-range_with_len, length-map-range_with_len}
use Rattle.dg_io.specs.Told.{Torn, patch}
use Rattle.dg_stop.specs.Layouts.{spot, seen}

pub torn_back : (place n : ℕ) (before after : List ℕ) → Torn place n before after → Torn place n after before
torn_back place n before after torn = record { size = sym torn.size; front = sym torn.front; back = sym torn.back }

pub torn_at : (place n : ℕ) (before after : List ℕ) → Torn place n before after → (i : ℕ) → (i < place) ⊎ (place + n ≤ i) → slice_index after i ≡ slice_index before i
torn_at place n before after torn i (inl below) =
    sym (get_or-take place after i 0 below) ∙ ap (λ (l : List ℕ). get_or l i 0) torn.front ∙ get_or-take place before i 0 below
torn_at place n before after torn i (inr above) =
    let at : (place + n) + (i - (place + n)) ≡ i = omega (arith, above) in
    ap (λ (j : ℕ). get_or after j 0) (sym at) ∙ sym (get_or-drop (place + n) after (i - (place + n)) 0)
    ∙ ap (λ (l : List ℕ). get_or l (i - (place + n)) 0) torn.back
    ∙ get_or-drop (place + n) before (i - (place + n)) 0 ∙ ap (λ (j : ℕ). get_or before j 0) at

-- two lists of one length that agree from one place to another
pub same_slice : (a b : List ℕ) (from to : ℕ) → length a ≡ length b → ((i : ℕ) → from ≤ i → i < to → slice_index a i ≡ slice_index b i)
    → slice_range a from to ≡ slice_range b from to
same_slice a b from to long same =
    ext_get_or 0 (slice_range a from to) (slice_range b from to)
    (length-take (to - from) (drop from a) ∙ omega (arith, length-drop from a, length-drop from b, long, length-take (to - from) (drop from b)))
    (λ i low.
    let near : i < to - from = omega (arith, low, length-take (to - from) (drop from a)) in
    get_or-take (to - from) (drop from a) i 0 near ∙ get_or-drop from a i 0
    ∙ same (from + i) (omega arith) (omega (arith, near))
    ∙ sym (get_or-drop from b i 0) ∙ sym (get_or-take (to - from) (drop from b) i 0 near))

pub seen_same : (t size : ℕ) (old new : ℕ → Bool) (a b : List ℕ) → ((o : ℕ) → o < size → slice_index a (spot t old o) ≡ slice_index b (spot t new o))
    → seen t old size a ≡ seen t new size b
unfolding seen
seen_same t size old new a b same =
    ext_get_or 0 (map (λ (o : ℕ). slice_index a (spot t old o)) (range_with_len 0 size)) (map (λ (o : ℕ). slice_index b (spot t new o)) (range_with_len 0 size))
    (length-map-range_with_len (λ (o : ℕ). slice_index a (spot t old o)) 0 size ∙ sym (length-map-range_with_len (λ (o : ℕ). slice_index b (spot t new o)) 0 size))
    (λ i low.
    let near : i < size = omega (arith, low, length-map-range_with_len (λ (o : ℕ). slice_index a (spot t old o)) 0 size) in
    get_or-map-range_with_len (λ (o : ℕ). slice_index a (spot t old o)) 0 size i i 0 near (omega arith)
    ∙ same i near
    ∙ sym (get_or-map-range_with_len (λ (o : ℕ). slice_index b (spot t new o)) 0 size i i 0 near (omega arith)))

module _ (all : List ℕ) (place : ℕ) (piece : List ℕ) (within : place + length piece ≤ length all) where
  front_size : length (take place all) ≡ place
  front_size = simp length-take (omega arith)

  pub parts : patch all place piece ≡ take place all ++ (piece ++ drop (place + length piece) all)
  parts = append_assoc (take place all) piece (drop (place + length piece) all)

  from_place : drop place (patch all place piece) ≡ piece ++ drop (place + length piece) all
  from_place = ap (λ (l : List ℕ). drop place l) parts ∙ drop_at (take place all) (piece ++ drop (place + length piece) all) place front_size

  pub patch-front : take place (patch all place piece) ≡ take place all
  patch-front = ap (λ (l : List ℕ). take place l) parts ∙ take_at (take place all) (piece ++ drop (place + length piece) all) place front_size

  pub patch-back : drop (place + length piece) (patch all place piece) ≡ drop (place + length piece) all
  patch-back =
      sym (drop-drop (length piece) place (patch all place piece))
      ∙ ap (λ (l : List ℕ). drop (length piece) l) from_place
      ∙ drop_at piece (drop (place + length piece) all) (length piece) refl

  length-patch : length (patch all place piece) ≡ length all
  length-patch = omega (arith, length-append (take place all ++ piece) (drop (place + length piece) all), length-append (take place all) piece, front_size, length-drop (place + length piece) all)

  -- the piece stands where it was put
  pub patch_there : (end : ℕ) → end ≡ place + length piece → slice_range (patch all place piece) place end ≡ piece
  patch_there end is =
      let size : end - place ≡ length piece = omega arith in
      ap (λ (l : List ℕ). take (end - place) l) from_place ∙ take_at piece (drop (place + length piece) all) (end - place) (sym size)

  -- and nothing else has changed
  pub patch_torn : Torn place (length piece) all (patch all place piece)
  patch_torn = record { size = length-patch; front = patch-front; back = patch-back }

  -- the bytes of the piece, one by one
  pub patch_at : (i : ℕ) → i < length piece → slice_index (patch all place piece) (place + i) ≡ slice_index piece i
  patch_at i low =
      sym (get_or-drop place (patch all place piece) i 0)
      ∙ ap (λ (l : List ℕ). get_or l i 0) from_place
      ∙ get_or_append_left piece (drop (place + length piece) all) 0 i low
