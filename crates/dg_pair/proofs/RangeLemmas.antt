-- What a write at a place does to the ranges of a list.
use Rattle.std.proofs.Common.{◌≡◌, ℕ, ◌+◌, ◌-◌, ◌≤◌, List, ◌++◌, length, take, drop, refl, sym, ◌∙◌, ap, arith, append_assoc, length-take, length-append, length-drop}
use Rattle.std.specs.Prelude.{slice_range}
use Rattle.std.proofs.lemmas.List.{take_at, drop_at, drop-take, drop-drop}
use Rattle.std.proofs.lemmas.Grind.{common_steps}
use Rattle.dg_io.specs.Told.{patch, Torn}

take_take : (m n : ℕ) (xs : List ℕ) → m ≤ n → take m (take n xs) ≡ take m xs
take_take m n xs h = grind (arith, common_steps)

module _ (all : List ℕ) (place : ℕ) (piece : List ℕ) (within : place + length piece ≤ length all) where
  front_size : length (take place all) ≡ place
  front_size = simp length-take (omega arith)

  parts : patch all place piece ≡ take place all ++ (piece ++ drop (place + length piece) all)
  parts = append_assoc (take place all) piece (drop (place + length piece) all)

  from_place : drop place (patch all place piece) ≡ piece ++ drop (place + length piece) all
  from_place = ap (λ (l : List ℕ). drop place l) parts ∙ drop_at (take place all) (piece ++ drop (place + length piece) all) place front_size

  patch-front : take place (patch all place piece) ≡ take place all
  patch-front = ap (λ (l : List ℕ). take place l) parts ∙ take_at (take place all) (piece ++ drop (place + length piece) all) place front_size

  patch-back : drop (place + length piece) (patch all place piece) ≡ drop (place + length piece) all
  patch-back =
      sym (drop-drop (length piece) place (patch all place piece))
      ∙ ap (λ (l : List ℕ). drop (length piece) l) from_place
      ∙ drop_at piece (drop (place + length piece) all) (length piece) refl

  length-patch : length (patch all place piece) ≡ length all
  length-patch = omega (arith, length-append (take place all ++ piece) (drop (place + length piece) all), length-append (take place all) piece, front_size, length-drop (place + length piece) all)

  -- the piece stands where it was put
  pub patch_there : (end : ℕ) → end ≡ place + length piece → slice_range (patch all place piece) place end ≡ piece
  patch_there end is =
      let size : end - place ≡ length piece = omega arith in
      ap (λ (l : List ℕ). take (end - place) l) from_place ∙ take_at piece (drop (place + length piece) all) (end - place) (sym size)

  -- and nothing else has changed
  pub patch_torn : Torn place (length piece) all (patch all place piece)
  patch_torn = record { size = length-patch; front = patch-front; back = patch-back }

range_by_take : (xs : List ℕ) (i j : ℕ) → i ≤ j → slice_range xs i j ≡ drop i (take j xs)
range_by_take xs i j h = let e : i + (j - i) ≡ j = omega arith in sym (ap (λ (k : ℕ). drop i (take k xs)) (sym e) ∙ drop-take i (j - i) xs)

-- a range before what was written
pub torn_before : (place n : ℕ) (before after : List ℕ) → Torn place n before after → (i j : ℕ) → i ≤ j → j ≤ place → slice_range after i j ≡ slice_range before i j
torn_before place n before after torn i j ij h =
    range_by_take after i j ij
    ∙ ap (λ (l : List ℕ). drop i l) (sym (take_take j place after h) ∙ ap (λ (l : List ℕ). take j l) torn.front ∙ take_take j place before h)
    ∙ sym (range_by_take before i j ij)

-- a range behind it
pub torn_behind : (place n : ℕ) (before after : List ℕ) → Torn place n before after → (i j : ℕ) → place + n ≤ i → slice_range after i j ≡ slice_range before i j
torn_behind place n before after torn i j h =
    let e : (place + n) + (i - (place + n)) ≡ i = omega arith in
    let from : (xs : List ℕ) → drop i xs ≡ drop (i - (place + n)) (drop (place + n) xs) = λ (xs : List ℕ). ap (λ (k : ℕ). drop k xs) (sym e) ∙ sym (drop-drop (i - (place + n)) (place + n) xs) in
    ap (λ (l : List ℕ). take (j - i) l) (from after ∙ ap (λ (l : List ℕ). drop (i - (place + n)) l) torn.back ∙ sym (from before))

-- what changed a range alone changed no more than a wider one
pub torn_wider : (place n wide m : ℕ) (before after : List ℕ) → wide ≤ place → place + n ≤ wide + m → Torn place n before after → Torn wide m before after
torn_wider place n wide m before after front back torn =
    let e : (place + n) + (wide + m - (place + n)) ≡ wide + m = omega arith in
    let from : (xs : List ℕ) → drop (wide + m) xs ≡ drop (wide + m - (place + n)) (drop (place + n) xs) = λ (xs : List ℕ). ap (λ (k : ℕ). drop k xs) (sym e) ∙ sym (drop-drop (wide + m - (place + n)) (place + n) xs) in
    record {
      size = torn.size;
      front = sym (take_take wide place after front) ∙ ap (λ (l : List ℕ). take wide l) torn.front ∙ take_take wide place before front;
      back = from after ∙ ap (λ (l : List ℕ). drop (wide + m - (place + n)) l) torn.back ∙ sym (from before);
    }

-- a range of the bytes that stood there before more were put behind them
pub front_range : (before after : List ℕ) (i j : ℕ) → take (length before) after ≡ before → i ≤ j → j ≤ length before → slice_range after i j ≡ slice_range before i j
front_range before after i j front ij within =
    range_by_take after i j ij
    ∙ ap (λ (l : List ℕ). drop i l) (sym (take_take j (length before) after within) ∙ ap (λ (l : List ℕ). take j l) front)
    ∙ sym (range_by_take before i j ij)
