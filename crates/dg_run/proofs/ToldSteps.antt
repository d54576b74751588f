-- How steps on told bytes go on from one another.
use Rattle.std.proofs.Common.{◌≡◌, ℕ, ◌+◌, ◌≤◌, List, [], ◌∷◌, ◌++◌, length, take, drop, sym, ◌∙◌, ap, arith, append_assoc, length-append}
use Rattle.std.specs.Prelude.{Option, Some, None, slice_range}
use Rattle.std.specs.Option.{option_map}
use Rattle.dg_io.specs.Told.{Told, AreAny, IsSame, Gave}
use Rattle.dg_run.specs.Endings.{GaveLines}
use Rattle.dg_run.specs.Inputs.{IsFull}
use Rattle.dg_run.specs.Bytes.{HasNoLineFeed}
use Rattle.dg_run.proofs.LineFeeds.{none_in_front}
use Rattle.dg_run.proofs.Ranges.{slice_range-grown, take_range, drop_range}

pub Told-refl : (step : List ℕ → List ℕ → Type 0) → ((b : List ℕ) → step b b) → (o : Option (List ℕ)) → Told step o o
Told-refl step h None = tt
Told-refl step h (Some b) = h b

pub Told-then : (f s t : List ℕ → List ℕ → Type 0) → ((a b c : List ℕ) → f a b → s b c → t a c) → (x y z : Option (List ℕ)) → Told f x y → Told s y z → Told t x z
Told-then f s t h x y None p q = tt
Told-then f s t h (Some a) (Some b) (Some c) p q = h a b c p q
Told-then f s t h None (Some b) (Some c) p q = absurd p
Told-then f s t h x None (Some c) p q = absurd q

-- a buffer took what its source gave
pub Told-filled : (old new : List ℕ) (i j n : ℕ) (left rest : Option (List ℕ)) → i ≤ j → j ≤ j + n → take j new ≡ take j old → Told (Gave (slice_range new j (j + n))) left rest
    → Told IsSame (option_map (λ more. slice_range old i j ++ more) left) (option_map (λ more. slice_range new i (j + n) ++ more) rest)
Told-filled old new i j n left None ij jk same told = tt
Told-filled old new i j n None (Some b) ij jk same told = absurd told
Told-filled old new i j n (Some a) (Some b) ij jk same told =
    ap (λ (l : List ℕ). l ++ b) (slice_range-grown old new i j (j + n) ij jk same)
    ∙ append_assoc (slice_range old i j) (slice_range new j (j + n)) b
    ∙ ap (λ (l : List ℕ). slice_range old i j ++ l) (sym told)

-- a line and its line feed were taken from the buffer
pub Told-line : (bytes : List ℕ) (at end n : ℕ) (left : Option (List ℕ)) → at + n + 1 ≤ end
    → slice_range bytes at end ≡ take n (slice_range bytes at end) ++ 10 ∷ drop (n + 1) (slice_range bytes at end)
    → Told (λ before after. before ≡ slice_range bytes at (at + n) ++ 10 ∷ after) (option_map (λ more. slice_range bytes at end ++ more) left) (option_map (λ more. slice_range bytes (at + n + 1) end ++ more) left)
Told-line bytes at end n None h is = tt
Told-line bytes at end n (Some more) h is =
    let line : take n (slice_range bytes at end) ≡ slice_range bytes at (at + n) = take_range bytes at end n (omega arith) in
    let rest : drop (n + 1) (slice_range bytes at end) ≡ slice_range bytes (at + n + 1) end = drop_range bytes at end (n + 1) (at + n + 1) (omega arith) (omega arith) in
    ap (λ (l : List ℕ). l ++ more) is
    ∙ append_assoc (take n (slice_range bytes at end)) (10 ∷ drop (n + 1) (slice_range bytes at end)) more
    ∙ ap (λ (l : List ℕ). l ++ 10 ∷ (drop (n + 1) (slice_range bytes at end) ++ more)) line
    ∙ ap (λ (l : List ℕ). slice_range bytes at (at + n) ++ 10 ∷ (l ++ more)) rest

-- no line feed came among the first bytes
pub Told-full : (unread : List ℕ) (limit : ℕ) (left : Option (List ℕ)) → limit ≤ length unread → HasNoLineFeed (take limit unread)
    → Told (λ before after. IsFull limit before) (option_map (λ more. unread ++ more) left) (option_map (λ more. unread ++ more) left)
Told-full unread limit None within none = tt
Told-full unread limit (Some more) within none = record { there = omega (arith, length-append unread more); none = none_in_front unread more limit within none }

-- bytes without a line feed wait, and the source has given no more
pub gave_rest : (unread : List ℕ) (x y : Option (List ℕ)) → HasNoLineFeed unread → Told IsSame x (option_map (λ more. unread ++ more) y) → Told (GaveLines []) x y
gave_rest unread x None none told = tt
gave_rest unread None (Some b) none told = absurd told
gave_rest unread (Some a) (Some b) none told = record { part = unread; split = sym told; none = none }

-- what is ahead is told just where the source tells what it has left
pub any_left : (step : List ℕ → List ℕ → Type 0) (unread : List ℕ) (x y : Option (List ℕ)) → Told step x (option_map (λ more. unread ++ more) y) → Told AreAny x y
any_left step unread x None told = tt
any_left step unread None (Some b) told = absurd told
any_left step unread (Some a) (Some b) told = tt

pub Told-each : (f s : List ℕ → List ℕ → Type 0) → ((a b : List ℕ) → f a b → s a b) → (x y : Option (List ℕ)) → Told f x y → Told s x y
Told-each f s h x None told = tt
Told-each f s h None (Some b) told = absurd told
Told-each f s h (Some a) (Some b) told = h a b told
