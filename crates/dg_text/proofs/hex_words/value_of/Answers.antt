use Rattle.std.proofs.Common.{◌≡◌, ◌<◌, ◌≤◌, ◌==◌, ℕ, Bool, true, false, ltb, get_or, slice_index, refl, arith}
use Rattle.std.specs.Prelude.{if◌then◌else◌, not}
use Rattle.std.proofs.lemmas.Bool.{eqb-true}
use Rattle.std.proofs.lemmas.Bool.Decides.{nat_tests}
use Rattle.hex.specs.Hex.{lower_digits}
use Rattle.dg_text.specs.declared.hex_words.TheConstants.{VALUES}
use Rattle.dg_text.proofs.HexWords.{all_below, all_below-at}
use Rattle.dg_text.proofs.hex_words.value_of.Goals as goal

-- what the table has for a character
worth : ℕ → ℕ
worth c = get_or VALUES.now c 0

-- the character is another than each digit
abbrev is_none : ℕ → Bool
is_none c = all_below (λ v. not (slice_index lower_digits v == c)) 16

abbrev is_digit : ℕ → ℕ → Bool
is_digit c v = slice_index lower_digits v == c

abbrev is_right : ℕ → Bool
is_right c = if ltb (worth c) 16 then is_digit c (worth c) else is_none c

all_right : all_below is_right 256 ≡ true
unfolding worth
all_right = refl

right_at : (c : ℕ) → c < 256 → is_right c ≡ true
right_at c small = all_below-at is_right 256 c all_right small

digit_found : (c v : ℕ) (b : Bool) → ltb v 16 ≡ b → (if b then is_digit c v else is_none c) ≡ true → v < 16 → slice_index lower_digits v ≡ c
digit_found c v true is right low = eqb-true (slice_index lower_digits v) c right
digit_found c v false is right low = grind (arith, nat_tests)

other_digit : (c v : ℕ) → (not (slice_index lower_digits v == c)) ≡ true → slice_index lower_digits v ≡ c → ⊥
other_digit c v differs is = grind (arith, nat_tests)

no_digit : (c w : ℕ) (b : Bool) → ltb w 16 ≡ b → (if b then is_digit c w else is_none c) ≡ true → 16 ≤ w → (v : ℕ) → v < 16 → slice_index lower_digits v ≡ c → ⊥
no_digit c w true is right high v small digit = grind (arith, nat_tests)
no_digit c w false is right high v small digit = other_digit c v (all_below-at (λ k. not (slice_index lower_digits k == c)) 16 v right small) digit

pub returns-clause-found : goal.returns-clause-found
unfolding worth
returns-clause-found c = digit_found c.args.digit (worth c.args.digit) (ltb (worth c.args.digit) 16) refl (right_at c.args.digit (omega arith))

pub returns-clause-none : goal.returns-clause-none
unfolding worth
returns-clause-none c = no_digit c.args.digit (worth c.args.digit) (ltb (worth c.args.digit) 16) refl (right_at c.args.digit (omega arith))
