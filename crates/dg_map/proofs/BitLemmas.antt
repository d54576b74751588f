-- The bits of a list of words, the first of them, and the summaries of a set.
use Rattle.std.proofs.Common.{◌≡◌, ◌≢◌, ◌<◌, ◌≤◌, ◌+◌, ◌*◌, ◌/◌, ◌%◌, ◌^◌, ◌==◌, ℕ, suc, zero, true, false, List, length, set, refl, sym, ◌∙◌, ap, subst, ⊎_elim, arith}
use Rattle.std.specs.Int.{bit_at}
use Rattle.std.proofs.lemmas.Bool.{cases_eq, cases_lt}
use Rattle.std.proofs.lemmas.Bool.Decides.{nat_tests}
use Rattle.std.proofs.lemmas.List.{get_or-set_same, get_or-set_other, get_or_past, length-set}
use Rattle.std.proofs.lemmas.Nat.Bits.{bit_at-zero}
use Rattle.dg_model.proofs.RowLaws.{same_from_test}
use Rattle.dg_map.specs.Bits.{IsBits, IsFirstBit, IsFirstWord, IsLeast, Sets, SetsBit, SumsUp, bit_in, has, word_at}
use Rattle.dg_map.specs.declared.bits.Bits.{Bits}

pub bit_is : (words : List ℕ) (k : ℕ) → bit_in words k ≡ bit_at (word_at words (k / 64)) (k % 64)
unfolding bit_in
bit_is words k = refl

some_word : (n i : ℕ) → bit_at n i ≡ 1 → 0 < n
some_word zero i h = absurd (omega (arith, sym (bit_at-zero i) ∙ h))
some_word (suc n) i h = omega arith

pub some_from_test : (n : ℕ) → (n == 0) ≡ false → 0 < n
some_from_test n e = grind (arith, nat_tests)

-- a word that isn't 0 is one of the list
pub word_within : (words : List ℕ) (w : ℕ) → 0 < word_at words w → w < length words
word_within words w some = ⊎_elim (λ lt. lt) (λ past. absurd (omega (arith, subst (λ n. 0 < n) (get_or_past words w 0 past) some))) (cases_lt w (length words))

-- a bit that is 1 is one of a word that isn't 0
pub word_some : (words : List ℕ) (k : ℕ) → bit_in words k ≡ 1 → 0 < word_at words (k / 64)
word_some words k h = some_word (word_at words (k / 64)) (k % 64) (sym (bit_is words k) ∙ h)

-- where all words are 0, so are all bits
pub none_in : (words : List ℕ) → ((w : ℕ) → word_at words w ≡ 0) → (k : ℕ) → bit_in words k ≡ 0
none_in words none k = bit_is words k ∙ ap (λ n. bit_at n (k % 64)) (none (k / 64)) ∙ bit_at-zero (k % 64)

-- a word is set to one that differs in one bit
pub sets_bit : (words : List ℕ) (k b word : ℕ) → k / 64 < length words → bit_at word (k % 64) ≡ b → ((i : ℕ) → i < 64 → i ≢ k % 64 → bit_at word i ≡ bit_at (word_at words (k / 64)) i) → SetsBit words (set words (k / 64) word) k b
sets_bit words k b word lt here others = record {
  same_length = length-set words (k / 64) word;
  here = bit_is new k ∙ ap (λ n. bit_at n (k % 64)) at ∙ here;
  others = λ j ne.
      ⊎_elim
      (λ e.
      bit_is new j
      ∙ ap (λ n. bit_at n (j % 64)) (ap (word_at new) e ∙ at)
      ∙ others (j % 64) (omega arith) (λ f. ne (omega arith))
      ∙ sym (bit_is words j ∙ ap (λ w. bit_at (word_at words w) (j % 64)) e))
      (λ apart. bit_is new j ∙ ap (λ n. bit_at n (j % 64)) (get_or-set_other words (k / 64) (j / 64) word 0 apart) ∙ sym (bit_is words j))
      (cases_eq (j / 64) (k / 64));
  words = λ w ne. get_or-set_other words (k / 64) w word 0 ne;
}
  where
    new : List ℕ
    new = set words (k / 64) word

    at : word_at (set words (k / 64) word) (k / 64) ≡ word
    at = get_or-set_same words (k / 64) word 0 lt

-- the lowest bit of the first word that isn't 0 is the first of all
pub first_of_word : (words : List ℕ) (w place : ℕ) → IsFirstWord words w → place < 64 → bit_at (word_at words w) place ≡ 1 → ((i : ℕ) → i < place → bit_at (word_at words w) i ≡ 0) → IsFirstBit words (w * 64 + place)
first_of_word words w place first short one lower = record {
  here = bit_is words (w * 64 + place) ∙ ap (λ q. bit_at (word_at words q) ((w * 64 + place) % 64)) quotient ∙ ap (λ i. bit_at (word_at words w) i) rest ∙ one;
  least = λ j h.
      let above : w ≤ j / 64 = first.least (j / 64) (word_some words j h) in
      ⊎_elim
      (λ e.
      ⊎_elim
      (λ low. absurd (omega (arith, sym (bit_is words j ∙ ap (λ q. bit_at (word_at words q) (j % 64)) e ∙ lower (j % 64) low) ∙ h)))
      (λ high. omega arith)
      (cases_lt (j % 64) place))
      (λ ne. below j above (λ f. ne (sym f)))
      (cases_eq (j / 64) w);
}
  where
    quotient : (w * 64 + place) / 64 ≡ w
    quotient = omega arith

    rest : (w * 64 + place) % 64 ≡ place
    rest = omega arith

    below : (j : ℕ) → w ≤ j / 64 → w ≢ j / 64 → w * 64 + place ≤ j
    below j above ne =
        ⊎_elim
        (λ lt. omega arith)
        (λ le. absurd (ne (omega arith)))
        (cases_lt w (j / 64))

module _ (low new_low high new_high : List ℕ) (k : ℕ) (sums : SumsUp low high) where
  -- a bit of the words is set, and so is that of its word
  pub sums_set : SetsBit low new_low k 1 → SetsBit high new_high (k / 64) 1 → SumsUp new_low new_high
  sums_set lows highs = record {
    up = λ w some.
        ⊎_elim
        (λ e. ap (bit_in new_high) e ∙ highs.here)
        (λ ne. highs.others w ne ∙ sums.up w (subst (λ n. 0 < n) (lows.words w ne) some))
        (cases_eq w (k / 64));
    down = λ w one.
        ⊎_elim
        (λ e. subst (λ v. 0 < word_at new_low v) (sym e) (word_some new_low k lows.here))
        (λ ne. subst (λ n. 0 < n) (sym (lows.words w ne)) (sums.down w (sym (highs.others w ne) ∙ one)))
        (cases_eq w (k / 64));
  }

  -- a bit of the words is cleared, and its word isn't 0 yet
  pub sums_stay : bit_in low k ≡ 1 → SetsBit low new_low k 0 → 0 < word_at new_low (k / 64) → SumsUp new_low high
  sums_stay there lows left = record {
    up = λ w some.
        ⊎_elim
        (λ e. ap (bit_in high) e ∙ sums.up (k / 64) (word_some low k there))
        (λ ne. sums.up w (subst (λ n. 0 < n) (lows.words w ne) some))
        (cases_eq w (k / 64));
    down = λ w one.
        ⊎_elim
        (λ e. subst (λ v. 0 < word_at new_low v) (sym e) left)
        (λ ne. subst (λ n. 0 < n) (sym (lows.words w ne)) (sums.down w one))
        (cases_eq w (k / 64));
  }

  -- the last bit of a word is cleared, and so is that of the word
  pub sums_clear : SetsBit low new_low k 0 → word_at new_low (k / 64) ≡ 0 → SetsBit high new_high (k / 64) 0 → SumsUp new_low new_high
  sums_clear lows none highs = record {
    up = λ w some.
        ⊎_elim
        (λ e. absurd (omega (arith, none, subst (λ v. 0 < word_at new_low v) e some)))
        (λ ne. highs.others w ne ∙ sums.up w (subst (λ n. 0 < n) (lows.words w ne) some))
        (cases_eq w (k / 64));
    down = λ w one.
        ⊎_elim
        (λ e. absurd (omega (arith, sym highs.here ∙ ap (bit_in new_high) (sym e) ∙ one)))
        (λ ne. subst (λ n. 0 < n) (sym (lows.words w ne)) (sums.down w (sym (highs.others w ne) ∙ one)))
        (cases_eq w (k / 64));
  }

-- where a summary is 0, so are the words
pub zero_below : (low high : List ℕ) → SumsUp low high → ((w : ℕ) → word_at high w ≡ 0) → (w : ℕ) → word_at low w ≡ 0
zero_below low high sums none w =
    ⊎_elim
    (λ some. absurd (omega (arith, sym (none_in high none w) ∙ sums.up w some)))
    (λ le. omega arith)
    (cases_lt 0 (word_at low w))

-- words that are all 0, and so are those of their summary
pub sums_zero : (low high : List ℕ) → ((w : ℕ) → word_at low w ≡ 0) → ((w : ℕ) → word_at high w ≡ 0) → SumsUp low high
sums_zero low high none none_high = record {
  up = λ w some. absurd (omega (arith, none w));
  down = λ w one. absurd (omega (arith, sym (none_in high none_high w) ∙ one));
}

pub first_word_of : (low high : List ℕ) (w : ℕ) → SumsUp low high → IsFirstBit high w → IsFirstWord low w
first_word_of low high w sums first = record { some = sums.down w first.here; least = λ v some. first.least v (sums.up v some) }

-- ---- the set

pub none_below : (bits : Bits) → IsBits bits → ((w : ℕ) → word_at bits.tops.items w ≡ 0) → (k : ℕ) → has bits k ≡ false
none_below bits ok none k =
    ap (λ n. n == 1)
    (none_in bits.words.items (zero_below bits.words.items bits.groups.items ok.grouped (zero_below bits.groups.items bits.tops.items ok.topped none)) k)

pub least_of : (bits : Bits) (k : ℕ) → IsFirstBit bits.words.items k → IsLeast bits k
least_of bits k first = record { here = ap (λ n. n == 1) first.here; least = λ j h. first.least j (same_from_test (bit_in bits.words.items j) 1 h) }

pub bits_none : (bits : Bits) → bits.bound ≤ 2 ^ 20 + 1 → length bits.words.items ≡ bits.bound / 64 + 1 → length bits.groups.items ≡ (bits.bound / 64 + 1) / 64 + 1 → length bits.tops.items ≡ ((bits.bound / 64 + 1) / 64 + 1) / 64 + 1 → ((w : ℕ) → word_at bits.words.items w ≡ 0) → ((w : ℕ) → word_at bits.groups.items w ≡ 0) → ((w : ℕ) → word_at bits.tops.items w ≡ 0) → IsBits bits
bits_none bits small words groups tops no_words no_groups no_tops = record {
  few_words = omega arith;
  few_groups = omega arith;
  few_tops = omega arith;
  words = omega arith;
  groups = omega arith;
  tops = omega arith;
  grouped = sums_zero bits.words.items bits.groups.items no_words no_groups;
  topped = sums_zero bits.groups.items bits.tops.items no_groups no_tops;
  below = λ k h. absurd (omega (arith, sym (none_in bits.words.items no_words k) ∙ same_from_test (bit_in bits.words.items k) 1 h));
}

module _ (old new : Bits) (k : ℕ) (ok : IsBits old) (bound : new.bound ≡ old.bound) where
  pub inserted : k < old.bound → SetsBit old.words.items new.words.items k 1 → SetsBit old.groups.items new.groups.items (k / 64) 1 → SetsBit old.tops.items new.tops.items (k / 64 / 64) 1 → Sets old new k true
  inserted within words groups tops = record {
    sound = record {
      few_words = omega (arith, ok.few_words, words.same_length);
      few_groups = omega (arith, ok.few_groups, groups.same_length);
      few_tops = omega (arith, ok.few_tops, tops.same_length);
      words = omega (arith, ok.words, words.same_length);
      groups = omega (arith, ok.groups, words.same_length, groups.same_length);
      tops = omega (arith, ok.tops, groups.same_length, tops.same_length);
      grouped = sums_set old.words.items new.words.items old.groups.items new.groups.items k ok.grouped words groups;
      topped = sums_set old.groups.items new.groups.items old.tops.items new.tops.items (k / 64) ok.topped groups tops;
      below = λ j h.
          ⊎_elim
          (λ e. omega arith)
          (λ ne. omega (arith, ok.below j (ap (λ n. n == 1) (sym (words.others j ne)) ∙ h)))
          (cases_eq j k);
    };
    bound = bound;
    here = ap (λ n. n == 1) words.here;
    others = λ j ne. ap (λ n. n == 1) (words.others j ne);
  }

  pub removed : SetsBit old.words.items new.words.items k 0 → length new.groups.items ≡ length old.groups.items → length new.tops.items ≡ length old.tops.items → SumsUp new.words.items new.groups.items → SumsUp new.groups.items new.tops.items → Sets old new k false
  removed words groups tops grouped topped = record {
    sound = record {
      few_words = omega (arith, ok.few_words, words.same_length);
      few_groups = omega (arith, ok.few_groups);
      few_tops = omega (arith, ok.few_tops);
      words = omega (arith, ok.words, words.same_length);
      groups = omega (arith, ok.groups, words.same_length);
      tops = omega (arith, ok.tops);
      grouped = grouped;
      topped = topped;
      below = λ j h.
          ⊎_elim
          (λ e. absurd (omega (arith, sym words.here ∙ ap (bit_in new.words.items) (sym e) ∙ same_from_test (bit_in new.words.items j) 1 h)))
          (λ ne. omega (arith, ok.below j (ap (λ n. n == 1) (sym (words.others j ne)) ∙ h)))
          (cases_eq j k);
    };
    bound = bound;
    here = ap (λ n. n == 1) words.here;
    others = λ j ne. ap (λ n. n == 1) (words.others j ne);
  }
