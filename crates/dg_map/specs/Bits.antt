-- A set of numbers as bits of words, with two levels of summary words. The rules are this project's own.
use Rattle.std.specs.Prelude.{◌≡◌, ◌≢◌, ◌+◌, ◌*◌, ◌/◌, ◌%◌, ◌^◌, ◌<◌, ◌≤◌, ◌==◌, ℕ, zero, suc, Bool, true, cond, List, length, slice_index_or}
use Rattle.std.specs.Int.{bit_at}
use Rattle.dg_map.specs.declared.bits.Bits.{Bits}

-- a word of the list, and 0 past its end
abbrev pub word_at : List ℕ → ℕ → ℕ
word_at words w = slice_index_or words w 0

-- bit k % 64 of word k / 64
unfoldable pub bit_in : List ℕ → ℕ → ℕ
bit_in words k = bit_at (word_at words (k / 64)) (k % 64)

-- whether the number is in the set
abbrev pub has : Bits → ℕ → Bool
has bits k = bit_in bits.words.items k == 1

-- a bit of the summary is 1 exactly where the word isn't 0
pub record SumsUp (words summary : List ℕ) : Type 0 where
  pub up : (w : ℕ) → 0 < word_at words w → bit_in summary w ≡ 1
  pub down : (w : ℕ) → bit_in summary w ≡ 1 → 0 < word_at words w

-- what the words of a set keep: there is one for each number and each word, the numbers are below the bound, and both
-- summaries are true
pub record IsBits (bits : Bits) : Type 0 where
  pub few_words : length bits.words.items ≤ 2 ^ 20
  pub few_groups : length bits.groups.items ≤ 2 ^ 20
  pub few_tops : length bits.tops.items ≤ 2 ^ 20
  pub words : bits.bound ≤ 64 * length bits.words.items
  pub groups : length bits.words.items ≤ 64 * length bits.groups.items
  pub tops : length bits.groups.items ≤ 64 * length bits.tops.items
  pub grouped : SumsUp bits.words.items bits.groups.items
  pub topped : SumsUp bits.groups.items bits.tops.items
  pub below : (k : ℕ) → has bits k ≡ true → k < bits.bound

-- the number is in the set or not, as the test says, and all others are as before
pub record Sets (old new : Bits) (number : ℕ) (test : Bool) : Type 0 where
  pub sound : IsBits new
  pub bound : new.bound ≡ old.bound
  pub here : has new number ≡ test
  pub others : (k : ℕ) → k ≢ number → has new k ≡ has old k

-- one bit of the words was set to this, and all other bits are as before, as are all other words
pub record SetsBit (old new : List ℕ) (number bit : ℕ) : Type 0 where
  pub same_length : length new ≡ length old
  pub here : bit_in new number ≡ bit
  pub others : (k : ℕ) → k ≢ number → bit_in new k ≡ bit_in old k
  pub words : (w : ℕ) → w ≢ number / 64 → word_at new w ≡ word_at old w

-- the word isn't 0, and each lower one is
pub record IsFirstWord (words : List ℕ) (w : ℕ) : Type 0 where
  pub some : 0 < word_at words w
  pub least : (v : ℕ) → 0 < word_at words v → w ≤ v

-- the bit is 1, and each lower one isn't
pub record IsFirstBit (words : List ℕ) (k : ℕ) : Type 0 where
  pub here : bit_in words k ≡ 1
  pub least : (j : ℕ) → bit_in words j ≡ 1 → k ≤ j

-- the number is in the set, and no lower one is
pub record IsLeast (bits : Bits) (k : ℕ) : Type 0 where
  pub here : has bits k ≡ true
  pub least : (j : ℕ) → has bits j ≡ true → k ≤ j

-- how many numbers below n pass the test
unfoldable pub count_upto : ℕ → (ℕ → Bool) → ℕ
count_upto zero test = 0
count_upto (suc n) test = count_upto n test + cond (test n) 1 0
