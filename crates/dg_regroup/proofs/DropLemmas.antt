-- Boundaries that are taken out of a list, one after another.
use Rattle.std.proofs.Common.{◌≡◌, ◌∙◌, ◌+◌, ◌<◌, ◌≤◌, ◌==◌, ℕ, true, false, List, [], ◌∷◌, ◌++◌, length, slice_index, slice_set, take, sym, ap, arith}
use Rattle.std.specs.Int.{bit_at}
use Rattle.std.proofs.lemmas.Bool.Decides.{nat_tests}
use Rattle.std.proofs.lemmas.List.{get_or-set_other, take_more_set, length-set}
use Rattle.std.proofs.lemmas.Nat.Bits.{bit_at-lt}
use Rattle.dg_io.specs.Reduced.{places_left}
use Rattle.dg_regroup.proofs.LeftLemmas.{dropped_more, kept_more}
use Rattle.dg_regroup.specs.LiveRacks.{live_left}

-- of the first x boundaries those that are left stand in front, and the others behind are as they were
pub record IsDropped (lost x kept : ℕ) (old now : List ℕ) : Type 0 where
  pub few : kept ≤ x
  pub size : length now ≡ length old
  pub front : take kept now ≡ live_left (places_left lost x) old
  pub behind : (k : ℕ) → x ≤ k → slice_index now k ≡ slice_index old k

is_left : (lost x : ℕ) → (bit_at lost x == 1) ≡ false → (bit_at lost x == 0) ≡ true
is_left lost x is = let low = bit_at-lt lost x in grind (arith, nat_tests, low)

is_gone : (lost x : ℕ) → (bit_at lost x == 1) ≡ true → (bit_at lost x == 0) ≡ false
is_gone lost x is = grind (arith, nat_tests)

pub keep_step : (lost x kept : ℕ) (old now : List ℕ) → IsDropped lost x kept old now → x < length now → (bit_at lost x == 1) ≡ false
    → IsDropped lost (x + 1) (kept + 1) old (slice_set now kept (slice_index now x))
keep_step lost x kept old now h within left = record {
  few = let few = h.few in omega arith;
  size = length-set now kept (slice_index now x) ∙ h.size;
  front =
      take_more_set now kept (slice_index now x) (let few = h.few in omega arith)
      ∙ ap (λ (xs : List ℕ). xs ++ slice_index now x ∷ []) h.front
      ∙ ap (λ (s : ℕ). live_left (places_left lost x) old ++ s ∷ []) (h.behind x (omega arith))
      ∙ sym (kept_more lost x old (is_left lost x left));
  behind = λ k high. get_or-set_other now kept k (slice_index now x) 0 (λ e. (let few = h.few in omega arith)) ∙ h.behind k (omega arith);
}

pub skip_step : (lost x kept : ℕ) (old now : List ℕ) → IsDropped lost x kept old now → (bit_at lost x == 1) ≡ true → IsDropped lost (x + 1) kept old now
skip_step lost x kept old now h gone = record {
  few = let few = h.few in omega arith;
  size = h.size;
  front = h.front ∙ sym (dropped_more lost x old (is_gone lost x gone));
  behind = λ k high. h.behind k (omega arith);
}
