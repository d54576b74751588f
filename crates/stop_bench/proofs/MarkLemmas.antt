-- Marks of the members 0 and 1.
use Rattle.std.proofs.Common.{◌≡◌, ◌<◌, ◌==◌, ◌^◌, ◌⊎◌, ℕ, zero, suc, Bool, true, false, refl, sym, ◌∙◌, ap, arith, inl, inr}
use Rattle.std.proofs.lemmas.Bool.{false≢true}
use Rattle.std.proofs.lemmas.Nat.Bits.{bit_at_above}
use Rattle.dg_io.specs.Commits.{is_marked}

pub marks_two : (n : ℕ) (first second : Bool) → n < 4 → (is_marked n 0 ≡ true → first ≡ true) → (is_marked n 1 ≡ true → second ≡ true)
    → (q : ℕ) → is_marked n q ≡ true → ((q ≡ 0) × (first ≡ true)) ⊎ ((q ≡ 1) × (second ≡ true))
marks_two n first second low one two zero is = inl (refl, one is)
marks_two n first second low one two (suc zero) is = inr (refl, two is)
marks_two n first second low one two (suc (suc k)) is =
    absurd (false≢true (sym (ap (λ (b : ℕ). b == 1) (bit_at_above n 2 (suc (suc k)) low (omega arith))) ∙ is))
