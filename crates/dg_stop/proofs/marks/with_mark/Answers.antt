use Rattle.std.proofs.Common.{◌≡◌, ℕ, Bool, true, false, refl, ap, w32, ◌∙◌, sym}
use Rattle.std.specs.Prelude.{◌==◌, ◌||◌}
use Rattle.std.proofs.lemmas.Nat.Bits.{bit_at_set_other, bit_at_set_same}
use Rattle.dg_io.specs.Commits.{is_marked}
use Rattle.dg_stop.proofs.marks.with_mark.Goals as goal

or_true : (b : Bool) → (b || true) ≡ true
or_true true = refl
or_true false = refl

or_false : (b : Bool) → b ≡ (b || false)
or_false true = refl
or_false false = refl

pub returns-then-mark : goal.returns-then-mark
returns-then-mark c = record {
  here = ap (λ (n : ℕ). n == 1) (bit_at_set_same w32 _ _ c.requires)
      ∙ sym (ap (λ (b : Bool). is_marked c.args.marks c.args.member || b) c.if-mark.true ∙ or_true (is_marked c.args.marks c.args.member));
  others = λ q apart. ap (λ (n : ℕ). n == 1) (bit_at_set_other w32 _ _ c.requires q apart);
}
