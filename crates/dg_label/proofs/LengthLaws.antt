-- The bits of a label: which members are as long as format 2 says.
use Rattle.std.proofs.Common.{◌≡◌, ◌≢◌, ◌-◌, ◌^◌, ◌||◌, ℕ, Bool, ap, arith, false, inl, inr, length, refl, subst, sym, true}
use Rattle.std.specs.Prelude.{◌==◌, IfSome, None, Some, if◌then◌else◌}
use Rattle.std.proofs.lemmas.Bool.{cases_lt, false≢true, or_right}
use Rattle.std.proofs.lemmas.Nat.Bits.{bit_at_ones}
use Rattle.dg_io.specs.Commits.{is_marked}
use Rattle.dg_io.specs.declared.outside.Rack.{Ghosts}
use Rattle.dg_label.specs.Labels.{IsLabeled, NotesLong}
use Rattle.dg_label.specs.declared.labels.KeptLabel.{KeptLabel}
use Rattle.dg_model.specs.Saves.{member_length}
use Rattle.dg_model.specs.declared.shapes.Shape.{Shape}
use Rattle.dg_store.specs.Stores.{IsSound, rack_of}
use Rattle.dg_store.specs.declared.store.Store.{Store}

pub notes_long : (q bits : ℕ) (kept : KeptLabel) → is_marked bits q ≡ true → ((p : ℕ) → p ≢ q → is_marked bits p ≡ is_marked kept.long p)
    → NotesLong q (Some kept) (Some (record kept { long = bits }))
notes_long q bits kept here others = record {
  here = or_right (kept.format == 2) (is_marked bits q) here;
  others = λ p apart. ap (λ (b : Bool). (kept.format == 2) || b) (others p apart);
  numbers = refl;
}

module _ {R : Type 0} (rack : Ghosts R) where
  -- beneath a label of format 1, too, where all bits are set
  pub first_labeled : (line : Shape) (store : Store R) → IsSound rack store → IsLabeled rack line store None
      → IsLabeled rack line store (Some (record { format = 1; sequence = 1; sealed = false; body = 0; long = 2 ^ 32 - 1 }))
  first_labeled line store sound labeled = record {
    fits = labeled.fits;
    numbers = record { formats = inl refl; first = omega arith; last = omega arith; body = omega arith };
    sealed = λ sealed. absurd (false≢true sealed);
    lengths = λ q stands. elim (cases_lt q 32) [
      | inl low ↦
          let set : is_marked (2 ^ 32 - 1) q ≡ true = ap (λ (n : ℕ). n == 1) (bit_at_ones 32 q low) in
          subst (λ (long : Bool). IfSome (rack.bytes (rack_of store) q) (λ all. length all ≡ member_length (if long then 2 else 1) line)) (sym set)
          (labeled.lengths q stands)
      | inr high ↦ let few = sound.table.shape.most_boundaries in absurd (stands (sound.others q (omega (arith, high, few))))
    ];
    filling = labeled.filling;
  }
