-- Fetches one after the other keep what each of them keeps.
use Rattle.std.specs.Prelude.{ℕ, List, Bool, refl}
use Rattle.std.proofs.Common.{◌∙◌}
use Rattle.dg_io.specs.Views.{KeepsView}

-- no fetch at all
pub keeps_same : {S : Type 0} {stands_for : S → List (List ℕ) → Type 0} {tells : S → Type 0} {is_gone : S → ℕ → Bool} {count size : S → ℕ} {is_sound : S → Type 0} {goes_on : S → S → Type 0} (s : S)
    → is_sound s → goes_on s s → KeepsView stands_for tells is_gone count size is_sound goes_on s s
keeps_same s sound goes = record {
  stands = λ v h. h;
  told = λ h. h;
  stays = λ b h. h;
  blocks = refl;
  bytes = refl;
  sound = sound;
  goes = goes;
}

-- fetches, and then others
pub keeps_both : {S : Type 0} {stands_for : S → List (List ℕ) → Type 0} {tells : S → Type 0} {is_gone : S → ℕ → Bool} {count size : S → ℕ} {is_sound : S → Type 0} {goes_on : S → S → Type 0}
    → ((a b c : S) → goes_on a b → goes_on b c → goes_on a c) → (a b c : S)
    → KeepsView stands_for tells is_gone count size is_sound goes_on a b → KeepsView stands_for tells is_gone count size is_sound goes_on b c
    → KeepsView stands_for tells is_gone count size is_sound goes_on a c
keeps_both further a b c one two = record {
  stands = λ v h. two.stands v (one.stands v h);
  told = λ h. one.told (two.told h);
  stays = λ block h. two.stays block (one.stays block h);
  blocks = two.blocks ∙ one.blocks;
  bytes = two.bytes ∙ one.bytes;
  sound = two.sound;
  goes = further a b c one.goes two.goes;
}
