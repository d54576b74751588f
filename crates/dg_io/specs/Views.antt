-- What fetches keep of a view, and what they may take from it.
use Rattle.std.specs.Prelude.{◌≡◌, ℕ, List, Bool, true}

-- What any number of fetches keep. The first five words are what the view means.
pub record KeepsView {S : Type 0} (stands_for : S → List (List ℕ) → Type 0) (tells : S → Type 0) (is_gone : S → ℕ → Bool) (count size : S → ℕ) (is_sound : S → Type 0) (goes_on : S → S → Type 0) (old new : S) : Type 0 where
  -- it stands for the blocks that it stood for
  pub stands : (v : List (List ℕ)) → stands_for old v → stands_for new v
  -- what is told in the end was told before
  pub told : tells new → tells old
  -- what is gone stays gone
  pub stays : (b : ℕ) → is_gone old b ≡ true → is_gone new b ≡ true
  pub blocks : count new ≡ count old
  pub bytes : size new ≡ size old
  pub sound : is_sound new
  pub goes : goes_on old new
