-- Members that begin as others do, whatever stands behind that. The words are this project's own.
use Rattle.std.specs.Prelude.{◌≡◌, ◌⊎◌, ℕ, List, [], Option, Some, take}
use Rattle.dg_io.specs.Told.{Told}

-- Each member of a rack begins with the 512 bytes, those of a label, with which the member of this number began on another one; or it has no bytes. The
-- slots behind them, and the body, may be any, so that two mirrors may differ.
abbrev pub BeginAs : (ℕ → Option (List ℕ)) → (ℕ → Option (List ℕ)) → Type 0
BeginAs held images = (q : ℕ) → (images q ≡ Some []) ⊎ Told (λ all other. take 512 other ≡ take 512 all) (held q) (images q)
