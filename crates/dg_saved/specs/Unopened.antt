-- No saved array was opened. It stands here since the crate's functions ask for it.
use Rattle.std.proofs.Common.{◌≡◌, ℕ, List, refl}
use Rattle.std.specs.Prelude.{⊤}
use Rattle.dg_volume.specs.declared.opens.OpenAnswer.{OpenAnswer}
use Rattle.dg_volume.specs.declared.opens.OpenAnswer.TheVariants.{NoState, Opened, Unclean}
use Rattle.dg_volume.specs.declared.phases.AnyPhase.{AnyPhase}
use Rattle.dg_volume.specs.declared.volumes.Volume.{Volume}

abbrev pub IsUnopened : {R : Type 0} → OpenAnswer R → Type 0
IsUnopened (Opened volume hot) = ⊥
IsUnopened (NoState rack) = ⊤
IsUnopened (Unclean rack) = ⊤

-- each answer but an array that was opened
pub unopened_by : {R : Type 0} (answer : OpenAnswer R) → ((volume : Volume AnyPhase R) (hot : List ℕ) → answer ≡ Opened volume hot → ⊥) → IsUnopened answer
unopened_by (Opened volume hot) opened = absurd (opened volume hot refl)
unopened_by (NoState rack) opened = tt
unopened_by (Unclean rack) opened = tt
