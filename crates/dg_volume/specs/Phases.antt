-- What is kept of a volume in each of its phases.
use Rattle.std.specs.Prelude.{◌<◌, ℕ, Bool, true, false, List, length, Option, Some, None, slice_index_or, slice_set}
use Rattle.dg_infer.specs.Fits.{FitsTable}
use Rattle.dg_infer.specs.Meanings.{KeptInference}
use Rattle.dg_infer.specs.Meanings as inferences
use Rattle.dg_model.specs.Blocks.{zeros}
use Rattle.dg_model.specs.Marks.{IsDead}
use Rattle.dg_model.specs.Tables.{Table}
use Rattle.dg_model.specs.declared.phases.Phase.{Phase}
use Rattle.dg_model.specs.declared.phases.Phase.TheVariants.{Loose as LoosePhase, Settled as SettledPhase, Worn as WornPhase}
use Rattle.dg_volume.specs.declared.phases.AnyPhase.{AnyPhase}
use Rattle.dg_volume.specs.declared.phases.AnyPhase.TheVariants.{Loose as AnyLoose, Settled as AnySettled, Worn as AnyWorn}

-- of a phase that is told only when the program runs
abbrev pub phase_in : AnyPhase → Phase
phase_in (AnyLoose loose) = LoosePhase
phase_in (AnySettled settled) = SettledPhase
phase_in (AnyWorn worn) = WornPhase

abbrev pub kept_in : AnyPhase → Option KeptInference
kept_in (AnyLoose loose) = Some loose.inference
kept_in (AnySettled settled) = Some settled.inference
kept_in (AnyWorn worn) = None

-- the phase of a volume of which this is inferred, by whether it is settled
abbrev pub phase_with : KeptInference → Bool → AnyPhase
phase_with kept true = AnySettled (record { inference = kept })
phase_with kept false = AnyLoose (record { inference = kept })

-- Block b may become one of zeros: where it is dead, what is inferred of a volume stands for it afterwards too.
abbrev pub CanReap : KeptInference → ℕ → Type 0
CanReap inference b = (table : Table) (V : List (List ℕ)) → FitsTable inference table b true → inferences.StandsFor inference V
    → IsDead table V inference.pending b → inferences.StandsFor inference (slice_set V b (zeros inference.l))

-- so each of some blocks
abbrev pub CanReapAll : KeptInference → List ℕ → Type 0
CanReapAll inference blocks = (k : ℕ) → k < length blocks → CanReap inference (slice_index_or blocks k 0)
