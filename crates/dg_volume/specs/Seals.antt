-- What calls that open the seal of the label where they write leave of an array and of the label.
use Rattle.std.specs.Prelude.{◌≡◌, ◌⊎◌, ℕ, Bool, true, false, List, Option, Some, if◌then◌else◌}
use Rattle.dg_io.specs.declared.outside.Rack.{Ghosts}
use Rattle.dg_label.specs.Labels.{IsLabeled, StandsLabeled, is_sealed}
use Rattle.dg_label.specs.Seals.{KeepsArray, OpensSeal}
use Rattle.dg_label.specs.declared.labels.KeptLabel.{KeptLabel}
use Rattle.dg_model.specs.Members.{MembersFall}
use Rattle.dg_model.specs.Moves.{IsCutByLoss}
use Rattle.dg_model.specs.Seals.{LastLabel, label_after}
use Rattle.dg_model.specs.Sites.{IsSited, all_lost}
use Rattle.dg_model.specs.Tables.{Table, sites_in}
use Rattle.dg_model.specs.declared.members.MemberState.{MemberState}
use Rattle.dg_model.specs.declared.shapes.Shape.{Shape}
use Rattle.dg_move.specs.Answers.{IsTended}
use Rattle.dg_move.specs.declared.tends.TendAnswer.{TendAnswer}
use Rattle.dg_move.specs.declared.tends.TendAnswer.TheVariants.{Lost, Tended}
use Rattle.dg_store.specs.Leaves.{HasWritten, Stays}
use Rattle.dg_store.specs.Stores.{IsSound, SetsBlock, members_of, rack_of, table_of}
use Rattle.dg_store.specs.declared.store.Store.{Store}
use Rattle.dg_volume.specs.Faults.{OutsStay, TellsFaults}

-- What calls left of the label, where members are as long by the numbers of the line: where the array stood with a label it stands with that of the
-- next state, opened or not. A sealed one was opened where a call that writes was made, and else none was made.
pub record Relabels {R : Type 0} (rack : Ghosts R) (line : Shape) (old new : Store R) (before after : Option KeptLabel) : Type 0 where
  pub labeled : IsLabeled rack line old before → IsLabeled rack line new after
  pub opens : Bool
  pub stands : (last : Option LastLabel) → IsLabeled rack line old before → StandsLabeled rack line old before last
      → StandsLabeled rack line new after (label_after opens (members_of old) (members_of new) last)
  pub wrote : is_sealed before ≡ true → opens ≡ true → HasWritten rack old new
  pub stood : is_sealed before ≡ true → opens ≡ false → (rack.counts (rack_of new)).writes ≡ (rack.counts (rack_of old)).writes

-- The seal was opened where members are to be written; else nothing was done.
pub record OpensWhere {R : Type 0} (rack : Ghosts R) (writes : Bool) (old new : Store R) (before after : Option KeptLabel) : Type 0 where
  pub array : KeepsArray rack old new
  pub labeled : (line : Shape) → IsLabeled rack line old before → IsLabeled rack line new after
  pub opens : writes ≡ true → OpensSeal rack old new before after
  pub quiet : writes ≡ false → (new ≡ old) × (after ≡ before)

-- What became of the table by moves within a limit: they were all made; or a loss ended them, in the opening of the seal and so before any of
-- them, or at one of them.
abbrev pub EndsMoves : (ℕ → ℕ → Bool) → ℕ → Table → Table → (ℕ → MemberState) → TendAnswer → Type 0
EndsMoves targets limit old new members (Tended m l) = IsTended targets limit old new m l
EndsMoves targets limit old new members (Lost s) = (new ≡ old) ⊎ IsCutByLoss targets (Some limit) old new members

-- ---- what is done behind an opening

-- What a call behind an opening left of an array: members only fell.
pub record FallsOn {R : Type 0} (rack : Ghosts R) (old new : Store R) : Type 0 where
  pub sound : IsSound rack new
  pub stays : Stays rack old new
  pub falls : MembersFall (rack.counts (rack_of old)).faults (rack.counts (rack_of new)).faults (members_of old) (members_of new)
  pub faults : TellsFaults rack old new
  pub outs : OutsStay rack old new

-- the block has its sites, or its first one, and this value; and not all of these sites are lost
pub record HasStoredBlock {R : Type 0} (rack : Ghosts R) (b : ℕ) (value : List ℕ) (old new : Store R) : Type 0 where
  pub sited : IsSited (table_of old) b (table_of new)
  pub live : all_lost (members_of new) (sites_in (table_of new) b) ≡ false
  pub sets : SetsBlock rack old b value new

-- the calls that open a seal, where a label is sealed
abbrev pub opening_calls : Option KeptLabel → ℕ → ℕ
opening_calls label members = if is_sealed label then members else 0
