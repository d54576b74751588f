-- What answers name: a boundary by its number in the array's first line, and not by its place among those in use.
use Rattle.std.specs.Prelude.{List, ℕ}
use Rattle.dg_hot.specs.declared.spreads.DiffuseAnswer.{DiffuseAnswer}
use Rattle.dg_hot.specs.declared.spreads.DiffuseAnswer.TheVariants.{Diffused, Lost as DiffuseLost}
use Rattle.dg_label.specs.declared.saves.SaveAnswer.{SaveAnswer}
use Rattle.dg_label.specs.declared.saves.SaveAnswer.TheVariants.{Lost as SaveLost, Saved}
use Rattle.dg_model.specs.Lives.{boundary_at}
use Rattle.dg_volume.specs.declared.settles.TendRun.{TendRun}
use Rattle.dg_volume.specs.declared.settles.TendRun.TheVariants.{Lost as TendLost, NoSpace as TendNoSpace, Tended}
use Rattle.dg_volume.specs.declared.settles.Unsettled.{Unsettled}
use Rattle.dg_volume.specs.declared.settles.Unsettled.TheVariants.{Lost, Malformed, NoSpace}

-- why a volume isn't settled
abbrev pub unsettled_by : List ℕ → Unsettled → Unsettled
unsettled_by live (Lost place) = Lost (boundary_at live place)
unsettled_by live (Malformed kind n) = Malformed kind n
unsettled_by live (NoSpace bad) = NoSpace bad

-- what became of moves
abbrev pub tended_by : List ℕ → TendRun → TendRun
tended_by live (Tended moved left) = Tended moved left
tended_by live (TendLost place) = TendLost (boundary_at live place)
tended_by live (TendNoSpace bad) = TendNoSpace bad

-- what became of a spreading of copies
abbrev pub diffused_by : List ℕ → DiffuseAnswer → DiffuseAnswer
diffused_by live (Diffused n) = Diffused n
diffused_by live (DiffuseLost place) = DiffuseLost (boundary_at live place)

-- what became of a save
abbrev pub save_told : List ℕ → SaveAnswer → SaveAnswer
save_told live (Saved sequence) = Saved sequence
save_told live (SaveLost place) = SaveLost (boundary_at live place)
