-- What the members of a view say together, in one word for a clause. The record of a view's members is the first argument.
use Rattle.std.specs.Prelude.{Option}
use Rattle.ufs_model.specs.Blocks.{Reading}
use Rattle.ufs_model.specs.Readings.{ReadsAs}
use Rattle.dg_io.specs.Views.{KeepsView}
use Rattle.dg_io.specs.declared.views.View.{Ghosts}

-- what any number of fetches keep
abbrev pub Keeps : {S : Type 0} → Ghosts S → S → S → Type 0
Keeps view old new = KeepsView view.stands_for view.tells view.is_gone view.count view.size view.is_sound view.goes_on old new

-- fetches gave this result of a reading of the blocks that the view stood for
abbrev pub Reads : {S A : Type 0} → Ghosts S → S → S → Reading A → Option A → Type 0
Reads view old new reading result = ReadsAs (view.stands_for old) (view.is_gone old) (view.tells new) (view.is_gone new) reading result
