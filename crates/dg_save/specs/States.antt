-- What the state that is saved says.
use Rattle.dg_model.specs.Saves.{SavedState as SavedValue}
use Rattle.dg_save.specs.declared.states.SavedState.{SavedState}

-- the saved state of these parts
abbrev pub state_of : SavedState → SavedValue
state_of state = record {
  phase = state.phase;
  good = state.good;
  table = record { shape = state.shape; rows = state.sites };
  pending = state.pending;
  homes = state.homes;
  copies = state.copies;
  recent = state.recent;
}
