-- What an array is that is opened from a save. The rules are this project's own.
use Rattle.std.specs.Prelude.{◌≡◌, ◌⊎◌, ◌↔◌, ◌<◌, ◌==◌, ◌&&◌, ℕ, true, false, List, Option, Some, IsSomeAnd}
use Rattle.dg_model.specs.Blocks.{block_in}
use Rattle.dg_model.specs.Changes.{IsInOrder}
use Rattle.dg_model.specs.Marks.{AreNext, is_marked}
use Rattle.dg_model.specs.Members.{is_good}
use Rattle.dg_model.specs.Openings.{Found, IsReopened, MayBeGood}
use Rattle.dg_model.specs.Saves.{Label, SavedState}
use Rattle.dg_model.specs.Sites.{is_gone}
use Rattle.dg_model.specs.States.{Holds, State, is_broken, plain_state}
use Rattle.dg_model.specs.declared.members.MemberState.{MemberState}
use Rattle.dg_model.specs.declared.members.MemberState.TheVariants.{Good, Out}
use Rattle.dg_model.specs.declared.phases.Phase.TheVariants.{Settled}
use Rattle.dg_kept.specs.Saved.{HasSaved, Save}

-- the bytes are told: what is said of an opening where they are is said
abbrev pub AreTold : Type 0
AreTold = Unit {0}

-- member q has what was saved, and the saved state says that it was good
pub record IsKept (save : Save) (images : ℕ → Option (List ℕ)) (q : ℕ) : Type 0 where
  pub within : q < 32
  pub has : IsSomeAnd (images q) (HasSaved save q)
  pub said : is_marked save.state.good q ≡ true

-- members are good only where they may be, by what was taken, and else out
abbrev pub AreAsFound : (ℕ → Option Found) → Label → SavedState → (ℕ → MemberState) → Type 0
AreAsFound taken label saved members = (q : ℕ) → ((members q ≡ Good) × MayBeGood taken label saved q) ⊎ (members q ≡ Out)

-- The array was opened as it was saved, but for members that are out: with the sites, homes, recent inodes and label of the save, with its
-- marks as an opening leaves them, and in the phase and with the copies that an opening gives. Members are good exactly where they are kept.
pub record IsAsSaved (save : Save) (images : ℕ → Option (List ℕ)) (state : State) : Type 0 where
  pub table : state.table ≡ save.state.table
  pub homes : state.homes ≡ save.state.homes
  pub recent : state.recent ≡ save.state.recent
  pub marks : AreNext (is_broken state) AreTold state.table.shape.l state.table.shape.n state.blocks save.state.pending state.pending
  pub phase : IsReopened AreTold save.state state
  pub good : (q : ℕ) → (state.members q ≡ Good) ↔ IsKept save images q
  pub out : (q : ℕ) → (state.members q ≡ Good) ⊎ (state.members q ≡ Out)
  pub label : (source : ℕ) × (state.label ≡ Some (record save.label {
    keepers = λ q. is_good (state.members q);
    bodies = λ q. (q == source) && is_good (state.members q);
    numbers = λ q. q;
  }))

-- The blocks that an opened array holds: those of the save are such; and whichever they are, each that isn't gone has its value of the save.
pub record HoldsSaved (save : Save) (images : ℕ → Option (List ℕ)) (state : State) : Type 0 where
  pub held : Holds images (record state { blocks = save.blocks })
  pub blocks : Holds images state → (b : ℕ) → b < state.table.shape.n → is_gone state.table state.members b ≡ false
      → block_in state.blocks b ≡ block_in save.blocks b
  pub whole : Holds images state → is_broken state ≡ false → state.blocks ≡ save.blocks

-- the save as the state of an array of which nothing else is known
abbrev pub state_in : Save → State
state_in save = record (plain_state save.state.table save.blocks (λ q. Out) (record { faults = λ q. 0; calls = 0; writes = 0 })) {
  pending = save.state.pending;
  homes = save.state.homes;
  copies = save.state.copies;
  phase = save.state.phase;
  recent = save.state.recent;
}

-- Where the save was settled and in order, no boundary is lost, and the blocks are those of the save, the opened array is settled, with all
-- copies.
abbrev pub StaysSettled : Save → State → Type 0
StaysSettled save state = save.state.phase ≡ Settled → IsInOrder AreTold (state_in save) → is_broken state ≡ false → state.blocks ≡ save.blocks
    → (state.phase ≡ Settled) × (state.copies ≡ save.state.copies)
