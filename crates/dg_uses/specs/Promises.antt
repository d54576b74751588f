-- The premise of what a replay promises, and the state from which a resumed array goes on.
use Rattle.std.specs.Prelude.{ℕ, List, Option}
use Rattle.dg_model.specs.States.{Counts, State}
use Rattle.dg_model.specs.declared.events.Event.{Event}
use Rattle.dg_model.specs.declared.replies.Reply.{Reply}
use Rattle.dg_run.specs.Calls.{Facts, met_by}
use Rattle.dg_run.specs.Opened.{Resumed, opened_moment}
use Rattle.dg_run.specs.Replays.{Ran, TellsBoundaries}
use Rattle.dg_saved.specs.Saved.{HasSource}

-- of each member of the array the rack still tells the bytes, as long as the member stands, at the end of the run
abbrev pub IsToldAtEnd : {before now : Counts} {images bytes : ℕ → Option (List ℕ)} {steady : Type 0} {events : List Event} {replies : List Reply}
    (tells : ℕ → Type 0) → Ran before now images bytes steady tells events replies → Type 0
IsToldAtEnd tells ran = TellsBoundaries tells ran.final.state

-- the state in which the array was opened, with the counts of its members
abbrev pub resumed_from : {tells : ℕ → Type 0} {facts : Facts} {opened : Counts} {source : HasSource (met_by facts) opened} {V : List (List ℕ)}
    {events : List Event} {replies : List Reply} → Resumed tells facts opened source V events replies → State
resumed_from {opened = opened} resumed = (opened_moment resumed.state resumed.first opened).state
