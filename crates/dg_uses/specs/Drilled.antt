-- A drill that was done, and in which no member failed. The rules are this project's own.
use Rattle.std.specs.Prelude.{◌≡◌, ◌+◌, ℕ, List, Option}
use Rattle.dg_drill.specs.Losses.{lost_homes}
use Rattle.dg_drill.specs.Reports.{given_count, report_text, unavailable_count}
use Rattle.dg_io.specs.Told.{Told, Took}
use Rattle.dg_model.specs.States.{HoldsAll, State}
use Rattle.dg_model.specs.declared.replies.Reply.{Reply}
use Rattle.dg_model.specs.declared.replies.Reply.TheVariants.{Settled}

-- Its volume was settled. Each of its files was given with just its bytes, or was unavailable, and those that were are as many as have their home on
-- the lost boundary, by the state that the members hold. That is what was printed.
pub record LosesItsHomes (seed files : ℕ) (taken given : Option (List ℕ)) (bytes : ℕ → Option (List ℕ)) : Type 0 where
  pub written : ℕ
  pub cats : List Reply
  pub final : State
  pub holds : HoldsAll bytes final
  pub homes : unavailable_count cats ≡ lost_homes final seed files
  pub all : given_count seed 0 cats + unavailable_count cats ≡ files
  pub output : Told (Took (report_text seed files written Settled cats)) taken given
