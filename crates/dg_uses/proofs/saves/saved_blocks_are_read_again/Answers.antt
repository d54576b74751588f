use Rattle.std.proofs.Common.{◌++◌, ◌∷◌, ◌<◌, List, ℕ, sym, subst}
use Rattle.dg_kept.specs.Opened.{AreTold}
use Rattle.dg_kept.specs.SavedRuns.{GivesBlock}
use Rattle.dg_model.proofs.MomentLaws.{history_runs}
use Rattle.dg_model.specs.Moments.Kind.{plain}
use Rattle.dg_model.specs.Tables.{Table}
use Rattle.dg_model.specs.declared.events.Event.TheVariants.{Read}
use Rattle.dg_run.specs.Opened.{opened_moment}
use Rattle.dg_uses.proofs.SavedAgain.{answered_at, reads_block}
use Rattle.dg_uses.specs.Saves.{first_of}
use Rattle.dg_uses.proofs.saves.saved_blocks_are_read_again.Goals as goal

pub returns : goal.returns
returns c = λ start done given number last held end images bytes before now front rest b replies again each low on.
    let run = history_runs AreTold plain (opened_moment on.state on.first on.state.counts) (front ++ Read b ∷ rest) replies on.final on.history in
    let at = answered_at (first_of on) front (Read b) rest replies on.final.state run in
    record {
      answers = at.answers;
      reply = at.reply;
      others = at.others;
      split = at.split;
      mid = at.mid;
      led = at.led;
      new = at.new;
      step = at.step;
      gives = λ stands. subst (λ (v : List (List ℕ)). GivesBlock v b at.reply) on.again.blocks
          (reads_block (first_of on) front at.answers at.mid b at.reply at.new each at.led (subst (λ (t : Table). b < t.shape.n) (sym on.again.resumed.table) low) at.step stands);
    }
