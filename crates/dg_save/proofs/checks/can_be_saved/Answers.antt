use Rattle.std.proofs.Common.{refl, subst}
use Rattle.std.proofs.lemmas.Bool.{false≢true}
use Rattle.std.proofs.lemmas.Result.{IfOk-weaker}
use Rattle.std.specs.Prelude.{IsTrue, ◌↔◌}
use Rattle.dg_model.specs.Saves.{CanBeSaved}
use Rattle.dg_model.specs.Tables.{IsTable}
use Rattle.dg_save.specs.States.{state_of}
use Rattle.dg_save.proofs.CheckLemmas.{can_from, files_of}
use Rattle.dg_save.proofs.checks.can_be_saved.Goals as goal

pub returns-then-not-are_files : goal.returns-then-not-are_files
returns-then-not-are_files c = (
  λ e. absurd (false≢true e),
  λ can. absurd (false≢true (c.if-not-are_files.ensures.1 (files_of (state_of c.args.state.now) can))),
)

pub returns : goal.returns
returns c =
    let state = state_of c.args.state.now in
    IfOk-weaker c.are_sites.result _ (λ can. IsTrue can ↔ CanBeSaved state)
    (λ test is. (
      (λ e. can_from c.args.state.now.shape state c.requires.spelled (c.if-not-are_files.ensures.0 refl)
          (subst (λ rows. IsTable (record { shape = c.args.state.now.shape; rows = rows })) c.as_vec.ensures (is.0 e))),
      (λ can. is.1 (rw c.as_vec.ensures can.table)),
    ))
    c.are_sites.ensures
