use Rattle.std.proofs.Common.{◌≡◌, ◌+◌, arith, ap, sym, ◌∙◌, min}
use Rattle.std.specs.Prelude.{Some}
use Rattle.dg_model.specs.Moves.{IsCutByLoss, IsCutOff, IsTidy, missing_in}
use Rattle.dg_model.proofs.MissingLaws.{placed_from, targets_stay}
use Rattle.dg_plan.specs.Targets.{wants_of}
use Rattle.dg_store.specs.Stores.{members_of, table_of}
use Rattle.dg_move.specs.Stops.{StoppedAt}
use Rattle.dg_move.specs.Turns.{IsTurned}
use Rattle.dg_move.proofs.StopLaws.{stopped_same}
use Rattle.dg_move.proofs.StoreLaws.{at_none, at_some, moves_none, on_err}
use Rattle.dg_move.proofs.TurnLaws.{cut_same, loss_same, moved_none, moved_of}
use Rattle.dg_move.proofs.tends.tend.Goals.{else-rounds-eq0-via-then-rounds-eq0+else-left-gt0, else-rounds-eq0-via-else-rounds-eq0}
use Rattle.dg_move.proofs.tends.tend.Goals as goal

pub returns-then-left-gt0-clause-moves : goal.returns-then-left-gt0-clause-moves
returns-then-left-gt0-clause-moves g c =
    let targets = wants_of c.args.targets.now in
    let old = table_of c.args.store.now in
    let some : c.missing-left.result ≡ missing_in targets old = c.missing-left.ensures in
    let is : c.min-rounds.result ≡ min c.args.limit (missing_in targets old) = c.min-rounds.ensures ∙ ap (min c.args.limit) some in
    record {
      table = moved_none targets c.args.limit old (sym is ∙ c.if-rounds-eq0.true) (omega (arith, some, c.if-left-gt0.true));
      met = sym c.if-rounds-eq0.true ∙ is;
      whole = omega (arith, some);
      left = some;
      placed = λ none. absurd (let more = c.if-left-gt0.true in omega (arith, none, more));
    }

pub returns-in_err-lost-clause-err : goal.returns-in_err-lost-clause-err
returns-in_err-lost-clause-err g c =
    let targets = wants_of c.args.targets.now in
    let old = table_of c.args.store.now in
    let new = table_of c.run.new.store in
    let is : c.min-rounds.result ≡ min c.args.limit (missing_in targets old) = c.min-rounds.ensures ∙ ap (min c.args.limit) c.missing-left.ensures in
    on_err c.from_residual.result (IsCutOff targets (Some c.args.limit) old new) (cut_same targets c.args.limit c.min-rounds.result old new is c.in_err-lost.ensures.err)

pub returns-in-Some-clause-moves : goal.returns-in-Some-clause-moves
returns-in-Some-clause-moves g c =
    let targets = wants_of c.args.targets.now in
    let old = table_of c.args.store.now in
    let new = table_of c.run.new.store in
    let members = members_of c.run.new.store in
    let is : c.min-rounds.result ≡ min c.args.limit (missing_in targets old) = c.min-rounds.ensures ∙ ap (min c.args.limit) c.missing-left.ensures in
    loss_same targets c.args.limit c.min-rounds.result old new members is
    (at_some c.in_ok-lost.field-0 (λ s. IsCutByLoss targets (Some c.min-rounds.result) old new members) c.in-Some.lost c.in-Some.is c.in_ok-lost.ensures.cut)

pub returns-in-Some-clause-stopped : goal.returns-in-Some-clause-stopped
returns-in-Some-clause-stopped g c s named =
    let targets = wants_of c.args.targets.now in
    let old = c.args.store.now in
    let new = c.run.new.store in
    let is : c.min-rounds.result ≡ min c.args.limit (missing_in targets (table_of old)) =
    c.min-rounds.ensures ∙ ap (min c.args.limit) c.missing-left.ensures in
    stopped_same g.R.Rack targets c.args.limit c.min-rounds.result old new is
    (at_some c.in_ok-lost.field-0 (λ t. StoppedAt g.R.Rack targets c.min-rounds.result old new) c.in-Some.lost c.in-Some.is c.in_ok-lost.ensures.stopped)

pub returns-in-None-clause-moves : goal.returns-in-None-clause-moves
returns-in-None-clause-moves g c =
    let targets = wants_of c.args.targets.now in
    let old = table_of c.args.store.now in
    let new = table_of c.run.new.store in
    let some : c.missing-left.result ≡ missing_in targets old = c.missing-left.ensures in
    let is : c.min-rounds.result ≡ min c.args.limit (missing_in targets old) = c.min-rounds.ensures ∙ ap (min c.args.limit) some in
    let e = c.in_ok-lost.ensures in
    let turned = at_none c.in_ok-lost.field-0 (IsTurned targets c.min-rounds.result c.min-rounds.result old new) c.in-None.is e.turned in
    let left = at_none c.in_ok-lost.field-0 (missing_in targets new + c.min-rounds.result ≡ missing_in targets old) c.in-None.is e.left in
    let tidy = at_none c.in_ok-lost.field-0 (IsTidy targets new) c.in-None.is e.tidy in
    let none : c.min-rounds.result ≡ 0 → missing_in targets old ≡ 0 = λ zeroed. elim c.else-rounds-eq0.branch [
      | else-rounds-eq0-via-then-rounds-eq0+else-left-gt0 w ↦ omega (arith, w.if-left-gt0.false, some)
      | else-rounds-eq0-via-else-rounds-eq0 w ↦ absurd (w.if-rounds-eq0.false zeroed)
    ] in
    record {
      table = moved_of targets c.args.limit c.min-rounds.result old new is none turned;
      met = is;
      whole = omega (arith, left, some);
      left = omega (arith, left, some);
      placed = λ none. placed_from targets new (targets_stay targets old new e.on.leaves.keeps.shape e.on.written c.requires.targets) tidy (omega (arith, left, some, none));
    }

pub returns-then-left-gt0-clause-on : goal.returns-then-left-gt0-clause-on
returns-then-left-gt0-clause-on g c = moves_none g.R.Rack (wants_of c.args.targets.now) c.args.store.now c.requires.sound
