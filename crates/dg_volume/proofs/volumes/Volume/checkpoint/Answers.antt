use Rattle.std.proofs.Common.{◌∙◌, ℕ, List, ap, inr, refl, subst, sym}
use Rattle.dg_label.specs.declared.saves.SaveAnswer.{SaveAnswer}
use Rattle.dg_model.specs.declared.events.Event.TheVariants.{Save}
use Rattle.dg_model.specs.declared.replies.Reply.TheVariants.{Lost}
use Rattle.dg_regroup.specs.Extras.{extra_bytes}
use Rattle.dg_regroup.specs.declared.extras.Extra.{Extra}
use Rattle.dg_volume.proofs.ArrayLaws.{on_err}
use Rattle.dg_volume.proofs.CheckpointSteps.{goes_behind, goes_lost, steps_kept, steps_lost, untouched}
use Rattle.dg_volume.proofs.CommitSteps.{commit_goes}
use Rattle.dg_volume.proofs.volumes.Volume.checkpoint.Goals as goal
use Rattle.dg_volume.specs.Commits.{CommitsArray}
use Rattle.dg_volume.specs.Copies.{StepsHot}
use Rattle.dg_volume.specs.Saves.{save_reply}

pub returns-in_err-extra-clause-err : goal.returns-in_err-extra-clause-err
returns-in_err-extra-clause-err g c = on_err c.from_residual.result _ (untouched g.S.InPhase g.R.Rack c.args.self.now c.requires.well)

pub returns-in_err-bytes-clause-err : goal.returns-in_err-bytes-clause-err
returns-in_err-bytes-clause-err g c = on_err c.from_residual-in_err-bytes.result _ (untouched g.S.InPhase g.R.Rack c.args.self.now c.requires.well)

pub returns-then-not-has_room-clause-err : goal.returns-then-not-has_room-clause-err
returns-then-not-has_room-clause-err g c = (c.save.ensures.leaves, c.save.ensures.array)

pub returns-then-has_good-clause-on : goal.returns-then-has_good-clause-on
returns-then-has_good-clause-on g c =
    let m = c.save.new.self in
    let store = c.commit_good.new.store in
    goes_behind g.S.InPhase g.R.Rack c.args.self.now m (record m { store = store }) c.save.ensures.leaves
    (commit_goes g.S.InPhase g.R.Rack g.R.Checkpoint.room_of g.R.Checkpoint.commits c.deref.result.now c.commit_good.result m store c.commit_good.ensures c.save.ensures.leaves.well)

pub returns-then-has_good-clause-steps : goal.returns-then-has_good-clause-steps
returns-then-has_good-clause-steps g c =
    let a = c.args.self.now in
    let m = c.save.new.self in
    steps_kept g.S.InPhase g.R.Rack g.R.Checkpoint.room_of g.R.Checkpoint.commits c.deref.result.now c.commit_good.result c.args.hot.now c.in-Saved.sequence a m c.commit_good.new.store
    c.save.ensures.leaves.well c.commit_good.ensures
    (subst (λ (r : SaveAnswer). StepsHot g.S.InPhase g.S.InPhase g.R.Rack c.args.hot.now a Save (save_reply r) m) c.in-Saved.is c.in_ok-sequence.ensures.steps)
    (c.has_good.ensures.some c.if-has_good.true)

pub returns-then-has_good-clause-kept : goal.returns-then-has_good-clause-kept
returns-then-has_good-clause-kept g c =
    let m = c.save.new.self in
    let says = c.deref.ensures.value ∙ c.in_ok-bytes.ensures ∙ ap (λ (extra : Extra). extra_bytes extra) c.in_ok-extra.ensures.is in (
      record {
        mid = m;
        answer = c.commit_good.result;
        sequence = c.in-Saved.sequence;
        saved = c.save.ensures.leaves;
        steps =
            subst (λ (r : SaveAnswer). StepsHot g.S.InPhase g.S.InPhase g.R.Rack c.args.hot.now c.args.self.now Save (save_reply r) m) c.in-Saved.is c.in_ok-sequence.ensures.steps;
        commits =
            subst (λ (bytes : List ℕ). CommitsArray g.R.Rack g.R.Checkpoint.room_of g.R.Checkpoint.commits bytes c.commit_good.result m.store c.commit_good.new.store) says c.commit_good.ensures;
        live = refl;
      },
      refl,
      c.has_good.ensures.some c.if-has_good.true,
    )

pub returns-clause-on : goal.returns-clause-on
returns-clause-on g c =
    goes_lost g.S.InPhase g.R.Rack g.R.Checkpoint.room_of g.R.Checkpoint.commits c.deref.result.now c.commit_good.result c.args.self.now c.save.new.self c.commit_good.new.store c.requires.well
    c.save.ensures.leaves c.commit_good.ensures (c.has_good.ensures.none c.if-has_good.false)

pub returns-clause-steps : goal.returns-clause-steps
returns-clause-steps g c =
    let a = c.args.self.now in
    let m = c.save.new.self in
    let store = c.commit_good.new.store in
    subst (λ (s : ℕ). StepsHot g.S.InPhase g.S.InPhase g.R.Rack c.args.hot.now a Save (Lost s) (record m { store = store; label = a.label })) (sym c.number.ensures)
    (steps_lost g.S.InPhase g.R.Rack g.R.Checkpoint.room_of g.R.Checkpoint.commits c.deref.result.now c.commit_good.result a m store c.requires.well c.save.ensures.leaves c.commit_good.ensures
    (c.has_good.ensures.none c.if-has_good.false) c.args.hot.now c.in-Saved.sequence
    (subst (λ (r : SaveAnswer). StepsHot g.S.InPhase g.S.InPhase g.R.Rack c.args.hot.now a Save (save_reply r) m) c.in-Saved.is c.in_ok-sequence.ensures.steps))

pub returns-clause-kept : goal.returns-clause-kept
returns-clause-kept g c =
    let m = c.save.new.self in
    let says = c.deref.ensures.value ∙ c.in_ok-bytes.ensures ∙ ap (λ (extra : Extra). extra_bytes extra) c.in_ok-extra.ensures.is in
    inr (
      record {
        mid = m;
        answer = c.commit_good.result;
        sequence = c.in-Saved.sequence;
        saved = c.save.ensures.leaves;
        steps =
            subst (λ (r : SaveAnswer). StepsHot g.S.InPhase g.S.InPhase g.R.Rack c.args.hot.now c.args.self.now Save (save_reply r) m) c.in-Saved.is c.in_ok-sequence.ensures.steps;
        commits =
            subst (λ (bytes : List ℕ). CommitsArray g.R.Rack g.R.Checkpoint.room_of g.R.Checkpoint.commits bytes c.commit_good.result m.store c.commit_good.new.store) says c.commit_good.ensures;
        live = refl;
      },
      c.has_good.ensures.none c.if-has_good.false,
    )
