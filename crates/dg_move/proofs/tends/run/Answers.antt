use Rattle.std.proofs.Common.{◌≡◌, ◌+◌, arith, ap, refl, inl, inr, min, ◌∙◌}
use Rattle.std.specs.Prelude.{Some}
use Rattle.std.proofs.lemmas.Bool.{both_ways}
use Rattle.dg_model.specs.Moves.{IsCutOff, missing_in}
use Rattle.dg_model.proofs.MissingLaws.{missing_stay, targets_stay}
use Rattle.dg_plan.specs.Targets.{wants_of}
use Rattle.dg_store.specs.Stores.{members_of, shape_of, table_of}
use Rattle.dg_move.proofs.CallLaws.{copies_less, copies_more, copies_same}
use Rattle.dg_move.proofs.StopLaws.{stopped_next}
use Rattle.dg_move.proofs.StoreLaws.{moves_both, on_err, only_missing, only_moves, same_lost}
use Rattle.dg_move.proofs.TurnLaws.{cut_failed, cut_next, cut_whole, met_less, tidy_more, turned_more, turned_none}
use Rattle.dg_move.proofs.tends.run.Goals as goal

pub turns-init : goal.turns-init
turns-init g c =
    let targets = wants_of c.args.targets.now in
    let old = c.args.store.now in
    let new = c.tidy.new.store in
    let only = c.tidy.ensures.only in
    let calls = ap (λ r. (g.R.Rack.counts r).calls) only.rack_is in
    record {
      on = only_moves g.R.Rack targets old new only;
      turned = turned_none targets c.args.rounds (table_of old) (table_of new) c.tidy.ensures.acts;
      tidy = c.tidy.ensures.tidy;
      left = omega (arith, missing_stay targets (table_of old) (table_of new) only.leaves.keeps.shape (only_missing g.R.Rack targets old new only));
      cursors = c.cursors-next.ensures;
      live = same_lost (shape_of old) (shape_of new) (members_of old) (members_of new) only.leaves.keeps.shape only.members ∙ c.requires.live;
      still = λ none. only.rack_is;
      most = omega (arith, calls);
    }

pub turn-requires-clause-targets : goal.turn-requires-clause-targets
turn-requires-clause-targets g c =
    let on = c.turns.invariant.on in
    targets_stay (wants_of c.args.targets.now) (table_of c.args.store.now) (table_of c.turns.store) on.leaves.keeps.shape on.written c.requires.targets

pub returns-in_err-turn-clause-on : goal.returns-in_err-turn-clause-on
returns-in_err-turn-clause-on g c =
    moves_both g.R.Rack (wants_of c.args.targets.now) c.args.store.now c.turns.store c.turn.new.store c.turns.invariant.on c.in_err-turn.ensures.on

pub returns-in_err-turn-clause-err : goal.returns-in_err-turn-clause-err
returns-in_err-turn-clause-err g c =
    let targets = wants_of c.args.targets.now in
    let old = table_of c.args.store.now in
    let now = table_of c.turns.store in
    let new = table_of c.turn.new.store in
    let inv = c.turns.invariant in
    let whole : c.args.rounds ≡ min c.args.rounds (missing_in targets old) = omega (arith, c.requires.rounds) in
    let next = c.in_err-turn.ensures.next in
    on_err c.from_residual.result (IsCutOff targets (Some c.args.rounds) old new)
    (cut_next targets c.args.rounds c.args.rounds c.turns._moved old now new next.0 next.1 whole inv.turned next.2 c.turns-test.true c.in_err-turn.ensures.err)

pub returns-in_err-turn-clause-most : goal.returns-in_err-turn-clause-most
returns-in_err-turn-clause-most g c =
    let old = table_of c.args.store.now in
    let now = table_of c.turns.store in
    let inv = c.turns.invariant in
    let k = c.turns._moved in
    omega (
      arith,
      inv.most,
      c.in_err-turn.ensures.most,
      copies_same old now 1 inv.on.leaves.keeps.shape,
      copies_more old k (k + 1) refl,
      copies_less old (k + 1) c.args.rounds (let t = c.turns-test.true in omega (arith, t)),
    )

pub returns-in-Some-clause-on : goal.returns-in-Some-clause-on
returns-in-Some-clause-on g c =
    moves_both g.R.Rack (wants_of c.args.targets.now) c.args.store.now c.turns.store c.turn.new.store c.turns.invariant.on c.turn.ensures.on

pub returns-in-Some-clause-most : goal.returns-in-Some-clause-most
returns-in-Some-clause-most g c =
    let old = table_of c.args.store.now in
    let now = table_of c.turns.store in
    let inv = c.turns.invariant in
    let k = c.turns._moved in
    omega (
      arith,
      inv.most,
      c.turn.ensures.most,
      copies_same old now 1 inv.on.leaves.keeps.shape,
      copies_more old k (k + 1) refl,
      copies_less old (k + 1) c.args.rounds (let t = c.turns-test.true in omega (arith, t)),
    )

pub returns-in-Some-clause-cut : goal.returns-in-Some-clause-cut
returns-in-Some-clause-cut g c =
    let targets = wants_of c.args.targets.now in
    let old = table_of c.args.store.now in
    let now = table_of c.turns.store in
    let new = table_of c.turn.new.store in
    let members = members_of c.turn.new.store in
    let inv = c.turns.invariant in
    let whole : c.args.rounds ≡ min c.args.rounds (missing_in targets old) = omega (arith, c.requires.rounds) in
    let turned = c.in_ok-turn.ensures.turned in
    let b = turned.block in
    let t = turned.boundary in
    elim turned.end [
      | inl turn ↦
          cut_whole targets c.args.rounds c.args.rounds c.turns._moved old now new members b t whole c.turns-test.true inv.turned turned.first turn.meets turn.stands
      | inr stopped ↦
          cut_failed targets c.args.rounds c.args.rounds c.turns._moved old now new members b t whole inv.turned turned.first c.turns-test.true stopped.fails.same stopped.fails.cause
    ]

pub returns-in-Some-clause-stopped : goal.returns-in-Some-clause-stopped
returns-in-Some-clause-stopped g c =
    let targets = wants_of c.args.targets.now in
    let old = c.args.store.now in
    let mid = c.turns.store in
    let new = c.turn.new.store in
    let inv = c.turns.invariant in
    let whole : c.args.rounds ≡ min c.args.rounds (missing_in targets (table_of old)) = omega (arith, c.requires.rounds) in
    let turned = c.in_ok-turn.ensures.turned in
    stopped_next g.R.Rack targets c.args.rounds c.args.rounds c.turns._moved old mid new turned.block turned.boundary whole c.turns-test.true inv.turned
    turned.first inv.on inv.live (elim turned.end [
      | inl turn ↦ inr (record { on = c.turn.ensures.on; table = turn.meets.acts; stands = turn.stands })
      | inr stopped ↦ inl stopped.fails
    ])

pub turns-preserved : goal.turns-preserved
turns-preserved g c =
    let targets = wants_of c.args.targets.now in
    let old = table_of c.args.store.now in
    let now = table_of c.turns.store in
    let new = table_of c.turn.new.store in
    let inv = c.turns.invariant in
    let k = c.turns._moved in
    let turned = c.in_ok-turn.ensures.turned in
    let b = turned.block in
    let t = turned.boundary in
    let shape = c.turn.ensures.on.leaves.keeps.shape in
    elim turned.end [
      | inl turn ↦
          let tidy = tidy_more targets now new b t shape inv.tidy turn.meets in
          record {
            on = moves_both g.R.Rack targets c.args.store.now c.turns.store c.turn.new.store inv.on c.turn.ensures.on;
            turned = turned_more targets c.args.rounds k (k + 1) old now new b t refl c.turns-test.true inv.turned turned.first turn.meets tidy;
            tidy = tidy;
            left = omega (arith, met_less targets now new b t shape turned.first turn.meets, inv.left);
            cursors = turn.cursors;
            live = c.in_default.ensures;
            still = λ none. absurd (omega (arith, none));
            most = omega (arith, inv.most, c.turn.ensures.most, copies_same old now 1 inv.on.leaves.keeps.shape, copies_more old k (k + 1) refl);
          }
      | inr stopped ↦ absurd (both_ways _ c.in_default.ensures stopped.lost)
    ]
