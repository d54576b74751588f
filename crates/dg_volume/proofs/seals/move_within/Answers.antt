use Rattle.std.proofs.Common.{◌≡◌, ◌∙◌, ℕ, false, inl, sym, ap, subst, arith}
use Rattle.std.specs.Prelude.{min, nat_lt}
use Rattle.std.proofs.lemmas.Bool.Decides.{nat_tests}
use Rattle.dg_model.specs.Moves.{missing_in}
use Rattle.dg_model.specs.Tables.{Table}
use Rattle.dg_plan.specs.Targets.{wants_of}
use Rattle.dg_store.specs.Stores.{rack_of, table_of}
use Rattle.dg_volume.proofs.ArrayLaws.{opened_array}
use Rattle.dg_volume.proofs.SealSteps.{ends_behind, labels_lost, labels_moved, moved_behind}
use Rattle.dg_volume.proofs.seals.move_within.Goals as goal

no_copies : (copies limit missing : ℕ) → nat_lt 0 copies ≡ false → copies ≡ min limit missing → min limit missing ≡ 0
no_copies copies limit missing none is = grind (arith, nat_tests)

pub returns-in-Some-clause-label : goal.returns-in-Some-clause-label
returns-in-Some-clause-label g c = λ line.
    labels_lost g.R.Rack line _ c.args.store.now c.open_where.new.store c.args.label.now c.open_where.new.label c.requires.sound c.requires.live c.open_where.ensures

pub returns-in-Some-clause-array : goal.returns-in-Some-clause-array
returns-in-Some-clause-array g c = opened_array g.R.Rack c.args.store.now c.open_where.new.store c.open_where.ensures.array

pub returns-in-Some-clause-moves : goal.returns-in-Some-clause-moves
returns-in-Some-clause-moves g c = inl c.open_where.ensures.array.table

-- where nothing is to be copied nothing is done
no_writes : (copies limit missing : ℕ) → copies ≡ min limit missing → min limit missing ≡ 0 → nat_lt 0 copies ≡ false
no_writes copies limit missing is none = grind (arith, nat_tests)

pub returns-in-Some-clause-still : goal.returns-in-Some-clause-still
returns-in-Some-clause-still g c none =
    ap rack_of (c.open_where.ensures.quiet (no_writes c.min-copies.result c.args.limit (missing_in (wants_of c.args.targets.now) (table_of c.args.store.now))
    (c.min-copies.ensures ∙ ap (λ (n : ℕ). min c.args.limit n) c.missing.ensures) none)).0

pub returns-clause-still : goal.returns-clause-still
returns-clause-still g c none =
    c.tend.ensures.still (subst (λ (t : Table). min c.args.limit (missing_in (wants_of c.args.targets.now) t) ≡ 0) (sym c.open_where.ensures.array.table) none)
    ∙ ap rack_of (c.open_where.ensures.quiet (no_writes c.min-copies.result c.args.limit (missing_in (wants_of c.args.targets.now) (table_of c.args.store.now))
    (c.min-copies.ensures ∙ ap (λ (n : ℕ). min c.args.limit n) c.missing.ensures) none)).0

pub returns-clause-moves : goal.returns-clause-moves
returns-clause-moves g c =
    ends_behind g.R.Rack (wants_of c.args.targets.now) c.args.limit c.args.store.now c.open_where.new.store c.tend.new.store c.tend.result c.open_where.ensures.array c.tend.ensures.moves

pub returns-clause-array : goal.returns-clause-array
returns-clause-array g c =
    moved_behind g.R.Rack (wants_of c.args.targets.now) c.args.store.now c.open_where.new.store c.tend.new.store c.open_where.ensures.array c.tend.ensures.on

pub returns-clause-label : goal.returns-clause-label
returns-clause-label g c = λ line.
    labels_moved g.R.Rack line (wants_of c.args.targets.now) c.args.limit _ c.args.store.now c.open_where.new.store c.tend.new.store c.args.label.now c.open_where.new.label c.requires.sound
    c.requires.live c.open_where.ensures
    (λ none. subst (λ (t : Table). min c.args.limit (missing_in (wants_of c.args.targets.now) t) ≡ 0) (sym c.open_where.ensures.array.table)
    (no_copies c.min-copies.result c.args.limit (missing_in (wants_of c.args.targets.now) (table_of c.args.store.now)) none
    (c.min-copies.ensures ∙ ap (λ (n : ℕ). min c.args.limit n) c.missing.ensures)))
    c.tend.ensures.on.leaves c.tend.ensures.still
