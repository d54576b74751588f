use Rattle.std.proofs.Common.{◌≡◌, ◌∙◌, ◌≤◌, ℕ, length, refl, subst, sym, true, false, arith}
use Rattle.std.specs.Prelude.{Some}
use Rattle.dg_io.specs.Told.{IsSame}
use Rattle.dg_label.specs.Labels.{IsLabeled, StandsLabeled}
use Rattle.dg_label.specs.LineLaws.{line_on}
use Rattle.dg_label.specs.Saves.{LeavesMembers, save_calls}
use Rattle.dg_label.specs.Seals.{KeepsArrayBy, saved_label}
use Rattle.dg_label.specs.declared.labels.KeptLabel.{KeptLabel}
use Rattle.dg_label.proofs.LabelLaws.{FillingFresh, all_lost, fresh_on, fresh_opened, next_first, none_labeled, room_on, save_stands}
use Rattle.dg_label.proofs.PassLaws.{keeps_both, keeps_none, keeps_or_extend, told_same}
use Rattle.dg_label.proofs.SaveLaws.{save_leaves}
use Rattle.dg_model.specs.Members.{is_good}
use Rattle.dg_model.specs.Saves.{room_of}
use Rattle.dg_model.specs.declared.shapes.Shape.{Shape}
use Rattle.dg_store.specs.Leaves.{BytesChange, CallsAtMost, IsCallOrExtendBelow}
use Rattle.dg_store.specs.Stores.{members_of, rack_of, shape_of}
use Rattle.dg_label.proofs.saves.save.Goals as goal
use Rattle.dg_label.proofs.saves.save.Given.{Over}
use Rattle.dg_label.proofs.saves.save.Goals.{After-write_labels}

-- ---- what the four passes leave, whether a member took the label or none

array : (g : Over) (c : After-write_labels g) → KeepsArrayBy g.R.Rack IsCallOrExtendBelow c.args.store.now c.write_labels.new.store
array g c =
    keeps_both g.R.Rack c.args.store.now c.open_seal.new.store c.write_labels.new.store (keeps_or_extend g.R.Rack _ _ c.open_seal.ensures.array)
    (keeps_both g.R.Rack _ c.lengthen.new.store _ c.lengthen.ensures.array
    (keeps_or_extend g.R.Rack _ _ (keeps_both g.R.Rack _ c.write_bodies.new.store _ c.write_bodies.ensures.passes.array c.write_labels.ensures.passes.array)))

leaves : (g : Over) (c : After-write_labels g) → LeavesMembers g.R.Rack c.args.body.now c.args.label.now c.args.store.now c.write_labels.new.store
    × ((q : ℕ) → is_good (members_of c.args.store.now q) ≡ false → BytesChange g.R.Rack c.args.store.now c.write_labels.new.store q IsSame)
    × CallsAtMost g.R.Rack c.args.store.now c.write_labels.new.store (save_calls (shape_of c.args.store.now).b c.args.label.now)
leaves g c =
    let written = rw c.number_after-sequence.ensures at c.write_labels.ensures in
    save_leaves g.R.Rack c.args.store.now c.open_seal.new.store c.lengthen.new.store c.write_bodies.new.store c.write_labels.new.store c.args.label.now
    c.open_seal.new.label c.args.body.now c.requires.sound c.open_seal.ensures c.lengthen.ensures.array c.lengthen.ensures.fronts c.lengthen.ensures.untouched
    (room_on g.R.Rack c.args.line.now c.args.store.now c.lengthen.new.store (length c.args.body.now) (c.lengthen.ensures.array.stays.shape ∙ c.open_seal.ensures.array.stays.shape)
    c.requires.labeled.fits c.lengthen.ensures.whole c.requires.body)
    c.write_bodies.ensures.passes c.write_bodies.ensures.fallen written.passes written.fallen c.open_seal.ensures.after_is c.lengthen.ensures.most

abbrev kept : (g : Over) (c : After-write_labels g) → KeptLabel
kept g c = record { format = 2; sequence = c.number_after-sequence.result; sealed = true; body = length c.args.body.now; long = 0 }

saved : (g : Over) (c : After-write_labels g) → IsLabeled g.R.Rack c.args.line.now c.write_labels.new.store (Some (kept g c))
    × (FillingFresh g.R.Rack c.lengthen.new.store → StandsLabeled g.R.Rack c.args.line.now c.write_labels.new.store (Some (kept g c)) (Some (saved_label c.write_labels.new.store c.number_after-sequence.result c.args.body.now)))
saved g c =
    let old = shape_of c.args.store.now in
    let now = shape_of c.lengthen.new.store in
    let same : now ≡ old = c.lengthen.ensures.array.stays.shape ∙ c.open_seal.ensures.array.stays.shape in
    let first : 1 ≤ c.number_after-sequence.result = subst (λ n. 1 ≤ n) (sym c.number_after-sequence.ensures) (next_first c.args.label.now) in
    save_stands g.R.Rack c.args.line.now c.lengthen.new.store c.write_bodies.new.store c.write_labels.new.store c.args.body.now (kept g c) c.lengthen.ensures.array.sound
    (line_on c.args.line.now old now same c.requires.labeled.fits) c.lengthen.ensures.whole (subst (λ (sh : Shape). length c.args.body.now ≤ room_of 2 sh) (sym same) c.requires.body)
    c.write_bodies.ensures.passes c.write_labels.ensures.passes refl refl refl first (omega arith)

-- ---- the goals

pub write_bodies-requires-clause-room : goal.write_bodies-requires-clause-room
write_bodies-requires-clause-room g c =
    room_on g.R.Rack c.args.line.now c.args.store.now c.lengthen.new.store (length c.args.body.now) (c.lengthen.ensures.array.stays.shape ∙ c.open_seal.ensures.array.stays.shape)
    c.requires.labeled.fits c.lengthen.ensures.whole c.requires.body

pub returns-then-not-write_labels-clause-array : goal.returns-then-not-write_labels-clause-array
returns-then-not-write_labels-clause-array g c = array g (goal.at.returns-then-not-write_labels-clause-array g c).After-write_labels

pub returns-then-not-write_labels-clause-labeled : goal.returns-then-not-write_labels-clause-labeled
returns-then-not-write_labels-clause-labeled g c =
    none_labeled g.R.Rack c.args.line.now c.args.store.now c.write_labels.new.store c.args.label.now c.requires.labeled
    (array g (goal.at.returns-then-not-write_labels-clause-labeled g c).After-write_labels) (c.write_labels.ensures.none c.if-not-write_labels.true)

pub returns-then-not-write_labels-clause-answer : goal.returns-then-not-write_labels-clause-answer
returns-then-not-write_labels-clause-answer g c =
    let none = c.write_labels.ensures.none c.if-not-write_labels.true in
    (none, all_lost g.R.Rack c.write_labels.new.store c.write_labels.ensures.passes.array.sound none, refl)

pub returns-clause-array : goal.returns-clause-array
returns-clause-array g c = array g (goal.at.returns-clause-array g c).After-write_labels

pub returns-clause-labeled : goal.returns-clause-labeled
returns-clause-labeled g c = (saved g (goal.at.returns-clause-labeled g c).After-write_labels).0

pub returns-clause-answer : goal.returns-clause-answer
returns-clause-answer g c = (
  c.write_labels.ensures.some c.if-not-write_labels.false,
  c.number_after-sequence.ensures,
  λ last stands.
      (saved g (goal.at.returns-clause-answer g c).After-write_labels).1
      (fresh_on g.R.Rack c.open_seal.new.store c.lengthen.new.store c.lengthen.ensures.array c.lengthen.ensures.filling
      (fresh_opened g.R.Rack c.args.line.now c.args.store.now c.open_seal.new.store c.args.label.now c.open_seal.new.label last c.requires.sound c.open_seal.ensures c.requires.labeled stands)),
)

pub returns-then-sequence-ge-PAST_NUMBERS-clause-array : goal.returns-then-sequence-ge-PAST_NUMBERS-clause-array
returns-then-sequence-ge-PAST_NUMBERS-clause-array g c = keeps_none g.R.Rack c.args.store.now c.requires.sound

pub returns-then-not-write_labels-clause-members : goal.returns-then-not-write_labels-clause-members
returns-then-not-write_labels-clause-members g c = (leaves g (goal.at.returns-then-not-write_labels-clause-members g c).After-write_labels).0

pub returns-then-not-write_labels-clause-untouched : goal.returns-then-not-write_labels-clause-untouched
returns-then-not-write_labels-clause-untouched g c = (leaves g (goal.at.returns-then-not-write_labels-clause-untouched g c).After-write_labels).1

pub returns-then-not-write_labels-clause-most : goal.returns-then-not-write_labels-clause-most
returns-then-not-write_labels-clause-most g c = (leaves g (goal.at.returns-then-not-write_labels-clause-most g c).After-write_labels).2

pub returns-clause-members : goal.returns-clause-members
returns-clause-members g c = (leaves g (goal.at.returns-clause-members g c).After-write_labels).0

pub returns-clause-untouched : goal.returns-clause-untouched
returns-clause-untouched g c = (leaves g (goal.at.returns-clause-untouched g c).After-write_labels).1

pub returns-clause-most : goal.returns-clause-most
returns-clause-most g c = (leaves g (goal.at.returns-clause-most g c).After-write_labels).2

pub returns-then-sequence-ge-PAST_NUMBERS-clause-untouched : goal.returns-then-sequence-ge-PAST_NUMBERS-clause-untouched
returns-then-sequence-ge-PAST_NUMBERS-clause-untouched g c q bad = told_same (g.R.Rack.bytes (rack_of c.args.store.now) q)
