use Rattle.std.proofs.Common.{◌≡◌, ◌∙◌, ◌<◌, false, inr, refl, sym, ap, subst, arith}
use Rattle.std.specs.Prelude.{slice_set}
use Rattle.std.proofs.lemmas.Bool.{false≢true}
use Rattle.dg_model.specs.Marks.{with_mark}
use Rattle.dg_model.specs.Sites.{IsSited}
use Rattle.dg_model.specs.States.{has_lost}
use Rattle.dg_model.specs.Tables.{Table}
use Rattle.dg_model.specs.declared.shapes.Shape.{Shape}
use Rattle.dg_volume.proofs.WriteSteps.{HasFollowed, HasStored, labels_followed, loosened_leaves, lost_before, lost_now, past_end, uncut_in_use, unwritten_leaves, written_broken, written_to, written_whole}
use Rattle.dg_volume.specs.Volumes.{any_phase, line_of, members_of, shape_of, table_of}
use Rattle.dg_volume.specs.declared.phases.AnyPhase.{AnyPhase}
use Rattle.dg_volume.specs.declared.phases.AnyPhase.TheVariants.{Loose}
use Rattle.dg_volume.specs.declared.volumes.Volume.{Volume}
use Rattle.dg_volume.proofs.VolumeLaws.{leaves_none}
use Rattle.dg_volume.proofs.writes.Volume+AnyPhase+R.write_block.Goals as goal

pub returns-in-AllLost-clause-steps : goal.returns-in-AllLost-clause-steps
returns-in-AllLost-clause-steps g c =
    let a = c.args.self.now in
    let k = c.in-Ok.ensures in
    let n : c.shape.result.now.n ≡ (shape_of a).n = ap (λ (x : Shape). x.n) c.shape.ensures in
    let within : c.args.block < (shape_of a).n = omega arith in
    let whole : has_lost (shape_of a) (members_of a) ≡ false = sym c.is_degraded.ensures ∙ c.if-is_degraded.false in
    lost_now any_phase g.R.Rack a c.args.block c.args.buf.now (record a { store = c.write_opened.new.store; label = c.write_opened.new.label }) c.requires.well refl
    (record {
      within = within;
      whole = whole;
      first = k.falls;
      lost = k.lost c.in-AllLost.is;
      most = k.most;
      beside = record { phase_is = refl; pending = refl; homes = refl; copies = refl; in_use = refl };
      levels = refl;
      labels = k.label (line_of a);
    })

pub returns-then-whole-clause-steps : goal.returns-then-whole-clause-steps
returns-then-whole-clause-steps g c =
    let a = c.args.self.now in
    let k = c.in-Ok.ensures in
    let f = c.in-Ok-followed.ensures in
    let n : c.shape.result.now.n ≡ (shape_of a).n = ap (λ (x : Shape). x.n) c.shape.ensures in
    let within : c.args.block < (shape_of a).n = omega arith in
    let whole : has_lost (shape_of a) (members_of a) ≡ false = sym c.is_degraded.ensures ∙ c.if-is_degraded.false in
    let stored : HasStored any_phase any_phase g.R.Rack a c.args.block c.args.buf.now c.write_opened.new.store c.follow-followed.new.store = record {
      within = within;
      whole = whole;
      first = k.falls;
      stored = k.stored c.in_default-written.is;
      most = k.most;
      sound = f.sound;
      reads = f.reads;
      stands = f.stands;
    } in
    let followed : HasFollowed any_phase any_phase g.R.Rack a c.args.block c.args.buf.now c.write_opened.new.store c.follow-followed.new.store c.in-Some.inference c.follow-followed.new.inference = record {
      size = f.size;
      whole = f.whole c.if-whole.true;
      inferred = f.inferred c.if-whole.true;
      marks = f.marks c.if-whole.true;
      few = f.few c.if-whole.true;
    } in
    let b : Volume AnyPhase g.row.R.Denot = record a {
      store = c.follow-followed.new.store;
      label = c.write_opened.new.label;
      phase = Loose (record { inference = c.follow-followed.new.inference });
      copies = c.new-3.result;
      in_use = c.uncut.new.self;
      levels = c.follow-followed.new.levels;
    } in
    written_to any_phase any_phase g.R.Rack a c.args.block c.args.buf.now c.write_opened.new.store b c.requires.well refl
    (written_whole any_phase any_phase g.R.Rack a c.args.block c.args.buf.now c.write_opened.new.store c.in-Some.inference c.follow-followed.new.inference b c.requires.well stored
    f.levels refl (c.new-3.ensures ∙ c.new-2.ensures.items)
    (record { boundaries = c.uncut.ensures.boundaries; long = c.uncut.ensures.long; live = c.uncut.ensures.live; cut = c.uncut.ensures.cut }) (rw c.in-Some.is at c.take_inference.ensures.kept) refl refl followed (labels_followed g.R.Rack (line_of a) a.store c.write_opened.new.store b.store a.label c.write_opened.new.label (k.label (line_of a)) f.reads))

pub returns-clause-steps : goal.returns-clause-steps
returns-clause-steps g c =
    let a = c.args.self.now in
    let k = c.in-Ok.ensures in
    let f = c.in-Ok-followed.ensures in
    let n : c.shape.result.now.n ≡ (shape_of a).n = ap (λ (x : Shape). x.n) c.shape.ensures in
    let within : c.args.block < (shape_of a).n = omega arith in
    let whole : has_lost (shape_of a) (members_of a) ≡ false = sym c.is_degraded.ensures ∙ c.if-is_degraded.false in
    let stored : HasStored any_phase any_phase g.R.Rack a c.args.block c.args.buf.now c.write_opened.new.store c.follow-followed.new.store = record {
      within = within;
      whole = whole;
      first = k.falls;
      stored = k.stored c.in_default-written.is;
      most = k.most;
      sound = f.sound;
      reads = f.reads;
      stands = f.stands;
    } in
    let b : Volume AnyPhase g.row.R.Denot = record a {
      store = c.follow-followed.new.store;
      label = c.write_opened.new.label;
      phase = c.take_inference.new.phase;
      pending = c.worn_marks.result;
      copies = c.new-3.result;
      in_use = c.uncut.new.self;
      levels = c.follow-followed.new.levels;
    } in
    written_to any_phase any_phase g.R.Rack a c.args.block c.args.buf.now c.write_opened.new.store b c.requires.well refl
    (written_broken any_phase any_phase g.R.Rack a c.args.block c.args.buf.now c.write_opened.new.store c.in-Some.inference b c.requires.well stored
    f.levels refl (c.new-3.ensures ∙ c.new-2.ensures.items)
    (record { boundaries = c.uncut.ensures.boundaries; long = c.uncut.ensures.long; live = c.uncut.ensures.live; cut = c.uncut.ensures.cut }) (rw c.in-Some.is at c.take_inference.ensures.kept) c.take_inference.ensures.left c.take_inference.ensures.left_phase
    (c.worn_marks.ensures ∙ ap (λ xs. with_mark xs c.args.block) (f.kept c.if-whole.false)) (f.lost c.if-whole.false) (labels_followed g.R.Rack (line_of a) a.store c.write_opened.new.store b.store a.label c.write_opened.new.label (k.label (line_of a)) f.reads))

pub returns-then-whole-clause-leaves : goal.returns-then-whole-clause-leaves
returns-then-whole-clause-leaves g c = let steps = returns-then-whole-clause-steps g c in steps.leaves

pub returns-clause-leaves : goal.returns-clause-leaves
returns-clause-leaves g c = let steps = returns-clause-steps g c in steps.leaves

pub returns-in-AllLost-clause-leaves : goal.returns-in-AllLost-clause-leaves
returns-in-AllLost-clause-leaves g c = let steps = returns-in-AllLost-clause-steps g c in steps.leaves

pub returns-in_default-clause-leaves : goal.returns-in_default-clause-leaves
returns-in_default-clause-leaves g c =
    let a = c.args.self.now in
    let k = c.in_default.ensures in
    let b : Volume AnyPhase g.row.R.Denot = record a {
      store = c.write_opened.new.store;
      label = c.write_opened.new.label;
      phase = c.loosen.new.phase;
      copies = c.new-in_default.result;
    } in
    let whole : has_lost (shape_of a) (members_of a) ≡ false = sym c.is_degraded.ensures ∙ c.if-is_degraded.false in
    unwritten_leaves any_phase any_phase g.R.Rack a b c.requires.well k.falls k.err.written refl refl refl refl (c.new-in_default.ensures ∙ c.new.ensures.items) c.loosen.ensures.kept
    (λ worn. false≢true (sym whole ∙ c.requires.well.worn (c.loosen.ensures.worn worn))) c.loosen.ensures.loose (k.label (line_of a))

pub returns-in_default-followed-clause-leaves : goal.returns-in_default-followed-clause-leaves
returns-in_default-followed-clause-leaves g c =
    let a = c.args.self.now in
    let k = c.in-Ok.ensures in
    let f = c.in_default-followed.ensures in
    let b : Volume AnyPhase g.row.R.Denot = record a {
      store = c.follow-followed.new.store;
      label = c.write_opened.new.label;
      phase = Loose (record { inference = c.follow-followed.new.inference });
      copies = c.new-3.result;
      in_use = c.uncut.new.self;
      levels = c.follow-followed.new.levels;
    } in
    let n : c.shape.result.now.n ≡ (shape_of a).n = ap (λ (x : Shape). x.n) c.shape.ensures in
    let within : c.args.block < (shape_of a).n = omega arith in
    let stored = k.stored c.in_default-written.is in
    let sited = subst (λ (t : Table). IsSited (table_of a) c.args.block t) (sym f.reads.table) stored.sited in
    loosened_leaves any_phase any_phase g.R.Rack a c.write_opened.new.store c.in-Some.inference c.follow-followed.new.inference b c.requires.well
    (uncut_in_use a b c.args.block (f.reads.keeps.shape ∙ k.falls.stays.shape) within sited
    (record { boundaries = c.uncut.ensures.boundaries; long = c.uncut.ensures.long; live = c.uncut.ensures.live; cut = c.uncut.ensures.cut }) c.requires.well.in_use) c.uncut.ensures.boundaries (λ i. (c.uncut.ensures.live i).items) c.uncut.ensures.long k.falls f.sound f.reads f.levels refl
    (c.new-3.ensures ∙ c.new-2.ensures.items) (rw c.in-Some.is at c.take_inference.ensures.kept) refl refl f.size f.room
    (labels_followed g.R.Rack (line_of a) a.store c.write_opened.new.store b.store a.label c.write_opened.new.label (k.label (line_of a)) f.reads)

pub returns-then-block-shape-clause-leaves : goal.returns-then-block-shape-clause-leaves
returns-then-block-shape-clause-leaves g c = leaves_none any_phase g.R.Rack c.args.self.now c.requires.well

pub returns-then-is_degraded-clause-leaves : goal.returns-then-is_degraded-clause-leaves
returns-then-is_degraded-clause-leaves g c = leaves_none any_phase g.R.Rack c.args.self.now c.requires.well

pub returns-then-block-shape-clause-steps : goal.returns-then-block-shape-clause-steps
returns-then-block-shape-clause-steps g c =
    let a = c.args.self.now in
    let n : c.shape.result.now.n ≡ (shape_of a).n = ap (λ (x : Shape). x.n) c.shape.ensures in
    past_end any_phase g.R.Rack a c.args.block c.args.buf.now c.requires.well (omega arith)

pub returns-then-is_degraded-clause-steps : goal.returns-then-is_degraded-clause-steps
returns-then-is_degraded-clause-steps g c =
    let a = c.args.self.now in
    let n : c.shape.result.now.n ≡ (shape_of a).n = ap (λ (x : Shape). x.n) c.shape.ensures in
    lost_before any_phase g.R.Rack a c.args.block c.args.buf.now c.requires.well (omega arith) (sym c.is_degraded.ensures ∙ c.if-is_degraded.true)

pub returns-in_default-followed-clause-err : goal.returns-in_default-followed-clause-err
returns-in_default-followed-clause-err g c = λ told V stands.
    let stored = c.in-Ok.ensures.stored c.in_default-written.is in
    inr (c.in_default-followed.ensures.stands (slice_set V c.args.block c.args.buf.now) (stored.sets V stands))

pub uncut-requires : goal.uncut-requires
uncut-requires g c =
    let a = c.args.self.now in
    let n : c.shape.result.now.n ≡ (shape_of a).n = ap (λ (x : Shape). x.n) c.shape.ensures in
    omega (arith, n, c.requires.well.in_use.marks)
