use Rattle.std.proofs.Common.{◌≡◌, ◌∙◌, ◌<◌, false, refl, sym, ap, arith}
use Rattle.dg_model.specs.Marks.{with_mark}
use Rattle.dg_model.specs.States.{has_lost}
use Rattle.dg_model.specs.declared.shapes.Shape.{Shape}
use Rattle.dg_volume.proofs.WriteSteps.{HasFollowed, HasStored, labels_followed, lost_before, lost_now, past_end, written_broken, written_to, written_whole}
use Rattle.dg_volume.specs.Volumes.{line_of, loose_phase, members_of, shape_of, worn_phase}
use Rattle.dg_volume.specs.declared.phases.Loose.{Loose}
use Rattle.dg_volume.specs.declared.phases.Worn.{Worn}
use Rattle.dg_volume.specs.declared.volumes.Volume.{Volume}
use Rattle.dg_volume.proofs.volumes.Volume.write.Goals as goal

pub returns-in-AllLost : goal.returns-in-AllLost
returns-in-AllLost g c =
    let a = c.args.self in
    let k = c.in_ok-write_opened.ensures in
    let n : c.shape.result.now.n ≡ (shape_of a).n = ap (λ (x : Shape). x.n) c.shape.ensures in
    let within : c.args.block < (shape_of a).n = omega arith in
    let whole : has_lost (shape_of a) (members_of a) ≡ false = sym c.is_degraded.ensures ∙ c.if-is_degraded.false in
    lost_now g.S.InPhase g.R.Rack a c.args.block c.args.buf.now (record a { store = c.write_opened.new.store; label = c.write_opened.new.label }) c.requires.well refl
    (record {
      within = within;
      whole = whole;
      first = k.falls;
      lost = k.lost c.in-AllLost.is;
      most = k.most;
      beside = record { phase_is = refl; pending = refl; homes = refl; copies = refl; in_use = refl };
      levels = refl;
      labels = k.label (line_of a);
    })

pub returns-then-branch : goal.returns-then-branch
returns-then-branch g c =
    let a = c.args.self in
    let k = c.in_ok-write_opened.ensures in
    let f = c.in_ok-follow.ensures in
    let n : c.shape.result.now.n ≡ (shape_of a).n = ap (λ (x : Shape). x.n) c.shape.ensures in
    let within : c.args.block < (shape_of a).n = omega arith in
    let whole : has_lost (shape_of a) (members_of a) ≡ false = sym c.is_degraded.ensures ∙ c.if-is_degraded.false in
    let stored : HasStored g.S.InPhase loose_phase g.R.Rack a c.args.block c.args.buf.now c.write_opened.new.store c.follow.new.store = record {
      within = within;
      whole = whole;
      first = k.falls;
      stored = k.stored c.in_default.is;
      most = k.most;
      sound = f.sound;
      reads = f.reads;
      stands = f.stands;
    } in
    let followed : HasFollowed g.S.InPhase loose_phase g.R.Rack a c.args.block c.args.buf.now c.write_opened.new.store c.follow.new.store c.in-Some.inference c.follow.new.inference = record {
      size = f.size;
      whole = f.whole c.if-branch.true;
      inferred = f.inferred c.if-branch.true;
      marks = f.marks c.if-branch.true;
      few = f.few c.if-branch.true;
    } in
    let b : Volume Loose g.row.R.Denot = record {
      store = c.follow.new.store;
      phase = record { inference = c.follow.new.inference };
      pending = a.pending;
      homes = a.homes;
      copies = c.new-copies.result;
      in_use = c.uncut.new.self;
      levels = c.follow.new.levels;
      given = a.given;
      label = c.write_opened.new.label;
    } in
    written_to g.S.InPhase loose_phase g.R.Rack a c.args.block c.args.buf.now c.write_opened.new.store b c.requires.well refl
    (written_whole g.S.InPhase loose_phase g.R.Rack a c.args.block c.args.buf.now c.write_opened.new.store c.in-Some.inference c.follow.new.inference b c.requires.well stored
    f.levels refl (c.new-copies.ensures ∙ c.new.ensures.items)
    (record { boundaries = c.uncut.ensures.boundaries; long = c.uncut.ensures.long; live = c.uncut.ensures.live; cut = c.uncut.ensures.cut }) (rw c.in-Some.is at c.into_inference.ensures.kept) refl refl followed (labels_followed g.R.Rack (line_of a) a.store c.write_opened.new.store b.store a.label c.write_opened.new.label (k.label (line_of a)) f.reads))

pub returns : goal.returns
returns g c =
    let a = c.args.self in
    let k = c.in_ok-write_opened.ensures in
    let f = c.in_ok-follow.ensures in
    let n : c.shape.result.now.n ≡ (shape_of a).n = ap (λ (x : Shape). x.n) c.shape.ensures in
    let within : c.args.block < (shape_of a).n = omega arith in
    let whole : has_lost (shape_of a) (members_of a) ≡ false = sym c.is_degraded.ensures ∙ c.if-is_degraded.false in
    let stored : HasStored g.S.InPhase worn_phase g.R.Rack a c.args.block c.args.buf.now c.write_opened.new.store c.follow.new.store = record {
      within = within;
      whole = whole;
      first = k.falls;
      stored = k.stored c.in_default.is;
      most = k.most;
      sound = f.sound;
      reads = f.reads;
      stands = f.stands;
    } in
    let b : Volume Worn g.row.R.Denot = record {
      store = c.follow.new.store;
      phase = record {};
      pending = c.worn_marks.result;
      homes = a.homes;
      copies = c.new-copies.result;
      in_use = c.uncut.new.self;
      levels = c.follow.new.levels;
      given = a.given;
      label = c.write_opened.new.label;
    } in
    written_to g.S.InPhase worn_phase g.R.Rack a c.args.block c.args.buf.now c.write_opened.new.store b c.requires.well refl
    (written_broken g.S.InPhase worn_phase g.R.Rack a c.args.block c.args.buf.now c.write_opened.new.store c.in-Some.inference b c.requires.well stored
    f.levels refl (c.new-copies.ensures ∙ c.new.ensures.items)
    (record { boundaries = c.uncut.ensures.boundaries; long = c.uncut.ensures.long; live = c.uncut.ensures.live; cut = c.uncut.ensures.cut }) (rw c.in-Some.is at c.into_inference.ensures.kept) refl refl
    (c.worn_marks.ensures ∙ ap (λ xs. with_mark xs c.args.block) (f.kept c.if-branch.false)) (f.lost c.if-branch.false) (labels_followed g.R.Rack (line_of a) a.store c.write_opened.new.store b.store a.label c.write_opened.new.label (k.label (line_of a)) f.reads))

pub returns-then-block-shape : goal.returns-then-block-shape
returns-then-block-shape g c =
    let a = c.args.self in
    let n : c.shape.result.now.n ≡ (shape_of a).n = ap (λ (x : Shape). x.n) c.shape.ensures in
    past_end g.S.InPhase g.R.Rack a c.args.block c.args.buf.now c.requires.well (omega arith)

pub returns-then-is_degraded : goal.returns-then-is_degraded
returns-then-is_degraded g c =
    let a = c.args.self in
    let n : c.shape.result.now.n ≡ (shape_of a).n = ap (λ (x : Shape). x.n) c.shape.ensures in
    lost_before g.S.InPhase g.R.Rack a c.args.block c.args.buf.now c.requires.well (omega arith) (sym c.is_degraded.ensures ∙ c.if-is_degraded.true)

pub uncut-requires : goal.uncut-requires
uncut-requires g c =
    let a = c.args.self in
    let n : c.shape.result.now.n ≡ (shape_of a).n = ap (λ (x : Shape). x.n) c.shape.ensures in
    omega (arith, n, c.requires.well.in_use.marks)
