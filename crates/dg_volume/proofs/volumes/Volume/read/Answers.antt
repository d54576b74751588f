use Rattle.std.proofs.Common.{◌≡◌, ◌∙◌, refl, ap, sym, subst, arith}
use Rattle.dg_model.specs.declared.events.Event.TheVariants.{Read}
use Rattle.dg_model.specs.declared.replies.Reply.{Reply}
use Rattle.dg_model.specs.declared.shapes.Shape.{Shape}
use Rattle.dg_volume.proofs.VolumeLaws.{reads_leave}
use Rattle.dg_volume.proofs.VolumeSteps.{false_of, read_by, steps_cut, steps_data, steps_gone}
use Rattle.dg_volume.proofs.VolumeLaws.{leaves_none}
use Rattle.dg_volume.specs.Volumes.{StepsTo, shape_of}
use Rattle.dg_volume.proofs.volumes.Volume.read.Goals as goal

pub returns-in-Got-clause-leaves : goal.returns-in-Got-clause-leaves
returns-in-Got-clause-leaves g c =
    let a = c.args.self.now in
    let k = c.in-Got.ensures in
    reads_leave g.S.InPhase g.R.Rack a (record a { store = c.read.new.self }) c.requires.well (read_by g.S.InPhase g.R.Rack a c.read.new.self c.requires.well k.sound k.reads k.stands)

pub returns-in-Gone-clause-leaves : goal.returns-in-Gone-clause-leaves
returns-in-Gone-clause-leaves g c =
    let a = c.args.self.now in
    let k = c.in-Gone.ensures in
    reads_leave g.S.InPhase g.R.Rack a (record a { store = c.read.new.self }) c.requires.well (read_by g.S.InPhase g.R.Rack a c.read.new.self c.requires.well k.sound k.reads k.stands)

pub returns-in-Got-clause-steps : goal.returns-in-Got-clause-steps
returns-in-Got-clause-steps g c reply is =
    let a = c.args.self.now in
    let b = record a { store = c.read.new.self } in
    let k = c.in-Got.ensures in
    let n : c.shape.result.now.n ≡ (shape_of a).n = ap (λ (x : Shape). x.n) c.shape.ensures in
    subst (λ (r : Reply). StepsTo g.S.InPhase g.S.InPhase g.R.Rack a (Read c.args.block) r b) (sym is.2)
    (steps_data g.S.InPhase g.R.Rack a c.args.block is.0 c.read.new.buf b
    (record { within = omega arith; read = read_by g.S.InPhase g.R.Rack a c.read.new.self c.requires.well k.sound k.reads k.stands; most = k.most; once = k.once })
    (false_of _ (λ gone. cc (k.gone.1 gone))) (sym c.is_cut.ensures ∙ c.if-is_cut.false) is.1 (λ tells. k.got refl tells) (λ none. k.zeros none))

pub returns-in-Gone-clause-steps : goal.returns-in-Gone-clause-steps
returns-in-Gone-clause-steps g c reply is =
    let a = c.args.self.now in
    let b = record a { store = c.read.new.self } in
    let k = c.in-Gone.ensures in
    let n : c.shape.result.now.n ≡ (shape_of a).n = ap (λ (x : Shape). x.n) c.shape.ensures in
    subst (λ (r : Reply). StepsTo g.S.InPhase g.S.InPhase g.R.Rack a (Read c.args.block) r b) (sym is)
    (steps_gone g.S.InPhase g.R.Rack a c.args.block b
    (record { within = omega arith; read = read_by g.S.InPhase g.R.Rack a c.read.new.self c.requires.well k.sound k.reads k.stands; most = k.most; once = k.once })
    (k.gone.0 refl))

pub returns-then-block-shape-clause-leaves : goal.returns-then-block-shape-clause-leaves
returns-then-block-shape-clause-leaves g c = leaves_none g.S.InPhase g.R.Rack c.args.self.now c.requires.well

pub returns-then-is_cut-clause-leaves : goal.returns-then-is_cut-clause-leaves
returns-then-is_cut-clause-leaves g c = leaves_none g.S.InPhase g.R.Rack c.args.self.now c.requires.well

pub returns-then-is_cut-clause-steps : goal.returns-then-is_cut-clause-steps
returns-then-is_cut-clause-steps g c reply is =
    let a = c.args.self.now in
    let n : c.shape.result.now.n ≡ (shape_of a).n = ap (λ (x : Shape). x.n) c.shape.ensures in
    subst (λ (r : Reply). StepsTo g.S.InPhase g.S.InPhase g.R.Rack a (Read c.args.block) r a) (sym is)
    (steps_cut g.S.InPhase g.R.Rack a c.args.block c.requires.well (omega arith) (sym c.is_cut.ensures ∙ c.if-is_cut.true))
