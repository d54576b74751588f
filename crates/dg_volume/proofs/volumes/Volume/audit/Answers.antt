use Rattle.std.proofs.Common.{refl}
use Rattle.dg_volume.proofs.AuditSteps.{audited, findings_told, unaudited}
use Rattle.dg_volume.proofs.VolumeLaws.{reads_leave}
use Rattle.dg_volume.specs.Volumes.{shape_of}
use Rattle.dg_volume.proofs.volumes.Volume.audit.Goals as goal

pub returns-clause-steps : goal.returns-clause-steps
returns-clause-steps g c =
    let a = c.args.self.now in
    let keeps = c.audit.ensures.keeps in
    let found = rw c.in-Some.is at c.in_ok-found.ensures.found in
    let there = rw c.in-Some.is at c.in_ok-found.ensures.there in
    audited g.S.InPhase g.R.Rack a (record a { store = c.audit.new.view; levels = c.audit.new.levels }) c.in_ok-lines.lines
    (record { beside = record { phase_is = refl; pending = refl; homes = refl; copies = refl; in_use = refl }; levels = c.audit.ensures.levels; sound = keeps.sound; reads = keeps.goes; stands = keeps.stands; labeled = c.requires.well.labeled; label_is = refl })
    c.requires.well.array.table
    (record {
      there = λ told v stands block low is. there told v stands block low is;
      findings = λ told v stands. findings_told (shape_of a).l (shape_of a).n v c.in-Some.found c.in_ok-lines.lines c.in_ok-lines.ensures (found told v stands);
    })

pub returns-in_default-clause-steps : goal.returns-in_default-clause-steps
returns-in_default-clause-steps g c =
    let a = c.args.self.now in
    let keeps = c.audit.ensures.keeps in
    let gone = rw c.in_default.is at c.in_ok-found.ensures.gone in
    unaudited g.S.InPhase g.R.Rack a (record a { store = c.audit.new.view; levels = c.audit.new.levels })
    (record { beside = record { phase_is = refl; pending = refl; homes = refl; copies = refl; in_use = refl }; levels = c.audit.ensures.levels; sound = keeps.sound; reads = keeps.goes; stands = keeps.stands; labeled = c.requires.well.labeled; label_is = refl })
    gone

pub returns-in_err-found-clause-leaves : goal.returns-in_err-found-clause-leaves
returns-in_err-found-clause-leaves g c =
    let a = c.args.self.now in
    let keeps = c.audit.ensures.keeps in
    reads_leave g.S.InPhase g.R.Rack a (record a { store = c.audit.new.view; levels = c.audit.new.levels }) c.requires.well
    (record { beside = record { phase_is = refl; pending = refl; homes = refl; copies = refl; in_use = refl }; levels = c.audit.ensures.levels; sound = keeps.sound; reads = keeps.goes; stands = keeps.stands; labeled = c.requires.well.labeled; label_is = refl })

pub returns-in_default-clause-leaves : goal.returns-in_default-clause-leaves
returns-in_default-clause-leaves g c =
    let a = c.args.self.now in
    let keeps = c.audit.ensures.keeps in
    reads_leave g.S.InPhase g.R.Rack a (record a { store = c.audit.new.view; levels = c.audit.new.levels }) c.requires.well
    (record { beside = record { phase_is = refl; pending = refl; homes = refl; copies = refl; in_use = refl }; levels = c.audit.ensures.levels; sound = keeps.sound; reads = keeps.goes; stands = keeps.stands; labeled = c.requires.well.labeled; label_is = refl })

pub returns-in_err-lines-clause-leaves : goal.returns-in_err-lines-clause-leaves
returns-in_err-lines-clause-leaves g c =
    let a = c.args.self.now in
    let keeps = c.audit.ensures.keeps in
    reads_leave g.S.InPhase g.R.Rack a (record a { store = c.audit.new.view; levels = c.audit.new.levels }) c.requires.well
    (record { beside = record { phase_is = refl; pending = refl; homes = refl; copies = refl; in_use = refl }; levels = c.audit.ensures.levels; sound = keeps.sound; reads = keeps.goes; stands = keeps.stands; labeled = c.requires.well.labeled; label_is = refl })

pub returns-clause-leaves : goal.returns-clause-leaves
returns-clause-leaves g c =
    let a = c.args.self.now in
    let keeps = c.audit.ensures.keeps in
    reads_leave g.S.InPhase g.R.Rack a (record a { store = c.audit.new.view; levels = c.audit.new.levels }) c.requires.well
    (record { beside = record { phase_is = refl; pending = refl; homes = refl; copies = refl; in_use = refl }; levels = c.audit.ensures.levels; sound = keeps.sound; reads = keeps.goes; stands = keeps.stands; labeled = c.requires.well.labeled; label_is = refl })
