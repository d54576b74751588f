use Rattle.std.proofs.Common.{◌∙◌, ap, ◌+◌, ◌*◌, length}
use Rattle.dg_pair.specs.declared.boundaries.Boundary.{Boundary}
use Rattle.dg_pair.specs.Boundaries.{members_of, number_of, size_of, slots_of}
use Rattle.dg_pair.proofs.NoteLemmas.{note_torn, note_holds, note_fits, same_as}
use Rattle.dg_pair.proofs.CaseLemmas.{leaves_fit, only_at}
use Rattle.dg_pair.proofs.MadeLemmas.{noted_or, tried_made}
use Rattle.dg_pair.proofs.boundaries.Boundary.note.Goals as goal

pub returns-clause-stays : goal.returns-clause-stays
returns-clause-stays g c = λ not_fell q. c.note_any-next.ensures.stays not_fell q ∙ ap (λ (x : Boundary). members_of x q) c.replace.ensures.value

pub returns-clause-kept : goal.returns-clause-kept
returns-clause-kept g c = rw (← c.replace.ensures.value) (
    let p = 2 * number_of c.replace.result + c.args.side in
    let torn = note_torn c.note_any-next.result.1 (members_of c.replace.result p) p c.args.place c.args.buf.now (g.R.Rack.bytes c.args.rack.now) (g.R.Rack.bytes c.note_any-next.new.rack)
    c.note_any-next.ensures.not_good (rw c.replace.ensures.value c.requires.fits) c.note_any-next.ensures.noted c.note_any-next.ensures.torn
    (λ e. same_as _ _ (ap (λ r. g.R.Rack.bytes r p) (c.note_any-next.ensures.quiet e))) c.note_any-next.ensures.other_bytes in
    λ x v below had. note_holds (size_of c.replace.result) (slots_of c.replace.result) c.args.place (length c.args.buf.now) (members_of c.replace.result) (members_of c.note_any-next.result.0) _ _ _ _ c.note_any-next.ensures.falls torn
    (number_of c.replace.result) x v below (rw c.replace.ensures.value c.requires.beside) had)

pub returns-clause-leaves : goal.returns-clause-leaves
returns-clause-leaves g c = rw (← c.replace.ensures.value) (
    let p = 2 * number_of c.replace.result + c.args.side in
    let torn = note_torn c.note_any-next.result.1 (members_of c.replace.result p) p c.args.place c.args.buf.now (g.R.Rack.bytes c.args.rack.now) (g.R.Rack.bytes c.note_any-next.new.rack)
    c.note_any-next.ensures.not_good (rw c.replace.ensures.value c.requires.fits) c.note_any-next.ensures.noted c.note_any-next.ensures.torn
    (λ e. same_as _ _ (ap (λ r. g.R.Rack.bytes r p) (c.note_any-next.ensures.quiet e))) c.note_any-next.ensures.other_bytes in
    leaves_fit g.R.Rack (members_of c.replace.result) c.replace.result c.note_any-next.result.0 _ _ (rw c.replace.ensures.value c.requires.well) c.note_any-next.ensures.leaves c.note_any-next.ensures.falls
    (note_fits (size_of c.replace.result) (slots_of c.replace.result) c.args.place (length c.args.buf.now) (members_of c.replace.result) (members_of c.note_any-next.result.0) _ _ _ _ c.note_any-next.ensures.falls torn
    (rw c.replace.ensures.value c.requires.room))
    (only_at g.R.Rack c.replace.result _ _ (rw c.replace.ensures.value c.requires.well)
    (tried_made g.R.Rack g.met.R.Rack.made_none (members_of c.replace.result) p _ _ _ (noted_or c.note_any-next.result.1) c.note_any-next.ensures.not_good c.note_any-next.ensures.made c.note_any-next.ensures.quiet)))

pub returns-clause-not_good : goal.returns-clause-not_good
returns-clause-not_good g c = rw (← c.replace.ensures.value) c.note_any-next.ensures.not_good

pub returns-clause-made : goal.returns-clause-made
returns-clause-made g c = rw (← c.replace.ensures.value) (
    tried_made g.R.Rack g.met.R.Rack.made_none (members_of c.replace.result) (2 * number_of c.replace.result + c.args.side) _ _ _ (noted_or c.note_any-next.result.1) c.note_any-next.ensures.not_good c.note_any-next.ensures.made
    c.note_any-next.ensures.quiet)
