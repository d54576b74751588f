use Rattle.std.proofs.Common.{ap, ◌+◌, ◌*◌}
use Rattle.dg_pair.specs.Boundaries.{members_of, number_of, size_of, slots_of}
use Rattle.dg_pair.proofs.BesideLemmas.{extend_front, extend_holds, extend_fits}
use Rattle.dg_pair.proofs.CaseLemmas.{extended_at, leaves_fit}
use Rattle.dg_pair.proofs.MadeLemmas.{extended_or, tried_extend}
use Rattle.dg_pair.proofs.NoteLemmas.{same_as}
use Rattle.dg_pair.proofs.boundaries.Boundary.extend.Goals as goal

pub returns-clause-leaves : goal.returns-clause-leaves
returns-clause-leaves g c = rw (← c.replace.ensures.value) (
    let p = 2 * number_of c.replace.result + c.args.side in
    let front = extend_front c.extend_any-next.result.1 p c.args.length (g.R.Rack.bytes c.args.rack.now) (g.R.Rack.bytes c.extend_any-next.new.rack) c.extend_any-next.ensures.extended c.extend_any-next.ensures.torn
    (λ e. same_as _ _ (ap (λ r. g.R.Rack.bytes r p) (c.extend_any-next.ensures.quiet e))) c.extend_any-next.ensures.other_bytes in
    leaves_fit g.R.Rack (members_of c.replace.result) c.replace.result c.extend_any-next.result.0 _ _ (rw c.replace.ensures.value c.requires.well) c.extend_any-next.ensures.leaves c.extend_any-next.ensures.falls
    (extend_fits (size_of c.replace.result) (slots_of c.replace.result) (members_of c.replace.result) (members_of c.extend_any-next.result.0) _ _ _ _ c.extend_any-next.ensures.falls (rw c.replace.ensures.value c.requires.room) front)
    (extended_at g.R.Rack c.replace.result _ _ (rw c.replace.ensures.value c.requires.well)
    (tried_extend g.R.Rack g.met.R.Rack.made_none (members_of c.replace.result) p _ _ _ (extended_or c.extend_any-next.result.1) c.extend_any-next.ensures.not_good c.extend_any-next.ensures.made c.extend_any-next.ensures.quiet)))

pub returns-clause-kept : goal.returns-clause-kept
returns-clause-kept g c = rw (← c.replace.ensures.value) (
    let p = 2 * number_of c.replace.result + c.args.side in
    let front = extend_front c.extend_any-next.result.1 p c.args.length (g.R.Rack.bytes c.args.rack.now) (g.R.Rack.bytes c.extend_any-next.new.rack) c.extend_any-next.ensures.extended c.extend_any-next.ensures.torn
    (λ e. same_as _ _ (ap (λ r. g.R.Rack.bytes r p) (c.extend_any-next.ensures.quiet e))) c.extend_any-next.ensures.other_bytes in
    extend_holds (size_of c.replace.result) (slots_of c.replace.result) (members_of c.replace.result) (members_of c.extend_any-next.result.0) _ _ _ _ c.extend_any-next.ensures.falls (rw c.replace.ensures.value c.requires.room) front
    (number_of c.replace.result))

pub returns-clause-made : goal.returns-clause-made
returns-clause-made g c = rw (← c.replace.ensures.value) (
    tried_extend g.R.Rack g.met.R.Rack.made_none (members_of c.replace.result) (2 * number_of c.replace.result + c.args.side) _ _ _ (extended_or c.extend_any-next.result.1) c.extend_any-next.ensures.not_good c.extend_any-next.ensures.made
    c.extend_any-next.ensures.quiet)
