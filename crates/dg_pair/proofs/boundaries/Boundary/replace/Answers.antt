use Rattle.std.proofs.Common.{ap, inl, inr, ◌+◌, ◌*◌}
use Rattle.dg_pair.specs.Boundaries.{members_of, number_of, size_of, slots_of}
use Rattle.dg_pair.specs.Calls.{replaced}
use Rattle.dg_pair.proofs.CaseLemmas.{leaves_fit}
use Rattle.dg_pair.proofs.MadeLemmas.{replace_at, replace_made}
use Rattle.dg_pair.proofs.NoteLemmas.{same_as}
use Rattle.dg_pair.proofs.ReplaceLemmas.{replace_holds, replace_fits}
use Rattle.dg_pair.proofs.boundaries.Boundary.replace.Goals as goal

pub returns-clause-leaves : goal.returns-clause-leaves
returns-clause-leaves g c = rw (← c.replace.ensures.value) (
    let p = 2 * number_of c.replace.result + c.args.side in
    leaves_fit g.R.Rack (replaced c.replace_any-next.result.1 p (members_of c.replace.result)) c.replace.result c.replace_any-next.result.0 _ _ (rw c.replace.ensures.value c.requires.well) c.replace_any-next.ensures.leaves
    (λ q. inl (c.replace_any-next.ensures.members q))
    (replace_fits c.replace_any-next.result.1 p (size_of c.replace.result) (slots_of c.replace.result) c.args.size (members_of c.replace.result) (members_of c.replace_any-next.result.0) _ _
    c.replace_any-next.ensures.not_out c.replace_any-next.ensures.members (λ e. same_as _ _ (ap (λ r. g.R.Rack.bytes r p) (c.replace_any-next.ensures.quiet (inr e)))) c.replace_any-next.ensures.other_bytes
    (rw c.replace.ensures.value c.requires.size) c.replace_any-next.ensures.blank (rw c.replace.ensures.value c.requires.room))
    (replace_at g.R.Rack (number_of c.replace.result) c.args.side _ _ c.requires.side
    (replace_made g.R.Rack g.met.R.Rack.made_none c.replace_any-next.result.1 p _ _ c.replace_any-next.ensures.keeps)))

pub returns-clause-kept : goal.returns-clause-kept
returns-clause-kept g c = rw (← c.replace.ensures.value) (
    let p = 2 * number_of c.replace.result + c.args.side in
    replace_holds c.replace_any-next.result.1 p (size_of c.replace.result) (slots_of c.replace.result) c.args.size (members_of c.replace.result) (members_of c.replace_any-next.result.0) _ _
    c.replace_any-next.ensures.not_out c.replace_any-next.ensures.members (λ e. same_as _ _ (ap (λ r. g.R.Rack.bytes r p) (c.replace_any-next.ensures.quiet (inr e)))) c.replace_any-next.ensures.other_bytes
    (number_of c.replace.result))

pub returns-clause-made : goal.returns-clause-made
returns-clause-made g c = rw (← c.replace.ensures.value) (
    replace_made g.R.Rack g.met.R.Rack.made_none c.replace_any-next.result.1 (2 * number_of c.replace.result + c.args.side) _ _ c.replace_any-next.ensures.keeps)

pub returns-clause-keeps : goal.returns-clause-keeps
returns-clause-keeps g c = rw (← c.replace.ensures.value) c.replace_any-next.ensures.keeps
