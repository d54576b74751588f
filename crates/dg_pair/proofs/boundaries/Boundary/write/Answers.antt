use Rattle.std.proofs.Common.{arith, length}
use Rattle.dg_pair.specs.Boundaries.{members_of, size_of, slots_of}
use Rattle.dg_pair.proofs.BesideLemmas.{beside_slot}
use Rattle.dg_pair.proofs.BoundaryLemmas.{lost_is, holds_moves, servers_are}
use Rattle.dg_pair.proofs.CaseLemmas.{leaves_from, only_at}
use Rattle.dg_pair.proofs.boundaries.Boundary.write.Goals as goal

pub returns-clause-leaves : goal.returns-clause-leaves
returns-clause-leaves g c = rw (← c.replace.ensures.value) (
    leaves_from g.R.Rack (members_of c.replace.result) c.replace.result c.write_any-next.result.0 _ _ (rw c.replace.ensures.value c.requires.well) c.write_any-next.ensures.leaves c.write_any-next.ensures.falls c.write_any-next.ensures.room
    (only_at g.R.Rack c.replace.result _ _ (rw c.replace.ensures.value c.requires.well) c.write_any-next.ensures.made))

pub returns-clause-beside : goal.returns-clause-beside
returns-clause-beside g c = rw (← c.replace.ensures.value) (λ q.
    beside_slot (size_of c.replace.result) (slots_of c.replace.result) c.args.slot (length c.args.buf.now) _ _ (rw c.replace.ensures.value c.requires.slot) (rw c.replace.ensures.value c.requires.size) (c.write_any-next.ensures.torn q))

pub returns-clause-lost : goal.returns-clause-lost
returns-clause-lost g c = rw (← c.replace.ensures.value) (lost_is _ c.write_any-next.result.0 c.replace.result c.write_any-next.ensures.leaves.well c.write_any-next.ensures.leaves.number c.write_any-next.ensures.lost)

pub returns-clause-kept_others : goal.returns-clause-kept_others
returns-clause-kept_others g c = rw (← c.replace.ensures.value) (λ x v other.
    holds_moves c.replace.result c.write_any-next.result.0 (size_of c.replace.result) x v _ _ (rw c.replace.ensures.value c.requires.well) (c.write_any-next.ensures.kept x v other))

pub returns-clause-most : goal.returns-clause-most
returns-clause-most g c = rw (← c.replace.ensures.value) (
    let servers = servers_are c.replace.result c.args.slot (rw c.replace.ensures.value c.requires.well) in
    omega (arith, c.write_any-next.ensures.most))

pub returns-clause-most_writes : goal.returns-clause-most_writes
returns-clause-most_writes g c = rw (← c.replace.ensures.value) (
    let servers = servers_are c.replace.result c.args.slot (rw c.replace.ensures.value c.requires.well) in
    omega (arith, c.write_any-next.ensures.most_writes))
