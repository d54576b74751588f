use Rattle.std.proofs.Common.{sym, ◌∙◌}
use Rattle.dg_parity.proofs.KeptSteps.{dropped-kept, dropped-told, marked-ready}
use Rattle.dg_parity.proofs.BlankLemmas.{others-none}
use Rattle.dg_parity.proofs.FallLemmas.{fall-none, fall-marked, fall-then, others-marked}
use Rattle.std.proofs.lemmas.Bool.{false≢true}
use Rattle.dg_parity.proofs.KeptLemmas.{kept_lost}
use Rattle.dg_parity.proofs.drops.drop_disk.Goals as goal

pub note-requires : goal.note-requires
note-requires g c = record { ready = marked-ready g.R.Rack c.args.group.now c.mark.new.self c.args.rack.now c.mark.ensures.later c.mark.ensures.noted (c.requires.kept.ready (sym c.is_lost-was_lost.ensures ∙ c.if-was_lost.false)) }

pub returns-clause-kept : goal.returns-clause-kept
returns-clause-kept g c =
    dropped-kept g.R.Rack c.args.group.now c.mark.new.self c.note.new.group c.args.rack.now c.note.new.rack
    (sym c.is_lost-was_lost.ensures ∙ c.if-was_lost.false) (sym c.is_lost.ensures ∙ c.if-is_lost.false) c.mark.ensures.later c.mark.ensures.noted c.requires.kept c.note.ensures.leaves c.note.ensures.holds

pub returns-clause-same : goal.returns-clause-same
returns-clause-same g c alive =
    dropped-told g.R.Rack c.args.group.now c.mark.new.self c.note.new.group c.args.rack.now c.note.new.rack c.args.group.now.least
    (sym c.is_lost-was_lost.ensures ∙ c.if-was_lost.false) (sym c.is_lost.ensures ∙ c.if-is_lost.false) alive c.mark.ensures.later c.mark.ensures.noted c.requires.kept c.note.ensures.leaves c.note.ensures.holds

pub returns-then-is_out-clause-fall : goal.returns-then-is_out-clause-fall
returns-then-is_out-clause-fall g c = fall-none g.R.Rack c.args.j c.args.group.now c.args.rack.now

pub returns-then-was_lost-clause-fall : goal.returns-then-was_lost-clause-fall
returns-then-was_lost-clause-fall g c =
    let f = fall-marked g.R.Rack c.args.j c.args.group.now c.mark.new.self c.args.rack.now c.mark.ensures.others in
    record { cause = f.cause; stays = f.stays }

pub returns-then-is_lost-clause-fall : goal.returns-then-is_lost-clause-fall
returns-then-is_lost-clause-fall g c =
    let f = fall-marked g.R.Rack c.args.j c.args.group.now c.mark.new.self c.args.rack.now c.mark.ensures.others in
    record { cause = f.cause; stays = f.stays }

pub returns-then-is_out-clause-leaves : goal.returns-then-is_out-clause-leaves
returns-then-is_out-clause-leaves g c = others-none g.R.Rack c.args.group.now c.args.rack.now

pub returns-then-was_lost-clause-leaves : goal.returns-then-was_lost-clause-leaves
returns-then-was_lost-clause-leaves g c = others-none g.R.Rack c.args.group.now c.args.rack.now

pub returns-then-is_lost-clause-leaves : goal.returns-then-is_lost-clause-leaves
returns-then-is_lost-clause-leaves g c = others-none g.R.Rack c.args.group.now c.args.rack.now

pub returns-then-is_lost-2-clause-fall : goal.returns-then-is_lost-2-clause-fall
returns-then-is_lost-2-clause-fall g c =
    let f = fall-then g.R.Rack c.args.j c.args.group.now c.mark.new.self c.note.new.group c.args.rack.now c.args.rack.now c.note.new.rack c.mark.ensures.later.number c.mark.ensures.later.disks
    (others-none g.R.Rack c.args.group.now c.args.rack.now) (fall-marked g.R.Rack c.args.j c.args.group.now c.mark.new.self c.args.rack.now c.mark.ensures.others) c.note.ensures.leaves in
    record { cause = f.cause; stays = f.stays }

pub returns-then-is_lost-2-clause-leaves : goal.returns-then-is_lost-2-clause-leaves
returns-then-is_lost-2-clause-leaves g c =
    others-marked g.R.Rack c.args.group.now c.mark.new.self c.note.new.group c.args.rack.now c.note.new.rack c.mark.ensures.later.number c.mark.ensures.later.disks c.note.ensures.leaves

pub returns-clause-fall : goal.returns-clause-fall
returns-clause-fall g c =
    fall-then g.R.Rack c.args.j c.args.group.now c.mark.new.self c.note.new.group c.args.rack.now c.args.rack.now c.note.new.rack c.mark.ensures.later.number c.mark.ensures.later.disks
    (others-none g.R.Rack c.args.group.now c.args.rack.now) (fall-marked g.R.Rack c.args.j c.args.group.now c.mark.new.self c.args.rack.now c.mark.ensures.others) c.note.ensures.leaves

pub returns-clause-leaves : goal.returns-clause-leaves
returns-clause-leaves g c =
    others-marked g.R.Rack c.args.group.now c.mark.new.self c.note.new.group c.args.rack.now c.note.new.rack c.mark.ensures.later.number c.mark.ensures.later.disks c.note.ensures.leaves

pub returns-clause-telling : goal.returns-clause-telling
returns-clause-telling g c told alive = c.note.ensures.leaves.later.telling (c.mark.ensures.told ∙ told) alive

pub returns-then-is_lost-clause-telling : goal.returns-then-is_lost-clause-telling
returns-then-is_lost-clause-telling g c told alive = absurd (false≢true (sym alive ∙ sym c.is_lost.ensures ∙ c.if-is_lost.true))

pub returns-then-is_lost-2-clause-telling : goal.returns-then-is_lost-2-clause-telling
returns-then-is_lost-2-clause-telling g c told alive = absurd (false≢true (sym alive ∙ sym c.is_lost-2.ensures ∙ c.if-is_lost-2.true))

pub returns-then-was_lost-clause-telling : goal.returns-then-was_lost-clause-telling
returns-then-was_lost-clause-telling g c told alive =
    absurd (false≢true (sym alive ∙ c.mark.ensures.lost (sym c.is_lost-was_lost.ensures ∙ c.if-was_lost.true)))

pub returns-then-was_lost-clause-kept : goal.returns-then-was_lost-clause-kept
returns-then-was_lost-clause-kept g c = kept_lost g.R.Rack _ _ (c.mark.ensures.lost (sym c.is_lost-was_lost.ensures ∙ c.if-was_lost.true))

pub returns-then-is_lost-clause-kept : goal.returns-then-is_lost-clause-kept
returns-then-is_lost-clause-kept g c = kept_lost g.R.Rack _ _ (sym c.is_lost.ensures ∙ c.if-is_lost.true)

pub returns-then-is_lost-2-clause-kept : goal.returns-then-is_lost-2-clause-kept
returns-then-is_lost-2-clause-kept g c = kept_lost g.R.Rack _ _ (sym c.is_lost-2.ensures ∙ c.if-is_lost-2.true)
