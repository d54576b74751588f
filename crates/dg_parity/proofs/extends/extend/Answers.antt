use Rattle.std.proofs.Common.{sym, ◌∙◌, arith}
use Rattle.dg_parity.proofs.ExtendLemmas.{longer-kept, longer-telling, longer-told, longer-leaves, longer-cause}
use Rattle.dg_parity.proofs.KeptLemmas.{kept_lost}
use Rattle.std.proofs.lemmas.Bool.{false≢true}
use Rattle.dg_parity.proofs.extends.extend.Goals as goal

pub returns-clause-kept : goal.returns-clause-kept
returns-clause-kept g c =
    longer-kept g.R.Rack c.args.size c.args.group.now c.extend_disks.new.group c.note.new.group c.args.rack.now c.extend_disks.new.rack c.note.new.rack (omega arith)
    (sym c.is_lost.ensures ∙ c.if-is_lost.false) c.requires.kept c.extend_disks.ensures.grows c.note.ensures.leaves c.note.ensures.noted c.note.ensures.holds

pub returns-clause-ok : goal.returns-clause-ok
returns-clause-ok g c =
    longer-told g.R.Rack c.args.size c.args.group.now c.extend_disks.new.group c.note.new.group c.args.rack.now c.extend_disks.new.rack c.note.new.rack (omega arith)
    (sym c.is_lost.ensures ∙ c.if-is_lost.false) c.requires.kept c.extend_disks.ensures.grows c.note.ensures.leaves c.note.ensures.noted c.note.ensures.holds (sym c.is_lost-2.ensures ∙ c.if-is_lost-2.false)

pub returns-clause-leaves : goal.returns-clause-leaves
returns-clause-leaves g c =
    longer-leaves g.R.Rack c.args.size c.args.group.now c.extend_disks.new.group c.note.new.group c.args.rack.now c.extend_disks.new.rack c.note.new.rack (omega arith)
    (sym c.is_lost.ensures ∙ c.if-is_lost.false) c.requires.kept c.extend_disks.ensures.grows c.note.ensures.leaves c.note.ensures.noted c.note.ensures.holds

pub returns-clause-cause : goal.returns-clause-cause
returns-clause-cause g c =
    longer-cause g.R.Rack c.args.size c.args.group.now c.extend_disks.new.group c.note.new.group c.args.rack.now c.extend_disks.new.rack c.note.new.rack (omega arith)
    (sym c.is_lost.ensures ∙ c.if-is_lost.false) c.requires.kept c.extend_disks.ensures.grows c.note.ensures.leaves c.note.ensures.noted c.note.ensures.holds

pub returns-then-is_lost-2-clause-leaves : goal.returns-then-is_lost-2-clause-leaves
returns-then-is_lost-2-clause-leaves g c =
    longer-leaves g.R.Rack c.args.size c.args.group.now c.extend_disks.new.group c.note.new.group c.args.rack.now c.extend_disks.new.rack c.note.new.rack (omega arith)
    (sym c.is_lost.ensures ∙ c.if-is_lost.false) c.requires.kept c.extend_disks.ensures.grows c.note.ensures.leaves c.note.ensures.noted c.note.ensures.holds

pub returns-then-is_lost-2-clause-cause : goal.returns-then-is_lost-2-clause-cause
returns-then-is_lost-2-clause-cause g c =
    longer-cause g.R.Rack c.args.size c.args.group.now c.extend_disks.new.group c.note.new.group c.args.rack.now c.extend_disks.new.rack c.note.new.rack (omega arith)
    (sym c.is_lost.ensures ∙ c.if-is_lost.false) c.requires.kept c.extend_disks.ensures.grows c.note.ensures.leaves c.note.ensures.noted c.note.ensures.holds

pub returns-clause-telling : goal.returns-clause-telling
returns-clause-telling g c =
    longer-telling g.R.Rack c.args.size c.args.group.now c.extend_disks.new.group c.note.new.group c.args.rack.now c.extend_disks.new.rack c.note.new.rack (omega arith)
    (sym c.is_lost.ensures ∙ c.if-is_lost.false) c.requires.kept c.extend_disks.ensures.grows c.note.ensures.leaves c.note.ensures.noted c.note.ensures.holds

pub returns-then-is_lost-2-clause-kept : goal.returns-then-is_lost-2-clause-kept
returns-then-is_lost-2-clause-kept g c = kept_lost g.R.Rack _ _ (sym c.is_lost-2.ensures ∙ c.if-is_lost-2.true)

pub returns-then-is_lost-2-clause-telling : goal.returns-then-is_lost-2-clause-telling
returns-then-is_lost-2-clause-telling g c told alive = absurd (false≢true (sym alive ∙ sym c.is_lost-2.ensures ∙ c.if-is_lost-2.true))
