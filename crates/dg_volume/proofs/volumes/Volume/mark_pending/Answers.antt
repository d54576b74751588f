use Rattle.std.proofs.Common.{◌∙◌, inl, inr, sym}
use Rattle.std.proofs.lemmas.Bool.{cases_lt}
use Rattle.dg_volume.specs.Volumes.{marks_of}
use Rattle.dg_volume.proofs.SaveLaws.{marks_same}
use Rattle.dg_volume.proofs.volumes.Volume.mark_pending.Goals as goal

pub returns : goal.returns
returns g c =
    let old = c.loop-block.invariant in
    let none = c.in_default-next_pending.ensures.none in
    c.new.ensures
    ∙ marks_same c.loop-block.marks.items (marks_of g.S.InPhase c.args.self.now) (old.size ∙ sym c.requires.marks)
    (λ b. elim (cases_lt b c.loop-block.from) [ inl low ↦ old.below b low | inr high ↦ old.above b high ∙ sym (none b high) ])
