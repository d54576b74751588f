use Rattle.std.proofs.Common.{◌≡◌, ◌∙◌, true, sym}
use Rattle.std.proofs.lemmas.Bool.{false≢true}
use Rattle.std.proofs.lemmas.Result.{on_ok_weaker}
use Rattle.dg_infer.specs.Wants.{IsOfBy}
use Rattle.dg_volume.proofs.LostLaws.{gains_none, gains_same}
use Rattle.dg_volume.proofs.lost_inodes.mark_if.Goals as goal

pub returns-then-cut : goal.returns-then-cut
returns-then-cut c =
    on_ok_weaker c.mark_owner.result (λ gains. gains_same c.args.marks.now.items c.mark_owner.new.marks.items (IsOfBy c.args.inference.now c.args.block)
    (λ i. (c.args.cut ≡ true) × IsOfBy c.args.inference.now c.args.block i) (λ i own. (c.if-cut.true, own)) (λ i both. both.1) gains) c.mark_owner.ensures

pub returns : goal.returns
returns c =
    gains_none c.args.marks.now.items (λ i. (c.args.cut ≡ true) × IsOfBy c.args.inference.now c.args.block i) (λ i both. false≢true (sym c.if-cut.false ∙ both.0))
