use Rattle.std.proofs.Common.{sym, ◌∙◌, ap, ℕ}
use Rattle.dg_model.specs.Members.{is_lost}
use Rattle.dg_pair.specs.Boundaries.{members_of}
use Rattle.dg_store.proofs.Rows.{there, lost_at}
use Rattle.dg_store.proofs.boundaries.is_lost_at.Goals as goal

pub returns : goal.returns
returns c =
    let x = c.index.result.now in
    let was = there _ _ x c.requires.within c.index.ensures in
    c.is_lost.ensures ∙ ap (λ (n : ℕ). is_lost (members_of x) n) (c.requires.stands _ _ was).number_is ∙ sym (lost_at c.args.row.now.items c.args.boundary x was)
