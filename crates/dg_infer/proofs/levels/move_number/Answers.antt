use Rattle.std.proofs.Common.{ℕ, subst}
use Rattle.ufs_model.specs.Claims.{source_fragments}
use Rattle.dg_claims.specs.Kept.{claimed_by}
use Rattle.dg_infer.proofs.FetchedLaws.{fetches_along, ok_map}
use Rattle.dg_infer.specs.Changes.{IsMoved}
use Rattle.dg_infer.specs.Claimed.{IsClaimedBy}
use Rattle.dg_infer.specs.Fetched.{IsNewAt}
use Rattle.dg_infer.specs.declared.watches.Touch.{Touch}
use Rattle.dg_infer.proofs.levels.move_number.Goals as goal

pub returns-clause-moved : goal.returns-clause-moved
returns-clause-moved g c =
    ok_map c.move_touch.result _ _ (λ got moved is on told v holds has.
    subst (λ (t : Touch). IsMoved (source_fragments c.args.g.now v) (claimed_by c.args.claims.now.runs) (claimed_by c.move_touch.new.claims.runs) c.args.block t) c.at-touch.ensures
    (moved is told v holds has)) c.move_touch.ensures.moved

pub returns-clause-fetched : goal.returns-clause-fetched
returns-clause-fetched g c =
    fetches_along g.V.View.fetched _ _ c.args.view.now c.move_touch.new.view
    (λ b h.
    subst (λ (t : Touch). IsNewAt t (claimed_by c.args.claims.now.runs) c.args.level c.args.block b) c.at-touch.ensures
    (record {
      at = h.at;
      on = c.if-touch-level.false;
      none = h.none;
      some = subst (λ (n : ℕ). IsClaimedBy (claimed_by c.args.claims.now.runs) n c.at-touch.result.fragment) c.if-touch-level.false h.some;
      other = h.other;
    }))
    c.move_touch.ensures.fetched
