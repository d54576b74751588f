use Rattle.std.proofs.Common.{ℕ, ◌+◌, ◌<◌, ◌↔◌, ◌∙◌, arith, refl, sym, ap, subst, List, Contains}
use Rattle.dg_claims.proofs.LevelLaws.{claimed_inside, fragments_more, wanted_at}
use Rattle.dg_claims.specs.Kept.{KeptClaims, size_in, table_of}
use Rattle.ufs_model.specs.Claims.{IsClaimedAt}
use Rattle.dg_claims.specs.Tables.{TableClaims}
use Rattle.dg_claims.proofs.claims.Claims.fragments_at.Goals as goal

pub loop-fragment-preserved : goal.loop-fragment-preserved
loop-fragment-preserved c = λ fragment.
    subst (λ (xs : List ℕ). Contains xs fragment ↔ ((fragment < c.loop-fragment.fragment + 1) × IsClaimedAt (TableClaims (table_of c.args.self.now)) c.args.level fragment)) (sym c.in_ok-push_if.ensures)
    (fragments_more (λ f. IsClaimedAt (TableClaims (table_of c.args.self.now)) c.args.level f) c.loop-fragment.fragments.items c.loop-fragment.fragment (c.loop-fragment.fragment + 1) c.has_level.result
    (wanted_at c.self.inside c.args.self.now c.loop-fragment.fragment c.args.level c.has_level.result c.self.view_is c.self.invariant c.has_level.ensures) refl c.loop-fragment.invariant fragment)

pub returns-clause-claimed : goal.returns-clause-claimed
returns-clause-claimed c = λ fragment.
    let listed = c.loop-fragment.invariant fragment in (
      λ has. (listed.0 has).1,
      λ at. listed.1 (
        (let inside = claimed_inside c.self.inside c.args.self.now fragment c.args.level c.self.view_is c.self.invariant at in
            let size = c.size_in-fragment-end.ensures ∙ ap (λ (k : KeptClaims). size_in k.geometry) c.self.view_is in
            omega (arith, inside, size, c.loop-fragment-test.false)),
        at,
      ),
    )

pub returns-clause-inside : goal.returns-clause-inside
returns-clause-inside c = λ fragment has. claimed_inside c.self.inside c.args.self.now fragment c.args.level c.self.view_is c.self.invariant (((c.loop-fragment.invariant fragment).0 has).1)
