use Rattle.std.proofs.Common.{◌≡◌, ◌+◌, ◌<◌, ◌≤◌, ◌++◌, ℕ, List, [], ◌∷◌, Some, Contains, cond, subst, sym, arith}
use Rattle.std.specs.Bool.{Decides}
use Rattle.ufs_model.specs.declared.claims.ClaimSource.{ClaimSource}
use Rattle.dg_claims.specs.Kept.{table_of}
use Rattle.dg_claims.specs.Runs.{run_fragments}
use Rattle.dg_claims.specs.Tables.{TableClaims}
use Rattle.dg_infer.proofs.FileLaws.{from_contains, gains_as, gains_put, gains_run}
use Rattle.dg_infer.proofs.ListLaws.{contains_from}
use Rattle.dg_infer.specs.Files.{IsSoleSource}
use Rattle.dg_infer.proofs.files.put_claimed.Goals as goal

pub loop-i-preserved : goal.loop-i-preserved
loop-i-preserved c =
    let claimed : run_fragments (Some c.in-Some.run') ≡ (table_of c.args.claims.now).claimed c.args.source.now = c.in-Some.ensures.value in
    let place = c.in-Some.run'.first + c.loop-i.i in
    let claim : Contains ((table_of c.args.claims.now).claimed c.args.source.now) place =
    subst (λ (xs : List ℕ). Contains xs place) claimed (from_contains c.in-Some.run'.count c.in-Some.run'.first place (omega arith) (omega (arith, c.loop-i-test.true))) in
    let one : Decides c.has_one_claim.result (IsSoleSource c.args.claims.now c.args.source.now place) =
    subst (λ (i : ℕ). (source : ClaimSource) → TableClaims (table_of c.args.claims.now) (c.in-Some.run'.first + i) source
    → Decides c.has_one_claim.result (IsSoleSource c.args.claims.now source (c.in-Some.run'.first + i))) c.from.ensures c.has_one_claim.ensures c.args.source.now claim in
    let put : c.put_if.new.list.items ≡ cond c.has_one_claim.result (c.loop-i.list.items ++ place ∷ []) c.loop-i.list.items =
    subst (λ (i : ℕ). c.put_if.new.list.items ≡ cond c.has_one_claim.result (c.loop-i.list.items ++ (c.in-Some.run'.first + i) ∷ []) c.loop-i.list.items) c.from.ensures c.in_ok-put_if.ensures in
    record {
      gains = gains_run c.args.list.now.items c.loop-i.list.items c.put_if.new.list.items c.in-Some.run'.first c.loop-i.i (IsSoleSource c.args.claims.now c.args.source.now) c.loop-i.invariant.gains
          (gains_put c.loop-i.list.items c.put_if.new.list.items place c.has_one_claim.result (IsSoleSource c.args.claims.now c.args.source.now) put one);
    }

pub returns : goal.returns
returns c =
    let claimed : run_fragments (Some c.in-Some.run') ≡ (table_of c.args.claims.now).claimed c.args.source.now = c.in-Some.ensures.value in
    gains_as c.args.list.now.items c.loop-i.list.items
    (λ f. (c.in-Some.run'.first ≤ f) × (f < c.in-Some.run'.first + c.loop-i.i) × IsSoleSource c.args.claims.now c.args.source.now f) (IsSoleSource c.args.claims.now c.args.source.now)
    c.loop-i.invariant.gains (λ f h. h.2) (λ f only.
    let within = contains_from c.in-Some.run'.count c.in-Some.run'.first f (subst (λ (xs : List ℕ). Contains xs f) (sym claimed) only.claim) in
    (within.0, omega (arith, within.1, c.loop-i-test.false), only))
