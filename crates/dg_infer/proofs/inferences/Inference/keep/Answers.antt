use Rattle.std.proofs.Common.{◌≡◌, ◌∙◌, ℕ, List, [], Option, None, Some, sym, subst}
use Rattle.std.specs.Prelude.{slice_set}
use Rattle.dg_model.specs.Volumes.{geometry_on}
use Rattle.ufs_model.specs.declared.claims.ClaimSource.{ClaimSource}
use Rattle.ufs_model.specs.declared.geometries.Geometry.{Geometry}
use Rattle.dg_claims.specs.Kept.{table_of}
use Rattle.dg_claims.specs.Tables.{IsSource, TableClaims, accepted}
use Rattle.dg_infer.proofs.FetchedLaws.{fetches_none, places_none}
use Rattle.dg_infer.proofs.WriteLaws.{TableLaws, kept_bare}
use Rattle.dg_infer.specs.Inferences.{kept_in}
use Rattle.dg_infer.specs.Meanings.{KeptInference, StandsFor}
use Rattle.dg_infer.specs.Moves.{Follows}
use Rattle.dg_infer.specs.declared.watches.Touch.{Touch}
use Rattle.dg_infer.proofs.inferences.Inference.keep.Goals as goal

pub returns-in_default-clause-stands : goal.returns-in_default-clause-stands
returns-in_default-clause-stands g c = λ v h.
    let laws : TableLaws = record { accepted = c.tables_of_volumes.ensures.accepted; refused = c.tables_of_volumes.ensures.refused; claims = c.tables_of_volumes.ensures.claims } in
    let old = kept_in c.self.inside in
    let w = slice_set v c.args.block c.args.bytes.now in
    let has : c.self.inside.claims.geometry ≡ None = c.self.invariant.same ∙ c.in_default.is in
    let empty : (fragment : ℕ) (source : ClaimSource) → TableClaims (table_of c.self.inside.claims) fragment source → ⊥ = λ fragment source claim.
    subst (λ (o : Option Geometry). IsSource o source) has (c.claims_inside.ensures.sources fragment source claim) in
    let was : StandsFor old v = subst (λ (k : KeptInference). StandsFor k v) (sym c.self.view_is) (h.0).was in
    let here : old.geometry ≡ accepted (geometry_on old.l old.n w) = subst (λ (k : KeptInference). k.geometry ≡ accepted (geometry_on k.l k.n w)) (sym c.self.view_is) (h.1) in
    subst (λ (xs : List Touch). Follows c.args.self.now (Some xs) w) (sym c.new.ensures)
    (subst (λ (k : KeptInference). Follows k (Some []) w) c.self.view_is (kept_bare laws old v c.args.block c.args.bytes.now c.in_default.is has empty was here))

pub returns-in_default-clause-fetched : goal.returns-in_default-clause-fetched
returns-in_default-clause-fetched g c = record {
  middle = c.args.view.now;
  levels = places_none g.V.View.fetched _ c.args.view.now (g.met.V.View.fetched_none c.args.view.now);
  group = fetches_none g.V.View.fetched _ c.args.view.now (g.met.V.View.fetched_none c.args.view.now);
}
